-- The open moves that are left at a place are the rules of its setting: what a train reaches is what it reaches by the fixed moves, with the closures
-- of the open moves that it follows (`follower`). And the masks give these open moves (`all_marked`).
use Rattle.std.proofs.Common.{◌≡◌, refl, sym, ap, ap₂, ◌∙◌, ◌⊎◌, inl, inr, Bool, true, false, not, ◌&&◌, ◌||◌, List, [], ◌∷◌, Option, Some, None, ℕ, zero, suc, ◌+◌, ◌*◌, ◌/◌, ◌%◌, ◌^◌, ◌≤◌, ◌<◌, length, get_or, slice_get, arith, zero-add}
use mathlib.Core.Path.{subst}
use mathlib.Core.Logic.{⊎_elim}
use mathlib.Core.Bool.{false≢true}
use mathlib.Mathlib.Data.Bool.Basic.{and_intro}
use native.Mathlib.Nat.{mod-lt, mod-eq_of_lt, div-eq_of_lt}
use Rattle.std.proofs.lemmas.Nat.{shr_below}
use lib.Pow.{pow_pos, pow_mono}
use borrow.Author.Tests.{lt-ltb}
use Rattle.meaning.specs.declared.Move.{Move}
use Rattle.meaning.specs.declared.Kind.{Kind}
use Rattle.meaning.specs.declared.Kind.TheVariants.{Signal, Turnout}
use Rattle.meaning.specs.declared.Situation.{Situation}
use Rattle.meaning.specs.Station.{elements_of, file_states, standing, moves_of, moves, permitted, pairs_over, forbidden}
use Rattle.meaning.specs.Paths.{mem, reach}
use Rattle.meaning.specs.Verdict.{in_reach}
use mathlib.Mathlib.Data.Bool.Basic.{or_inl, or_inr, eq-false_of_not-eq-true}
use Rattle.setting_safety.proofs.Safety.{reaches}
use Rattle.setting_safety.proofs.Lanes.{Follower}
use Rattle.meaning.specs.Settings.{open_count}
use Rattle.meaning.proofs.MoveCount.{moves_of_few}
use Rattle.basics.proofs.Tests.{or_cases, and_both}
use Rattle.meaning.proofs.Agreed.{permits_over}
use Rattle.meaning.proofs.FixedMoves.{open_over, fixed_and_open}
use Rattle.meaning.proofs.Reach.{permitted_cases, permitted_head, permitted_tail, permitted-append, mem_head, mem_cases, starts_in, moves_in, least}
use Rattle.meaning.specs.Inside.{in_station}
use Rattle.meaning.proofs.Inside.{reach_inside}
use Rattle.bits.specs.Bits.{bit}
use Rattle.setting_order.specs.Order.{setting_at}
use Rattle.setting_tables.specs.declared.Masks.{Masks}
use Rattle.setting_tables.specs.OpenMoves.{open_kinds, default_kind, open_move, open_move_of, source}
use Rattle.setting_tables.specs.Trains.{by_fixed}
use Rattle.setting_tables.specs.Prepared.{beyond}
use Rattle.setting_tables.specs.Masks.{fixed_forbid, Masked}
use Rattle.setting_tables.proofs.Opening.{opens, move_below}
use Rattle.setting_safety.specs.Followed.{source_of, closure_of, in_setting, left_in, LeastFollowed}
use Rattle.setting_safety.specs.Table.{enabled_from, Filled, Marked}
use Rattle.setting_safety.proofs.Places.{setting_at-keeps, placed_forbid, forbidden_at, enabled_left, enabled_low, enabled_split, over_of, over_in}

-- The set is what the fixed moves reach from section b.
abbrev ReachedFrom : List Move → ℕ → (ℕ → Bool) → Type 0
ReachedFrom fixed b set = (c : ℕ) → set c ≡ mem c (reach fixed (b ∷ []))

-- ---- some moves
-- A move of a list is permitted by it.
permitted_nth : (ms : List Move) (j : ℕ) (m : Move) → slice_get ms j ≡ Some m → permitted ms m.from.0 m.to.0 ≡ true
permitted_nth [] j m h = cc
permitted_nth (n ∷ ms) zero m h = let e : n ≡ m = cc in rw (← e) (permitted_head n ms)
permitted_nth (n ∷ ms) (suc j) m h = permitted_tail n ms m.from.0 m.to.0 (permitted_nth ms j m h)

-- What a list permits is one of its moves.
nth_permitted : (ms : List Move) (a b : ℕ) → permitted ms a b ≡ true
    → (j : ℕ) × (m : Move) × (j < length ms) × (slice_get ms j ≡ Some m) × (m.from.0 ≡ a) × (m.to.0 ≡ b)
nth_permitted [] a b h = absurd (false≢true h)
nth_permitted (m ∷ ms) a b h =
    ⊎_elim
    (λ e. (0, m, omega arith, refl, sym e.0, sym e.1))
    (λ e. let r = nth_permitted ms a b e in (suc r.0, r.1, omega (arith, r.2), r.3, r.4, r.5))
    (permitted_cases m ms a b h)

-- What it stands over, it permits at 1 or at 2.
either_state : (k : Kind) (a b : ℕ) → permitted (pairs_over k) a b ≡ true → (y : ℕ) × (y < 2) × (permitted (moves_of k (suc y)) a b ≡ true)
unfolding moves_of
either_state (Signal m) a b h = (0, omega arith, h)
either_state (Turnout t) a b h =
    let first : List Move = moves_of (Turnout t) 1 in
    let second : List Move = moves_of (Turnout t) 2 in
    ⊎_elim (λ e. (0, omega arith, e)) (λ e. (1, omega arith, e))
    (or_cases (permitted first a b) (permitted second a b) (sym (permitted-append first second a b) ∙ h))

module _ (s : Situation) (x : ℕ) (on : ℕ → Bool) (marked : Marked s x on) where
  abbrev kinds : List Kind
  kinds = open_kinds (elements_of s)

  abbrev σ : List ℕ
  σ = setting_at (file_states s) x

  abbrev fixed : List Move
  fixed = moves s (file_states s)

  -- An open element stands over the pair, and none forbids it.
  abbrev opened : ℕ → ℕ → Bool
  opened a b = open_over (elements_of s) a b && not (forbidden (elements_of s) σ a b)

  -- An open move goes over a pair that an open element stands over.
  move_over : (e : ℕ) (m : Move) → open_move_of s e ≡ Some m → open_over (elements_of s) m.from.0 m.to.0 ≡ true
  unfolding open_move_of open_move
  move_over e m h =
      let l = move_below s e m h in
      let kind : Kind = get_or kinds (e / 4) default_kind in
      let y : ℕ = e % 4 / 2 + 1 in
      let j : ℕ = e % 4 % 2 in
      over_in (elements_of s) m.from.0 m.to.0 (e / 4) (omega arith)
      (permits_over kind y m.from.0 m.to.0 (permitted_nth (moves_of kind y) j m (rw (lt-ltb e (length kinds * 4) l) at h)))

  rule_sound : (e : ℕ) → on e ≡ true
      → (source_of s e ≡ 0) ⊎ ((b : ℕ) × (opened (source_of s e) b ≡ true) × ReachedFrom fixed b (closure_of s e))
  rule_sound e p = go (open_move_of s e) refl
    where
      go : (o : Option Move) → open_move_of s e ≡ o
          → (source o ≡ 0) ⊎ ((b : ℕ) × (opened (source o) b ≡ true) × ReachedFrom fixed b (beyond s o))
      go None h = inl refl
      go (Some m) h =
          inr (m.to.0, and_intro (move_over e m h) (sym (marked.free e m h) ∙ p), λ c. refl)

  rule_complete : (a b : ℕ) → opened a b ≡ true
      → (e : ℕ) × (m : Move) × (on e ≡ true) × (open_move_of s e ≡ Some m) × (m.from.0 ≡ a) × (m.to.0 ≡ b)
  unfolding open_move_of open_move
  rule_complete a b h =
      let both = and_both (open_over (elements_of s) a b) (not (forbidden (elements_of s) σ a b)) h in
      let over = over_of (elements_of s) a b both.0 in
      let q : ℕ = over.0 in
      let kind : Kind = get_or kinds q default_kind in
      let state = either_state kind a b over.2 in
      let y : ℕ = state.0 in
      let low : y < 2 = state.1 in
      let r = nth_permitted (moves_of kind (suc y)) a b state.2 in
      let j : ℕ = r.0 in
      let m : Move = r.1 in
      let two : length (moves_of kind (suc y)) ≤ 2 = moves_of_few kind (suc y) in
      let high : j < 2 = omega (arith, r.2) in
      let e : ℕ = (q * 2 + y) * 2 + j in
      let few : e < length kinds * 4 = omega (arith, over.1) in
      let at_q : e / 4 ≡ q = omega arith in
      let at_y : e % 4 / 2 + 1 ≡ suc y = omega arith in
      let at_j : e % 4 % 2 ≡ j = omega arith in
      let here : open_move_of s e ≡ Some m = rw (lt-ltb e (length kinds * 4) few, at_q, at_y, at_j) r.3 in (
        e,
        m,
        marked.free e m here ∙ ap₂ (λ (a b : ℕ). not (forbidden (elements_of s) σ a b)) r.4 r.5 ∙ both.1,
        here,
        r.4,
        r.5,
      )

  -- What the setting permits the fixed elements permit, or it is opened.
  permits : (a b : ℕ) → permitted (moves s σ) a b ≡ (permitted fixed a b || opened a b)
  permits a b = fixed_and_open s σ a b (setting_at-keeps (file_states s) x)

  fixed_in : (a b : ℕ) → permitted fixed a b ≡ true → permitted (moves s σ) a b ≡ true
  fixed_in a b h = permits a b ∙ or_inl (permitted fixed a b) (opened a b) h

  -- A closure is closed under the fixed moves.
  closure_on : (e a b : ℕ) → permitted fixed a b ≡ true → closure_of s e a ≡ true → closure_of s e b ≡ true
  closure_on e a b m h = go (open_move_of s e) h
    where
      go : (o : Option Move) → beyond s o a ≡ true → beyond s o b ≡ true
      go None h = absurd (false≢true h)
      go (Some v) h = moves_in fixed (v.to.0 ∷ []) a b m h

  -- ---- what a train reaches
  module _ (t : ℕ) where
    abbrev S : List ℕ
    S = standing s (suc t)

    -- No less than its base.
    pub base_in : (c : ℕ) → by_fixed s t c ≡ true → reaches s σ t c ≡ true
    unfolding in_reach
    base_in c h =
        least fixed S (λ k. mem k (reach (moves s σ) S) ≡ true) (starts_in (moves s σ) S) (λ a b p. moves_in (moves s σ) S a b (fixed_in a b p)) c h

    module _ (inside : in_station s ≡ true) where
      -- The closure of each open move whose source it reaches.
      brings : (e c : ℕ) → on e ≡ true → reaches s σ t (source_of s e) ≡ true → closure_of s e c ≡ true → reaches s σ t c ≡ true
      unfolding in_reach
      brings e c o p q =
          ⊎_elim
          (λ z. absurd (false≢true (sym (eq-false_of_not-eq-true (λ h. omega (arith, (reach_inside s inside σ (suc t) 0 h).0))) ∙ (rw z at p))))
          (λ r.
          let b = moves_in (moves s σ) S (source_of s e) r.0 (permits (source_of s e) r.0 ∙ or_inr (permitted fixed (source_of s e) r.0) (opened (source_of s e) r.0) r.1) p in
          least fixed (r.0 ∷ []) (λ k. mem k (reach (moves s σ) S) ≡ true) (λ k h. ⊎_elim (λ z. rw z b) (λ z. absurd (false≢true z)) (mem_cases k r.0 [] h))
          (λ d f m. moves_in (moves s σ) S d f (fixed_in d f m)) c (sym (r.2 c) ∙ q))
          (rule_sound e o)

      module _ (exits : ℕ) (leads : ℕ → ℕ) (A : ℕ → Bool) (few : (e : ℕ) → on e ≡ true → e < 48)
          (starts_by : (e : ℕ) → e < 48 → bit exits e ≡ by_fixed s t (source_of s e))
          (steps_by : (e f : ℕ) → e < 48 → f < 48 → bit (leads e) f ≡ true → closure_of s e (source_of s f) ≡ true)
          (followed : LeastFollowed (λ e. bit exits e && on e) (λ e f. bit (leads e) f && on f) A) (low : (e : ℕ) → A e ≡ true → e < 48) where
        -- The closures of what it follows.
        pub closures_in : (e c : ℕ) → A e ≡ true → closure_of s e c ≡ true → reaches s σ t c ≡ true
        unfolding in_reach
        closures_in e c a h =
            let p = and_both (on e) (reaches s σ t (source_of s e))
            (followed.least e a (λ d. on d && reaches s σ t (source_of s d))
            (λ d k. let b = and_both (bit exits d) (on d) k in and_intro b.1 (base_in (source_of s d) (sym (starts_by d (few d b.1)) ∙ b.0)))
            (λ d f p k.
            let a = and_both (on d) (reaches s σ t (source_of s d)) p in
            let b = and_both (bit (leads d) f) (on f) k in
            and_intro b.1 (brings d (source_of s f) a.0 a.1 (steps_by d f (few d a.0) (few f b.1) b.0)))) in
            brings e c p.0 p.1 h

        -- Where what it follows leads to all open moves that start in a closure, but for ways back.
        module _ (all_by : (e f : ℕ) (m : Move) → A e ≡ true → f < 48 → open_move_of s f ≡ Some m → closure_of s e m.from.0 ≡ true
            → (bit (leads e) f ≡ true) ⊎ (closure_of s e m.to.0 ≡ true)) where
          abbrev Covered : ℕ → Type 0
          Covered c = (by_fixed s t c ≡ true) ⊎ ((e : ℕ) × (A e ≡ true) × (closure_of s e c ≡ true))

          -- An open move of the setting whose source is covered is followed, and brings its target; or it is a way back, whose target is covered.
          follows : (e : ℕ) (m : Move) → on e ≡ true → open_move_of s e ≡ Some m → Covered m.from.0 → Covered m.to.0
          follows e m o is p =
              ⊎_elim (λ b. brought (followed.from e (and_intro (starts_by e (few e o) ∙ (ap (λ (v : Option Move). by_fixed s t (source v)) is ∙ b)) o)))
              (λ w.
              ⊎_elim (λ x. brought (followed.on w.0 e w.1 (and_intro x o))) (λ c. inr (w.0, w.1, c))
              (all_by w.0 e m w.1 (few e o) is w.2)) p
            where
              brought : A e ≡ true → Covered m.to.0
              brought a = inr (e, a, ap (λ (v : Option Move). beyond s v m.to.0) is ∙ starts_in fixed (m.to.0 ∷ []) m.to.0 (mem_head m.to.0 []))

          covered_on : (a b : ℕ) → permitted (moves s σ) a b ≡ true → Covered a → Covered b
          unfolding in_reach
          covered_on a b m p =
              ⊎_elim
              (λ f. ⊎_elim (λ q. inl (moves_in fixed S a b f q)) (λ w. inr (w.0, w.1, closure_on w.0 a b f w.2)) p)
              (λ o. let r = rule_complete a b o in subst Covered r.5 (follows r.0 r.1 r.2 r.3 (subst Covered (sym r.4) p)))
              (or_cases (permitted fixed a b) (opened a b) (sym (permits a b) ∙ m))

          -- Its base, and the closures of what it follows.
          pub follower : Follower (reaches s σ) (by_fixed s) (closure_of s) t A
          unfolding in_reach
          follower = record {
            closure = closures_in;
            covers = least (moves s σ) S Covered (λ k h. inl (starts_in fixed S k h)) covered_on;
          }

-- ---- the open moves by the masks
-- Where there are six last elements, or no more than these, a place is made of its bits for the first m elements and those for the last n.
pub record Splits (m n x : ℕ) : Type 0 where
  pub high : x / 64 ≡ x / 2 ^ n
  pub low : x % 64 ≡ x % 2 ^ n

pub splits : (m n x : ℕ) → (n ≡ 6) ⊎ ((m ≡ 0) × (n ≤ 6)) → x < 2 ^ (m + n) → Splits m n x
splits m n x (inl e) l = rw e (record { high = refl; low = refl })
splits m n x (inr f) l =
    let small : x < 2 ^ n = rw (f.0, zero-add n) at l in
    let most : 2 ^ n ≤ 2 ^ 6 = pow_mono {j = 6} f.1 in
    record {
      high = rw (div-eq_of_lt small) (omega (arith, most));
      low = rw (mod-eq_of_lt small) (omega (arith, most));
    }

module _ (s : Situation) (masks : Masks) (m n : ℕ) (first planes : List ℕ) (is : m + n ≡ open_count (file_states s)) (few : m + n ≤ 12) (masked : Masked s masks)
    (six : (n ≡ 6) ⊎ ((m ≡ 0) × (n ≤ 6))) (fill : Filled masks 0 m first) where
  pub all_marked : ((e : ℕ) (v : Move) → open_move_of s e ≡ Some v → (x : ℕ) → x < 2 ^ n → in_setting planes x e ≡ bit (enabled_from masks m n x) e)
      → (x : ℕ) → x < 2 ^ open_count (file_states s) → Marked s x (left_in (get_or first (x / 64) 0) planes (x % 64))
  unfolding file_states
  all_marked last x l = record {
    below = λ e h. masked.fixed_below e (enabled_low masks e 0 m (x / 2 ^ n) (sym (firsts e) ∙ (and_both (bit (get_or first (x / 64) 0) e) (in_setting planes (x % 64) e) h).0));
    free = λ e v at. both e v at ∙ exact e v (let b = move_below s e v at in omega (arith, size)) at;
  }
    where
      inside : x < 2 ^ (m + n)
      inside = rw is l

      size : m + n ≡ length (open_kinds (elements_of s))
      size = is ∙ sym (opens s)

      split : Splits m n x
      split = splits m n x six inside

      firsts : (e : ℕ) → bit (get_or first (x / 64) 0) e ≡ bit (enabled_from masks 0 m (x / 2 ^ n)) e
      firsts e = ap (λ (v : ℕ). bit v e) (rw split.high (fill (x / 2 ^ n) (shr_below x m n inside)))

      both : (e : ℕ) (v : Move) → open_move_of s e ≡ Some v → left_in (get_or first (x / 64) 0) planes (x % 64) e ≡ bit (enabled_from masks 0 (m + n) x) e
      both e v at =
          ap₂ ◌&&◌ (firsts e) (rw (split.low, zero-add m) (last e v at (x % 2 ^ n) (mod-lt x (pow_pos n))))
          ∙ sym (enabled_split masks e 0 m n x inside)

      exact : (e : ℕ) (v : Move) → e < 48 → open_move_of s e ≡ Some v
          → bit (enabled_from masks 0 (m + n) x) e ≡ not (forbidden (elements_of s) (setting_at (file_states s) x) v.from.0 v.to.0)
      exact e v h at =
          let a : ℕ = v.from.0 in
          let b : ℕ = v.to.0 in
          ap (λ (i : ℕ). bit (enabled_from masks 0 i x) e) size
          ∙ enabled_left masks e a b (open_kinds (elements_of s)) 0
          (λ i y l y2. rw zero-add (masked.by_open i y e v (omega (arith, opens s)) y2 h at)) x
          ∙ ap (λ (t : Bool). t && not (placed_forbid (open_kinds (elements_of s)) x a b)) (masked.by_fixed e v h at)
          ∙ neither (fixed_forbid (elements_of s) a b) (placed_forbid (open_kinds (elements_of s)) x a b)
          ∙ sym (ap not (forbidden_at (elements_of s) x a b))
        where
          neither : (f g : Bool) → (not f && not g) ≡ not (f || g)
          neither true g = refl
          neither false g = refl
