-- The searches of the trains before train j + 1, their paths kept in one list, and the union of their reaches: `Kept`, with laws for the start,
-- for the test whether the next reach meets an earlier one, and for the step to the next train.
use mathlib.Core.Path.{◌≡◌, refl, sym, ap, subst, ◌∙◌}
use mathlib.Core.Bool.{true, false, ◌&&◌, ◌||◌, false≢true}
use mathlib.Core.List.{List}
use mathlib.Core.Logic.{⊎_elim}
use mathlib.Mathlib.Data.Bool.Basic.{and_intro, or_inl, or_inr, eq-false_of_not-eq-true}
use Prim.Native.Nat.{ℕ, ◌+◌, ◌-◌, ◌≤◌}
use native.Mathlib.Nat.{eq-or-lt_of_le}
use native.Mathlib.Omega.{arith}
use lib.ListN.{length}
use Rattle.meaning.specs.declared.Situation.{Situation}
use Rattle.basics.specs.Numbers.{found, lowest}
use Rattle.basics.proofs.Tests.{and_both, or_cases}
use Rattle.basics.proofs.Numbers.{lowest_none, none_lowest, found-lowest, found_passes, not-found_none}
use Rattle.reach.specs.Reach.{memb, words_at}
use Rattle.reach.specs.declared.Reach.{Reach}
use Rattle.reach.proofs.Sets.{StoredAt}
use Rattle.pairs.specs.Pairs.{Rows}
use Rattle.search.specs.Search.{Traced, Searched}
use Rattle.search.specs.Steps.{KeptPaths}
use Rattle.search.proofs.Laws.{searched_kept, others_kept}
use Rattle.meeting.specs.Meeting.{shared, reach_of, Meets}
use Rattle.verdict.proofs.Trains.{standing_at}

-- The list `before` has the predecessors of the searches of trains 1 to j, and `earlier` the sections of their reaches.
pub record Kept (s : Situation) (rows : Rows) (reaches : List Reach) (before earlier : List ℕ) (j : ℕ) : Type 0 where
  pub before-length : length before ≡ 513
  pub of_train : (k : ℕ) → memb earlier k ≡ true → (t : ℕ) × (1 ≤ t) × (t ≤ j) × (memb (reach_of reaches t) k ≡ true)
  pub has : (t : ℕ) → 1 ≤ t → t ≤ j → (k : ℕ) → memb (reach_of reaches t) k ≡ true → memb earlier k ≡ true
  pub traced : (t : ℕ) → 1 ≤ t → t ≤ j → Traced rows (standing_at s (t - 1)) (reach_of reaches t) before

-- Before the first train.
pub kept_start : {s : Situation} {rows : Rows} {reaches : List Reach} {before earlier : List ℕ} → length before ≡ 513 → ((k : ℕ) → memb earlier k ≡ false)
    → Kept s rows reaches before earlier 0
kept_start lb none =
    record {
      before-length = lb;
      of_train = λ k h. absurd (false≢true (sym (none k) ∙ h));
      has = λ t low high. absurd (omega arith);
      traced = λ t low high. absurd (omega arith);
    }

-- ---- the next train
module _ {s : Situation} {rows : Rows} {reaches : List Reach} {before earlier : List ℕ} {j : ℕ} (d : Kept s rows reaches before earlier j) where
  -- The next train is searched from where it stands.
  module _ {starts : List ℕ} (stand : starts ≡ standing_at s j) {queue own ws : List ℕ} {n : ℕ} (r : Searched rows starts ws queue own n) where
    -- The next train's reach shares no section with those of the earlier trains: no train is found.
    pub meets_none : found (lowest 512 (λ t. memb ws t && memb earlier t)) ≡ false → Meets reaches j ws 0 0
    unfolding shared
    meets_none h =
        record {
          first = sym (none_lowest j (λ i. found (shared (reach_of reaches i) ws)) (λ i low high. ap found (apart i low high)));
          meets = refl;
        }
      where
        apart : (i : ℕ) → 1 ≤ i → i ≤ j → shared (reach_of reaches i) ws ≡ 0
        apart i low high =
            none_lowest 512 (λ t. memb (reach_of reaches i) t && memb ws t) (λ t x y. eq-false_of_not-eq-true (λ b.
            let w = and_both (memb (reach_of reaches i) t) (memb ws t) b in
            false≢true (sym (not-found_none 512 (λ k. memb ws k && memb earlier k) h t x y) ∙ and_intro w.1 (d.has i low high t w.0))))

    -- None of its sections is one of theirs.
    pub meets_apart : found (lowest 512 (λ t. memb ws t && memb earlier t)) ≡ false → (k : ℕ) → memb earlier k ≡ true → memb ws k ≡ false
    meets_apart h k e = eq-false_of_not-eq-true (λ b. let w = r.queued.within k b in
        false≢true (sym (not-found_none 512 (λ t. memb ws t && memb earlier t) h k w.0 w.1) ∙ and_intro b e))

    -- The next train's reach shares a section with one of them: a train is found.
    pub meets_some : found (lowest 512 (λ t. memb ws t && memb earlier t)) ≡ true → {train section : ℕ} → Meets reaches j ws train section
        → train ≡ 0 → ⊥
    unfolding shared
    meets_some h m z =
        let k : ℕ = lowest 512 (λ t. memb ws t && memb earlier t) in
        let p = found_passes 512 (λ t. memb ws t && memb earlier t) h in
        let b = and_both (memb ws k) (memb earlier k) p.2 in
        let w = d.of_train k b.1 in
        false≢true
        (sym (lowest_none j (λ i. found (shared (reach_of reaches i) ws)) (sym m.first ∙ z) w.0 w.1 w.2)
        ∙ found-lowest 512 (λ x. memb (reach_of reaches w.0) x && memb ws x) k p.0 p.1 (and_intro w.3 b.0))

    -- The next train's reach and paths are kept.
    pub kept_step : found (lowest 512 (λ t. memb ws t && memb earlier t)) ≡ false → {reaches' : List Reach} → StoredAt reaches j ws reaches'
        → {before' : List ℕ} → KeptPaths queue own before n before'
        → {earlier' : List ℕ} → ((k : ℕ) → memb earlier' k ≡ (memb earlier k || memb ws k)) → Kept s rows reaches' before' earlier' (j + 1)
    kept_step h {reaches'} kept {before'} paths {earlier'} union =
        record {
          before-length = paths.same_length ∙ d.before-length;
          of_train = λ k e. ⊎_elim
              (λ x. let w = d.of_train k x in (w.0, w.1, (let y = w.2 in omega arith), rw (old w.0 w.1 w.2) w.3))
              (λ x. (j + 1, omega arith, omega arith, rw new x))
              (or_cases (memb earlier k) (memb ws k) (sym (union k) ∙ e));
          has = λ t low high. by_train t low high (λ (u : ℕ). (k : ℕ) → memb (reach_of reaches' u) k ≡ true → memb earlier' k ≡ true)
              (λ u x y k e. union k ∙ or_inl (memb earlier k) (memb ws k) (d.has u x y k (rw (old u x y) at e)))
              (λ k e. union k ∙ or_inr (memb earlier k) (memb ws k) (rw new at e));
          traced = λ t low high. by_train t low high (λ (u : ℕ). Traced rows (standing_at s (u - 1)) (reach_of reaches' u) before')
              (λ u x y. rw (old u x y) (others_kept r paths (λ k e. meets_apart h k (d.has u x y k e)) (d.traced u x y)))
              (let e : j + 1 - 1 ≡ j = omega arith in rw (new, e, ← stand) (searched_kept r paths d.before-length));
        }
      where
        old : (t : ℕ) → 1 ≤ t → t ≤ j → reach_of reaches' t ≡ reach_of reaches t
        old t low high = kept.kept (t - 1) (λ e. omega arith)

        new : reach_of reaches' (j + 1) ≡ ws
        new = let e : j + 1 - 1 ≡ j = omega arith in ap (words_at reaches') e ∙ kept.stored

        by_train : (t : ℕ) → 1 ≤ t → t ≤ j + 1 → (P : ℕ → Type 0) → ((u : ℕ) → 1 ≤ u → u ≤ j → P u) → P (j + 1) → P t
        by_train t low high P f g = ⊎_elim (λ e. subst P (sym e) g) (λ x. f t low (omega (arith, x))) (eq-or-lt_of_le high)
