-- The trains that open moves affect, judged one after another in all settings of a block (`Judged`), in every situation that the tables are ready for.
use Rattle.std.proofs.Common.{◌≡◌, refl, sym, ap, ◌∙◌, ◌⊎◌, inl, inr, Bool, true, false, not, ◌&&◌, ◌||◌, List, Option, Some, None, ℕ, suc, ◌+◌, ◌-◌, ◌*◌, ◌/◌, ◌%◌, ◌^◌, ◌≤◌, ◌<◌, bit_and, get_or, arith}
use mathlib.Core.Logic.{⊎_elim}
use mathlib.Core.Bool.{false≢true}
use mathlib.Mathlib.Data.Bool.Basic.{or_inl, or_inr, and_intro, dichotomy, eq-false_of_not-eq-true}
use lib.Dec.{eqb}
use borrow.Author.Tests.{eqb-true, eq-eqb, not-true}
use Rattle.meaning.specs.declared.Move.{Move}
use Rattle.meaning.specs.declared.Situation.{Situation}
use Rattle.meaning.specs.Station.{file_states}
use Rattle.meaning.specs.Verdict.{safe}
use Rattle.meaning.specs.Settings.{open_count}
use Rattle.basics.proofs.Tests.{or_cases, and_both}
use Rattle.meaning.proofs.Inside.{reach_inside}
use Rattle.bits.specs.Bits.{bit, LowestBit}
use Rattle.bits.proofs.Bits.{bit-zero}
use Rattle.reach.specs.Reach.{memb}
use Rattle.setting_order.specs.Order.{setting_at}
use Rattle.setting_tables.specs.declared.Tables.{Tables}
use Rattle.setting_tables.specs.OpenMoves.{open_move_of, source}
use Rattle.setting_tables.specs.Prepared.{no_reach, has, beyond}
use Rattle.setting_tables.specs.Trains.{by_fixed}
use Rattle.setting_tables.proofs.Apart.{With}
use Rattle.setting_safety.specs.declared.Blocks.{Blocks}
use Rattle.setting_safety.specs.declared.Followed.{Followed}
use Rattle.setting_safety.specs.Followed.{closure_of, source_of, in_setting, left_in, Empty, Listed, IsFollowed, leads_of, Gathered, InDanger, Joins}
use Rattle.setting_safety.specs.Table.{Marked, Ready, SafeIn}
use Rattle.setting_safety.proofs.Enabled.{follower, closures_in, base_in}
use Rattle.setting_safety.proofs.Following.{listed_empty}
use Rattle.setting_safety.proofs.Gathering.{Among, among_start, among_turn, bit_without}
use Rattle.setting_safety.proofs.Lanes.{Lane, Follower, lane_turn, shared-harm, shared-overlap}
use Rattle.setting_safety.proofs.Safety.{reaches, apart_safe, shared_unsafe}

-- A train that is not left.
abbrev pub Done : Situation → ℕ → ℕ → Type 0
Done s left t = (t < s.header.trains) × (bit left t ≡ false)

-- Setting i of block z.
abbrev pub setting_of : Situation → ℕ → ℕ → List ℕ
setting_of s z i = setting_at (file_states s) (z * 64 + i)

-- Where bit i of `good` is set, the trains that are not left are apart in setting i; a setting whose bit is not is unsafe.
pub record Judged (tables : Tables) (blocks : Blocks) (z left good : ℕ) (earlier : Followed) : Type 0 where
  pub among : Among tables.trains.affected left
  pub listed : Listed earlier
  pub inside : (i : ℕ) → bit good i ≡ true → bit blocks.all i ≡ true
  pub others : (s : Situation) → Ready s tables blocks → z < blocks.count → (i : ℕ) → bit blocks.all i ≡ true → bit good i ≡ false
      → safe s (setting_of s z i) ≡ false
  pub lanes : (s : Situation) → Ready s tables blocks → z < blocks.count → (i : ℕ) → bit good i ≡ true
      → Lane (reaches s (setting_of s z i)) (by_fixed s) (closure_of s) s.header.trains (Done s left) (in_setting earlier.settings i)

module _ (tables : Tables) (blocks : Blocks) (z : ℕ) where
  abbrev first : ℕ
  first = get_or blocks.first z 0

  module _ (s : Situation) (r : Ready s tables blocks) (counted : z < blocks.count) (i : ℕ) (all : bit blocks.all i ≡ true) where
    abbrev σ : List ℕ
    σ = setting_of s z i

    abbrev on : ℕ → Bool
    on = left_in first blocks.planes i

    placed : (i < 64) × (z * 64 + i < 2 ^ open_count (file_states s))
    placed = r.placed z i counted all

    marked : Marked s (z * 64 + i) on
    marked =
        let block : (z * 64 + i) / 64 ≡ z = omega (arith, placed.0) in
        let lane : (z * 64 + i) % 64 ≡ i = omega (arith, placed.0) in
        rw (block, lane) at (r.marked (z * 64 + i) placed.1)

    few : (e : ℕ) → on e ≡ true → e < 48
    few e h = r.few z e counted (and_both (bit first e) (in_setting blocks.planes i e) h).0

    starts : (t e : ℕ) → t < s.header.trains → e < 48 → bit (get_or tables.bases t no_reach).exits e ≡ by_fixed s t (source_of s e)
    starts t e l k = r.prepared.affected.exits t e l k ∙ r.prepared.bases.base t (source_of s e) l

    sections : (e c : ℕ) → e < 48 → memb (get_or tables.closures e no_reach).reach.words c ≡ closure_of s e c
    sections e c k = r.prepared.closures.closure e c k

    steps : (e d : ℕ) → e < 48 → d < 48 → bit (get_or tables.onward e 0) d ≡ true → closure_of s e (source_of s d) ≡ true
    steps e d k m h = sym (sections e (source_of s d) k) ∙ (sym (r.prepared.exits e d k m) ∙ (r.prepared.onward.row e k).part d h)

    ways_back : (e d : ℕ) (m : Move) → e < 48 → d < 48 → open_move_of s d ≡ Some m → closure_of s e m.from.0 ≡ true
        → (bit (get_or tables.onward e 0) d ≡ true) ⊎ (closure_of s e m.to.0 ≡ true)
    ways_back e d m k l is h = go (bit (get_or tables.onward e 0) d) refl
      where
        starts_there : bit (get_or tables.closures e no_reach).exits d ≡ true
        starts_there = r.prepared.exits e d k l ∙ (ap (λ (v : Option Move). has tables.closures e (source v)) is ∙ (sections e m.from.0 k ∙ h))

        go : (b : Bool) → bit (get_or tables.onward e 0) d ≡ b → (bit (get_or tables.onward e 0) d ≡ true) ⊎ (closure_of s e m.to.0 ≡ true)
        go true q = inl q
        go false q = inr (sym (sections e m.to.0 k) ∙ (r.prepared.onward.row e k).others d m l starts_there q is)

    -- A train that no open move affects follows none, and reaches no more than its base.
    stays : (t c : ℕ) → Done s tables.trains.affected t → reaches s σ t c ≡ true → by_fixed s t c ≡ true
    stays t c p h =
        ⊎_elim (λ b. b) (λ w. absurd (false≢true w.1))
        ((follower s (z * 64 + i) on marked t r.sound.inside (get_or tables.bases t no_reach).exits (λ e. 0) (λ e. false) few (λ e k. starts t e p.0 k)
        (λ e d k m h. absurd (false≢true (sym (bit-zero d) ∙ h)))
        (record {
          from = λ e k. absurd (false≢true (sym (r.prepared.affected.none t e p.0 p.1) ∙ (and_both (bit (get_or tables.bases t no_reach).exits e) (on e) k).0));
          on = λ e f k. absurd (false≢true k);
          least = λ e k. absurd (false≢true k);
        })
        (λ e k. absurd (false≢true k)) (λ e f m k. absurd (false≢true k))).covers c h)

    lane_start : {E : ℕ → Bool} → ((f : ℕ) → E f ≡ true → ⊥) → Lane (reaches s σ) (by_fixed s) (closure_of s) s.header.trains (Done s tables.trains.affected) E
    lane_start none = record {
      apart = λ u v c p q f g. r.prepared.bases.apart u v c p.0 q.0 (stays u c p f) (stays v c q g);
      clear = λ u v c p l f g. r.prepared.bases.apart u v c p.0 l (stays u c p f) g;
      held = λ u c p f. inl (stays u c p f);
      from = λ f h. absurd (none f h);
    }

    -- What is followed is a move.
    is_move : (e c : ℕ) → e < 48 → closure_of s e c ≡ true → bit tables.moves e ≡ true
    is_move e c l h = go (open_move_of s e) refl h
      where
        go : (o : Option Move) → open_move_of s e ≡ o → beyond s o c ≡ true → bit tables.moves e ≡ true
        go None is h = absurd (false≢true h)
        go (Some m) is h = r.prepared.closures.all e m l is

    -- ---- one train more
    module _ {left t rest good : ℕ} {earlier followed : Followed} {bad : ℕ} (l : LowestBit left t rest) (among : Among tables.trains.affected left)
        (listed : Listed earlier) (here : bit good i ≡ true)
        (f : IsFollowed (get_or tables.bases t no_reach).exits first good blocks.planes (leads_of tables.onward (get_or blocks.harms t 0)) followed)
        (g : Gathered (InDanger followed earlier (get_or blocks.harms t 0) blocks.overlaps) followed.moves 0 bad)
        (lane : Lane (reaches s σ) (by_fixed s) (closure_of s) s.header.trains (Done s left) (in_setting earlier.settings i)) where
      abbrev A : ℕ → Bool
      A = in_setting followed.settings i

      affected : bit tables.trains.affected t ≡ true
      affected = among.in_all t l.here

      low : t < s.header.trains
      low = r.prepared.affected.below t affected

      below : (e : ℕ) → A e ≡ true → e < 48
      below e h = f.listed.below e (f.listed.some e i h)

      abbrev harms : ℕ
      harms = get_or blocks.harms t 0

      leads_in : (e d : ℕ) → e < 48 → d < 48 → bit (leads_of tables.onward harms e) d ≡ true → closure_of s e (source_of s d) ≡ true
      leads_in e d k m h = go (bit harms e) refl
        where
          go : (b : Bool) → bit harms e ≡ b → closure_of s e (source_of s d) ≡ true
          go true q = absurd (false≢true (sym (bit-zero d) ∙ (rw q at h)))
          go false q = steps e d k m (rw q at h)

      brought : (e c : ℕ) → A e ≡ true → closure_of s e c ≡ true → reaches s σ t c ≡ true
      brought =
          closures_in s (z * 64 + i) on marked t r.sound.inside (get_or tables.bases t no_reach).exits (leads_of tables.onward harms) A few (λ e k. starts t e low k) leads_in
          (f.each i here) below

      -- Where nothing harms it that it follows.
      follows : ((e : ℕ) → A e ≡ true → bit harms e ≡ false) → Follower (reaches s σ) (by_fixed s) (closure_of s) t A
      follows calm =
          follower s (z * 64 + i) on marked t r.sound.inside (get_or tables.bases t no_reach).exits (leads_of tables.onward harms) A few (λ e k. starts t e low k) leads_in
          (f.each i here) below
          (λ e d m a k is h. rw (calm e a) (ways_back e d m (below e a) k is h))

      more : With (Done s left) t (Done s rest)
      more = record {
        new = λ p. false≢true (sym p.1 ∙ l.here);
        here = (low, l.rest t ∙ rw (l.here, eq-eqb t t refl) refl);
        others = λ v p. (p.0, l.rest v ∙ rw p.1 refl);
        only = λ v p. go v p (bit left v) refl (eqb v t) refl;
      }
        where
          go : (v : ℕ) → Done s rest v → (a : Bool) → bit left v ≡ a → (b : Bool) → eqb v t ≡ b → (Done s left v) ⊎ (v ≡ t)
          go v p false e b f = inl (p.0, e)
          go v p true e true f = inr (eqb-true v t f)
          go v p true e false f = absurd (false≢true (sym p.1 ∙ (l.rest v ∙ rw (e, f) refl)))

      base : (c : ℕ) → memb (get_or tables.bases t no_reach).reach.words c ≡ by_fixed s t c
      base c = r.prepared.bases.base t c low

      range : (e c : ℕ) → A e ≡ true → closure_of s e c ≡ true → (1 ≤ c) × (c ≤ 512)
      range e c a h = let w = reach_inside s r.sound.inside σ (suc t) c (brought e c a h) in (w.0, omega (arith, w.1, r.sound.limits.sections))

      danger : (e : ℕ) → A e ≡ true → InDanger followed earlier (get_or blocks.harms t 0) blocks.overlaps e i → bit bad i ≡ true
      danger e a d = g.complete e i (f.listed.some e i a) (bit-zero e) d

      -- The setting is not in danger: the trains that are done are apart.
      turn : bit bad i ≡ false → {E : ℕ → Bool} → ((d : ℕ) → E d ≡ (in_setting earlier.settings i d || A d))
          → Lane (reaches s σ) (by_fixed s) (closure_of s) s.header.trains (Done s rest) E
      turn none is =
          lane_turn lane more (follows (λ e a. eq-false_of_not-eq-true (λ h. false≢true (sym none ∙ danger e a (a, inl h))))) low r.prepared.bases.apart
          (λ e v c a k h b.
          ⊎_elim (λ d. d)
          (λ (d : eqb t v ≡ false).
          let x = range e c a h in
          let y = below e a in
          let others : (memb tables.trains.reach.words c && not (memb (get_or tables.bases t no_reach).reach.words c)) ≡ true =
          and_intro (r.prepared.bases.union.covers v c k b)
          (rw (eq-false_of_not-eq-true (λ p. false≢true (sym d ∙ eq-eqb t v (r.prepared.bases.apart t v c low k (sym (base c) ∙ p) b)))) refl) in
          absurd (false≢true (sym none ∙ danger e a (a, inl ((r.harms t affected).all e c (is_move e c y h) x.0 x.1 others (sections e c y ∙ h))))))
          (⊎_elim (λ d. inr d) (λ d. inl (eqb-true t v d)) (dichotomy (eqb t v))))
          (λ e d c a b h k.
          let x = range e c a h in
          let y = below e a in
          let w = listed.below d (listed.some d i b) in
          false≢true (sym none ∙ danger e a (a, inr (d, (r.overlaps e y).all d c (is_move d c w k) x.0 x.1 (sections e c y ∙ h) (sections d c w ∙ k), b))))
          is (λ u p. p.0)

      -- It is in danger.
      unsafe : bit bad i ≡ true → safe s σ ≡ false
      unsafe h =
          let w = g.sound i h in
          let a = w.2.0 in
          let y = below w.0 a in
          shared_unsafe s r.sound.inside σ (λ u p. p)
          (⊎_elim
          (λ k.
          let m = (r.harms t affected).from w.0 k in
          let b = and_both (memb tables.trains.reach.words m.0) (not (memb (get_or tables.bases t no_reach).reach.words m.0)) m.1 in
          let v = r.prepared.bases.union.from m.0 b.0 in
          shared-harm lane more brought low w.0 v.0 m.0 a v.1 (λ (q : t ≡ v.0). false≢true (sym (not-true (memb (get_or tables.bases t no_reach).reach.words m.0) b.1) ∙ (base m.0 ∙ ap (λ (u : ℕ). by_fixed s u m.0) q ∙ v.2))) (sym (sections w.0 m.0 y) ∙ m.2)
          (base_in s (z * 64 + i) on marked v.0 m.0 v.2))
          (λ k.
          let m = (r.overlaps w.0 y).from k.0 k.1 in
          let d = listed.below k.0 (listed.some k.0 i k.2) in
          shared-overlap lane more brought low (λ u p. p.0) w.0 k.0 m.0 a k.2 (sym (sections w.0 m.0 y) ∙ m.1) (sym (sections k.0 m.0 d) ∙ m.2))
          w.2.1)

  -- ---- the block
  pub judged_start : {none : Followed} → Empty none → Judged tables blocks z tables.trains.affected blocks.all none
  judged_start n = record {
    among = among_start tables.trains.affected;
    listed = listed_empty n;
    inside = λ i h. h;
    others = λ s r c i h n. absurd (false≢true (sym n ∙ h));
    lanes = λ s r c i h. lane_start s r c i h (λ f k. false≢true (sym (n.none f i) ∙ k));
  }

  all_here : (s : Situation) → Ready s tables blocks → z < blocks.count → (i : ℕ) → i < 64 → z * 64 + i < 2 ^ open_count (file_states s) → bit blocks.all i ≡ true
  all_here s r c i b k =
      let lane : (z * 64 + i) % 64 ≡ i = omega (arith, b) in
      rw lane at (r.counted (z * 64 + i) k).1

  module _ {left good : ℕ} {earlier : Followed} (j : Judged tables blocks z left good earlier) where
    module _ {t rest bad : ℕ} {followed : Followed} (l : LowestBit left t rest)
        (f : IsFollowed (get_or tables.bases t no_reach).exits first good blocks.planes (leads_of tables.onward (get_or blocks.harms t 0)) followed)
        (g : Gathered (InDanger followed earlier (get_or blocks.harms t 0) blocks.overlaps) followed.moves 0 bad)
        (fits : good < 2 ^ 64) (bad_fits : bad < 2 ^ 64) where
      abbrev better : ℕ
      better = bit_and good ((2 ^ 64 - 1) - bad)

      left_good : (i : ℕ) → bit better i ≡ true → (bit good i ≡ true) × (bit bad i ≡ false)
      left_good i h = let b = and_both (bit good i) (not (bit bad i)) (sym (bit_without good bad fits bad_fits i) ∙ h) in (b.0, not-true (bit bad i) b.1)

      still : (s : Situation) → Ready s tables blocks → z < blocks.count → (i : ℕ) → bit blocks.all i ≡ true → bit better i ≡ false → safe s (setting_of s z i) ≡ false
      still s r c i all h = go (dichotomy (bit good i)) (dichotomy (bit bad i))
        where
          go : (bit good i ≡ false) ⊎ (bit good i ≡ true) → (bit bad i ≡ false) ⊎ (bit bad i ≡ true) → safe s (setting_of s z i) ≡ false
          go (inl n) q = j.others s r c i all n
          go (inr y) (inl n) = absurd (false≢true (sym h ∙ (bit_without good bad fits bad_fits i ∙ rw (y, n) refl)))
          go (inr y) (inr b) = unsafe s r c i all l j.among j.listed y f g (j.lanes s r c i y) b

      -- One train more is done.
      pub judged_turn : {earlier' : Followed} → Joins earlier followed 0 earlier' → Judged tables blocks z rest better earlier'
      judged_turn {earlier'} joins = record {
        among = among_turn l j.among;
        listed = record {
          below = λ e h. ⊎_elim (j.listed.below e) (f.listed.below e) (or_cases (bit earlier.moves e) (bit followed.moves e) (sym (joins.moves e) ∙ h));
          some = λ e x h.
              joins.moves e
              ∙ ⊎_elim (λ a. or_inl (bit earlier.moves e) (bit followed.moves e) (j.listed.some e x a))
              (λ a. or_inr (bit earlier.moves e) (bit followed.moves e) (f.listed.some e x a))
              (or_cases (in_setting earlier.settings x e) (in_setting followed.settings x e) (sym (joins.settings e x (bit-zero e)) ∙ h));
        };
        inside = λ i h. j.inside i (left_good i h).0;
        others = still;
        lanes = λ s r c i h.
            let b = left_good i h in
            turn s r c i (j.inside i b.0) l j.among j.listed b.0 f g (j.lanes s r c i b.0) b.1 (λ d. joins.settings d i (bit-zero d));
      }

      -- No setting is left.
      pub judged_none : better ≡ 0 → (s : Situation) → Ready s tables blocks → z < blocks.count → SafeIn s z 0
      judged_none none s r c = record {
        inside = λ i h. absurd (false≢true (sym (bit-zero i) ∙ h));
        others = λ i b k h. still s r c i (all_here s r c i b k) (rw none (bit-zero i));
      }

    -- All trains are done.
    pub judged_end : left ≡ 0 → (s : Situation) → Ready s tables blocks → z < blocks.count → SafeIn s z good
    judged_end none s r c = record {
      inside = λ i h.
          let p = r.placed z i c (j.inside i h) in
          (p.0, p.1, apart_safe s r.sound.inside (setting_of s z i) (λ t k. (k, rw none (bit-zero t))) (j.lanes s r c i h).apart);
      others = λ i b k h. j.others s r c i (all_here s r c i b k) h;
    }
