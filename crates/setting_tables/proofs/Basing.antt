-- The trains' bases, train after train, and the trains that no open move affects.
use Rattle.std.proofs.Common.{◌≡◌, refl, ap, ◌∙◌, ◌⊎◌, inl, inr, Bool, true, false, ◌||◌, List, ℕ, suc, ◌+◌, ◌<◌, length, get_or, arith}
use mathlib.Core.Logic.{⊎_elim}
use native.Mathlib.Nat.{eq-or-lt_of_le}
use lib.ListN.{set, length-set}
use lib.Seq.{get_or-set_same, get_or-set_other}
use Rattle.meaning.specs.declared.Situation.{Situation}
use Rattle.meaning.specs.Station.{file_states, no_train, moves}
use Rattle.meaning.specs.Paths.{mem, reach}
use Rattle.meaning.specs.Verdict.{in_reach}
use Rattle.meaning.proofs.Inside.{reach_inside}
use Rattle.reach.specs.declared.Reach.{Reach}
use Rattle.reach.specs.Reach.{memb}
use Rattle.element_states.specs.Sound.{Sound}
use Rattle.moves.specs.Standing.{places_of}
use Rattle.moves.proofs.Where.{standing_at_lem}
use Rattle.setting_tables.specs.declared.FixedReach.{FixedReach}
use Rattle.setting_tables.specs.Trains.{by_fixed, FixedShared}
use Rattle.setting_tables.specs.Prepared.{no_reach, PutBases}
use Rattle.setting_tables.proofs.Apart.{With, meeting, shared-over, union_none, union_add, apart_add, shared-add}

-- What the fixed moves reach from where a train stands is what the train reaches by them.
pub train_reach : (s : Situation) (t : ℕ) → t < s.header.trains → {has : ℕ → Bool}
    → ((c : ℕ) → has c ≡ mem c (reach (moves s (file_states s)) (places_of (get_or s.trains t no_train)))) → (c : ℕ) → has c ≡ by_fixed s t c
unfolding in_reach
train_reach s t l r c = r c ∙ ap (λ (S : List ℕ). mem c (reach (moves s (file_states s)) S)) (standing_at_lem s t l)

-- The bases of the first t trains are there, and no two of these trains meet.
pub record Based (s : Situation) (bases : List FixedReach) (all : Reach) (t : ℕ) : Type 0 where
  pub size : length bases ≡ 64
  pub put : PutBases s t bases all

-- Before the first train.
pub based_start : {s : Situation} {bases : List FixedReach} {all : Reach} → length bases ≡ 64 → ((c : ℕ) → memb all.words c ≡ false)
    → Based s bases all 0
based_start size none = record {
  size = size;
  put = record {
    apart = λ t u c l. absurd (omega arith);
    base = λ t c l. absurd (omega arith);
    union = union_none (λ t l. omega arith) none;
  };
}

module _ (s : Situation) {bases : List FixedReach} {all : Reach} {t : ℕ} (b : Based s bases all t)
    (base : FixedReach) (is : (c : ℕ) → memb base.reach.words c ≡ by_fixed s t c) where
  near : (u : ℕ) → u < t + 1 → (u < t) ⊎ (u ≡ t)
  near u l = ⊎_elim (λ (q : u ≡ t). inr q) (λ (q : u < t). inl q) (eq-or-lt_of_le (omega arith))

  more : With (λ u. u < t) t (λ u. u < t + 1)
  more = record { new = λ p. omega arith; here = omega arith; others = λ u p. omega arith; only = λ u p. near u p }

  -- It meets an earlier one.
  pub based_meets : t < s.header.trains → meeting (memb base.reach.words) (memb all.words) ≡ true → FixedShared s
  based_meets l h = shared-over {R = by_fixed s} (λ u c p. refl) (λ u p. omega arith) (shared-add more b.put.union is h)

  -- It does not: one train more.
  pub based_turn : Sound s → t < s.header.trains → meeting (memb base.reach.words) (memb all.words) ≡ false → {joined : Reach}
      → ((c : ℕ) → memb joined.words c ≡ (memb all.words c || memb base.reach.words c)) → Based s (set bases t base) joined (t + 1)
  based_turn sound l h sum = record {
    size = length-set bases t base ∙ b.size;
    put = record {
      apart =
          apart_add more b.put.union is
          (λ c p. let w = reach_inside s sound.inside (file_states s) (suc t) c p in (w.0, omega (arith, w.1, sound.limits.sections)))
          h b.put.apart;
      base = λ u c q.
          ⊎_elim
          (λ (z : u < t). rw (get_or-set_other bases t u base no_reach (λ e. omega arith)) (b.put.base u c z))
          (λ (z : u ≡ t). rw (z, get_or-set_same bases t base no_reach (omega (arith, b.size, sound.limits.trains))) (is c))
          (near u q);
      union = union_add more b.put.union is sum;
    };
  }
