-- "Entries never exceed 2 × sections, looks never 2 × permitted moves" (01). The trains before the last one counted are not dangerous,
-- so no section is in two of their reaches and each section weighs at most once; the last train adds at most as much again. One law
-- serves both counts: an entry is a section of weight 1, and a section's looks are its weight.
use mathlib.Core.Path.{◌≡◌, refl}
use mathlib.Core.Bool.{Bool, false, ◌&&◌, cond}
use mathlib.Core.List.{List}
use Prim.Native.Nat.{ℕ, zero, suc, ◌*◌, ◌-◌, ◌≤◌, ◌<◌}
use native.Mathlib.Omega.{arith}
use Rattle.meaning.specs.declared.Situation.{Situation}
use Rattle.meaning.specs.declared.Counts.{Counts}
use Rattle.meaning.specs.declared.Verdict.{Verdict}
use Rattle.meaning.specs.declared.Verdict.TheVariants.{Safe, Dangerous}
use Rattle.basics.specs.Numbers.{found, lowest, total, count}
use Rattle.meaning.specs.Verdict.{in_reach, shared_section, earlier_train, dangerous, later_train, verdict_for, verdict}
use Rattle.meaning.specs.Verdict.{entries_of, outdegree, looks_of, counts_to}
use Rattle.basics.proofs.Numbers.{None, not-found_none, lowest_none, lowest_least}
use Rattle.basics.proofs.Numbers.{total_mono, total_const, total_swap, total-part-le, total-once-le}

-- The counts that a verdict carries.
abbrev pub counts_of : Verdict → Counts
counts_of (Safe c) = c
counts_of (Dangerous m c) = c

-- How many moves are permitted.
unfoldable pub permitted_moves : Situation → List ℕ → ℕ
permitted_moves s σ = total s.header.sections (outdegree s σ)

-- ---- sections that no two trains share
-- No section from 1 to n passes the test for two of the trains 1 to m.
abbrev pub Apart : ℕ → ℕ → (ℕ → ℕ → Bool) → Type 0
Apart m n f = (t u : ℕ) → 1 ≤ t → t < u → u ≤ m → None n (λ a. f t a && f u a)

-- Sections that no two trains share weigh at most what all sections weigh.
apart_total-le :
    (m n : ℕ) (f : ℕ → ℕ → Bool) (w : ℕ → ℕ) → Apart m n f → total m (λ t. total n (λ a. cond (f t a) (w a) 0)) ≤ total n w
apart_total-le m n f w apart =
    rw (total_swap m n (λ t a. cond (f t a) (w a) 0))
    (total_mono n (λ a. total m (λ t. cond (f t a) (w a) 0)) w
    (λ a low high. total-once-le m (λ t. f t a) (w a) (λ t u h less l. apart t u h less l a low high)))

-- ---- the trains that are counted
-- Trains that are not dangerous share no section.
not-dangerous_apart : (s : Situation) (σ : List ℕ) (m : ℕ) → dangerous s σ m ≡ false → Apart m s.header.sections (in_reach s σ)
unfolding dangerous earlier_train shared_section
not-dangerous_apart s σ m h t u low less high =
    not-found_none s.header.sections (λ a. in_reach s σ t a && in_reach s σ u a)
    (not-found_none (u - 1) (λ i. found (shared_section s σ i u))
    (not-found_none m (λ j. found (earlier_train s σ j)) h u (omega arith) high)
    t low (omega arith))

-- Where no run of 1 to k trains is dangerous, no run of 0 to k trains is.
none_dangerous : (s : Situation) (σ : List ℕ) (k : ℕ) → None k (dangerous s σ) → (j : ℕ) → j ≤ k → dangerous s σ j ≡ false
unfolding dangerous lowest
none_dangerous s σ k h j h2 = grind arith

-- What a verdict counts: trains 1 to `last`, where no fewer trains are dangerous.
record Counted (s : Situation) (σ : List ℕ) : Type 0 where
  last : ℕ
  counts : counts_of (verdict s σ) ≡ counts_to s σ last
  not-dangerous : (j : ℕ) → j < last → dangerous s σ j ≡ false

counted : (s : Situation) (σ : List ℕ) → Counted s σ
unfolding later_train verdict_for verdict
counted s σ = go (later_train s σ) refl
  where
    go : (l : ℕ) → later_train s σ ≡ l → Counted s σ
    go zero e =
        record {
          last = s.header.trains;
          counts = rw (e, verdict);
          not-dangerous = λ j less.
              none_dangerous s σ s.header.trains (lowest_none s.header.trains (dangerous s σ) e) j (omega arith);
        }
    go (suc k) e =
        record {
          last = suc k;
          counts = rw (e, verdict);
          not-dangerous = λ j less. none_dangerous s σ k (lowest_least s.header.trains (dangerous s σ) k e) j (omega arith);
        }

-- The sections in the reaches of the trains counted weigh at most twice what all sections weigh.
counted_bound :
    (s : Situation) (σ : List ℕ) (w : ℕ → ℕ) (m : ℕ)
    → ((j : ℕ) → j < m → dangerous s σ j ≡ false)
    → total m (λ t. total s.header.sections (λ a. cond (in_reach s σ t a) (w a) 0)) ≤ 2 * total s.header.sections w
unfolding total
counted_bound s σ w zero h = omega arith
counted_bound s σ w (suc j) h =
    omega (
      arith,
      apart_total-le j s.header.sections (in_reach s σ) w (not-dangerous_apart s σ j (h j (omega arith))),
      total-part-le s.header.sections (in_reach s σ (suc j)) w,
    )

-- "Entries never exceed 2 × sections."
pub entries_bound : (s : Situation) (σ : List ℕ) → (counts_of (verdict s σ)).entries ≤ 2 * s.header.sections
unfolding counts_to entries_of count
entries_bound s σ =
    rw (counted s σ).counts
    (omega (arith, counted_bound s σ (λ a. 1) (counted s σ).last (counted s σ).not-dangerous, total_const s.header.sections 1))

-- "Looks never [exceed] 2 × permitted moves."
pub looks_bound : (s : Situation) (σ : List ℕ) → (counts_of (verdict s σ)).looks ≤ 2 * permitted_moves s σ
unfolding counts_to looks_of permitted_moves
looks_bound s σ = rw (counted s σ).counts (counted_bound s σ (outdegree s σ) (counted s σ).last (counted s σ).not-dangerous)
