-- The path read back from its end: first its moves are counted, then its sections are written from the last to the first.
use mathlib.Core.Path.{◌≡◌, refl, ap}
use mathlib.Core.List.{List, ◌++◌}
use Prim.Native.Nat.{ℕ, zero, suc, ◌+◌, ◌≤◌, ◌<◌}
use native.Mathlib.Omega.{arith}
use lib.ListN.{length, get_or, drop}
use Rattle.search.specs.Read.{path_back, Back}

-- A section with a way back to a start is at most 512.
pub back_inside : (before : List ℕ) (n k : ℕ) → Back before n k → k ≤ 512
back_inside before zero k b = b.0
back_inside before (suc n) k b = b.0

-- There is just one number of moves back to a start.
pub back_unique : (before : List ℕ) (n m k : ℕ) → Back before n k → Back before m k → n ≡ m
back_unique before zero zero k a b = refl
back_unique before zero (suc m) k a b = let x = a.1 in let y = b.1 in absurd (omega arith)
back_unique before (suc n) zero k a b = let x = a.1 in let y = b.1 in absurd (omega arith)
back_unique before (suc n) (suc m) k a b = ap suc (back_unique before n m (get_or before k 0) a.2 b.2)

-- On the way back from section k, n moves are counted to section j.
pub record Up (before : List ℕ) (k n j : ℕ) : Type 0 where
  pub left : (m : ℕ) × (n + m < 512) × Back before m j
  pub counted : (m : ℕ) → Back before m j → Back before (n + m) k

module _ (before : List ℕ) (k : ℕ) where
  module _ (n j : ℕ) (u : Up before k n j) where
    -- The section at hand is at most 512.
    pub up_inside : j ≤ 512
    up_inside = back_inside before u.left.0 j u.left.2

    -- One move more.
    pub up_turn : (get_or before j 0 ≡ 0 → ⊥) → Up before k (n + 1) (get_or before j 0)
    up_turn some =
        record {
          left = go u.left.0 u.left.1 u.left.2;
          counted = λ m b. let e : n + 1 + m ≡ n + suc m = omega arith in rw e (u.counted (suc m) (up_inside, omega (arith, some), b));
        }
      where
        go : (m : ℕ) → n + m < 512 → Back before m j → (m : ℕ) × (n + 1 + m < 512) × Back before m (get_or before j 0)
        go zero l b = absurd (some b.1)
        go (suc m) l b = (m, omega arith, b.2)

    -- At a start all moves are counted.
    pub up_end : get_or before j 0 ≡ 0 → Back before n k
    up_end z = let e : n + 0 ≡ n = omega arith in rw e at (u.counted 0 (up_inside, z))

-- On the way back, all sections after `place` are written; m moves are left.
pub record Down (before : List ℕ) (k n : ℕ) (out₀ out : List ℕ) (m place : ℕ) : Type 0 where
  pub back : Back before m place
  pub fits : m ≤ n
  pub long : length out ≡ length out₀
  pub full : path_back before m place ++ drop (m + 1) out ≡ path_back before n k ++ drop (n + 1) out₀
