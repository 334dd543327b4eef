-- Numbers above n that do not pass make no difference: counting, adding up or searching to m gives the same as to n.
use mathlib.Core.Path.{◌≡◌, sym, ap}
use mathlib.Core.Bool.{Bool, false, cond}
use mathlib.Core.Logic.{⊎_elim}
use Prim.Native.Nat.{ℕ, zero, suc, ◌≤◌, ◌<◌}
use native.Mathlib.Nat.{eq-or-lt_of_le}
use native.Mathlib.Omega.{arith}
use Rattle.basics.specs.Numbers.{lowest, total, count}
use Rattle.basics.proofs.Numbers.{lowest_is}

-- What is 0 above n adds nothing.
pub total_up_to : (m n : ℕ) (f : ℕ → ℕ) → n ≤ m → ((k : ℕ) → n < k → k ≤ m → f k ≡ 0) → total m f ≡ total n f
unfolding total
total_up_to zero n f h none = let e : 0 ≡ n = omega arith in ap (λ (x : ℕ). total x f) e
total_up_to (suc m) n f h none =
    ⊎_elim (λ e. ap (λ (x : ℕ). total x f) (sym e))
    (λ l. omega (arith, total_up_to m n f (omega arith) (λ k low high. none k low (omega arith)), none (suc m) l (omega arith)))
    (eq-or-lt_of_le h)

-- What does not pass above n is not counted.
pub count_up_to : (m n : ℕ) (f : ℕ → Bool) → n ≤ m → ((k : ℕ) → n < k → k ≤ m → f k ≡ false) → count m f ≡ count n f
unfolding count
count_up_to m n f h none = total_up_to m n (λ k. cond (f k) 1 0) h (λ k low high. ap (λ (b : Bool). cond b 1 0) (none k low high))

-- What does not pass above n is not the lowest.
pub lowest_up_to : (m n : ℕ) (f : ℕ → Bool) → n ≤ m → ((k : ℕ) → n < k → k ≤ m → f k ≡ false) → lowest m f ≡ lowest n f
lowest_up_to m n f h none = grind (arith, lowest_is)
