-- The numbers from 1 to n: the lowest that passes a test, how many pass it, and the sum of a function over them.
use Rattle.std.specs.Prelude.{Bool, true, false, cond, ℕ, zero, suc, ◌+◌}

-- Says whether a search found a number: 0 stands for none.
abbrev pub found : ℕ → Bool
found zero = false
found (suc k) = true

-- The lowest number from 1 to n that passes the test; 0 where none does.
unfoldable pub lowest : ℕ → (ℕ → Bool) → ℕ
lowest zero f = 0
lowest (suc n) f = elim (lowest n f) [ zero ↦ cond (f (suc n)) (suc n) 0 | suc k ↦ suc k ]

-- Some number from 1 to n passes the test.
abbrev pub some_up_to : ℕ → (ℕ → Bool) → Bool
some_up_to n f = found (lowest n f)

-- The sum of f over the numbers from 1 to n.
unfoldable pub total : ℕ → (ℕ → ℕ) → ℕ
total zero f = 0
total (suc n) f = total n f + f (suc n)

-- How many numbers from 1 to n pass the test.
unfoldable pub count : ℕ → (ℕ → Bool) → ℕ
unfolding total
count n f = total n (λ k. cond (f k) 1 0)
