-- A taken section gives way to a free one wherever fewer than all are taken, and a list has at most as many sections as entries.
use mathlib.Core.Path.{◌≡◌}
use mathlib.Core.Bool.{Bool, true, false}
use mathlib.Core.List.{List, [], ◌∷◌}
use Prim.Native.Nat.{ℕ, ◌≤◌, ◌<◌}
use native.Mathlib.Omega.{arith}
use lib.Dec.{eqb}
use lib.ListN.{length}
use borrow.Author.Tests.{le-leb, leb-true, not-true, not-false}
use Rattle.basics.specs.Numbers.{count}
use Rattle.meaning.specs.Paths.{mem}
use Rattle.session_meaning.specs.Placement.{free_from, gives_way}
use Rattle.basics.proofs.Numbers.{Each, lowest_is, lowest_ext, count_ext, count_none, count_either, count_one, total_const}

-- ---- how many sections are taken
-- A list has at most as many sections as entries.
pub count-mem : (n : ℕ) (xs : List ℕ) → count n (λ k. mem k xs) ≤ length xs
count-mem n [] = omega (arith, count_none n)
count-mem n (a ∷ xs) = omega (arith, count_either n (λ k. eqb k a) (λ k. mem k xs), count_one n a, count-mem n xs)

-- Where each of n sections is taken, n sections are.
count_every : (n : ℕ) (f : ℕ → Bool) → Each n (λ k. f k ≡ true) → count n f ≡ n
unfolding count
count_every n f all = omega (arith, count_ext n f (λ k. true) all, total_const n 1)

-- ---- the free section
-- Section k is one of the n sections, and not taken.
abbrev pub Free : ℕ → (ℕ → Bool) → ℕ → Type 0
Free n taken k = (1 ≤ k) × (k ≤ n) × (taken k ≡ false)

-- Section k gives way to section l: the next free one from k on, or, where all of those are taken, the first free one.
pub data Way (n : ℕ) (taken : ℕ → Bool) (k l : ℕ) : Type 0 where
  above : Free n taken l → k ≤ l → ((t : ℕ) → k ≤ t → t < l → taken t ≡ true) → Way n taken k l
  after_last : Free n taken l → ((t : ℕ) → k ≤ t → t ≤ n → taken t ≡ true) → ((t : ℕ) → 1 ≤ t → t < l → taken t ≡ true) → Way n taken k l

pub way_free : (n : ℕ) (taken : ℕ → Bool) (k l : ℕ) → Way n taken k l → Free n taken l
way_free n taken k l h = grind arith

-- Where fewer than all sections are taken, every section gives way to a free one.
pub gives_way_is : (n : ℕ) (taken : ℕ → Bool) (k : ℕ) → 1 ≤ k → count n taken < n → Way n taken k (gives_way n taken k)
unfolding gives_way free_from
gives_way_is n taken k some room = grind (arith, count_every, le-leb, leb-true, lowest_is, not-false, not-true)

-- Where the same sections are taken, the same free one is found.
free_from_ext : (n : ℕ) (f g : ℕ → Bool) (k : ℕ) → Each n (λ t. f t ≡ g t) → free_from n f k ≡ free_from n g k
unfolding free_from
free_from_ext n f g k same = grind (arith, lowest_ext)

pub gives_way_ext : (n : ℕ) (f g : ℕ → Bool) (k : ℕ) → Each n (λ t. f t ≡ g t) → gives_way n f k ≡ gives_way n g k
unfolding gives_way
gives_way_ext n f g k same = grind (arith, free_from_ext)
