-- `flat_shorter` tells which of two paths is the shorter: by cases on their lengths.
use mathlib.Core.Path.{◌≡◌, refl}
use mathlib.Core.Bool.{Bool, true, false, cond}
use mathlib.Core.List.{List}
use Prim.Native.Nat.{ℕ, ◌≤◌, ◌<◌}
use native.Mathlib.Omega.{arith}
use lib.Dec.{eqb, ltb}
use lib.ListN.{length, take, drop, take-append-drop}
use lib.Seq.{take-append_seam}
use borrow.Author.Tests.{ltb-true}
use Rattle.meaning.specs.Shorter.{shorter_of}
use Rattle.c_layout.specs.declared.FlatPart.{FlatPart}
use Rattle.c_layout.specs.Flat.{flat_shorter}

module _ (p q : List ℕ) where
  -- What is shorter than the first path is the second.
  pub part_second : length (shorter_of p q) < length p → flat_shorter p q ≡ record { list = 2; length = length (shorter_of p q) }
  unfolding flat_shorter shorter_of
  part_second h = go (ltb (length q) (length p)) refl
    where
      go : (t : Bool) → ltb (length q) (length p) ≡ t → flat_shorter p q ≡ record { list = 2; length = length (shorter_of p q) }
      go true e = rw e
      go false e = absurd (omega (arith, rw e at h))

  -- Where the shorter path is not shorter than the first, it is the first.
  pub part_first : length p ≤ length (shorter_of p q) → flat_shorter p q ≡ record { list = 1; length = length (shorter_of p q) }
  unfolding flat_shorter shorter_of
  part_first h = go (ltb (length q) (length p)) refl
    where
      go : (t : Bool) → ltb (length q) (length p) ≡ t → flat_shorter p q ≡ record { list = 1; length = length (shorter_of p q) }
      go true e = absurd (omega (arith, rw e at h, ltb-true (length q) (length p) e))
      go false e = rw e

take_counted : (l : List ℕ) (n : ℕ) → take (length (take n l)) l ≡ take n l
take_counted l n = rw take-append-drop at (take-append_seam (take n l) (drop n l))

-- The first numbers of the list that the part names are the shorter path.
pub part_shorter :
    (first second : List ℕ) (n m : ℕ)
    → let r : FlatPart = flat_shorter (take n first) (take m second) in
    take r.length (cond (eqb r.list 2) second first) ≡ shorter_of (take n first) (take m second)
unfolding flat_shorter shorter_of
part_shorter first second n m = go (ltb (length (take m second)) (length (take n first)))
  where
    go : (t : Bool) → take (length (cond t (take m second) (take n first))) (cond (eqb (cond t 2 1) 2) second first) ≡ cond t (take m second) (take n first)
    go true = take_counted second m
    go false = take_counted first n
