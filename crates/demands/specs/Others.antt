-- A sentence of document 01 that no demand has: the shorter path.
use Rattle.std.specs.Prelude.{◌≡◌, List, ℕ, ◌≤◌, ◌<◌, length, take}
use Rattle.c_layout.specs.declared.FlatPart.{FlatPart}

-- "One operation hands back the shorter of two lent paths, the first where they are equally long": the first n numbers of `first` and the
-- first m of `second`, all of them where there are fewer. r says which list, 1 or 2, and how many of its first numbers.
pub data DemandShorter (first : List ℕ) (n : ℕ) (second : List ℕ) (m : ℕ) (r : FlatPart) : Type 0 where
  hands_first : r ≡ record { list = 1; length = length (take n first) } → length (take n first) ≤ length (take m second) → DemandShorter first n second m r
  hands_second : r ≡ record { list = 2; length = length (take m second) } → length (take m second) < length (take n first) → DemandShorter first n second m r
