-- "One operation hands back the shorter of two lent paths, the first where they are equally long." A path is the first n numbers of its
-- list; a length above the list means the whole list.
use Rattle.std.specs.Prelude.{cond, List, ℕ, ltb, length}

unfoldable pub shorter_of : List ℕ → List ℕ → List ℕ
shorter_of p q = cond (ltb (length q) (length p)) q p
