-- The sections that the lines of a situation name, and whether they are the station's.
use mathlib.Core.Bool.{Bool, true, ◌&&◌}
use mathlib.Core.List.{List, [], ◌∷◌, ◌++◌}
use Prim.Native.Nat.{ℕ, ◌≤◌}
use lib.Dec.{leb}
use Rattle.meaning.specs.declared.Section.{Section}
use Rattle.meaning.specs.declared.Move.{Move}
use Rattle.meaning.specs.declared.Kind.{Kind}
use Rattle.meaning.specs.declared.Kind.TheVariants as kind
use Rattle.meaning.specs.declared.Element.{Element}
use Rattle.meaning.specs.declared.Train.{Train}
use Rattle.meaning.specs.declared.Situation.{Situation}
use Rattle.meaning.specs.Station.{plain_moves, elements_of, trains_of, sections_of_train}

abbrev pub sections_of : Kind → List Section
sections_of (kind.Signal m) = m.from ∷ m.to ∷ []
sections_of (kind.Turnout t) = t.stem ∷ t.straight ∷ t.diverted ∷ []

unfoldable pub sections_named : List Move → List Element → List Section → List Section
sections_named [] [] ts = ts
sections_named [] (e ∷ es) ts = sections_of e.kind ++ sections_named [] es ts
sections_named (m ∷ ms) es ts = m.from ∷ m.to ∷ sections_named ms es ts

-- The sections of the T lines, in their order.
unfoldable pub sections_of_trains : List Train → List Section
unfolding sections_of_train
sections_of_trains [] = []
sections_of_trains (t ∷ ts) = sections_of_train t ++ sections_of_trains ts

-- Each section of the list is from 1 to n.
unfoldable pub all_inside : ℕ → List Section → Bool
all_inside n [] = true
all_inside n (a ∷ l) = (leb 1 a.0 && leb a.0 n) && all_inside n l

-- No line has "a section number outside 1 to the number of sections": cause 5 is absent.
unfoldable pub in_station : Situation → Bool
unfolding all_inside sections_named plain_moves elements_of trains_of sections_of_trains
in_station s = all_inside s.header.sections (sections_named (plain_moves s) (elements_of s) (sections_of_trains (trains_of s)))

-- Section number a is from 1 to n.
abbrev pub Inside : ℕ → ℕ → Type 0
Inside n a = (1 ≤ a) × (a ≤ n)
