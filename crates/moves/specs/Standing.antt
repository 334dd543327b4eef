-- Where a train stands, as numbers.
use Rattle.std.specs.Prelude.{List, map, ℕ}
use Rattle.meaning.specs.declared.Section.{Section}
use Rattle.meaning.specs.declared.Train.{Train}
use Rattle.meaning.specs.Station.{sections_of_train}

-- The numbers of a train's sections.
abbrev pub places_of : Train → List ℕ
places_of t = map (λ (a : Section). a.0) (sections_of_train t)
