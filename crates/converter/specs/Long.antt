-- A train in more than one section.
use Rattle.std.specs.Prelude.{Bool, ltb}
use Rattle.meaning.specs.declared.Train.{Train}

abbrev pub is_long : Train → Bool
is_long t = ltb 1 t.count
