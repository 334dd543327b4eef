-- What is required of a situation that is judged.
use Rattle.std.specs.Prelude.{◌≡◌, true}
use Rattle.meaning.specs.declared.Situation.{Situation}
use Rattle.meaning.specs.Inside.{in_station}
use Rattle.meaning.specs.File.{Limits}

-- What holds of the situation of an accepted file, as far as its verdict and settings need it.
pub record Sound (s : Situation) : Type 0 where
  pub inside : in_station s ≡ true
  pub limits : Limits s.header
