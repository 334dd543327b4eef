use mathlib.Core.Path.{refl}
use Rattle.meaning.specs.Station.{elements_of}
use Rattle.moves.proofs.elements.Goals as goal

pub returns : goal.returns
unfolding elements_of
returns c = rw c.from.ensures refl
