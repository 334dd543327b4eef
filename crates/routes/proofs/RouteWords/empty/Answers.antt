use mathlib.Core.Path.{refl}
use Rattle.routes.proofs.Words.{held_start}
use Rattle.routes.proofs.RouteWords.empty.Goals as goal

pub returns : goal.returns
returns c = held_start _ refl refl refl
