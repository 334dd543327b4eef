use native.Mathlib.Omega.{arith}
use Rattle.moves.proofs.Where.{standing_of}
use Rattle.moves.proofs.StandingFromTrain.from.Goals as goal

pub returns : goal.returns
returns c = let m = c.min.ensures in standing_of c.args.t c.min.result (omega arith) (omega arith) (λ l. omega arith)
