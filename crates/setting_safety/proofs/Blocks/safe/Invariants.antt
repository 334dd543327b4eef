-- The trains so far are judged (`Judged`).
use Rattle.setting_safety.proofs.Judging.{Judged}
use Rattle.setting_safety.proofs.Blocks.safe.Given as goal

abbrev pub invariant-loop-t : goal.invariant-loop-t
invariant-loop-t l = Judged l.tables l.self l.z l.t-iterator.0 l.good l.earlier
