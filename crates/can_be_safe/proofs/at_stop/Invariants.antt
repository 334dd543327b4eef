-- `can_be_safe::at_stop`: the first k elements are at stop (`Stopping`).
use Rattle.can_be_safe.proofs.Stopping.{Stopping}
use Rattle.can_be_safe.proofs.at_stop.Given as goal

abbrev pub invariant-loop-k : goal.invariant-loop-k
invariant-loop-k l = Stopping l.s.situation l.situation l.k
