-- `report::join` meets its contract. The invariant: keys before i are as they were, and from j on are those from i on, joined.
use Rattle.report.proofs.Joining.{Joined}
use Rattle.report.proofs.join.Given as goal

abbrev pub invariant-loop-i : goal.invariant-loop-i
invariant-loop-i l = Joined l.initial.keys l.keys l.i l.j
