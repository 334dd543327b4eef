-- `answers::first_repeat` meets its contract. The invariant: the first repeat so far, and that from the key before i on, are the first of all.
use Rattle.answers.proofs.Scans.{Scanned}
use Rattle.answers.proofs.first_repeat.Given as goal

abbrev pub invariant-loop-i : goal.invariant-loop-i
invariant-loop-i l = Scanned l.keys l.first l.i
