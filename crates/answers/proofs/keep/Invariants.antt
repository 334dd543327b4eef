-- `answers::keep` meets its contract. The invariant: what was moved, and what is picked of the rest, are all that is picked.
use Rattle.answers.proofs.Scans.{Kept}
use Rattle.answers.proofs.keep.Given as goal

abbrev pub invariant-loop-i : goal.invariant-loop-i
invariant-loop-i l = Kept l.initial.keys l.keys l.i l.k
