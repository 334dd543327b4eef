-- The words before word i are merged (`Merged`).
use lib.Bits.{bit_or}
use Rattle.reach.proofs.Laws.{Merged}
use Rattle.reach.proofs.Reach.union.Given as goal

abbrev pub invariant-loop-i : goal.invariant-loop-i
invariant-loop-i l = Merged bit_or l.initial.self.words l.other.words l.self.words l.i
