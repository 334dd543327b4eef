-- The words before word i are merged (`Merged`).
use lib.Bits.{bit_xor}
use Rattle.reach.proofs.Laws.{Merged}
use Rattle.setting_safety.proofs.without.Given as goal

abbrev pub invariant-loop-i : goal.invariant-loop-i
invariant-loop-i l = Merged bit_xor l.initial.set.words l.part.words l.set.words l.i
