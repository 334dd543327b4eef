-- The open moves by the last i of the open elements are there (`Filling`).
use Rattle.setting_safety.proofs.Filling.{Filling}
use Rattle.setting_safety.proofs.fill.Given as goal

abbrev pub invariant-loop-i : goal.invariant-loop-i
invariant-loop-i l = Filling l.masks l.q l.n l.enabled l.i
