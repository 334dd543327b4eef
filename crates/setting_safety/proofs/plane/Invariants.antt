-- The bits by the last i of the open elements are there (`Plane`).
use Rattle.setting_safety.proofs.Planes.{Plane}
use Rattle.setting_safety.proofs.plane.Given as goal

abbrev pub invariant-loop-i : goal.invariant-loop-i
invariant-loop-i l = Plane l.masks l.q l.n l.e l.plane l.i
