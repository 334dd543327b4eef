use Rattle.setting_order.proofs.Doubling.{Doubling}
use Rattle.setting_order.proofs.double.Given as goal

abbrev pub invariant-loop-x : goal.invariant-loop-x
invariant-loop-x g l = Doubling (goal.F-post g l.one) (goal.G-post g l.two) l.half l.initial.table l.table l.x
