-- `setting_order::put_setting` meets its contract: the loop is `Put`, and each way through its body is a law of it.
use Rattle.setting_order.proofs.Put.{Put}
use Rattle.setting_order.proofs.put_setting.Given as goal

abbrev pub invariant-loop-i : goal.invariant-loop-i
invariant-loop-i l = Put l.states l.x l.initial.out l.out l.p l.place l.i
