use Rattle.std.proofs.Common.{sym, refl, ◌∙◌, arith}
use Rattle.report.proofs.Joining.{joined_none, joined_same, joined_other}
use Rattle.report.proofs.join.Goals as goal

pub loop-i-init : goal.loop-i-init
loop-i-init c = joined_none c.args.keys.now _ refl

pub loop-i-preserved-then-same_at : goal.loop-i-preserved-then-same_at
loop-i-preserved-then-same_at c = joined_same c.loop-i.invariant (omega arith) (sym c.same_at.ensures ∙ c.if-same_at.true) refl

pub loop-i-preserved : goal.loop-i-preserved
loop-i-preserved c = joined_other c.loop-i.invariant (omega arith) (sym c.same_at.ensures ∙ c.if-same_at.false) refl
