use Rattle.std.proofs.Common.{refl}
use borrow.Author.Tests.{eq-eqb, ne_eqb}
use Rattle.bits.proofs.Bits.{shift_mask}
use Rattle.setting_safety.proofs.if_left.Goals as goal

pub returns-then-mask-e-eq1 : goal.returns-then-mask-e-eq1
returns-then-mask-e-eq1 c = rw (← shift_mask c.args.mask c.args.e, eq-eqb _ 1 c.if-mask-e-eq1.true) refl

pub returns-else-mask-e-eq1 : goal.returns-else-mask-e-eq1
returns-else-mask-e-eq1 c = rw (← shift_mask c.args.mask c.args.e, ne_eqb _ 1 c.if-mask-e-eq1.false) refl
