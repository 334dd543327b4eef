use Rattle.std.proofs.Common.{sym, ◌∙◌}
use Rattle.bits.proofs.Bits.{one_shl}
use Rattle.setting_tables.proofs.WaysBack.{among_start, among_turn, back_start, back_out}
use Rattle.setting_tables.proofs.row_onward.Goals as goal

pub loop-e-init : goal.loop-e-init
loop-e-init c = rw c.into_iter-e-iterator.ensures.into_iter_gives (among_start _ _, back_start)

pub loop-e-preserved-then-has : goal.loop-e-preserved-then-has
loop-e-preserved-then-has c =
    let l = c.in-Some.ensures.steps in
    (among_turn l c.loop-e.invariant.0, back_out c.loop-e.auto.exits-fits.fits l.within (one_shl _ l.within) (sym c.at.ensures ∙ c.in-Some-at.is) (sym c.has.ensures ∙ c.if-has.true) c.loop-e.invariant.1)
