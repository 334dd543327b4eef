use Rattle.bits.proofs.Bits.{one_shl}
use Rattle.setting_safety.proofs.Meetings.{sorting_start, sorting_wide, sorting_few, sorting_end}
use Rattle.setting_safety.proofs.put_by_section.Goals as goal

pub loop-e-init : goal.loop-e-init
loop-e-init c = rw c.into_iter-e-iterator.ensures.into_iter_gives (sorting_start c.requires.none)

pub loop-e-preserved : goal.loop-e-preserved
loop-e-preserved c = sorting_few c.in-Some.ensures.steps c.loop-e.invariant c.add.ensures

pub loop-e-preserved-then-size-gt-FEW : goal.loop-e-preserved-then-size-gt-FEW
loop-e-preserved-then-size-gt-FEW c = let l = c.in-Some.ensures.steps in sorting_wide l c.loop-e.invariant (one_shl _ l.within)

pub returns : goal.returns
returns c = sorting_end c.in-None.ensures.steps.0 c.loop-e.invariant
