use Rattle.setting_safety.proofs.Following.{empty_none}
use Rattle.setting_safety.proofs.Judging.{judged_start, judged_turn, judged_none, judged_end}
use Rattle.setting_safety.proofs.Blocks.safe.Goals as goal

pub loop-t-init : goal.loop-t-init
loop-t-init c = rw c.into_iter-t-iterator.ensures.into_iter_gives (judged_start _ _ _ empty_none)

pub dangers-requires : goal.dangers-requires
dangers-requires c = (c.follow.ensures.listed, c.loop-t.invariant.listed)

pub loop-t-preserved : goal.loop-t-preserved
loop-t-preserved c =
    judged_turn _ _ _ c.loop-t.invariant c.in-Some.ensures.steps c.follow.ensures c.dangers.ensures c.loop-t.auto.good-fits.fits c.dangers.type_inv c.join.ensures

pub follow-requires-clause-none : goal.follow-requires-clause-none
follow-requires-clause-none c = empty_none

pub returns-then-good-eq0 : goal.returns-then-good-eq0
returns-then-good-eq0 c =
    judged_none _ _ _ c.loop-t.invariant c.in-Some.ensures.steps c.follow.ensures c.dangers.ensures c.loop-t.auto.good-fits.fits c.dangers.type_inv
    c.if-good-eq0.true

pub returns : goal.returns
returns c = judged_end _ _ _ c.loop-t.invariant c.in-None.ensures.steps.0
