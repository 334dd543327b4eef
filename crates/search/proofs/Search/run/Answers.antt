use Rattle.search.proofs.Whole.{searching_start, searching_turn, searching_end}
use Rattle.search.proofs.Search.run.Goals as goal

pub loop-head-init : goal.loop-head-init
loop-head-init c = searching_start _ _ _ _ _ _ c.begin-found.ensures

pub loop-head-preserved : goal.loop-head-preserved
loop-head-preserved c =
    searching_turn _ _ _ _ _ _ _ _ _ _ _ c.loop-head.invariant c.loop-head-test.true c.follow-found.ensures

pub returns : goal.returns
returns c = searching_end _ _ _ _ _ _ _ c.loop-head.invariant c.loop-head-test.false
