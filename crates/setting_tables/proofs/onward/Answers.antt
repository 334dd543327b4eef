use Rattle.std.proofs.Common.{◌∙◌, arith}
use lib.ListN.{length-set}
use Rattle.setting_tables.proofs.WaysBack.{onward_turn}
use Rattle.setting_tables.proofs.onward.Goals as goal

pub loop-d-preserved : goal.loop-d-preserved
loop-d-preserved c = let i = c.loop-d.invariant in (length-set _ _ _ ∙ i.0, onward_turn (omega (arith, i.0)) c.row_onward.ensures i.1)
