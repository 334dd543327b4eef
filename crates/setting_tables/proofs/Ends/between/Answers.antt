use Rattle.setting_tables.proofs.Selecting.{between_selects}
use Rattle.setting_tables.proofs.Ends.between.Goals as goal

pub returns : goal.returns
returns c = between_selects c.args.p.from c.args.p.to c.along.ensures (rw (c.back.ensures.0, c.back.ensures.1) at c.along-2.ensures)
