use Rattle.setting_tables.proofs.Selecting.{along_selects}
use Rattle.setting_tables.proofs.Ends.along.Goals as goal

pub returns : goal.returns
returns c =
    let p = c.args.p in
    rw (c.from.ensures, c.from-2.ensures) (along_selects p.from p.to p.are_sections.0.1 p.are_sections.1.1)
