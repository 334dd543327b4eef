use Rattle.setting_tables.proofs.Noting.{none_noted}
use Rattle.setting_tables.proofs.Ends.empty.Goals as goal

pub returns : goal.returns
returns c = λ f. none_noted c.empty.ensures
