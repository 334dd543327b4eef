use Rattle.std.proofs.Common.{◌≡◌, length, rules}
use Rattle.setting_tables.proofs.Leaving.{leaving}
use Rattle.setting_tables.proofs.Ends.leaving.Goals as goal

pub returns : goal.returns
returns c = λ f ix. let size : length c.args.set.words ≡ 8 = search rules in leaving ix size c.over.ensures
