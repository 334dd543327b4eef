-- Where the five bytes give a number, it is the field's.
use Rattle.std.proofs.Common.{sym, ◌∙◌}
use Rattle.answers.proofs.Reading.{long_is}
use Rattle.answers.proofs.number_at.Goals as goal

pub returns-then-is_some : goal.returns-then-is_some
returns-then-is_some c = long_is c.args.log.now c.args.at c.long_number-long.ensures (sym c.is_some.ensures ∙ c.if-is_some.true)
