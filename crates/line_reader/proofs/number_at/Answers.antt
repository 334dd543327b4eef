-- `line_reader::number_at` meets its contract.
use Rattle.std.proofs.Common.{◌∙◌}
use Rattle.line_reader.proofs.Fields.{part_there}
use Rattle.line_reader.proofs.number_at.Goals as goal

pub returns : goal.returns
returns c = c.number_of.ensures ∙ part_there c.args.form c.args.file.now _ c.args.at c.in_ok-first_chunk.ensures.cases.same
