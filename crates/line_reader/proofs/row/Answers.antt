-- `line_reader::row` meets its contract: a line that runs past the end is none, and any other is what `line_as` gives.
use Rattle.std.proofs.Common.{◌∙◌}
use Rattle.line_reader.proofs.Fields.{row_cut, row_there}
use Rattle.line_reader.proofs.row.Goals as goal

pub returns-in_err-bytes_of-clause-line : goal.returns-in_err-bytes_of-clause-line
returns-in_err-bytes_of-clause-line c = rw c.from_residual.ensures (row_cut _ _ _ _ _ _ c.in_err-bytes_of.ensures)

pub returns-clause-line : goal.returns-clause-line
returns-clause-line c = c.line_as.ensures.line ∙ row_there _ _ _ _ c.in_ok-bytes_of.ensures.1 _ _ _
