-- `line_writer::put_row_of` meets its contract: the bytes of the line are stored in its place.
use Rattle.meaning.proofs.Columns.{row-length}
use Rattle.line_writer.proofs.Splice.{part_stored}
use Rattle.line_writer.proofs.put_row_of.Goals as goal

pub returns-clause-text : goal.returns-clause-text
returns-clause-text g c = rw (c.put_fields.ensures.text, c.offset-at.ensures) (part_stored _ _ _ c.requires.room (row-length _ _ _ _ _ _))
