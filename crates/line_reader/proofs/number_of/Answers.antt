-- `line_reader::number_of` meets its contract: where the three bytes after two spaces give a number, it is the
-- field's in both forms; where those after two zeros give one, in the padded form.
use Rattle.std.proofs.Common.{◌∙◌, sym}
use Rattle.line_reader.proofs.Fields.{short_in_both, five_padded}
use Rattle.line_reader.proofs.number_of.Goals as goal

pub returns-then-is_some : goal.returns-then-is_some
returns-then-is_some c =
    short_in_both c.args.form c.args.cell.now 0 c.fits-cell (sym c.from_le_bytes.ensures ∙ c.if-from_le_bytes.true ∙ c.from_le_bytes-2.ensures) c.short_number-n.ensures
    (sym c.is_some.ensures ∙ c.if-is_some.true)

pub returns-then-is_some-2 : goal.returns-then-is_some-2
returns-then-is_some-2 c = five_padded c.in-Padded.is c.args.cell.now c.after_zeros-n.ensures (sym c.is_some-in-Padded.ensures ∙ c.if-is_some-2.true)
