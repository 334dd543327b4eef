-- `line_reader::is_blank` meets its contract: the first four bytes, as one number, are four spaces, and the fifth is one.
use Rattle.line_reader.proofs.Fields.{blank_word}
use Rattle.line_reader.proofs.is_blank.Goals as goal

pub returns : goal.returns
returns c = λ form.
    rw (c.from_le_bytes-four.ensures, c.from_le_bytes.ensures)
    (blank_word form c.args.cell.now 0 c.fits-cell)
