-- The first line, then the parts, each behind the one before it.
use Rattle.std.proofs.Common.{◌≡◌, sym, ◌∙◌, ◌+◌, length, arith}
use Rattle.meaning.proofs.Places.{written_header}
use Rattle.meaning.specs.File.{line_count, file_text, written_line}
use Rattle.writer.specs.InRange.{situation_of}
use Rattle.writer.proofs.Parts.{has_plain, has_elements, has_trains}
use Rattle.writer.proofs.Text.{begun_first}
use Rattle.writer.proofs.InRange.put.Goals as goal

pub returns : goal.returns
unfolding file_text
returns c =
    let s = situation_of c.args.self.now in
    let lines = written_line s in
    let b = c.args.buffer.now in
    let header = c.line_of_header.ensures.line ∙ sym (written_header s) in
    let first = begun_first lines b _ _ (omega arith) header c.put_line.ensures.text (c.put_line.ensures.count c.line_of_header.ensures.fits) in
    let plain = c.put_part.ensures.stored lines (has_plain s c.plain-plain.ensures) b _ first in
    let elements = c.put_part-2.ensures.stored lines (has_elements s (omega arith) c.elements-elements.ensures) b _ plain in
    let trains = c.put_part-3.ensures.stored lines (has_trains s (omega arith) c.trains.ensures) b _ elements in
    let n : line_count s.header ≡ 1 + length c.plain-plain.result.now + length c.elements-elements.result.now + length c.trains.result.now = omega arith in
    record { text = rw n trains.text; count = rw n trains.counted }
