-- `line_writer::put_fields` meets its contract. The invariant: k fields of the row are stored and counted, and the others are blank.
use Rattle.line_writer.proofs.Splice.{Filled}
use Rattle.line_writer.proofs.put_fields.Given as goal

abbrev pub invariant-loop-k : goal.invariant-loop-k
invariant-loop-k g l = Filled l.letter l.numbers l.line l.count l.k
