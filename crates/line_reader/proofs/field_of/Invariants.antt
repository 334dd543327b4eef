-- `line_reader::field_of` meets its contract: f is what the bytes so far give.
use mathlib.Core.Path.{◌≡◌}
use Rattle.meaning.specs.Columns.{front}
use Rattle.line_reader.proofs.field_of.Given as goal

abbrev pub invariant-loop-b : goal.invariant-loop-b
invariant-loop-b l = l.f ≡ front l.form l.cell 0 l.b-index
