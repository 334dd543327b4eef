-- `Body::element_kind` goes by the letter that the table has for a signal.
use mathlib.Core.Path.{sym, ap, ◌∙◌}
use borrow.Author.Tests.{eq-eqb, ne_eqb}
use Rattle.std.specs.Prelude.{Option}
use Rattle.meaning.specs.declared.StationField.{StationField}
use Rattle.meaning.specs.declared.RecordKind.{RecordKind}
use Rattle.meaning.specs.Columns.{record_kind_at}
use Rattle.reader.proofs.Body.element_kind.Goals as goal

pub returns-then-letter-signal : goal.returns-then-letter-signal
unfolding record_kind_at
returns-then-letter-signal c =
    let letter = ap (λ (e : RecordKind (Option StationField)). e.letter) c.record_kind-signal.ensures in
    sym (simp (eq-eqb _ _ (sym (rw c.offset.ensures at c.byte_at-letter.ensures) ∙ c.if-letter-signal.true ∙ letter)))

pub returns-else-letter-signal : goal.returns-else-letter-signal
unfolding record_kind_at
returns-else-letter-signal c =
    let letter = ap (λ (e : RecordKind (Option StationField)). e.letter) c.record_kind-signal.ensures in
    sym (simp (ne_eqb _ _ (λ z. c.if-letter-signal.false ((rw c.offset.ensures at c.byte_at-letter.ensures) ∙ z ∙ sym letter))))
