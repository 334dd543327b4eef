-- `reader::first_line` goes by the letter that the table has for a U line.
use mathlib.Core.Path.{sym, ap, ◌∙◌}
use borrow.Author.Tests.{eq-eqb, ne_eqb}
use Rattle.std.specs.Prelude.{Option}
use Rattle.meaning.specs.declared.StationField.{StationField}
use Rattle.meaning.specs.declared.RecordKind.{RecordKind}
use Rattle.meaning.specs.Columns.{record_kind_at}
use Rattle.reader.proofs.first_line.Goals as goal

pub returns-then-letter-u-clause-line : goal.returns-then-letter-u-clause-line
unfolding record_kind_at
returns-then-letter-u-clause-line c =
    let letter = ap (λ (e : RecordKind (Option StationField)). e.letter) c.record_kind-u.ensures in
    c.line.ensures.line ∙ sym (simp (eq-eqb _ _ (sym c.byte_at-letter.ensures ∙ c.if-letter-u.true ∙ letter)))

pub returns-clause-line : goal.returns-clause-line
unfolding record_kind_at
returns-clause-line c =
    let letter = ap (λ (e : RecordKind (Option StationField)). e.letter) c.record_kind-u.ensures in
    c.line-2.ensures.line ∙ sym (simp (ne_eqb _ _ (λ z. c.if-letter-u.false (c.byte_at-letter.ensures ∙ z ∙ sym letter))))
