-- `line_reader::line` meets its contract: the entry is that of the definition.
use Rattle.std.proofs.Common.{ap, ◌∙◌}
use Rattle.std.specs.Prelude.{Option}
use Rattle.meaning.specs.declared.StationField.{StationField}
use Rattle.meaning.specs.declared.RecordKind.{RecordKind}
use Rattle.meaning.specs.Columns.{row_at}
use Rattle.line_reader.proofs.Fields.{line_row}
use Rattle.line_reader.proofs.line.Goals as goal

pub returns-clause-line : goal.returns-clause-line
returns-clause-line c =
    let a = c.args in
    c.row.ensures.line
    ∙ ap (λ (e : RecordKind (Option StationField)). row_at a.form a.file.now a.i a.k e.letter e.filled) c.record_kind-e.ensures
    ∙ line_row a.form a.file.now a.i a.k
