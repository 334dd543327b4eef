-- `FormedLine::some_outside` tests cause 5: the law of the fields, at the table's entry.
use Rattle.line_checks.proofs.Fields.{outside-fields}
use Rattle.line_checks.proofs.FormedLine.some_outside.Goals as goal

pub returns : goal.returns
returns c =
    let a = c.args in
    rw (c.from-n.ensures, c.is_section.ensures, c.is_section-2.ensures, c.is_section-3.ensures, c.is_section-4.ensures)
    (outside-fields a.self.line a.self.entry a.self.of_kind a.sections)
