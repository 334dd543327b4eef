-- `FormedLine::some_twice` tests cause 7: the law of the fields, at the table's entry.
use Rattle.line_checks.proofs.Fields.{twice_fields}
use Rattle.line_checks.proofs.FormedLine.some_twice.Goals as goal

pub returns : goal.returns
returns c =
    let a = c.args in
    rw (c.is_section.ensures, c.is_section-2.ensures, c.is_section-3.ensures) (twice_fields a.self.line a.self.entry a.self.of_kind)
