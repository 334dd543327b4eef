-- `FormedLine::some_above_2` tests cause 6: the law of the fields, at the table's entry.
use Rattle.line_checks.proofs.Fields.{above_fields}
use Rattle.line_checks.proofs.FormedLine.some_above_2.Goals as goal

pub returns : goal.returns
returns c =
    let a = c.args in
    rw (c.is_state.ensures, c.is_state-2.ensures) (above_fields a.self.line a.self.entry a.self.of_kind)
