-- `line_writer::put_refusal` meets its contract: an R line's numbers have at most five digits.
use Rattle.std.proofs.Common.{refl, ◌≤◌, arith}
use Rattle.line_writer.proofs.Splice.{row_output}
use Rattle.line_writer.proofs.put_refusal.Goals as goal

pub returns-clause-output : goal.returns-clause-output
returns-clause-output c =
    let number : c.args.q.number ≤ 99999 = grind (arith, c.q.view_is, c.number.ensures, c.number.type_inv) in
    let line : c.args.q.line ≤ 99999 = omega arith in
    row_output 82 2 c.args.q.number c.args.q.line 0 0 refl number line (omega arith) (omega arith) (grind (arith, c.put_row-subtractions.ensures.count, c.q.view_is, c.number.ensures, c.from.ensures, c.from-2.ensures))
