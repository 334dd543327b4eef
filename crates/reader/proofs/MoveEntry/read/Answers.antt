-- A P line that is checked fits a move.
use mathlib.Core.Path.{refl}
use Rattle.std.proofs.lemmas.Result.{err_from_is_err_and}
use Rattle.line_checks.proofs.Causes.{line_of_kind, malformed_checked}
use Rattle.reader.proofs.Steps.{plain_fits}
use Rattle.reader.proofs.MoveEntry.read.Goals as goal

pub returns-in_err-l-clause-cause : goal.returns-in_err-l-clause-cause
returns-in_err-l-clause-cause c =
    let p = err_from_is_err_and c.from_residual.result c.from_residual.ensures.1 in
    rw (p.1, p.2, c.in_err-l.ensures.0) (malformed_checked _ _ c.in_err-l.ensures.1)

pub cause_after-requires : goal.cause_after-requires
cause_after-requires c = (line_of_kind _ _ _ 1 _ c.in_ok-l.ensures, c.args.body.now.limits.sections)

pub move_of-requires : goal.move_of-requires
move_of-requires c =
    plain_fits c.args.body.now.header.sections c.args.body.now.limits.sections c.args.body.now.file.now c.args.i _
    c.in_ok-l.ensures (c.in_ok-cause_after.ensures.own refl)
