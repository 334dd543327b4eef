-- `Body::train_line` reads the line of the letter's kind, and its cause.
use Rattle.std.proofs.lemmas.Result.{err_from_is_err_and}
use Rattle.line_reader.proofs.Fields.{line_or_error}
use Rattle.line_checks.proofs.Causes.{line_of_kind, malformed_cause}
use Rattle.reader.proofs.Body.train_line.Goals as goal

pub returns-in_err-l-in-S-clause-cause : goal.returns-in_err-l-in-S-clause-cause
returns-in_err-l-in-S-clause-cause c =
    let p = err_from_is_err_and c.from_residual.result c.from_residual.ensures.1 in
    rw (p.1, p.2, c.in_err-l-in-S.ensures.0, c.in-S.is) (malformed_cause _ c.in_err-l-in-S.ensures.1)

pub line_cause-requires : goal.line_cause-requires
line_cause-requires c = line_of_kind _ _ _ _ _ c.in_ok-l-in-S.ensures

pub returns-in_err-l-in-U-clause-cause : goal.returns-in_err-l-in-U-clause-cause
returns-in_err-l-in-U-clause-cause c =
    let p = err_from_is_err_and c.from_residual-in_err-l-in-U.result c.from_residual-in_err-l-in-U.ensures.1 in
    let m = line_or_error _ _ c.long_line.ensures c.in_err-l-in-U.ensures.value in
    rw (p.1, p.2, m.0, c.in-U.is) (malformed_cause _ m.1)
