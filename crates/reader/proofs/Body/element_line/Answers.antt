-- `Body::element_line` reads the line of the letter's kind, and its cause after the lines before.
use mathlib.Core.Path.{sym, ap, ◌∙◌}
use Rattle.meaning.specs.Columns.{padded, line_at}
use Rattle.std.proofs.lemmas.Result.{err_from_is_err_and}
use Rattle.line_checks.proofs.Causes.{line_of_kind, malformed_checked}
use Rattle.reader.proofs.Steps.{other_kind}
use borrow.Author.Rules.{rules}
use Rattle.reader.proofs.Body.element_line.Goals as goal

pub returns-in_err-l-clause-cause : goal.returns-in_err-l-clause-cause
returns-in_err-l-clause-cause c =
    let p = err_from_is_err_and c.from_residual.result c.from_residual.ensures.1 in
    rw (p.1, p.2, c.in_err-l.ensures.0)
    (malformed_checked _ _ (c.in_err-l.ensures.1 ∙ ap (line_at padded c.args.self.now.file.now c.args.i) (sym c.if-element_kind-eq-SIGNAL.true ∙ c.element_kind.ensures)))

pub cause_after-requires : goal.cause_after-requires
cause_after-requires c = (line_of_kind _ _ _ 2 _ c.in_ok-l.ensures, search rules)

pub returns-in_err-l-2-clause-cause : goal.returns-in_err-l-2-clause-cause
returns-in_err-l-2-clause-cause c =
    let p = err_from_is_err_and c.from_residual-in_err-l-2.result c.from_residual-in_err-l-2.ensures.1 in
    rw (p.1, p.2, c.in_err-l-2.ensures.0)
    (malformed_checked _ _ (c.in_err-l-2.ensures.1 ∙ ap (line_at padded c.args.self.now.file.now c.args.i) (other_kind _ (λ e. c.if-element_kind-eq-SIGNAL.false (c.element_kind.ensures ∙ e)))))

pub cause_after-requires-2 : goal.cause_after-requires-2
cause_after-requires-2 c = (line_of_kind _ _ _ 3 _ c.in_ok-l-2.ensures, search rules)
