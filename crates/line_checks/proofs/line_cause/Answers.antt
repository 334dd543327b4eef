-- `line_checks::line_cause` gives `line_cause`: a malformed line has cause 2, and any other is tested by the entry of its kind.
use borrow.Author.Tests.{eq-eqb}
use Rattle.meaning.specs.File.{line_cause}
use Rattle.line_checks.proofs.line_cause.Goals as goal

pub returns-then-l-eq-MALFORMED : goal.returns-then-l-eq-MALFORMED
unfolding line_cause
returns-then-l-eq-MALFORMED c = simp (eq-eqb _ _ c.if-l-eq-MALFORMED.true)
