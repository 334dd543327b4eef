-- `FormedLine::cause` gives `line_cause`: 0 where each of the three tests fails.
use mathlib.Core.Path.{sym, ◌∙◌}
use mathlib.Mathlib.Data.Bool.Basic.{or-eq-false-eq-eq-false-and-eq-false as neither}
use borrow.Author.Tests.{ne_eqb}
use Rattle.meaning.specs.File.{line_cause}
use Rattle.line_checks.proofs.FormedLine.cause.Goals as goal

pub returns : goal.returns
unfolding line_cause
returns c =
    let all = (neither _ _).0 c.if-some_outside-some_twice.false in
    let first = (neither _ _).0 all.0 in
    simp (ne_eqb _ _ c.args.self.formed, sym c.some_outside.ensures ∙ first.0, sym c.some_twice.ensures ∙ first.1, sym c.some_above_2.ensures ∙ all.1)
