-- `FormedLine::first_cause` gives `line_cause` of a line of the table: its tests are those of the definition, in the same order.
use mathlib.Core.Path.{sym, ◌∙◌}
use borrow.Author.Tests.{ne_eqb}
use Rattle.meaning.specs.File.{line_cause}
use Rattle.line_checks.proofs.FormedLine.first_cause.Goals as goal

pub returns-then-some_outside : goal.returns-then-some_outside
unfolding line_cause
returns-then-some_outside c = simp (ne_eqb _ _ c.args.self.formed, sym c.some_outside.ensures ∙ c.if-some_outside.true)

pub returns-then-twice : goal.returns-then-twice
unfolding line_cause
returns-then-twice c = simp (ne_eqb _ _ c.args.self.formed, sym c.some_outside.ensures ∙ c.if-some_outside.false, sym c.some_twice-twice.ensures ∙ c.if-twice.true)

pub returns-then-above : goal.returns-then-above
unfolding line_cause
returns-then-above c =
    simp (ne_eqb _ _ c.args.self.formed, sym c.some_outside.ensures ∙ c.if-some_outside.false, sym c.some_twice-twice.ensures ∙ c.if-twice.false, sym c.some_above_2-above.ensures ∙ c.if-above.true)

pub returns : goal.returns
unfolding line_cause
returns c =
    simp (ne_eqb _ _ c.args.self.formed, sym c.some_outside.ensures ∙ c.if-some_outside.false, sym c.some_twice-twice.ensures ∙ c.if-twice.false, sym c.some_above_2-above.ensures ∙ c.if-above.false)
