-- `line_checks::admit_pair` tests one pair and adds it.
use mathlib.Core.Path.{sym, ◌∙◌}
use mathlib.Core.Bool.{or-false}
use mathlib.Core.List.{[], ◌∷◌}
use Rattle.pairs.proofs.Gains.{gains_one}
use Rattle.line_checks.proofs.Causes.{admitted_seen, admitted_new}
use Rattle.line_checks.proofs.admit_pair.Goals as goal

pub returns-then-has : goal.returns-then-has
returns-then-has c =
    let p = c.args.p in
    admitted_seen (record { from = p.from; to = p.to } ∷ []) _ (or-false _ ∙ sym c.has.ensures ∙ c.if-has.true)

pub returns : goal.returns
returns c =
    let p = c.args.p in
    admitted_new (record { from = p.from; to = p.to } ∷ []) _ _ (or-false _ ∙ sym c.has.ensures ∙ c.if-has.false)
    (gains_one _ _ (record { from = p.from; to = p.to }) c.add.ensures)
