-- `line_checks::admit_turnout` tests the four pairs of a turnout, and adds them.
use mathlib.Core.Path.{sym, ap₂, ◌∙◌}
use mathlib.Core.Bool.{◌||◌}
use mathlib.Core.List.{◌++◌}
use Rattle.meaning.specs.Station.{both_ways}
use Rattle.pairs.proofs.Gains.{gains_both}
use Rattle.line_checks.proofs.Causes.{admitted_seen, admitted_new, turnout_in}
use Rattle.line_checks.proofs.admit_turnout.Goals as goal

pub returns-then-has_either : goal.returns-then-has_either
returns-then-has_either c =
    let a = c.args in
    admitted_seen (both_ways a.straight.from a.straight.to ++ both_ways a.diverted.from a.diverted.to) _
    (turnout_in a.seen.now.rows a.straight.from a.straight.to a.diverted.from a.diverted.to
    ∙ sym (ap₂ ◌||◌ c.has_either.ensures c.has_either-2.ensures) ∙ c.if-has_either.true)

pub returns : goal.returns
returns c =
    let a = c.args in
    admitted_new (both_ways a.straight.from a.straight.to ++ both_ways a.diverted.from a.diverted.to) _ _
    (turnout_in a.seen.now.rows a.straight.from a.straight.to a.diverted.from a.diverted.to
    ∙ sym (ap₂ ◌||◌ c.has_either.ensures c.has_either-2.ensures) ∙ c.if-has_either.false)
    (gains_both _ _ _ (both_ways a.straight.from a.straight.to) (both_ways a.diverted.from a.diverted.to)
    c.add_both_ways.ensures c.add_both_ways-2.ensures)
