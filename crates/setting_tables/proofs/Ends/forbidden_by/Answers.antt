-- One answer for each kind and state.
use mir.Syntax.{w64}
use mir.Val.{Fits}
use borrow.Author.Rules.{rules}
use Rattle.setting_tables.proofs.Selecting.{signal_selects_none, signal_selects, straight_selects, diverted_selects, legs_select}
use Rattle.setting_tables.proofs.Ends.forbidden_by.Goals as goal

pub returns-then-state-eq1 : goal.returns-then-state-eq1
returns-then-state-eq1 c = signal_selects_none c.in-Signal.is c.if-state-eq1.true

pub returns-then-state-eq1-2 : goal.returns-then-state-eq1-2
returns-then-state-eq1-2 c =
    let fit : Fits w64 c.between-first.result = search rules in
    straight_selects c.in-Turnout.is c.between-first.ensures c.between-second.ensures c.if-state-eq1-2.true fit.fits

pub returns-then-state-eq2 : goal.returns-then-state-eq2
returns-then-state-eq2 c =
    let fit : Fits w64 c.between-second.result = search rules in
    diverted_selects c.in-Turnout.is c.between-first.ensures c.between-second.ensures c.if-state-eq2.true fit.fits

pub returns-else-state-eq1 : goal.returns-else-state-eq1
returns-else-state-eq1 c = signal_selects c.in-Signal.is c.if-state-eq1.false (rw (c.of.ensures.0, c.of.ensures.1) at c.along.ensures)

pub returns-else-state-eq2 : goal.returns-else-state-eq2
returns-else-state-eq2 c =
    legs_select c.in-Turnout.is c.between-first.ensures c.between-second.ensures c.if-state-eq1-2.false c.if-state-eq2.false
