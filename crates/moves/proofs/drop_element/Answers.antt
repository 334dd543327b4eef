-- The pairs that `forbids` says are removed: one answer for each kind and state.
use mathlib.Core.Logic.{inl, inr}
use Rattle.meaning.specs.Station.{both_ways}
use Rattle.moves.proofs.Loses.{loses_same, loses_none, loses_one, loses_append, signal_free, signal_forbids, forbids_diverted, forbids_straight, joined_free, forbids-both}
use Rattle.moves.proofs.drop_element.Goals as goal

pub returns-then-x-ne1 : goal.returns-then-x-ne1
returns-then-x-ne1 c =
    let m = c.in-Signal.m in
    loses_same _ _ _ _ (λ a b. signal_forbids a b _ m _ c.in-Signal.is c.if-x-ne1.true) (loses_one _ _ m (rw (c.of.ensures.0, c.of.ensures.1) at c.remove.ensures))

pub returns-else-x-ne1 : goal.returns-else-x-ne1
returns-else-x-ne1 c = loses_none _ _ (λ a b. signal_free a b _ c.in-Signal.m _ c.in-Signal.is c.if-x-ne1.false)

pub returns-then-t : goal.returns-then-t
returns-then-t c =
    loses_same _ _ _ _ (λ a b. forbids_diverted a b _ c.in-Turnout.t _ c.in-Turnout.is c.if-x-eq1.true c.if-t.true) c.drop_both_ways.ensures

pub returns-else-t : goal.returns-else-t
returns-else-t c =
    loses_none _ _ (λ a b. joined_free a b _ c.in-Turnout.t _ c.in-Turnout.is (inl c.if-x-eq1.true) c.if-t.false)

pub returns-then-t-2 : goal.returns-then-t-2
returns-then-t-2 c =
    loses_same _ _ _ _ (λ a b. forbids_straight a b _ c.in-Turnout.t _ c.in-Turnout.is c.if-x-eq2.true c.if-t-2.true)
    c.drop_both_ways-then-t-2.ensures

pub returns-else-t-2 : goal.returns-else-t-2
returns-else-t-2 c =
    loses_none _ _ (λ a b. joined_free a b _ c.in-Turnout.t _ c.in-Turnout.is (inr c.if-x-eq2.true) c.if-t-2.false)

pub returns-else-x-eq2 : goal.returns-else-x-eq2
returns-else-x-eq2 c =
    let t = c.in-Turnout.t in
    loses_same _ _ _ _ (λ a b. forbids-both a b _ t _ c.in-Turnout.is c.if-x-eq1.false c.if-x-eq2.false)
    (loses_append _ _ _ (both_ways t.stem t.straight) (both_ways t.stem t.diverted) c.drop_both_ways-else-x-eq2.ensures c.drop_both_ways-else-x-eq2-2.ensures)
