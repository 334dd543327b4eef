-- What `moves_of` lists is added: one answer for each kind and state.
use Rattle.pairs.proofs.Gains.{gains_none, gains_one}
use Rattle.moves.proofs.Element.{signal_1, signal_other, turnout_1, turnout_2, turnout_other}
use Rattle.moves.proofs.add_element.Goals as goal

pub returns-then-state-eq1 : goal.returns-then-state-eq1
returns-then-state-eq1 c =
    rw (signal_1 c.in-Signal.is c.if-state-eq1.true) (gains_one _ _ c.in-Signal.m (rw (c.of.ensures.0, c.of.ensures.1) at c.add.ensures))

pub returns-else-state-eq1 : goal.returns-else-state-eq1
returns-else-state-eq1 c = rw (signal_other c.in-Signal.is c.if-state-eq1.false) (gains_none _)

pub returns-then-state-eq1-2 : goal.returns-then-state-eq1-2
returns-then-state-eq1-2 c = rw (turnout_1 c.in-Turnout.is c.if-state-eq1-2.true) c.add_both_ways.ensures

pub returns-then-state-eq2 : goal.returns-then-state-eq2
returns-then-state-eq2 c = rw (turnout_2 c.in-Turnout.is c.if-state-eq2.true) c.add_both_ways-then-state-eq2.ensures

pub returns-else-state-eq2 : goal.returns-else-state-eq2
returns-else-state-eq2 c = rw (turnout_other c.in-Turnout.is c.if-state-eq1-2.false c.if-state-eq2.false) (gains_none _)
