-- The sections of the element are section numbers; a turnout's pairs come in two steps.
use Rattle.pairs.proofs.Gains.{gains_both}
use Rattle.routes.proofs.add_element.Goals as goal

pub returns-in-Turnout : goal.returns-in-Turnout
returns-in-Turnout c = rw c.in-Turnout.is (gains_both _ _ _ _ _ c.add_both_ways.ensures c.add_both_ways-in-Turnout.ensures)
