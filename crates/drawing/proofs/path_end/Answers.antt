use Rattle.drawing.proofs.Walked.{end_outside}
use Rattle.drawing.proofs.path_end.Goals as goal

pub returns-then-a-stands_in : goal.returns-then-a-stands_in
returns-then-a-stands_in c = end_outside _ _ c.in_ok-first.ensures.cases.0 c.stands_in.ensures c.if-a-stands_in.true
