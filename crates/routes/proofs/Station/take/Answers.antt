-- A line of another kind than the one that is to come is refused.
use Rattle.routes.proofs.Lines.{takes_none}
use Rattle.routes.proofs.Station.take.Goals as goal

pub returns-in_err-line_of-in-R : goal.returns-in_err-line_of-in-R
returns-in_err-line_of-in-R c = rw (← c.in-R.ensures) (takes_none _ _ _ _ _ _ _ c.from_residual.ensures.1 c.in_err-line_of-in-R.ensures.0 c.in_err-line_of-in-R.ensures.1)

pub returns-in_err-line_of-in-K : goal.returns-in_err-line_of-in-K
returns-in_err-line_of-in-K c =
    rw (← c.in-K.ensures) (takes_none _ _ _ _ _ _ _ c.from_residual-in_err-line_of-in-K.ensures.1 c.in_err-line_of-in-K.ensures.0 c.in_err-line_of-in-K.ensures.1)

pub returns-in_err-line_of-in-W : goal.returns-in_err-line_of-in-W
returns-in_err-line_of-in-W c =
    rw (← c.in-W.ensures) (takes_none _ _ _ _ _ _ _ c.from_residual-in_err-line_of-in-W.ensures.1 c.in_err-line_of-in-W.ensures.0 c.in_err-line_of-in-W.ensures.1)
