-- `placement::fill` meets its contract: the loop is `Filled`, train by train.
use Rattle.placement.proofs.Filling.{Filled}
use Rattle.placement.proofs.fill.Given as goal

abbrev pub invariant-loop-place : goal.invariant-loop-place
invariant-loop-place l = Filled l.paper l.sections l.initial.places l.places l.taken.words l.state l.place-index
