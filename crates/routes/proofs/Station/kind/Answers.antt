-- `Station::kind` gives the kind of an element that the station has.
use native.Mathlib.Omega.{arith}
use mathlib.Core.Path.{sym}
use borrow.Author.Tests.{ltb-false}
use Rattle.route_meaning.proofs.Sorts.{sort_past}
use Rattle.routes.proofs.Station.kind.Goals as goal

pub returns-in_err-e : goal.returns-in_err-e
returns-in_err-e c = rw c.from_residual-in_err-e.ensures (sort_past _ _ (omega (arith, c.in_ok-checked_sub.ensures)) c.elements.ensures (ltb-false _ _ (sym c.in_err-e.ensures.lookup.0)))
