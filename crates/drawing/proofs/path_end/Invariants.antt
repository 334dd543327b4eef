-- Before entry b of the rest the list, from its first entry, leads to section a, and from there on as what is left of it does.
use mathlib.Core.Path.{◌≡◌}
use Prim.Native.Nat.{◌≤◌}
use lib.ListN.{drop}
use Rattle.pairs.specs.Pairs.{edge}
use Rattle.drawing.specs.Walk.{walk}
use Rattle.drawing.proofs.path_end.Given as goal

abbrev pub invariant-loop-b : goal.invariant-loop-b
invariant-loop-b l = (1 ≤ l.a) × (walk (edge l.table.rows) l.initial.a l.rest ≡ walk (edge l.table.rows) l.a (drop l.b-index l.rest))
