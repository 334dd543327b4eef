-- The pairs of the elements' lines passed are added.
use lib.ListN.{take}
use Rattle.meaning.specs.Station.{elements_of, over_elements}
use Rattle.pairs.specs.Pairs.{Gains}
use Rattle.routes.proofs.put_over.Given as goal

abbrev pub invariant-loop-e : goal.invariant-loop-e
invariant-loop-e l = Gains l.initial.over.rows (over_elements (take l.e-index (elements_of l.s.situation))) l.over.rows
