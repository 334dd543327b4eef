-- The predecessors of the queue's sections are copied one by one.
use Rattle.search.specs.Steps.{KeptPaths}
use Rattle.search.proofs.Predecessors.keep.Given as goal

abbrev pub invariant-loop-s : goal.invariant-loop-s
invariant-loop-s l = KeptPaths l.found l.own.of l.initial.self.of l.s-index l.self.of
