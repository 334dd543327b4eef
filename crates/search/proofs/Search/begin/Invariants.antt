-- Each start that the set does not have yet is put into the queue.
use Rattle.search.specs.Steps.{Begun}
use Rattle.search.proofs.Search.begin.Given as goal

abbrev pub invariant-loop-s : goal.invariant-loop-s
invariant-loop-s l = Begun l.starts.sections.now l.s-index l.reach.words l.self.queue l.self.before.of l.n
