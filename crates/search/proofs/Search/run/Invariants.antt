-- The rows of the queue's sections are followed until none is left.
use Prim.Native.Nat.{◌-◌}
use Rattle.search.proofs.Whole.{Searching}
use Rattle.search.proofs.Search.run.Given as goal

abbrev pub invariant-loop-head : goal.invariant-loop-head
invariant-loop-head l = Searching l.pairs.rows l.starts.sections.now l.found.reach.words l.self.queue l.self.before.of l.found.count l.head

abbrev pub decreases-loop-head : goal.decreases-loop-head
decreases-loop-head l = 512 - l.head
