-- `placement::free_from` meets its contract: every section from the first and below k is taken.
use Rattle.reach.specs.Reach.{memb}
use Rattle.placement.proofs.Searching.{Passed}
use Rattle.placement.proofs.free_from.Given as goal

abbrev pub invariant-loop-k : goal.invariant-loop-k
invariant-loop-k l = Passed (memb l.taken.words) l.fn.from.0 l.k
