use Rattle.pairs.proofs.Counts.{outdegree_none}
use Rattle.pairs.proofs.CountedPairs.empty.Goals as goal

pub invariant_of-result : goal.invariant_of-result
invariant_of-result c = record { counted = outdegree_none c.empty.ensures }
