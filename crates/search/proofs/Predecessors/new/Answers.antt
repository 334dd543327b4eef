use Rattle.basics.proofs.Lists.{replicate_get}
use Rattle.search.proofs.Predecessors.new.Goals as goal

pub returns : goal.returns
returns c = λ k. replicate_get 513 k 0
