use Rattle.basics.proofs.Lists.{replicate_get}
use Rattle.search.proofs.Search.new.Goals as goal

pub returns-clause-queue : goal.returns-clause-queue
returns-clause-queue c = λ k. replicate_get 512 k 0
