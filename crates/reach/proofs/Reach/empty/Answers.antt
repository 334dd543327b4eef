-- No word has a bit.
use Rattle.reach.proofs.Laws.{memb_zeros}
use Rattle.reach.proofs.Reach.empty.Goals as goal

pub returns : goal.returns
returns c = memb_zeros 8
