-- No row has a section.
use Rattle.pairs.proofs.Laws.{represents_none}
use Rattle.pairs.proofs.Pairs.empty.Goals as goal

pub returns : goal.returns
returns c = represents_none _ c.empty.ensures
