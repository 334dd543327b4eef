-- The lowest section is the next after 0.
use Rattle.reach.specs.Reach.{memb}
use Rattle.reach.proofs.Laws.{next_zero}
use Rattle.reach.proofs.Walk.{is_lowest_same}
use Rattle.reach.proofs.Reach.lowest.Goals as goal

pub returns : goal.returns
returns c = is_lowest_same _ _ (next_zero 512 (memb c.args.self.words)) _ c.next.ensures
