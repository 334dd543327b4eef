-- `placement::give_way` meets its contract: the two searches are those of its definition.
use Rattle.std.proofs.Common.{rules}
use Rattle.placement.proofs.Searching.{way_is}
use Rattle.placement.proofs.give_way.Goals as goal

pub returns : goal.returns
returns c = way_is _ _ _ _ _ (λ e. search rules) c.free_from.ensures c.or_else.ensures
