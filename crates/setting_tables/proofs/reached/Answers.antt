-- What the search finds is the reach (`is_reach`).
use Rattle.std.proofs.Common.{refl}
use Rattle.meaning.specs.Paths.{mem}
use Rattle.reach.specs.Reach.{memb}
use Rattle.pairs.specs.Pairs.{edge}
use Rattle.search.proofs.Reached.{is_reach}
use Rattle.setting_tables.proofs.reached.Goals as goal

pub returns : goal.returns
returns c = λ ms represents.
    is_reach ms c.args.starts.sections.now (edge _) (λ k. mem k c.args.starts.sections.now) (memb c.run.result.reach.words) represents (λ k. refl) c.run.ensures.traced.reached
