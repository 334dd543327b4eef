use lib.ListN.{length}
use mathlib.Core.Path.{◌≡◌}
use borrow.Author.Rules.{rules}
use Rattle.reach.specs.Reach.{words_at}
use Rattle.pairs.proofs.Laws.{adds_stored}
use Rattle.pairs.proofs.PairsPairSet.add.Goals as goal

pub returns : goal.returns
unfolding words_at
returns c =
    let r = c.args.p.are_sections in
    let len : length c.args.self.now.rows ≡ 512 = search rules in
    rw c.row.ensures (adds_stored _ _ _ len r.0.0 r.0.1 r.1.0 r.1.1 _ (rw c.row.ensures at c.insert.ensures.members))
