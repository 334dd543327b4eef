-- Both numbers are section numbers: the row is asked.
use mathlib.Core.Path.{sym, ◌∙◌}
use Rattle.reach.specs.Reach.{words_at}
use Rattle.pairs.proofs.Laws.{edge_row}
use Rattle.pairs.proofs.Pairs.has.Goals as goal

pub returns : goal.returns
unfolding words_at
returns c =
    let r = c.args.p.are_sections in
    rw c.row.ensures at c.has_inside.ensures ∙ sym (edge_row _ _ _ r.0.0 r.0.1 r.1.0 r.1.1)
