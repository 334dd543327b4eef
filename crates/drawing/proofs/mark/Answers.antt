-- The table holds the situation's moves; the test of where the lists lead is the mark.
use mathlib.Core.Path.{refl, ◌∙◌}
use Rattle.drawing.proofs.Laws.{marked_by_table, same_end}
use Rattle.drawing.proofs.mark.Goals as goal

pub returns : goal.returns
returns c =
    let s = c.args.s.now in
    rw (c.is_some.ensures, c.eq.ensures)
    (same_end _ _ _ _ c.path_end-x.ensures c.path_end-y.ensures _
    ∙ marked_by_table s.situation s.sound.inside _ _ c.fill.ensures _ _ _ _ c.requires.first_train.0 c.requires.first_train.1 c.requires.second_train.0 c.requires.second_train.1
    c.train_at.ensures c.train_at-2.ensures _ _ _ _ refl refl)
