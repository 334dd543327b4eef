use Rattle.std.proofs.Common.{None, [], sym, ◌∙◌, rules, of_calls}
use Rattle.setting_tables.specs.OpenMoves.{IsOpenMoves}
use Rattle.setting_tables.proofs.Opening.{open_moves_are, open_move_of-inside}
use Rattle.setting_tables.proofs.OpenMoves.of.Goals as goal
use Rattle.setting_tables.proofs.OpenMoves.of.Goals.{After-map}

are : (c : After-map) → IsOpenMoves c.args.q.s.now.situation c.map.result
are c =
    open_moves_are c.args.q.s.now.situation c.open_kinds.result c.map.result c.open_kinds.ensures
    (λ p l. let (_, _, row) = c.map.ensures.items.at p None [] l in search (rules, of_calls))

pub invariant_of-result : goal.invariant_of-result
invariant_of-result c =
    let s = c.args.q.s.now in
    record { inside = λ e m l h. open_move_of-inside s.situation s.sound s.collected e m (sym (are (goal.at.invariant_of-result c).After-map e l) ∙ h) }

pub returns : goal.returns
returns c = are (goal.at.returns c).After-map
