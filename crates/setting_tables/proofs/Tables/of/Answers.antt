use Rattle.std.proofs.Common.{◌∙◌}
use Rattle.setting_tables.specs.OpenMoves.{open_move_of}
use Rattle.setting_tables.proofs.Noting.{indexed_same}
use Rattle.setting_tables.proofs.WaysBack.{onward_same}
use Rattle.setting_tables.proofs.Tables.of.Goals as goal

pub returns : goal.returns
returns c =
    let ix = indexed_same {g = open_move_of c.args.q.s.now.situation} c.note.ensures c.of-open_moves.ensures in
    let put = rw c.in_ok-reach.was at c.put_bases.ensures in
    let affected = c.put_exits-affected.ensures _ ix in
    let closures = c.put_closures-moves.ensures _ c.of-open_moves.ensures c.fill.ensures in
    let exits = c.put_exits.ensures _ ix in
    record {
      bases = record { apart = put.apart; base = λ t k l. affected.kept t k ∙ put.base t k l; union = put.union };
      affected = rw c.from.ensures at affected.put;
      closures = record { closure = λ e k l. exits.kept e k ∙ closures.closure e k l; below = closures.below; all = closures.all };
      exits = exits.put.exits;
      onward = onward_same c.of-open_moves.ensures c.onward.ensures;
      masks = c.of.ensures;
    }

pub note-requires : goal.note-requires
note-requires c = c.empty-ends.ensures _

pub onward-requires : goal.onward-requires
onward-requires c = record { below = (c.put_closures-moves.ensures _ c.of-open_moves.ensures c.fill.ensures).below }
