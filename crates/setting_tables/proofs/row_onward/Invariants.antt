-- Of the exits so far the ways back are out.
use Rattle.setting_tables.specs.OpenMoves.{at}
use Rattle.setting_tables.specs.Prepared.{WaysBack}
use Rattle.setting_tables.proofs.WaysBack.{Among}
use Rattle.setting_tables.proofs.row_onward.Given as goal

abbrev pub invariant-loop-e : goal.invariant-loop-e
invariant-loop-e l = Among l.row.exits l.moves l.e-iterator.0 × WaysBack (at l.open_moves.rows) l.row.reach.words l.row.exits l.exits
