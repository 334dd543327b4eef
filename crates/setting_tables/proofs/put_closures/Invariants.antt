-- The closures of the open moves so far are there (`Closing`).
use Rattle.setting_tables.proofs.Closing.{Closing}
use Rattle.setting_tables.proofs.put_closures.Given as goal

abbrev pub invariant-loop-e : goal.invariant-loop-e
invariant-loop-e l = Closing l.open_moves.rows l.pairs l.closures l.moves l.e
