-- The open moves so far are noted where they start and end.
use Rattle.setting_tables.specs.OpenMoves.{at}
use Rattle.setting_tables.proofs.Noting.{Noting}
use Rattle.setting_tables.proofs.Ends.note.Given as goal

abbrev pub invariant-loop-e : goal.invariant-loop-e
invariant-loop-e l = Noting (at l.open_moves.rows) l.e l.self.from.words l.self.to l.self.from.some
