-- The rows so far are without ways back.
use Rattle.std.proofs.Common.{◌≡◌, length}
use Rattle.setting_tables.specs.OpenMoves.{at}
use Rattle.setting_tables.specs.Prepared.{Onward}
use Rattle.setting_tables.proofs.onward.Given as goal

abbrev pub invariant-loop-d : goal.invariant-loop-d
invariant-loop-d l = (length l.rows ≡ 48) × Onward (at l.open_moves.rows) l.closures l.d l.rows
