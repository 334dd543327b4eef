-- The rows so far have their exits (`Exiting`).
use Rattle.setting_tables.proofs.Exiting.{Exiting}
use Rattle.setting_tables.proofs.put_exits.Given as goal

abbrev pub invariant-loop-t : goal.invariant-loop-t
invariant-loop-t g l = Exiting l.ends l.initial.rows l.t l.rows l.some
