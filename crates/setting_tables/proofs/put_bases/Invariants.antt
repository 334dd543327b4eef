-- The bases of the trains so far are there, and no two of them meet (`Based`).
use Rattle.setting_tables.proofs.Basing.{Based}
use Rattle.setting_tables.proofs.put_bases.Given as goal

abbrev pub invariant-loop-t : goal.invariant-loop-t
invariant-loop-t l = Based l.s.situation l.bases l.all l.t
