-- The masks of the open elements so far are there (`Masking`), and what the fixed ones so far forbid (`Blocking`).
use Rattle.meaning.specs.Station.{elements_of}
use Rattle.setting_tables.proofs.Masking.{Masking, Blocking}
use Rattle.setting_tables.proofs.Masks.of.Given as goal

abbrev pub invariant-loop-i : goal.invariant-loop-i
invariant-loop-i l = Masking l.ends l.kind-items l.opens l.i

abbrev pub invariant-loop-e : goal.invariant-loop-e
invariant-loop-e l = Blocking (elements_of l.q.s.now.situation) l.ends l.blocked l.e-index
