-- The open moves so far are joined.
use Rattle.setting_safety.specs.Followed.{Joins}
use Rattle.setting_safety.proofs.Gathering.{Among}
use Rattle.setting_safety.proofs.Followed.join.Given as goal

abbrev pub invariant-loop-e : goal.invariant-loop-e
invariant-loop-e l = Among l.other.moves l.e-iterator.0 × Joins l.fn.self l.other l.e-iterator.0 l.self
