-- The open moves so far whose closures meet the set.
use Rattle.reach.specs.Reach.{memb}
use Rattle.setting_safety.proofs.Gathering.{Among}
use Rattle.setting_safety.proofs.Meetings.{MeetingSo}
use Rattle.setting_safety.proofs.compared.Given as goal

abbrev pub invariant-loop-e : goal.invariant-loop-e
invariant-loop-e l = Among l.moves l.e-iterator.0 × MeetingSo (memb l.set.words) l.moves l.closures l.e-iterator.0 l.bits
