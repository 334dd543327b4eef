-- The open moves so far are noted, or left out (`Sorting`).
use Rattle.setting_safety.proofs.Meetings.{Sorting}
use Rattle.setting_safety.proofs.put_by_section.Given as goal

abbrev pub invariant-loop-e : goal.invariant-loop-e
invariant-loop-e l = Sorting l.tables.moves l.tables.closures l.e-iterator.0 l.wide l.by_section
