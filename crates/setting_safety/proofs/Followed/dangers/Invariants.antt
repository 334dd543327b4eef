-- The settings in which one of the open moves so far is in danger.
use Rattle.setting_safety.specs.Followed.{InDanger, Gathered}
use Rattle.setting_safety.proofs.Gathering.{Among}
use Rattle.setting_safety.proofs.Followed.dangers.Given as goal

abbrev pub invariant-loop-e : goal.invariant-loop-e
invariant-loop-e l =
    Among l.self.moves l.e-iterator.0 × Gathered (InDanger l.self l.earlier l.harms l.overlaps) l.self.moves l.e-iterator.0 l.settings
