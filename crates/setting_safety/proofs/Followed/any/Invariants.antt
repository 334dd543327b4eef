-- The settings in which one of the open moves so far is followed.
use Rattle.std.proofs.Common.{◌≡◌, true}
use Rattle.setting_safety.specs.Followed.{in_setting, Gathered}
use Rattle.setting_safety.proofs.Gathering.{Among}
use Rattle.setting_safety.proofs.Followed.any.Given as goal

abbrev pub invariant-loop-f : goal.invariant-loop-f
invariant-loop-f l = Among l.moves l.f-iterator.0 × Gathered (λ f x. in_setting l.self.settings x f ≡ true) l.moves l.f-iterator.0 l.settings
