use mathlib.Core.Path.{sym}
use Rattle.element_states.proofs.Accepted.{accepted_sound}
use Rattle.element_states.proofs.SoundSituation.read.Goals as goal

pub invariant_of-result-clause-sound : goal.invariant_of-result-clause-sound
invariant_of-result-clause-sound c = accepted_sound _ (sym c.in_ok-situation.ensures)
