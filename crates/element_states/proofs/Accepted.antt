-- The situation of an accepted file can be judged.
use mathlib.Core.Path.{◌≡◌, subst}
use mathlib.Core.List.{List}
use Prim.Native.Nat.{ℕ}
use Rattle.std.specs.Prelude.{Ok}
use Rattle.meaning.specs.declared.Situation.{Situation}
use Rattle.meaning.specs.File.{reading_answer}
use Rattle.meaning.proofs.Refused.{accepted_as}
use Rattle.meaning.proofs.AcceptedSituation.{accepted_counts, accepted_inside}
use Rattle.element_states.specs.Sound.{Sound}

pub accepted_sound : (file : List ℕ) {s : Situation} → reading_answer file ≡ Ok s → Sound s
accepted_sound file e =
    let a = accepted_as file e in
    subst Sound a.1 (record { inside = accepted_inside file a.0; limits = (accepted_counts file a.0).limits })
