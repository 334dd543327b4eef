-- Accepted files of one situation are read alike (`same_reading`), and those of the old form are one (`one_old_text`).
use mathlib.Core.Path.{◌≡◌}
use mathlib.Core.List.{List}
use Prim.Native.Nat.{ℕ}
use native.Mathlib.Omega.{arith}
use Rattle.meaning.specs.File.{reading}
use Rattle.meaning.specs.Accepted.{Accepted, OldForm}
use Rattle.meaning.proofs.Accepted.{accepted_exactly, accepted_situation}
use Rattle.file_meaning.proofs.RoundTrip.{text_is_file}
use Rattle.demands.specs.Words.{situation}

module _ (file text : List ℕ) (a : Accepted file) (b : Accepted text) (same : situation text ≡ situation file) where
  pub same_reading : reading text ≡ reading file
  unfolding situation
  same_reading = grind (arith, accepted_situation text, accepted_situation file, accepted_exactly text, accepted_exactly file)

  pub one_old_text : OldForm file → OldForm text → text ≡ file
  one_old_text o p = grind (arith, same_reading, text_is_file text, text_is_file file, accepted_exactly text, accepted_exactly file)
