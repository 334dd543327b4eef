-- The refusals of the converter (02, Item 5): 9 comes last, also where the letter stays.
use native.Mathlib.Omega.{arith}
use mathlib.Core.Path.{◌≡◌}
use mathlib.Core.List.{List}
use Prim.Native.Nat.{ℕ, ◌<◌}
use lib.ListN.{length}
use Rattle.meaning.specs.declared.Letter.{Letter}
use Rattle.meaning.specs.File.{refusal, reading}
use Rattle.file_meaning.specs.Converter.{long_refusal, conversion_refusal}

pub short_buffer : (x : Letter) (file : List ℕ) (room : ℕ) → (reading file).refusal.number ≡ 0 → (long_refusal x (reading file).situation).number ≡ 0
    → room < length file → conversion_refusal x file room ≡ refusal 9 0
unfolding conversion_refusal
short_buffer x file room accepted short h = grind arith
