-- The frames of the walk through all settings (02, Item 11). fs are the file's states.
use Rattle.std.specs.Prelude.{◌≡◌, List, [], ◌∷◌, ℕ, zero, suc, ◌+◌, ◌/◌, ◌%◌, ◌^◌, ◌<◌, length, get_or}
use Rattle.std.specs.Int.Bits.{bit_xor}
use Rattle.meaning.specs.Settings.{open_count}
use Rattle.basics.specs.Lists.{list_of}

-- "n exclusive-or n halved (rounded down)": `bit_xor` goes by binary digits, 1 where they differ, and is what the machine's `^` computes.
unfoldable pub halved_xor : ℕ → ℕ
halved_xor n = bit_xor n (n / 2)

-- "The bits .., lowest bit for the last open element, 0 for state 1": an open element with j open ones behind it has bit j of x, and so
-- state 1 or 2. Fixed elements keep their state.
unfoldable pub by_bits : List ℕ → ℕ → List ℕ
by_bits [] x = []
by_bits (zero ∷ fs) x = (x / 2 ^ open_count fs % 2 + 1) ∷ by_bits fs x
by_bits (suc f ∷ fs) x = suc f ∷ by_bits fs x

-- "Frame n, counted from 0", where "n past the last starts over".
unfoldable pub frame_at : List ℕ → ℕ → List ℕ
unfolding by_bits halved_xor open_count
frame_at fs n = by_bits fs (halved_xor (n % 2 ^ open_count fs))

-- The frames from 0 to the last.
unfoldable pub frames : List ℕ → List (List ℕ)
unfolding frame_at list_of open_count
frames fs = list_of (2 ^ open_count fs) (frame_at fs)

-- Two settings differ in just one element, which is open.
pub record OneChanges (fs σ τ : List ℕ) : Type 0 where
  pub element : ℕ
  pub within : element < length fs
  pub is_open : get_or fs element 0 ≡ 0
  pub differs : get_or σ element 0 ≡ get_or τ element 0 → ⊥
  pub others : (j : ℕ) → (j ≡ element → ⊥) → get_or σ j 0 ≡ get_or τ j 0
