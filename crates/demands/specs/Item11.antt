-- Item 11 of 02, one lever at a time: `file` and the number n are handed over with `buffer`; judge_frame answers q and leaves buffer'. fs are the file's
-- states. What the settings question has to do with the frames is a law (`SafeFrames`, Laws).
use Rattle.std.specs.Prelude.{◌≡◌, true, List, ℕ, suc, ◌+◌, ◌/◌, ◌%◌, ◌^◌, ◌≤◌, ◌<◌, length, get_or, drop}
use Rattle.meaning.specs.declared.Situation.{Situation}
use Rattle.meaning.specs.Station.{file_states}
use Rattle.meaning.specs.Settings.{open_count, is_setting}
use Rattle.meaning.specs.Accepted.{Accepted}
use Rattle.c_layout.specs.declared.FlatRefusal.{FlatRefusal}
use Rattle.demands.specs.Words.{situation, AtMostOpen, Filled}
use Rattle.demands.specs.Demand1.{Answer, Short, CallCause}

-- ---- words
-- How many settings there are, and so frames "from 0 to the last".
abbrev pub round : List ℕ → ℕ
round fs = 2 ^ open_count fs

-- Bit j of x; bit 0 is the lowest.
abbrev pub bit_of : ℕ → ℕ → ℕ
bit_of x j = x / 2 ^ j % 2

-- Bit j of "n exclusive-or n halved (rounded down), .. 0 for state 1": it is 0 where n and n halved have the same bit.
pub record StateByBit (n j state : ℕ) : Type 0 where
  pub same : bit_of n j ≡ bit_of (n / 2) j → state ≡ 1
  pub other : (bit_of n j ≡ bit_of (n / 2) j → ⊥) → state ≡ 2

-- The walk through all settings, frame by frame, "counted from 0".
pub record Walk (fs : List ℕ) (frame : ℕ → List ℕ) : Type 0 where
  -- "as a setting"
  pub setting : (n : ℕ) → is_setting fs (frame n) ≡ true
  -- "the bits of n exclusive-or n halved (rounded down), lowest bit for the last open element, 0 for state 1": an open element with j open
  -- ones behind it has bit j.
  pub bits : (n i : ℕ) → n < round fs → i < length fs → get_or fs i 0 ≡ 0 → StateByBit n (open_count (drop (suc i) fs)) (get_or (frame n) i 0)
  -- "n past the last starts over."
  pub starts_over : (n : ℕ) → frame (n + round fs) ≡ frame n

-- ---- what is asked
pub record GivesFrame (s : Situation) (n : ℕ) (buffer buffer' : List ℕ) : Type 0 where
  -- There is one walk (`OneWalk`, Laws), of which "only one open element to change between frames" holds (`WalksOneLever`, Laws).
  pub frame : ℕ → List ℕ
  pub walk : Walk (file_states s) frame
  -- "A new operation gives frame n .. as a setting in a lent buffer."
  pub filled : Filled (frame n) buffer buffer'

-- "Refusals 11 and 9 apply as there", after the file's own; "a byte for each element".
abbrev pub Item11 : List ℕ → ℕ → List ℕ → List ℕ → FlatRefusal → Type 0
Item11 file n buffer buffer' q =
    let s : Situation = situation file in
    Answer q
    (Accepted file × AtMostOpen 12 s × GivesFrame s n buffer buffer' × (s.header.elements ≤ length buffer))
    (CallCause file 11 12 (Short (length buffer < s.header.elements)) q)
    (buffer' ≡ buffer)
