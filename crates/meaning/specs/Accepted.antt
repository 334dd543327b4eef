-- "A file is accepted when causes 1 to 8 below are all absent": each cause by itself, with no order among them. proofs/Accepted shows
-- that these are exactly the files whose reading has no refusal.
use Rattle.std.specs.Prelude.{◌≡◌, true, false, List, ℕ, ◌+◌, ◌/◌, ◌%◌, ◌≤◌, ◌<◌, length, get_or}
use Rattle.meaning.specs.declared.Header.{Header}
use Rattle.meaning.specs.declared.Line.{Line}
use Rattle.meaning.specs.Station.{has_pair}
use Rattle.basics.specs.Lists.{In, Once}
use Rattle.meaning.specs.Columns.{old, padded, well_formed, line_at, having, section_field, state_field}
use Rattle.meaning.specs.File.{Limits, header_of, line_count, first_kind_of, kind_at, file_line, pairs_of, excludes}

-- The numbers of the first line, and line i below it.
unfoldable pub file_header : List ℕ → Header
file_header file = header_of (line_at padded file 0 (first_kind_of file))

unfoldable pub body_line : List ℕ → ℕ → Line
body_line file i = file_line file (file_header file) i

abbrev pub InBody : List ℕ → ℕ → Type 0
InBody file i = (1 ≤ i) × (i < line_count (file_header file))

-- Cause 1, "empty, not a multiple of 22 bytes, or above 29,590 bytes", is absent.
abbrev pub LengthAllowed : List ℕ → Type 0
LengthAllowed file = (1 ≤ length file) × (length file % 22 ≡ 0) × (length file ≤ 29590)

pub record Accepted (file : List ℕ) : Type 0 where
  -- 1
  pub size : LengthAllowed file
  -- 2: "a line is not of the stated form, or its letter is not allowed at that place", or a gap in a T line of a U file
  pub first_form : well_formed padded file 0 (first_kind_of file) ≡ true
  pub form : (i : ℕ) → InBody file i → well_formed padded file i (kind_at file (file_header file) i) ≡ true
  -- 3: "an S field outside its range"
  pub limits : Limits (file_header file)
  -- 4: "the number of lines is not 1 plus the three counts"
  pub lines : length file / 22 ≡ line_count (file_header file)
  -- 5: "a section number outside 1 to the number of sections"
  pub inside : (i : ℕ) → InBody file i → (a : ℕ) → In a (having section_field (body_line file i)) → (1 ≤ a) × (a ≤ (file_header file).sections)
  -- 6: "a state above 2"
  pub states : (i : ℕ) → InBody file i → (x : ℕ) → In x (having state_field (body_line file i)) → x ≤ 2
  -- 7: "a section twice in one P, L or D line", or in a T line of a U file
  pub different : (i : ℕ) → InBody file i → Once (having section_field (body_line file i))
  -- 8: "two signals, two turnouts, or a P line with any other line, another P line included" (02, Item 3), over one ordered pair
  pub apart : (i j : ℕ) → InBody file i → InBody file j → i < j → excludes (body_line file i).kind (body_line file j).kind ≡ true → (a b : ℕ)
      → has_pair (pairs_of (body_line file i)) a b ≡ true → has_pair (pairs_of (body_line file j)) a b ≡ false

-- ---- padded numbers (02, Item 13)
abbrev pub IsDigit : ℕ → Type 0
IsDigit b = (48 ≤ b) × (b < 58)

-- "Spaces, then one or more digits, leading zeros allowed": the first m bytes from an offset.
pub record SpacesThenDigits (file : List ℕ) (at m : ℕ) : Type 0 where
  pub spaces : ℕ
  pub some-digit : spaces < m
  pub blank : (j : ℕ) → j < spaces → get_or file (at + j) 0 ≡ 32
  pub digits : (j : ℕ) → spaces ≤ j → j < m → IsDigit (get_or file (at + j) 0)

-- "Files of the old form": no filled field has a leading zero, so every line is of the form that the writer gives.
pub record OldForm (file : List ℕ) : Type 0 where
  pub first_form : well_formed old file 0 (first_kind_of file) ≡ true
  pub form : (i : ℕ) → InBody file i → well_formed old file i (kind_at file (file_header file) i) ≡ true
