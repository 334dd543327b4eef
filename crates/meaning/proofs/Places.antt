-- The lines after the first by their places: P lines, then elements, then trains. What `written_line` and `kind_at` give at each place,
-- and `by_place`: what holds at each place holds of every line after the first.
use mathlib.Core.Path.{◌≡◌, refl, ap, subst, ◌∙◌}
use mathlib.Core.Bool.{true, cond}
use mathlib.Core.List.{List, ◌++◌}
use Prim.Native.Nat.{ℕ, suc, ◌+◌, ◌*◌, ◌-◌, ◌≤◌, ◌<◌}
use native.Mathlib.Omega.{arith}
use native.Mathlib.Decide.{dec_lt}
use lib.Dec.{eqb}
use lib.ListN.{get_or}
use borrow.Author.Tests.{le-leb}
use Rattle.meaning.specs.declared.Letter.{Letter}
use Rattle.meaning.specs.declared.Letter.TheVariants as letter
use Rattle.meaning.specs.declared.Header.{Header}
use Rattle.meaning.specs.declared.Line.{Line}
use Rattle.meaning.specs.declared.Situation.{Situation}
use Rattle.meaning.specs.Station.{no_train}
use Rattle.meaning.specs.Columns.{padded, record_kind_at, well_formed, no_kind, malformed}
use Rattle.basics.specs.Lists.{list_of}
use Rattle.meaning.specs.File.{line_count, no_move, no_element, first_kind_of, train_kind, kind_at}
use Rattle.meaning.specs.File.{line_of_move, line_of_element, most_under, line_of_train, line_of_header, written_lines, written_line}
use Rattle.basics.proofs.Lists.{list_of_get, list_of-front, list_of_past}
use Rattle.meaning.proofs.Columns.{field_in_same, well_formed_blanks}

-- What holds at each place holds of every line after the first.
pub by_place :
    (h : Header) (P : ℕ → Type 0)
    → ((j : ℕ) → j < h.plain → P (1 + j))
    → ((j : ℕ) → j < h.elements → P (1 + h.plain + j))
    → ((j : ℕ) → j < h.trains → P (1 + h.plain + h.elements + j))
    → (i : ℕ) → 1 ≤ i → i < line_count h → P i
by_place h P plain elements trains i low high = go (dec_lt h.plain i) (dec_lt (h.plain + h.elements) i)
  where
    go : Dec (h.plain < i) → Dec (h.plain + h.elements < i) → P i
    go (no a) d = subst P (omega arith) (plain (i - 1) (omega arith))
    go (yes a) (no b) = subst P (omega arith) (elements (i - (1 + h.plain)) (omega arith))
    go (yes a) (yes b) = subst P (omega arith) (trains (i - (1 + h.plain + h.elements)) (omega arith))

-- ---- the line that is written
-- Line 0 is the header.
pub written_header : (s : Situation) → written_line s 0 ≡ line_of_header s.header
unfolding written_line written_lines
written_header s = refl

module _ (s : Situation) where
  abbrev plain : ℕ → Line
  plain j = line_of_move (get_or s.plain j no_move)

  abbrev element : ℕ → Line
  element j = line_of_element (get_or s.elements j no_element)

  abbrev train : ℕ → Line
  train j = line_of_train s.header.letter (get_or s.trains j no_train)

  abbrev trains : List Line
  trains = list_of s.header.trains train

  abbrev elements : List Line
  elements = list_of s.header.elements element ++ trains

  after_first : (n i : ℕ) → n ≡ suc i → written_line s n ≡ get_or (list_of s.header.plain plain ++ elements) i malformed
  unfolding written_line written_lines
  after_first n i e = ap (written_line s) e

  after_plain : (n j : ℕ) → n ≡ suc (s.header.plain + j) → written_line s n ≡ get_or elements j malformed
  after_plain n j e = after_first n (s.header.plain + j) e ∙ list_of_past s.header.plain plain elements malformed j

  -- The lines after it are the P lines: P line j.
  pub written_plain : (j : ℕ) → j < s.header.plain → written_line s (1 + j) ≡ line_of_move (get_or s.plain j no_move)
  written_plain j h = after_first (1 + j) j (omega arith) ∙ list_of-front s.header.plain plain elements malformed j h

  -- The lines after the P lines are the elements': element j.
  pub written_element : (j : ℕ) → j < s.header.elements
      → written_line s (1 + s.header.plain + j) ≡ line_of_element (get_or s.elements j no_element)
  written_element j h =
      after_plain (1 + s.header.plain + j) j (omega arith) ∙ list_of-front s.header.elements element trains malformed j h

  -- The lines after the elements are the trains': train j.
  pub written_train : (j : ℕ) → j < s.header.trains
      → written_line s (1 + s.header.plain + s.header.elements + j) ≡ line_of_train s.header.letter (get_or s.trains j no_train)
  written_train j h =
      after_plain (1 + s.header.plain + s.header.elements + j) (s.header.elements + j) (omega arith)
      ∙ list_of_past s.header.elements element trains malformed j
      ∙ list_of_get s.header.trains train malformed j h

-- ---- the kind that a place allows
module _ (file : List ℕ) (h : Header) (j : ℕ) where
  -- The place of a P line allows a P line.
  pub kind_plain : j < h.plain → kind_at file h (1 + j) ≡ 1
  unfolding kind_at
  kind_plain l = rw (le-leb (1 + j) h.plain (omega arith))

  -- The place of an element allows a signal where the letter is L, else a turnout.
  pub kind_element : j < h.elements → kind_at file h (1 + h.plain + j) ≡ cond (eqb (get_or file ((1 + h.plain + j) * 22) 0) 76) 2 3
  unfolding kind_at
  kind_element l = grind arith

  -- The place of a train allows a train, of as many sections as the file's letter and the line say.
  pub kind_train : kind_at file h (1 + h.plain + h.elements + j) ≡ train_kind h.letter file (1 + h.plain + h.elements + j)
  unfolding kind_at
  kind_train = grind arith

-- The first line's kind is in the table.
pub first_known : (file : List ℕ) → first_kind_of file ≡ no_kind → ⊥
first_known file = grind arith

-- ---- the kinds of T lines
-- Kinds 4 to 7: one section to the most that the letter has.
abbrev pub OfTrain : Letter → ℕ → Type 0
OfTrain x k = (4 ≤ k) × (k ≤ 3 + most_under x)

pub train_kind_within : (x : Letter) (file : List ℕ) (i : ℕ) → OfTrain x (train_kind x file i)
train_kind_within x file i = grind arith

pub most_four : (x : Letter) → most_under x ≤ 4
most_four x = grind arith

-- What holds of each kind of T line by its number holds of all.
pub by_train_kind : (P : ℕ → Type 0) → P 4 → P 5 → P 6 → P 7 → (k : ℕ) → 4 ≤ k → k ≤ 7 → P k
by_train_kind P one two three four k low high = grind arith

-- A T line of kind k fills k - 3 fields.
pub train_filled : (k : ℕ) → 4 ≤ k → k ≤ 7 → (record_kind_at k).filled ≡ k - 3
unfolding record_kind_at
train_filled = by_train_kind (λ k. (record_kind_at k).filled ≡ k - 3) refl refl refl refl

-- A well-formed T line is of the kind that is asked at its place.
pub train_kind_of : (x : Letter) (file : List ℕ) (i k : ℕ) → OfTrain x k → well_formed padded file i k ≡ true → train_kind x file i ≡ k
unfolding record_kind_at
train_kind_of x file i k h h2 = grind (arith, well_formed_blanks)

-- The kind of a T line goes by its own bytes.
pub train_kind_same : (x : Letter) (f g : List ℕ) (i : ℕ) → ((t : ℕ) → t < 22 → get_or f (i * 22 + t) 0 ≡ get_or g (i * 22 + t) 0)
    → train_kind x f i ≡ train_kind x g i
train_kind_same letter.S f g i h = refl
train_kind_same letter.U f g i h =
    let field = field_in_same padded f g i h in rw (field 1 (omega arith), field 2 (omega arith), field 3 (omega arith))
