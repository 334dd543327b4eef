-- The words of the demands, over the definitions of document 01. None of them goes by what an operation computes: not by `reading`, `reach`,
-- `verdict` or `chosen`. s is a situation, σ the states of its elements.
use Rattle.std.specs.Prelude.{◌≡◌, ◌⊎◌, ◌↔◌, true, List, [], ◌∷◌, ◌++◌, ℕ, ◌≤◌, length, get_or, drop}
use Rattle.basics.specs.Lists.{In, Once}
use Rattle.meaning.specs.declared.Situation.{Situation}
use Rattle.meaning.specs.Station.{file_states}
use Rattle.meaning.specs.Settings.{open_count, is_setting}
use Rattle.meaning.specs.File.{situation_of, file_line}
use Rattle.meaning.specs.Accepted.{file_header, Accepted, OldForm}
use Rattle.c_layout.specs.declared.FlatVerdict.{FlatVerdict}

-- The situation that the lines of a file describe.
unfoldable pub situation : List ℕ → Situation
situation file = situation_of (file_header file) (file_line file (file_header file))

-- "The writer gives a padded file in the old form, and reading that gives the same situation" (02, Item 13): text is the file in the old form.
abbrev pub InOldForm : List ℕ → List ℕ → Type 0
InOldForm file text =
    -- "Right-justified, with spaces before it and no leading zero; zero is the single digit 0": every filled field of every line.
    Accepted text × OldForm text × (situation text ≡ situation file)
    -- Each byte is the file's, but for zeros of the file that are spaces now.
    × (length text ≡ length file) × ((n : ℕ) → (get_or text n 0 ≡ get_or file n 0) ⊎ ((get_or file n 0 ≡ 48) × (get_or text n 0 ≡ 32)))

-- Two accepted files of one situation, such as a padded file and its old form.
abbrev pub SameStation : List ℕ → List ℕ → Type 0
SameStation file text = Accepted file × Accepted text × (situation text ≡ situation file)

-- "State 0 is open": at most n elements of the file are.
abbrev pub AtMostOpen : ℕ → Situation → Type 0
AtMostOpen n s = open_count (file_states s) ≤ n

-- "A setting gives each element 1 or 2 and keeps the fixed ones."
abbrev pub Setting : Situation → List ℕ → Type 0
Setting s σ = is_setting (file_states s) σ ≡ true

-- ---- yes and no
-- "It says yes exactly when" P holds: a yes is 1 and a no is 0.
abbrev pub Says : ℕ → Type 0 → Type 0
Says n P = ((n ≡ 1) × P) ⊎ ((n ≡ 0) × (P → ⊥))

-- ---- how many there are
-- There are n things with the property P, "each counted once": a list has each of them once and nothing else, and n entries.
pub record HowMany {A : Type 0} (P : A → Type 0) (n : ℕ) : Type 0 where
  pub all : List A
  pub once : Once all
  pub exactly : (x : A) → In x all ↔ P x
  pub number : length all ≡ n

-- "The same verdict, shown paths aside": the paths and their lengths may differ.
pub record SameVerdict (r r' : FlatVerdict) : Type 0 where
  pub refusal : r.refusal ≡ r'.refusal
  pub dangerous : r.dangerous ≡ r'.dangerous
  pub trains : (r.first_train ≡ r'.first_train) × (r.second_train ≡ r'.second_train)
  pub section : r.meeting ≡ r'.meeting
  pub counts : (r.entries ≡ r'.entries) × (r.looks ≡ r'.looks)

-- ---- lent memory
-- The list begins with `text` and keeps what it held after it. After a refusal nothing was filled: `Filled [] list list'` says that list' is `list`.
pub record Filled (text list list' : List ℕ) : Type 0 where
  pub fits : length text ≤ length list
  pub is : list' ≡ text ++ drop (length text) list
