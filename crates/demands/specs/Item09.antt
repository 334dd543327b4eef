-- Item 9, session report: `marks` is handed over with `buffer`; the operation answers r and leaves buffer'. Nothing here goes by how the
-- lines are made: a line's sums are those over the records.
use Rattle.std.specs.Prelude.{◌≡◌, cond, ◌↔◌, List, [], ◌∷◌, ◌++◌, ℕ, ◌+◌, ◌*◌, ◌≤◌, ◌<◌, eqb, length}
use Rattle.session_meaning.specs.declared.Mark.{Mark}
use Rattle.meaning.specs.Columns.{row_text}
use Rattle.session_meaning.specs.Report.{Total, sum_of, totals_text}
use Rattle.c_layout.specs.declared.FlatRefusal.{FlatRefusal}
use Rattle.c_layout.specs.declared.FlatFilled.{FlatFilled}
use Rattle.basics.specs.Lists.{In, Pairwise}
use Rattle.demands.specs.Words.{Filled}
use Rattle.demands.specs.Demand1.{Answer, Unless, Is, Short}

-- ---- the records
pub record RightMark (m : Mark) : Type 0 where
  -- "Item 8's ranges": candidate 1 to 9999, question 1 to 99.
  pub candidate : (1 ≤ m.candidate) × (m.candidate ≤ 9999)
  pub question : (1 ≤ m.question) × (m.question ≤ 99)
  -- Not "more marks gained than possible, or above 100 possible".
  pub gained : m.gained ≤ m.possible
  pub possible : m.possible ≤ 100

abbrev pub EachRight : List Mark → Type 0
EachRight marks = (m : Mark) → In m marks → RightMark m

-- ---- the sums
-- What the records of candidate c give, added up.
abbrev pub sum_for : ℕ → (Mark → ℕ) → List Mark → ℕ
sum_for c f marks = sum_of (λ m. cond (eqb m.candidate c) (f m) 0) marks

-- "In rising order": each is below all that come after it, so that a candidate comes once.
abbrev pub Below : Total → Total → Type 0
Below t u = t.candidate < u.candidate

-- The M lines of a list of records. What follows of them is `EachEntered` (Laws).
pub record Lines (marks : List Mark) (lines : List Total) : Type 0 where
  pub order : Pairwise Below lines
  -- "One M line (candidate, both sums over that candidate's records)."
  pub sums : (t : Total) → In t lines
      → (t.gained ≡ sum_for t.candidate (λ m. m.gained) marks) × (t.possible ≡ sum_for t.candidate (λ m. m.possible) marks)
  -- "For each candidate with a record", and no other.
  pub exactly : (c : ℕ) → ((t : Total) × In t lines × (t.candidate ≡ c)) ↔ ((m : Mark) × In m marks × (m.candidate ≡ c))

-- ---- the operation
-- The first record that is not right is at this place, counted from 1.
abbrev pub FirstWrong : List Mark → ℕ → Type 0
FirstWrong marks place =
    (before : List Mark) × (m : Mark) × (after : List Mark) × (marks ≡ before ++ m ∷ after) × EachRight before × (RightMark m → ⊥) × (place ≡ length before + 1)

abbrev pub MarksCause : List Mark → ℕ → FlatRefusal → Type 0
MarksCause marks room q =
    -- "With 19 a list of more than 999 records; 19 is tested first."
    Unless (length marks ≤ 999) (Is q 19 0)
    -- "With 18, giving the first such record's place counted from 1."
    (Unless (EachRight marks) ((q.number ≡ 18) × FirstWrong marks q.line)
    -- "9 (22 bytes a line) last."
    ((lines : List Total) × Lines marks lines × Short (room < (length lines + 1) * 22) q))

pub record Reports (marks : List Mark) (buffer buffer' : List ℕ) (r : FlatFilled) : Type 0 where
  pub few : length marks ≤ 999
  pub right : EachRight marks
  pub lines : List Total
  pub are : Lines marks lines
  -- "And a last Z line (both sums over the session), in our columns." 90 is Z.
  pub filled : Filled (totals_text lines ++ row_text 90 2 (sum_of (λ m. m.gained) marks) (sum_of (λ m. m.possible) marks) 0 0) buffer buffer'
  pub counted : r.length ≡ (length lines + 1) * 22

-- After a refusal no byte is filled.
abbrev pub Item9 : List Mark → List ℕ → List ℕ → FlatFilled → Type 0
Item9 marks buffer buffer' r =
    Answer r.refusal (Reports marks buffer buffer' r) (MarksCause marks (length buffer) r.refusal) ((r.length ≡ 0) × (buffer' ≡ buffer))
