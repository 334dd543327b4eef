-- The session report (02, Item 9). Places of records are counted from 1, as refusals name them.
use Rattle.std.specs.Prelude.{Result, Bool, ◌&&◌, cond, List, [], ◌∷◌, ◌++◌, ℕ, suc, ◌+◌, ◌*◌, eqb, ltb, leb, length, drop}
use Rattle.session_meaning.specs.declared.Mark.{Mark}
use Rattle.meaning.specs.declared.Refusal.{Refusal}
use Rattle.meaning.specs.Columns.{row_text, rows_of}
use Rattle.meaning.specs.File.{refusal, is_none, unless_refused}
use Rattle.meaning.specs.Operations.{first_of}
use Rattle.session_meaning.specs.Answers.{answer_allowed}

-- ---- the refusal of a list of records
-- A record with none of "a candidate or question outside Item 8's ranges, more marks gained than possible, or above 100 possible".
unfoldable pub right_mark : Mark → Bool
right_mark m =
    answer_allowed 0 m.candidate && (answer_allowed 1 m.question && (leb m.gained m.possible && leb m.possible 100))

-- "The first such record's place counted from 1", where i records stand before the list; 0 where there is none.
unfoldable pub first_wrong_mark : ℕ → List Mark → ℕ
first_wrong_mark i [] = 0
first_wrong_mark i (m ∷ l) = cond (right_mark m) (first_wrong_mark (suc i) l) (suc i)

-- "With 19 a list of more than 999 records; 19 is tested first."
unfoldable pub marks_refusal : List Mark → Refusal
marks_refusal l =
    cond (ltb 999 (length l)) (refusal 19 0) (cond (eqb (first_wrong_mark 0 l) 0) (refusal 0 0) (refusal 18 (first_wrong_mark 0 l)))

-- ---- the sums
-- The sum over a list of what each record gives.
unfoldable pub sum_of : (Mark → ℕ) → List Mark → ℕ
sum_of f [] = 0
sum_of f (m ∷ l) = f m + sum_of f l

-- A candidate with both sums.
pub record Total : Type 0 where
  pub candidate : ℕ
  pub gained : ℕ
  pub possible : ℕ

abbrev pub total_of : Mark → Total
total_of m = record { candidate = m.candidate; gained = m.gained; possible = m.possible }

abbrev pub plus : Total → Total → Total
plus t u = record { candidate = t.candidate; gained = t.gained + u.gained; possible = t.possible + u.possible }

-- "Every record enters just one candidate's line": the one of its candidate, or a new one before the first of a higher candidate.
unfoldable pub enter_total : Total → List Total → List Total
enter_total t [] = t ∷ []
enter_total t (u ∷ l) =
    cond (ltb t.candidate u.candidate) (t ∷ u ∷ l)
    (cond (eqb t.candidate u.candidate) (plus u t ∷ l) (u ∷ enter_total t l))

unfoldable pub totals : List Mark → List Total
totals [] = []
totals (m ∷ l) = enter_total (total_of m) (totals l)

-- ---- the report
-- "One M line (candidate, both sums over that candidate's records)": 77 is M.
abbrev pub total_text : Total → List ℕ
total_text t = row_text 77 3 t.candidate t.gained t.possible 0

-- "For each candidate with a record, in rising order."
unfoldable pub totals_text : List Total → List ℕ
totals_text l = rows_of total_text l

-- "A last Z line (both sums over the session)": 90 is Z.
unfoldable pub session_text : List Mark → List ℕ
session_text l = row_text 90 2 (sum_of (λ m. m.gained) l) (sum_of (λ m. m.possible) l) 0 0

unfoldable pub report_text : List Mark → List ℕ
report_text l = totals_text (totals l) ++ session_text l

-- How many bytes the report has: 22 a line.
unfoldable pub report_length : List Mark → ℕ
report_length l = (length (totals l) + 1) * 22

-- ---- the operation
-- "9 (22 bytes a line) last."
unfoldable pub report_refusal : List Mark → ℕ → Refusal
report_refusal l room = first_of (marks_refusal l) (cond (ltb room (report_length l)) (refusal 9 0) (refusal 0 0))

unfoldable pub report_answer : List Mark → ℕ → Result ℕ Refusal
report_answer l room = unless_refused (report_refusal l room) (report_length l)

-- The buffer after the operation: its start is filled, and the rest is as it was; a refusal leaves all of it as it was.
unfoldable pub after_report : List Mark → List ℕ → List ℕ
after_report l buffer =
    cond (is_none (report_refusal l (length buffer))) (report_text l ++ drop (report_length l) buffer) buffer
