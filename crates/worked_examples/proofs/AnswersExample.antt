-- A test of the definitions of Answers: what they give for some small logs.
use Rattle.std.specs.Prelude.{Err, ◌≡◌, refl, List, [], ◌∷◌, ◌++◌, ℕ}
use Rattle.session_meaning.specs.declared.Sent.{Sent}
use Rattle.meaning.specs.Columns.{field_at, field_text, row_text}
use Rattle.basics.specs.Lists.{list_of}
use Rattle.meaning.specs.File.{refusal}
use Rattle.basics.specs.Numbers.{lowest}
use Rattle.session_meaning.specs.Answers.{
  is_c,
  sent_at,
  in_range,
  seen,
  superseded,
  right,
  log_cause_at,
  first_wrong_line,
  cut_or_long,
  log_refusal,
  stands,
  enter_answer,
  standing_of,
  sent_lines,
  standing_lines,
  answers_text,
  standing_refusal,
  standing_answer,
  claimed,
}

abbrev sent : ℕ → ℕ → ℕ → ℕ → Sent
sent c q s a = record { candidate = c; question = q; sequence = s; answer = a }

abbrev lines : List Sent
lines = sent 7 1 1 5 ∷ sent 3 2 9 0 ∷ sent 7 1 3 6 ∷ sent 7 1 2 0 ∷ sent 3 1 4 4097 ∷ []

-- Line 2 withdraws. Line 4 withdraws nothing, since line 3 supersedes it.
pub stand : standing_lines (answers_text lines) ≡ sent 3 1 4 4097 ∷ sent 7 1 3 6 ∷ []
unfolding standing_lines sent_lines standing_of enter_answer stands superseded list_of sent_at field_at answers_text row_text field_text
stand = refl

-- A sequence seen again is refused although line 3 superseded the line that had it.
pub again : log_refusal (answers_text (lines ++ (sent 7 1 1 9 ∷ []))) ≡ refusal 17 6
unfolding log_refusal cut_or_long first_wrong_line lowest log_cause_at right is_c in_range seen list_of sent_at field_at answers_text row_text field_text
again = refl

-- The first line with a cause decides.
pub wrong : log_refusal (answers_text (lines ++ (sent 7 100 1 9 ∷ sent 7 1 1 9 ∷ []))) ≡ refusal 16 6
unfolding log_refusal cut_or_long first_wrong_line lowest log_cause_at right is_c in_range seen list_of sent_at field_at answers_text row_text field_text
wrong = refl

-- Two answers stand, and need 44 bytes.
pub short : standing_answer (answers_text lines) 43 ≡ Err (refusal 9 0)
unfolding standing_answer standing_refusal log_refusal cut_or_long first_wrong_line lowest log_cause_at right is_c in_range seen standing_lines sent_lines standing_of enter_answer stands superseded list_of sent_at field_at answers_text row_text field_text
short = refl

-- A number with a leading zero is of the wrong form.
pub padded : log_refusal (67 ∷ ((32 ∷ 32 ∷ 32 ∷ 48 ∷ 55 ∷ []) ++ (field_text 1 ++ (field_text 1 ++ (field_text 5 ++ (10 ∷ [])))))) ≡ refusal 16 1
unfolding log_refusal cut_or_long first_wrong_line lowest log_cause_at right is_c in_range seen list_of sent_at field_at field_text
padded = refl

-- The highest answer claims that every setting of twelve open elements is safe.
pub claims : claimed (sent 1 1 1 4097) ≡ 4096
claims = refl
