-- The log of answers and those that stand (02, Item 8). Offsets are counted from 0, and lines from 1, as refusals name them.
use Rattle.std.specs.Prelude.{◌≡◌, ◌⊎◌, Result, Option, Some, None, Bool, false, not, ◌&&◌, ◌||◌, cond, List, [], ◌∷◌, ◌++◌, ℕ, ◌+◌, ◌*◌, ◌-◌, ◌/◌, ◌%◌, ◌≤◌, ◌<◌, eqb, ltb, leb, get_or, length, drop}
use Rattle.meaning.specs.declared.Field.{Field}
use Rattle.session_meaning.specs.declared.Sent.{Sent}
use Rattle.session_meaning.specs.declared.AnswerField.{AnswerField}
use Rattle.session_meaning.specs.declared.AnswerField.TheVariants as field
use Rattle.meaning.specs.declared.RecordKind.{RecordKind}
use Rattle.meaning.specs.declared.Refusal.{Refusal}
use Rattle.meaning.specs.Columns.{old, field_in, fits, value_of, row_text, rows_of}
use Rattle.basics.specs.Lists.{list_of}
use Rattle.meaning.specs.File.{refusal, is_none, unless_refused}
use Rattle.meaning.specs.Operations.{first_of}
use Rattle.basics.specs.Numbers.{lowest}

-- ---- a line of the log
-- "The log has C lines in our columns": the log's own entry in the form of the table of record kinds. 67 is C.
abbrev pub answer_kind : RecordKind (Option AnswerField)
answer_kind =
    record {
      letter = 67;
      filled = 4;
      meaning = Some field.Candidate ∷ Some field.Question ∷ Some field.Sequence ∷ Some field.Answer ∷ [];
    }

-- Field j, from 0, of line i. "Answer logs keep the old form" (Item 13): no leading zero, whatever station files may have.
abbrev pub answer_field : List ℕ → ℕ → ℕ → Field
answer_field log i j = field_in old log i j

-- Field j of line i is as the entry of the table requires.
abbrev pub answer_fits : List ℕ → ℕ → ℕ → Bool
answer_fits log i j = fits (ltb j answer_kind.filled) (answer_field log i j)

-- Line i, from 0, has the form of a C line.
unfoldable pub is_c : List ℕ → ℕ → Bool
is_c log i =
    eqb (get_or log (i * 22) 0) answer_kind.letter
    && (eqb (get_or log (i * 22 + 21) 0) 10
    && (answer_fits log i 0 && (answer_fits log i 1 && (answer_fits log i 2 && answer_fits log i 3))))

-- What line i says.
unfoldable pub sent_at : List ℕ → ℕ → Sent
sent_at log i =
    record {
      candidate = value_of (answer_field log i 0);
      question = value_of (answer_field log i 1);
      sequence = value_of (answer_field log i 2);
      answer = value_of (answer_field log i 3);
    }

-- "Candidate 1 to 9999, question 1 to 99, sequence 1 to 99999, answer 0 to 4097."
pub record Ranges (a : Sent) : Type 0 where
  pub candidate : (1 ≤ a.candidate) × (a.candidate ≤ 9999)
  pub question : (1 ≤ a.question) × (a.question ≤ 99)
  pub sequence : (1 ≤ a.sequence) × (a.sequence ≤ 99999)
  pub answer : a.answer ≤ 4097

-- The ranges as a test, field by field: the number is in the range of its field's meaning.
abbrev pub allowed : Option AnswerField → ℕ → Bool
allowed (Some field.Candidate) n = leb 1 n && leb n 9999
allowed (Some field.Question) n = leb 1 n && leb n 99
allowed (Some field.Sequence) n = leb 1 n && leb n 99999
allowed (Some field.Answer) n = leb n 4097
allowed None n = false

-- Field j of a line, from 0, may have the number n.
abbrev pub answer_allowed : ℕ → ℕ → Bool
answer_allowed j n = allowed (get_or answer_kind.meaning j None) n

unfoldable pub in_range : Sent → Bool
in_range a =
    answer_allowed 0 a.candidate && (answer_allowed 1 a.question && (answer_allowed 2 a.sequence && answer_allowed 3 a.answer))

-- The C line of an answer. 67 is C.
abbrev pub answer_text : Sent → List ℕ
answer_text a = row_text 67 4 a.candidate a.question a.sequence a.answer

-- "Any other answer claims one safe setting fewer than its number": 1 claims that no setting is safe, 4097 that all 4,096 of twelve open
-- elements are. The register reads a standing answer so; no operation on the log goes by it.
abbrev pub claimed : Sent → ℕ
claimed a = a.answer - 1

-- ---- two lines
abbrev pub same_question : Sent → Sent → Bool
same_question a b = eqb a.candidate b.candidate && eqb a.question b.question

-- "One candidate and question."
abbrev pub OneQuestion : Sent → Sent → Type 0
OneQuestion a b = (a.candidate ≡ b.candidate) × (a.question ≡ b.question)

-- "By candidate, then question."
abbrev pub Before : Sent → Sent → Type 0
Before a b = (a.candidate < b.candidate) ⊎ ((a.candidate ≡ b.candidate) × (a.question < b.question))

-- "A sequence already seen for that candidate and question."
abbrev pub same_sequence : Sent → Sent → Bool
same_sequence a b = same_question a b && eqb a.sequence b.sequence

unfoldable pub seen : List Sent → Sent → Bool
seen [] a = false
seen (b ∷ l) a = same_sequence b a || seen l a

-- "For one candidate and question the highest sequence supersedes the rest."
unfoldable pub superseded : List Sent → Sent → Bool
superseded [] a = false
superseded (b ∷ l) a = (same_question b a && ltb a.sequence b.sequence) || superseded l a

-- ---- the refusal of a log
abbrev pub log_lines : List ℕ → ℕ
log_lines log = length log / 22

-- Line i, from 0, is not "a line of wrong form or range", which 16 refuses.
unfoldable pub right : List ℕ → ℕ → Bool
right log i = is_c log i && in_range (sent_at log i)

-- "Line by line, 16 first": the cause of line i, from 0, after the lines before it; 0 where it has none.
unfoldable pub log_cause_at : List ℕ → ℕ → ℕ
log_cause_at log i = cond (right log i) (cond (seen (list_of i (sent_at log)) (sent_at log i)) 17 0) 16

-- The lowest line, from 1, that has a cause; 0 where none has.
unfoldable pub first_wrong_line : List ℕ → ℕ
first_wrong_line log = lowest (log_lines log) (λ k. not (eqb (log_cause_at log (k - 1)) 0))

-- "A log of cut lines or too many (line 0, first of all)."
unfoldable pub cut_or_long : List ℕ → Bool
cut_or_long log = not (eqb (length log % 22) 0) || ltb (1000 * 22) (length log)

unfoldable pub log_refusal : List ℕ → Refusal
log_refusal log =
    cond (cut_or_long log) (refusal 16 0)
    (cond (eqb (first_wrong_line log) 0) (refusal 0 0) (refusal (log_cause_at log (first_wrong_line log - 1)) (first_wrong_line log)))

-- ---- the answers that stand
-- "Answer 0 withdraws": a line stands where its answer is not 0 and no line of the log supersedes it.
unfoldable pub stands : List Sent → Sent → Bool
stands log a = not (eqb a.answer 0) && not (superseded log a)

-- "By candidate, then question."
abbrev pub ahead : Sent → Sent → Bool
ahead a b = ltb a.candidate b.candidate || (eqb a.candidate b.candidate && ltb a.question b.question)

-- The list with a line put before the first line that it is ahead of.
unfoldable pub enter_answer : Sent → List Sent → List Sent
enter_answer a [] = a ∷ []
enter_answer a (b ∷ l) = cond (ahead a b) (a ∷ b ∷ l) (b ∷ enter_answer a l)

-- The lines of a list that stand in the log, in their order, "withdrawn ones left out".
unfoldable pub standing_of : List Sent → List Sent → List Sent
standing_of log [] = []
standing_of log (a ∷ l) = cond (stands log a) (enter_answer a (standing_of log l)) (standing_of log l)

unfoldable pub sent_lines : List ℕ → List Sent
sent_lines log = list_of (log_lines log) (sent_at log)

unfoldable pub standing_lines : List ℕ → List Sent
standing_lines log = standing_of (sent_lines log) (sent_lines log)

-- ---- the operation
-- "The standing answers come out as their C lines."
unfoldable pub answers_text : List Sent → List ℕ
answers_text l = rows_of answer_text l

-- "Then 9 at the end for a buffer below 22 bytes a standing answer."
unfoldable pub standing_refusal : List ℕ → ℕ → Refusal
standing_refusal log room = first_of (log_refusal log) (cond (ltb room (length (standing_lines log) * 22)) (refusal 9 0) (refusal 0 0))

-- "The number of bytes filled is returned."
unfoldable pub standing_answer : List ℕ → ℕ → Result ℕ Refusal
standing_answer log room = unless_refused (standing_refusal log room) (length (standing_lines log) * 22)

-- The buffer after the operation: its start is filled, and the rest is as it was; a refusal leaves all of it as it was.
unfoldable pub after_standing : List ℕ → List ℕ → List ℕ
after_standing log buffer =
    cond (is_none (standing_refusal log (length buffer)))
    (answers_text (standing_lines log) ++ drop (length (standing_lines log) * 22) buffer)
    buffer
