-- The key that the key operation writes, by what demands 2 and 3 say of the verdict and of the settings question, and demand 1 of it.
-- The lines are those of the station file: `row_text` is a letter, the number of filled fields, and four numbers.
use Rattle.std.specs.Prelude.{◌≡◌, cond, List, [], ◌++◌, ℕ, ◌+◌, ◌*◌, ◌≤◌, ◌<◌, eqb, ltb, length, take, drop}
use Rattle.meaning.specs.declared.Situation.{Situation}
use Rattle.meaning.specs.Station.{file_states}
use Rattle.meaning.specs.declared.Field.TheVariants.{Blank, Number}
use Rattle.meaning.specs.Columns.{old, field_at, row_text}
use Rattle.meaning.specs.Key.{path_lines, element_lines}
use Rattle.meaning.specs.Accepted.{Accepted}
use Rattle.c_layout.specs.declared.FlatRefusal.{FlatRefusal}
use Rattle.c_layout.specs.declared.FlatVerdict.{FlatVerdict}
use Rattle.c_layout.specs.declared.FlatReply.{FlatReply}
use Rattle.c_layout.specs.declared.FlatOutput.{FlatOutput}
use Rattle.demands.specs.Words.{situation, AtMostOpen}
use Rattle.demands.specs.Item04.{HandsBack}
use Rattle.demands.specs.Demand1.{Answer, Is, CallCause}
use Rattle.demands.specs.OfVerdict.{Verdict}
use Rattle.demands.specs.OfSettings.{Reply}

-- "V, 1 for dangerous or 0 for safe, entries, looks, meeting section (blank when safe); if dangerous, one A line (train, section) for each
-- section of the first path in order, then B lines for the second." 86, 65 and 66 are V, A and B.
unfoldable pub verdict_text : FlatVerdict → List ℕ → List ℕ → List ℕ
verdict_text r first second =
    cond (eqb r.dangerous 1)
    (row_text 86 4 1 r.entries r.looks r.meeting
    ++ (path_lines 65 r.first_train (take r.first_length first) ++ path_lines 66 r.second_train (take r.second_length second)))
    (row_text 86 3 0 r.entries r.looks 0)

-- "Q, 1 or 0 for whether one is safe, number of safe settings, proceed count; if 1, one E line (element, state) for each element." 81 is Q.
unfoldable pub question_text : FlatReply → List ℕ → List ℕ
question_text r σ = cond (eqb r.safe 0) (row_text 81 3 0 0 0 0) (row_text 81 3 1 r.safe r.proceed 0 ++ element_lines 1 σ)

-- "With no open element": a verdict as demand 2 says.
abbrev pub VerdictKey : Situation → List ℕ → Type 0
VerdictKey s text =
    AtMostOpen 0 s × (first second first' second' : List ℕ) × (r : FlatVerdict)
    × Verdict s (file_states s) first second first' second' r × (text ≡ verdict_text r first' second')

-- "With open elements": a reply as demand 3 says.
abbrev pub QuestionKey : Situation → List ℕ → Type 0
QuestionKey s text =
    (AtMostOpen 0 s → ⊥) × AtMostOpen 12 s × (buffer buffer' : List ℕ) × (r : FlatReply)
    × Reply s buffer buffer' r × (text ≡ question_text r (take s.header.elements buffer'))

pub data Key (file text : List ℕ) : Type 0 where
  -- "A refusal prints R, number, line." 82 is R. Cause 9 is not among these: the key lends the buffers itself.
  refused : (q : FlatRefusal) → CallCause file 11 12 (λ q. ⊥) q → text ≡ row_text 82 2 q.number q.line 0 0 → Key file text
  judged : Accepted file → VerdictKey (situation file) text → Key file text
  asked : Accepted file → QuestionKey (situation file) text → Key file text

-- `file` is handed over with `buffer`; it answers r and leaves buffer'. The longest key has 22,550 bytes.
pub record Prints (file buffer buffer' : List ℕ) (r : FlatOutput) : Type 0 where
  pub text : List ℕ
  pub key : Key file text
  pub start : buffer' ≡ text ++ drop (length text) buffer
  pub room : 22550 ≤ length buffer
  pub handed_back : HandsBack text r

abbrev pub Demand1Key : List ℕ → List ℕ → List ℕ → FlatOutput → Type 0
Demand1Key file buffer buffer' r =
    Answer r.refusal (Prints file buffer buffer' r) ((length buffer < 22550) × Is r.refusal 9 0) ((buffer' ≡ buffer) × HandsBack [] r)
