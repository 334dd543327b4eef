-- Item 8, changed minds: `log` is handed over with `buffer`; the operation answers r and leaves buffer'. Lines are counted from 0 here, so that
-- line i is line i + 1 of a refusal. Nothing here goes by how a line is read: a line is what its 22 bytes are.
use Rattle.std.specs.Prelude.{◌≡◌, ◌⊎◌, ◌↔◌, List, [], ◌∷◌, ℕ, ◌+◌, ◌*◌, ◌/◌, ◌%◌, ◌≤◌, ◌<◌, length, take, drop}
use Rattle.session_meaning.specs.declared.Sent.{Sent}
use Rattle.session_meaning.specs.Answers.{Ranges, OneQuestion, Before, answer_text, answers_text}
use Rattle.c_layout.specs.declared.FlatRefusal.{FlatRefusal}
use Rattle.c_layout.specs.declared.FlatFilled.{FlatFilled}
use Rattle.basics.specs.Lists.{In, Pairwise}
use Rattle.demands.specs.Words.{Filled}
use Rattle.demands.specs.Demand1.{Answer, Unless, NoneOf, FirstOf, Is, Short}

-- ---- the log
-- "The log has C lines in our columns": line i is the C line of a, whose numbers are in their ranges.
pub record IsCLine (log : List ℕ) (i : ℕ) (a : Sent) : Type 0 where
  pub within : i < length log / 22
  pub bytes : take 22 (drop (i * 22) log) ≡ answer_text a
  -- "candidate 1 to 9999, question 1 to 99, sequence 1 to 99999, answer 0 to 4097"
  pub ranges : Ranges a

abbrev pub SomeLineSays : List ℕ → Sent → Type 0
SomeLineSays log a = (i : ℕ) × IsCLine log i a

-- ---- its refusals
-- "At most 1,000 lines", and none is cut.
abbrev pub Whole : List ℕ → Type 0
Whole log = (length log % 22 ≡ 0) × (length log ≤ 1000 * 22)

-- What refuses line i: "line by line, 16 first".
pub data LogLineCause (log : List ℕ) (i number : ℕ) : Type 0 where
  -- "a line of wrong form or range"
  cause_16 : ((a : Sent) → IsCLine log i a → ⊥) → number ≡ 16 → LogLineCause log i number
  -- "a sequence already seen for that candidate and question"
  cause_17 : (a : Sent) → IsCLine log i a → (j : ℕ) → j < i → (b : Sent) → IsCLine log j b → OneQuestion b a → b.sequence ≡ a.sequence → number ≡ 17
      → LogLineCause log i number

pub record AcceptedLog (log : List ℕ) : Type 0 where
  pub whole : Whole log
  pub lines : NoneOf (LogLineCause log) (length log / 22)

-- ---- the answers that stand
pub record Stands (log : List ℕ) (a : Sent) : Type 0 where
  pub sent : SomeLineSays log a
  -- "For one candidate and question the highest sequence supersedes the rest."
  pub highest : (b : Sent) → SomeLineSays log b → OneQuestion b a → b.sequence ≤ a.sequence
  -- "Answer 0 withdraws."
  pub not_withdrawn : a.answer ≡ 0 → ⊥

-- "The standing answers come out .. by candidate, then question, each once, withdrawn ones left out."
pub record Standing (log : List ℕ) (answers : List Sent) : Type 0 where
  pub exactly : (a : Sent) → In a answers ↔ Stands log a
  -- Each is before all that come after it, so that a candidate and question comes once.
  pub order : Pairwise Before answers

-- ---- the operation
abbrev pub LogCause : List ℕ → ℕ → FlatRefusal → Type 0
LogCause log room q =
    -- "16 a log of cut lines or too many (line 0, first of all)"
    Unless (Whole log) (Is q 16 0)
    -- "line by line"
    (Unless (NoneOf (LogLineCause log) (length log / 22)) (FirstOf (LogLineCause log) (length log / 22) 1 q)
    -- "then 9 at the end for a buffer below 22 bytes a standing answer"
    ((answers : List Sent) × Standing log answers × Short (room < length answers * 22) q))

pub record LogAnswered (log buffer buffer' : List ℕ) (r : FlatFilled) : Type 0 where
  pub accepted : AcceptedLog log
  pub answers : List Sent
  pub standing : Standing log answers
  -- "The standing answers come out as their C lines."
  pub filled : Filled (answers_text answers) buffer buffer'
  -- "The number of bytes filled is returned."
  pub counted : r.length ≡ length answers * 22

-- After a refusal no byte is filled.
abbrev pub Item8 : List ℕ → List ℕ → List ℕ → FlatFilled → Type 0
Item8 log buffer buffer' r =
    Answer r.refusal (LogAnswered log buffer buffer' r) (LogCause log (length buffer) r.refusal) ((r.length ≡ 0) × (buffer' ≡ buffer))
