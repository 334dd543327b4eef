-- A line of the log as one number, and what is read off such numbers in rising order.
use Rattle.std.specs.Prelude.{Option, Some, None, Result, IfOk, ◌≡◌, Bool, true, false, not, ◌&&◌, cond, List, [], ◌∷◌, map, ℕ, ◌+◌, ◌*◌, ◌/◌, ◌%◌, ◌≤◌, ◌<◌, min, take, eqb}
use Rattle.session_meaning.specs.declared.Sent.{Sent}
use Rattle.meaning.specs.declared.Refusal.{Refusal}
use Rattle.basics.specs.Lists.{list_of}
use Rattle.meaning.specs.File.{unless_refused}
use Rattle.session_meaning.specs.Answers.{right, sent_at, log_lines, log_refusal, standing_lines}

abbrev pub sent : ℕ → ℕ → ℕ → ℕ → Sent
sent c q s a = record { candidate = c; question = q; sequence = s; answer = a }

-- Candidate, question, sequence, line and answer, in 14, 7, 17, 10 and 13 bits: keys are in order by candidate, question, sequence, line.
abbrev pub key_of : ℕ → Sent → ℕ
key_of line a = (((a.candidate * 128 + a.question) * 131072 + a.sequence) * 1024 + line) * 8192 + a.answer

-- Candidate and question; with the sequence; the line; the answer.
abbrev pub question_of : ℕ → ℕ
question_of x = x / 1099511627776

abbrev pub sequence_of : ℕ → ℕ
sequence_of x = x / 8388608

abbrev pub line_of : ℕ → ℕ
line_of x = x / 8192 % 1024

abbrev pub answer_of : ℕ → ℕ
answer_of x = x % 8192

abbrev pub sent_of : ℕ → Sent
sent_of x =
    record { candidate = question_of x / 128; question = question_of x % 128; sequence = sequence_of x % 131072; answer = answer_of x }

-- The key of line i, from 0.
abbrev pub line_key : List ℕ → ℕ → ℕ
line_key log i = key_of (i + 1) (sent_at log i)

-- The key of line i, from 0, as line n, where it is of the right form and range.
unfoldable pub key_as : ℕ → List ℕ → ℕ → Option ℕ
key_as n log i = cond (right log i) (Some (key_of n (sent_at log i))) None

abbrev pub key_at : List ℕ → ℕ → Option ℕ
key_at log i = key_as (i + 1) log i

-- The first r lines are right and their keys are stored; line r, from 0, is not, if there is one.
pub record ReadTo (log keys : List ℕ) (r : ℕ) : Type 0 where
  pub within : r ≤ log_lines log
  pub good : (i : ℕ) → i < r → right log i ≡ true
  pub bad : r < log_lines log → right log r ≡ false
  pub stored : take r keys ≡ list_of r (line_key log)

-- The line of y where it repeats the sequence of x.
abbrev pub repeat_of : ℕ → ℕ → Option ℕ
repeat_of x y = cond (eqb (sequence_of x) (sequence_of y)) (Some (line_of y)) None

-- The lower of two lines, of those that there are.
abbrev pub least : Option ℕ → Option ℕ → Option ℕ
least None b = b
least (Some x) None = Some x
least (Some x) (Some y) = Some (min x y)

-- The lowest line that repeats the sequence of the key before it.
unfoldable pub first_repeat : List ℕ → Option ℕ
first_repeat [] = None
first_repeat (x ∷ []) = None
first_repeat (x ∷ y ∷ l) = least (repeat_of x y) (first_repeat (y ∷ l))

-- The key is the last for its candidate and question.
abbrev pub last_of_run : ℕ → List ℕ → Bool
last_of_run x [] = true
last_of_run x (y ∷ l) = not (eqb (question_of x) (question_of y))

-- The last of each candidate and question, where its answer is not 0.
unfoldable pub picks : List ℕ → List ℕ
picks [] = []
picks (x ∷ l) = cond (last_of_run x l && not (eqb (answer_of x) 0)) (x ∷ picks l) (picks l)

-- The log is refused, or the picked ones of as many keys as it has lines are the answers that stand.
pub record Settled (log keys : List ℕ) (r : Result ℕ Refusal) : Type 0 where
  pub answer : r ≡ unless_refused (log_refusal log) (log_lines log)
  pub few : IfOk r (λ n. n ≤ 1000)
  pub stand : IfOk r (λ n. map sent_of (picks (take n keys)) ≡ standing_lines log)
