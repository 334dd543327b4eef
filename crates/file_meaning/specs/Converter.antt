-- The converter between the letters of a file (02, Item 5): "a converter from U files to S files that changes the first letter and nothing
-- else, and one from S to U". Trains are numbered from 1.
use Rattle.std.specs.Prelude.{Result, cond, List, ◌++◌, ℕ, ◌+◌, eqb, ltb, length, drop, set}
use Rattle.meaning.specs.declared.Letter.{Letter}
use Rattle.meaning.specs.declared.Letter.TheVariants as letter
use Rattle.meaning.specs.declared.Situation.{Situation}
use Rattle.meaning.specs.declared.Refusal.{Refusal}
use Rattle.meaning.specs.Station.{standing}
use Rattle.basics.specs.Numbers.{lowest}
use Rattle.meaning.specs.File.{refusal, reading, is_none, unless_refused}
use Rattle.meaning.specs.Operations.{first_of}

-- Byte 83 is S, 85 is U.
abbrev pub byte_of : Letter → ℕ
byte_of letter.S = 83
byte_of letter.U = 85

-- "Changes the first letter and nothing else": the file with the letter x in front.
unfoldable pub with_letter : Letter → List ℕ → List ℕ
with_letter x file = set file 0 (byte_of x)

abbrev pub to_s : List ℕ → List ℕ
to_s file = with_letter letter.S file

abbrev pub to_u : List ℕ → List ℕ
to_u file = with_letter letter.U file

-- ---- what a letter says of a situation
-- "A train in more than one section": the number of the first, 0 where there is none.
unfoldable pub first_long : Situation → ℕ
first_long s = lowest s.header.trains (λ t. ltb 1 (length (standing s t)))

-- The line of train t: trains come after the first line, the P lines and the elements.
abbrev pub train_line : Situation → ℕ → ℕ
train_line s t = 1 + s.header.plain + s.header.elements + t

-- "On the way to S it refuses with 13 [..] a U file with a train in more than one section, giving the line of the first such train." An S file
-- has none (proofs/Letters).
abbrev pub long_refusal : Letter → Situation → Refusal
long_refusal letter.S s = cond (eqb (first_long s) 0) (refusal 0 0) (refusal 13 (train_line s (first_long s)))
long_refusal letter.U s = refusal 0 0

-- ---- the operation
-- "After the file refusals and before 9 (22 bytes a line)": the file's own length.
unfoldable pub conversion_refusal : Letter → List ℕ → ℕ → Refusal
conversion_refusal x file room =
    first_of (reading file).refusal
    (first_of (long_refusal x (reading file).situation)
    (cond (ltb room (length file)) (refusal 9 0) (refusal 0 0)))

-- What the operation answers: the number of bytes filled, or the refusal.
unfoldable pub conversion_answer : Letter → List ℕ → ℕ → Result ℕ Refusal
conversion_answer x file room = unless_refused (conversion_refusal x file room) (length file)

-- The buffer after the operation: its start is filled, and the rest is as it was; a refusal leaves all of it as it was.
unfoldable pub after_conversion : Letter → List ℕ → List ℕ → List ℕ
after_conversion x file buffer =
    cond (is_none (conversion_refusal x file (length buffer))) (with_letter x file ++ drop (length file) buffer) buffer
