-- Item 5, old desks: "Some desks still read only S files. We need a converter from U files to S files that changes the first letter and nothing
-- else, and one from S to U." x is the letter that is wanted: S for `judge_to_s`, U for `judge_to_u`. `file` is handed over with `buffer`; the
-- operation answers r and leaves buffer'. Trains are numbered from 1. What holds of the bytes that come out is a law (specs/ThereAndBack).
use Rattle.std.specs.Prelude.{◌≡◌, List, ℕ, ◌+◌, ◌≤◌, ◌<◌, length, set}
use Rattle.meaning.specs.declared.Letter.{Letter}
use Rattle.meaning.specs.declared.Header.{Header}
use Rattle.meaning.specs.declared.Letter.TheVariants as letter
use Rattle.meaning.specs.Station.{standing}
use Rattle.meaning.specs.Accepted.{Accepted}
use Rattle.file_meaning.specs.Converter.{byte_of}
use Rattle.c_layout.specs.declared.FlatRefusal.{FlatRefusal}
use Rattle.c_layout.specs.declared.FlatFilled.{FlatFilled}
use Rattle.demands.specs.Words.{situation, Filled}
use Rattle.demands.specs.Demand1.{Answer, Unless, Is, Short, FileCause}

-- Train t is one of the file's and is "in more than one section".
abbrev pub Several : List ℕ → ℕ → Type 0
Several file t = (1 ≤ t) × (t ≤ (situation file).header.trains) × (1 < length (standing (situation file) t))

-- What 13 rules out, "on the way to S".
abbrev pub NoneSeveral : Letter → List ℕ → Type 0
NoneSeveral x file = x ≡ letter.S → (t : ℕ) → Several file t → ⊥

-- ---- the operation
pub record Converts (x : Letter) (file buffer buffer' : List ℕ) (r : FlatFilled) : Type 0 where
  pub accepted : Accepted file
  pub none_several : NoneSeveral x file
  -- The operation "changes the first letter and nothing else"; "lent memory past what an operation writes keeps its content".
  pub filled : Filled (set file 0 (byte_of x)) buffer buffer'
  pub counted : r.length ≡ length file

abbrev pub ConversionCause : Letter → List ℕ → ℕ → FlatRefusal → Type 0
ConversionCause x file room q =
    let h : Header = (situation file).header in
    -- "After the file refusals"
    Unless (Accepted file) (FileCause file q)
    -- "on the way to S it refuses with 13 .. a U file with a train in more than one section, giving the line of the first such train": T lines stand below the
    -- first line, the P lines and the elements
    (Unless (NoneSeveral x file)
    ((t : ℕ) × Several file t × ((u : ℕ) → u < t → Several file u → ⊥) × Is q 13 (1 + h.plain + h.elements + t))
    -- "and before 9 (22 bytes a line)": the file's length, whether the letter changes or not
    (Short (room < length file) q))

abbrev pub Item5 : Letter → List ℕ → List ℕ → List ℕ → FlatFilled → Type 0
Item5 x file buffer buffer' r =
    Answer r.refusal (Converts x file buffer buffer' r) (ConversionCause x file (length buffer) r.refusal) ((r.length ≡ 0) × (buffer' ≡ buffer))
