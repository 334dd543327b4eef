-- The causes of refusal, by the numbers that documents 01 and 02 give them.
use Rattle.std.specs.Prelude.{Result, Ok, Err, List, [], ◌∷◌, ℕ, ◌-◌, get_or}
use Rattle.meaning.specs.declared.Cause.{Cause}
use Rattle.meaning.specs.declared.Cause.TheVariants as cause

-- A refusal by its number, with the line it is found on. Number 0: nothing is refused.
pub record Numbered : Type 0 where
  pub number : ℕ
  pub line : ℕ

-- "Whoever drew the file": 1 to 8; "whoever calls": 9 to 11 (01, "Who can cause a refusal"). The others belong to the items of document 02:
-- 12 to 1, 13 to 5, 14 and 15 to 7, 16 and 17 to 8, 18 and 19 to 9, 20 to 10, 21 to 14.
abbrev pub number_of : Cause → ℕ
number_of cause.FileLength = 1
number_of cause.LineForm = 2
number_of cause.HeaderRange = 3
number_of cause.LineCount = 4
number_of cause.SectionRange = 5
number_of cause.StateRange = 6
number_of cause.SectionTwice = 7
number_of cause.PairTwice = 8
number_of cause.BufferShort = 9
number_of cause.ElementOpen = 10
number_of cause.TooManyOpen = 11
number_of cause.NoTrain = 12
number_of cause.TrainLong = 13
number_of cause.RouteLine = 14
number_of cause.RouteStep = 15
number_of cause.LogForm = 16
number_of cause.LogSequence = 17
number_of cause.MarkRange = 18
number_of cause.TooManyMarks = 19
number_of cause.DeskAddress = 20
number_of cause.PlacementRange = 21

-- All causes, in the order of their numbers: the first has number 1.
abbrev pub causes : List Cause
causes =
    cause.FileLength
    ∷ cause.LineForm
    ∷ cause.HeaderRange
    ∷ cause.LineCount
    ∷ cause.SectionRange
    ∷ cause.StateRange
    ∷ cause.SectionTwice
    ∷ cause.PairTwice
    ∷ cause.BufferShort
    ∷ cause.ElementOpen
    ∷ cause.TooManyOpen
    ∷ cause.NoTrain
    ∷ cause.TrainLong
    ∷ cause.RouteLine
    ∷ cause.RouteStep
    ∷ cause.LogForm
    ∷ cause.LogSequence
    ∷ cause.MarkRange
    ∷ cause.TooManyMarks
    ∷ cause.DeskAddress
    ∷ cause.PlacementRange
    ∷ []

-- The cause of a number from 1 to 21.
abbrev pub cause_of : ℕ → Cause
cause_of n = get_or causes (n - 1) cause.FileLength

-- The number of the cause that a test found, 0 where it found none.
abbrev pub number_in : {T : Type 0} → Result T Cause → ℕ
number_in (Ok x) = 0
number_in (Err c) = number_of c
