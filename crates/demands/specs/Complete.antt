-- The statements leave no choice: of two answers, with what they leave in lent memory, that meet an operation's statements for the same
-- inputs, both are the same, shown paths aside. "States its result and the later content of all lent memory for all inputs, refusals too": a clause
-- that is taken away or weakened fails here, whatever the code does. Each is a theorem of proofs/Complete, proofs/CompleteKey,
-- proofs/CompleteItems or proofs/CompleteTables.
use Rattle.std.specs.Prelude.{◌≡◌, ◌⊎◌, List, ◌++◌, ℕ, ◌≤◌, length, take, drop}
use Rattle.meaning.specs.Key.{path_lines}
use Rattle.meaning.specs.Accepted.{Accepted}
use Rattle.c_layout.specs.declared.FlatRefusal.{FlatRefusal}
use Rattle.c_layout.specs.declared.FlatSituation.{FlatSituation}
use Rattle.c_layout.specs.declared.FlatReading.{FlatReading}
use Rattle.c_layout.specs.declared.FlatVerdict.{FlatVerdict}
use Rattle.c_layout.specs.declared.FlatReply.{FlatReply}
use Rattle.c_layout.specs.declared.FlatOutput.{FlatOutput}
use Rattle.c_layout.specs.declared.FlatPart.{FlatPart}
use Rattle.c_layout.specs.declared.FlatYesNo.{FlatYesNo}
use Rattle.c_layout.specs.declared.FlatFilled.{FlatFilled}
use Rattle.c_layout.specs.declared.FlatPlaced.{FlatPlaced}
use Rattle.c_layout.specs.declared.FlatDeskAnswer.{FlatDeskAnswer}
use Rattle.c_layout.specs.declared.FlatDeskByte.{FlatDeskByte}
use Rattle.meaning.specs.declared.Letter.{Letter}
use Rattle.session_meaning.specs.declared.Mark.{Mark}
use Rattle.session_meaning.specs.declared.Desk.{Desk}
use Rattle.demands.specs.Words.{situation, AtMostOpen, SameVerdict}
use Rattle.demands.specs.Demand1.{Demand1Read, Demand1Write}
use Rattle.demands.specs.OfVerdict.{VerdictStatement, Demand2}
use Rattle.demands.specs.OfSettings.{SettingsStatement, Demand3}
use Rattle.demands.specs.Keys.{Demand1Key}
use Rattle.demands.specs.Others.{DemandShorter}
use Rattle.demands.specs.Item01.{Item1}
use Rattle.demands.specs.Item04.{HandsBack}
use Rattle.demands.specs.Item05.{Item5}
use Rattle.demands.specs.Item06.{Item6}
use Rattle.demands.specs.Item07.{Item7}
use Rattle.demands.specs.Item08.{Item8}
use Rattle.demands.specs.Item09.{Item9}
use Rattle.demands.specs.Item10.{Item10Start, Item10Write, Item10Read, Item10Interrupt}
use Rattle.demands.specs.Item11.{Item11}
use Rattle.demands.specs.Item14.{Item14}

-- There is at most one outcome, an answer with what it leaves, of which `Asked` holds.
abbrev pub Pins : {Outcome : Type 0} → (Outcome → Type 0) → Type 0
Pins {Outcome} Asked = (a b : Outcome) → Asked a → Asked b → a ≡ b

-- ---- the reader, the writer, the shorter path
abbrev pub ReadPinned : Type 0
ReadPinned = (file : List ℕ) → Pins (λ (r : FlatReading). Demand1Read file r)

abbrev pub WritePinned : Type 0
WritePinned =
    (values : FlatSituation) (buffer : List ℕ) → Pins {Outcome = FlatOutput × List ℕ} (λ (r, buffer'). Demand1Write values buffer buffer' r)

abbrev pub ShorterPinned : Type 0
ShorterPinned = (first : List ℕ) (n : ℕ) (second : List ℕ) (m : ℕ) → Pins (λ (r : FlatPart). DemandShorter first n second m r)

-- ---- the settings question
abbrev pub SettingsPinned : Type 0
SettingsPinned = (file buffer : List ℕ) → Pins {Outcome = FlatReply × List ℕ} (λ (r, buffer'). SettingsStatement file buffer buffer' r)

-- Where demand 3 asks something, it alone leaves no choice.
abbrev pub ReplyPinned : Type 0
ReplyPinned =
    (file buffer : List ℕ) → Accepted file → AtMostOpen 12 (situation file) → (situation file).header.elements ≤ length buffer
    → Pins {Outcome = FlatReply × List ℕ} (λ (r, buffer'). Demand3 file buffer buffer' r)

-- ---- the verdict
-- "Which such path is shown is free": nothing else is.
pub record PathsAside (r : FlatVerdict) (first second : List ℕ) (r' : FlatVerdict) (first' second' : List ℕ) : Type 0 where
  pub same : SameVerdict r r'
  pub as_long : (length first ≡ length first') × (length second ≡ length second')
  -- Where both show the same paths, all is the same, what the lists hold after their path too.
  pub all_else : take r.first_length first ≡ take r'.first_length first' → take r.second_length second ≡ take r'.second_length second'
      → (r ≡ r') × (first ≡ first') × (second ≡ second')

abbrev pub PinsVerdict : (FlatVerdict → List ℕ → List ℕ → Type 0) → Type 0
PinsVerdict Asked =
    (r : FlatVerdict) (first second : List ℕ) (r' : FlatVerdict) (first' second' : List ℕ) → Asked r first second → Asked r' first' second'
    → PathsAside r first second r' first' second'

abbrev pub VerdictPinned : Type 0
VerdictPinned = (file first second : List ℕ) → PinsVerdict (λ r first' second'. VerdictStatement file first second first' second' r)

-- Where demand 2 asks something, it alone leaves no choice.
abbrev pub JudgedPinned : Type 0
JudgedPinned =
    (file first second : List ℕ) → Accepted file → AtMostOpen 0 (situation file) → (situation file).header.sections ≤ length first
    → (situation file).header.sections ≤ length second → PinsVerdict (λ r first' second'. Demand2 file first second first' second' r)

-- ---- the key
-- Two keys with the same V line, that have the same trains in their A and B lines: the paths may differ. 65 is A, 66 is B.
pub record PathLinesAside (text text' : List ℕ) : Type 0 where
  pub line : List ℕ
  pub first : ℕ
  pub second : ℕ
  pub p : List ℕ
  pub q : List ℕ
  pub p' : List ℕ
  pub q' : List ℕ
  pub printed : text ≡ line ++ (path_lines 65 first p ++ path_lines 66 second q)
  pub printed' : text' ≡ line ++ (path_lines 65 first p' ++ path_lines 66 second q')

-- The two keys, with what stands after them in the lent buffer.
pub record KeysAside (buffer : List ℕ) (r : FlatOutput) (left : List ℕ) (r' : FlatOutput) (left' : List ℕ) : Type 0 where
  pub refusal : r.refusal ≡ r'.refusal
  pub text : List ℕ
  pub text' : List ℕ
  pub aside : PathLinesAside text text'
  pub handed_back : HandsBack text r × HandsBack text' r'
  pub start : (left ≡ text ++ drop (length text) buffer) × (left' ≡ text' ++ drop (length text') buffer)

abbrev pub KeyPinned : Type 0
KeyPinned =
    (file buffer : List ℕ) (r : FlatOutput) (left : List ℕ) (r' : FlatOutput) (left' : List ℕ)
    → Demand1Key file buffer left r → Demand1Key file buffer left' r' → ((r ≡ r') × (left ≡ left')) ⊎ KeysAside buffer r left r' left'

-- ---- the operations of document 02
abbrev pub DrawingPinned : Type 0
DrawingPinned = (file : List ℕ) (i j : ℕ) (first second : List ℕ) → Pins (λ (r : FlatYesNo). Item1 file i j first second r)

abbrev pub ConversionPinned : Type 0
ConversionPinned = (x : Letter) (file buffer : List ℕ) → Pins {Outcome = FlatFilled × List ℕ} (λ (r, buffer'). Item5 x file buffer buffer' r)

abbrev pub CanBeSafePinned : Type 0
CanBeSafePinned = (file : List ℕ) → Pins (λ (r : FlatYesNo). Item6 file r)

abbrev pub RoutesPinned : Type 0
RoutesPinned = (station file table : List ℕ) → Pins {Outcome = FlatFilled × List ℕ} (λ (r, table'). Item7 station file table table' r)

abbrev pub StandingPinned : Type 0
StandingPinned = (log buffer : List ℕ) → Pins {Outcome = FlatFilled × List ℕ} (λ (r, buffer'). Item8 log buffer buffer' r)

abbrev pub ReportPinned : Type 0
ReportPinned = (marks : List Mark) (buffer : List ℕ) → Pins {Outcome = FlatFilled × List ℕ} (λ (r, buffer'). Item9 marks buffer buffer' r)

abbrev pub DeskStartPinned : Type 0
DeskStartPinned = (file : List ℕ) → Pins (λ (r : FlatDeskAnswer). Item10Start file r)

abbrev pub DeskWritePinned : Type 0
DeskWritePinned = (d : Desk) (address byte : ℕ) → Pins (λ (r : FlatDeskAnswer). Item10Write d address byte r)

abbrev pub DeskReadPinned : Type 0
DeskReadPinned = (d : Desk) (address : ℕ) → Pins (λ (r : FlatDeskByte). Item10Read d address r)

abbrev pub DeskInterruptPinned : Type 0
DeskInterruptPinned = (d : Desk) → Pins (λ (r : ℕ). Item10Interrupt d r)

abbrev pub FramePinned : Type 0
FramePinned = (file : List ℕ) (n : ℕ) (buffer : List ℕ) → Pins {Outcome = FlatRefusal × List ℕ} (λ (q, buffer'). Item11 file n buffer buffer' q)

abbrev pub PlacePinned : Type 0
PlacePinned =
    (paper sections trains : ℕ) (list : List ℕ) → Pins {Outcome = FlatPlaced × List ℕ} (λ (r, list'). Item14 paper sections trains list list' r)
