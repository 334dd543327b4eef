-- Sentences of 01 and 02 that no statement says, since they follow from those that do. Each is a theorem of proofs/Laws.
use Rattle.std.specs.Prelude.{true, ◌≡◌, ◌↔◌, cond, List, [], ◌∷◌, ◌++◌, map, ℕ, suc, ◌+◌, ◌*◌, ◌-◌, ◌/◌, ◌^◌, ◌≤◌, ◌<◌, eqb, length, take, drop, replicate, get_or, ltb, ◌⊎◌}
use Rattle.meaning.specs.declared.Line.{Line}
use Rattle.meaning.specs.declared.Situation.{Situation}
use Rattle.meaning.specs.declared.Train.{Train}
use Rattle.meaning.specs.declared.Letter.{Letter}
use Rattle.meaning.specs.declared.Letter.TheVariants as letter
use Rattle.meaning.specs.declared.Kind.TheVariants as kind
use Rattle.meaning.specs.Station.{section, moves, permitted, standing, no_train, file_states}
use Rattle.meaning.specs.Verdict.{leads, Danger}
use Rattle.meaning.specs.Columns.{old, field_text, row_text, padded, field_at, fits}
use Rattle.basics.specs.Lists.{pad_to, In, Once}
use Rattle.meaning.specs.File.{line_count, reading_in, up_to_counts}
use Rattle.session_meaning.specs.declared.Mark.{Mark}
use Rattle.session_meaning.specs.Report.{Total, sum_of}
use Rattle.meaning.specs.Settings.{open_count, is_setting}
use Rattle.meaning.specs.Frames.{OneChanges}
use Rattle.meaning.specs.Accepted.{Accepted, OldForm, InBody, body_line, SpacesThenDigits}
use Rattle.c_layout.specs.declared.FlatRefusal.{FlatRefusal}
use Rattle.c_layout.specs.declared.FlatSituation.{FlatSituation}
use Rattle.c_layout.specs.declared.FlatReading.{FlatReading}
use Rattle.c_layout.specs.declared.FlatVerdict.{FlatVerdict}
use Rattle.c_layout.specs.declared.FlatReply.{FlatReply}
use Rattle.c_layout.specs.declared.FlatOutput.{FlatOutput}
use Rattle.c_layout.specs.declared.FlatPlaced.{FlatPlaced}
use Rattle.session_meaning.specs.Placement.{draw}
use Rattle.c_layout.specs.declared.FlatFilled.{FlatFilled}
use Rattle.c_layout.specs.declared.FlatYesNo.{FlatYesNo}
use Rattle.c_layout.specs.declared.FlatDeskAnswer.{FlatDeskAnswer}
use Rattle.c_layout.specs.Flat.{no_refusal, flat_situation, flat_reading, situation_from_c}
use Rattle.demands.specs.Words.{situation, InOldForm, SameStation, SameVerdict, Filled, AtMostOpen, Setting, HowMany}
use Rattle.demands.specs.Reach.{Agreed, Steps, Leads, Ends, Meet, TwoTrainsMeet, Over, Permits, kind_in, SafeSetting}
use Rattle.demands.specs.Demand1.{lines_to, Clash, Demand1Read, Demand1Write}
use Rattle.demands.specs.Demand2.{Demand2Write}
use Rattle.demands.specs.OfVerdict.{Names, Counts, Verdict, VerdictStatement}
use Rattle.demands.specs.OfSettings.{SettingsStatement, SaysNone, Demand3}
use Rattle.demands.specs.Keys.{Prints, Demand1Key, Key}
use Rattle.demands.specs.Item01.{NoTrain, RightDrawing, Item1}
use Rattle.demands.specs.Item05.{Several, Item5}
use Rattle.demands.specs.Item06.{turnouts, Item6}
use Rattle.demands.specs.Item09.{EachRight, Lines, Item9}
use Rattle.demands.specs.Item10.{Item10Start}
use Rattle.demands.specs.Item11.{round, Walk, Item11}
use Rattle.demands.specs.Item14.{section_at, States, PlacesTrains, Placeable}
use Rattle.demands.specs.Item12.{Item12}
use Rattle.meaning.specs.declared.Move.{Move}
use Rattle.meaning.specs.declared.Turnout.{Turnout}
use Rattle.meaning.specs.declared.Field.TheVariants.{Blank, Number}
use Rattle.meaning.specs.Parts.{IsOpen, kind_of_element}

-- ---- the definitions of document 01
-- The permitted moves, paths and dangers that `answer` goes by, and that the starred examples are computed by, are those of Reach.
abbrev pub SameMoves : Type 0
SameMoves = (s : Situation) (σ : List ℕ) (a b : ℕ) → (permitted (moves s σ) a b ≡ true) ↔ Agreed s σ a b

abbrev pub SamePaths : Type 0
SamePaths = (s : Situation) (σ : List ℕ) (t k : ℕ) (p : List ℕ) → (leads s σ t k p ≡ true) ↔ Leads s σ t k p

abbrev pub SameDanger : Type 0
SameDanger = (s : Situation) (σ : List ℕ) (m : ℕ) → Danger s σ m ↔ Meet s σ m

-- ---- trains and reaches
-- "Two different trains": numbers from 1, since no path is one of train 0.
abbrev pub TrainsFromOne : Type 0
TrainsFromOne = (s : Situation) (σ : List ℕ) (t k : ℕ) → Ends s σ t k → 1 ≤ t

-- "A train's reach is the union of the reaches of its sections" (02, Item 2): section k is in that of a section a where the train stands.
abbrev pub ReachIsUnion : Type 0
ReachIsUnion = (s : Situation) (σ : List ℕ) (t k : ℕ) → Ends s σ t k ↔ ((a : ℕ) × In a (standing s t) × ((p : List ℕ) × Steps s σ a p k))

-- "Two sections of one train never make a danger between themselves" (02, Item 2).
abbrev pub OneTrainIsSafe : Type 0
OneTrainIsSafe = (s : Situation) (σ : List ℕ) → s.header.trains ≤ 1 → TwoTrainsMeet s σ → ⊥

-- ---- the verdict
-- "Train j is the lowest for which trains 1 to j are already dangerous": they are.
abbrev pub AlreadyDangerous : Type 0
AlreadyDangerous = (s : Situation) (σ : List ℕ) (i j k : ℕ) → Names s σ i j k → Meet s σ j

-- "Otherwise it is safe": in a safe verdict no two trains meet.
abbrev pub SafeNoneMeet : Type 0
SafeNoneMeet =
    (s : Situation) (σ first second first' second' : List ℕ) (r : FlatVerdict)
    → Verdict s σ first second first' second' r → r.dangerous ≡ 0 → TwoTrainsMeet s σ → ⊥

-- "Two counts over trains 1 to j (over all trains when safe)", in either verdict.
abbrev pub CountsOfVerdict : Type 0
CountsOfVerdict =
    (s : Situation) (σ first second first' second' : List ℕ) (r : FlatVerdict)
    → Verdict s σ first second first' second' r → Counts s σ (cond (eqb r.dangerous 1) r.second_train s.header.trains) r.entries r.looks

-- ---- refusals
-- "One of eleven numbered refusals with a line number" of a text of so many lines, 0 where the cause belongs to no line.
abbrev pub OneOfEleven : ℕ → FlatRefusal → Type 0
OneOfEleven lines q = (1 ≤ q.number) × (q.number ≤ 11) × (q.line ≤ lines)

-- Each refusal of the operations of document 01 is one of the eleven.
pub record Refusals : Type 0 where
  pub read : (file : List ℕ) (r : FlatReading) → Demand1Read file r → 1 ≤ r.refusal.number → OneOfEleven (length file / 22) r.refusal
  pub write : (values : FlatSituation) (buffer buffer' : List ℕ) (r : FlatOutput) → Demand1Write values buffer buffer' r → 1 ≤ r.refusal.number
      → OneOfEleven (line_count (situation_from_c values).header) r.refusal
  pub verdict : (file first second first' second' : List ℕ) (r : FlatVerdict) → VerdictStatement file first second first' second' r → 1 ≤ r.refusal.number
      → OneOfEleven (length file / 22) r.refusal
  pub settings : (file buffer buffer' : List ℕ) (r : FlatReply) → SettingsStatement file buffer buffer' r → 1 ≤ r.refusal.number
      → OneOfEleven (length file / 22) r.refusal
  pub key : (file buffer buffer' : List ℕ) (r : FlatOutput) → Demand1Key file buffer buffer' r → 1 ≤ r.refusal.number → OneOfEleven 0 r.refusal
  -- So is each refusal of these operations of 02.
  pub can_be_safe : (file : List ℕ) (r : FlatYesNo) → Item6 file r → 1 ≤ r.refusal.number → OneOfEleven (length file / 22) r.refusal
  pub desk_start : (file : List ℕ) (r : FlatDeskAnswer) → Item10Start file r → 1 ≤ r.refusal.number → OneOfEleven (length file / 22) r.refusal
  pub frame : (file : List ℕ) (n : ℕ) (buffer buffer' : List ℕ) (q : FlatRefusal) → Item11 file n buffer buffer' q → 1 ≤ q.number
      → OneOfEleven (length file / 22) q

-- ---- the reader
-- The kinds of two lines that may not stand over one pair: 1 is P, 2 is L, 3 is D.
pub data TwoLines (j k : ℕ) : Type 0 where
  two_signals : j ≡ 2 → k ≡ 2 → TwoLines j k
  two_turnouts : j ≡ 3 → k ≡ 3 → TwoLines j k
  plain_earlier : j ≡ 1 → TwoLines j k
  plain_later : k ≡ 1 → TwoLines j k

-- "Refusal 8 remains for two signals, two turnouts, or a P line with any other line, another P line included" (02, Item 3).
abbrev pub ClashingLines : Type 0
ClashingLines = (earlier : List Line) (l : Line) (c : Clash earlier l) → TwoLines c.0.kind l.kind

-- An accepted file has no two lines that refusal 8 is for.
abbrev pub NoneClash : Type 0
NoneClash =
    (file : List ℕ) → Accepted file → (j : ℕ) → InBody file (suc j) → Clash (lines_to (body_line file) j) (body_line file (suc j)) → ⊥

-- The file was accepted before padded numbers were allowed (02, Item 13).
abbrev pub AcceptedBefore : List ℕ → Type 0
AcceptedBefore file = (reading_in old file).refusal.number ≡ 0

-- "Refusal 2 covers only what is still malformed": a file that was accepted before is accepted, with the values that it had, and newly accepted are the
-- accepted files that are not of the old form.
abbrev pub ReadBefore : Type 0
ReadBefore =
    (file : List ℕ)
    → ((r : FlatReading) → Demand1Read file r → AcceptedBefore file → (r.refusal ≡ no_refusal) × (r ≡ flat_reading (reading_in old file)))
    × (AcceptedBefore file ↔ (Accepted file × OldForm file))

-- ---- the key
-- A line of the key: each number in it has at most five digits, so its field, which begins at byte 1, 6, 11 or 16, is read
-- back as the number, in the old form: no leading zero.
pub record Legible (line : List ℕ) : Type 0 where
  pub letter : ℕ
  pub filled : ℕ
  pub numbers : ℕ → ℕ
  pub printed : line ≡ row_text letter filled (numbers 0) (numbers 1) (numbers 2) (numbers 3)
  pub fits : (j : ℕ) → j < 4 → numbers j ≤ 99999
  pub read_back : (j : ℕ) → j < 4 → field_at old line (j * 5 + 1) ≡ cond (ltb j filled) (Number (numbers j)) Blank

pub data LegibleLines : List ℕ → Type 0 where
  none : LegibleLines []
  next : (line rest : List ℕ) → Legible line → LegibleLines rest → LegibleLines (line ++ rest)

-- Each line of a key is legible in this sense.
abbrev pub KeyLegible : Type 0
KeyLegible = (file text : List ℕ) → Key file text → LegibleLines text

-- A buffer that is long enough gets the key, and no refusal.
abbrev pub LongEnoughForKey : Type 0
LongEnoughForKey =
    (file buffer buffer' : List ℕ) (r : FlatOutput) → Demand1Key file buffer buffer' r → 22550 ≤ length buffer
    → (r.refusal ≡ no_refusal) × Prints file buffer buffer' r

-- ---- the writer
-- "Entries past its counts are ignored": what is right for values is right for others that are the same up to their counts.
abbrev pub PastCountsIgnored : Type 0
PastCountsIgnored =
    (values other : FlatSituation) (buffer buffer' : List ℕ) (r : FlatOutput)
    → up_to_counts (situation_from_c other) ≡ up_to_counts (situation_from_c values)
    → Demand1Write values buffer buffer' r → Demand1Write other buffer buffer' r

-- "The writer .. keep[s] the old form", whatever the values.
abbrev pub KeepsOldForm : Type 0
KeepsOldForm =
    (values : FlatSituation) (buffer buffer' : List ℕ) (r : FlatOutput)
    → Demand1Write values buffer buffer' r → r.refusal.number ≡ 0 → (text : List ℕ) × Filled text buffer buffer' × OldForm text

-- "The writer gives a padded file in the old form": there is one old form of a file.
abbrev pub OneOldForm : Type 0
OneOldForm = (file text other : List ℕ) → InOldForm file text → InOldForm file other → other ≡ text

-- The writer gives that old form, "and reading that gives the same situation".
abbrev pub PaddedToo : Type 0
PaddedToo =
    (values : FlatSituation) (buffer buffer' : List ℕ) (q : FlatRefusal) → Demand2Write values buffer buffer' q
    → (file text : List ℕ) → Accepted file → values ≡ flat_situation (situation file) → length file ≤ length buffer → InOldForm file text
    → (q ≡ no_refusal) × Filled text buffer buffer'

-- The old form is the file itself exactly where the file is of the old form: "gives back the file's bytes".
abbrev pub OwnBytes : Type 0
OwnBytes = (file text : List ℕ) → Accepted file → InOldForm file text → (text ≡ file) ↔ OldForm file

-- ---- Item 1 of 02, drawings
-- "The verdict's own two paths always get a yes": v is its answer, and it leaves the lists left₁ and left₂.
abbrev pub OwnPathsYes : Type 0
OwnPathsYes =
    (file lent₁ lent₂ left₁ left₂ : List ℕ) (v : FlatVerdict) → VerdictStatement file lent₁ lent₂ left₁ left₂ v → v.refusal ≡ no_refusal → v.dangerous ≡ 1
    → (r : FlatYesNo) → Item1 file v.first_train v.second_train (take v.first_length left₁) (take v.second_length left₂) r → r.yes ≡ 1

-- A right drawing, with numbers of 16 bits.
pub record SomeRight (s : Situation) : Type 0 where
  pub i : ℕ
  pub j : ℕ
  pub first : List ℕ
  pub second : List ℕ
  pub trains : (NoTrain s i → ⊥) × (NoTrain s j → ⊥)
  pub first_fits : (k : ℕ) → get_or first k 0 < 65536
  pub second_fits : (k : ℕ) → get_or second k 0 < 65536
  pub right : RightDrawing s i j first second

-- "A yes can be had for some drawing exactly when the verdict is dangerous."
abbrev pub SomeYes : Type 0
SomeYes =
    (file lent₁ lent₂ left₁ left₂ : List ℕ) (v : FlatVerdict) → VerdictStatement file lent₁ lent₂ left₁ left₂ v → v.refusal ≡ no_refusal
    → SomeRight (situation file) ↔ (v.dangerous ≡ 1)

-- ---- Item 2 of 02, long trains
-- Train t is one of the trains, and its T line stands below the first line, the P lines and the elements.
abbrev pub Numbered : FlatSituation → ℕ → Type 0
Numbered v t = (1 ≤ t) × (t ≤ v.trains)

abbrev pub line_of : FlatSituation → ℕ → ℕ
line_of v t = 1 + v.plain + v.elements + t

-- How many sections train t stands over.
abbrev pub size_at : FlatSituation → ℕ → ℕ
size_at v t = get_or v.train_size (t - 1) 0

-- The sections that train t stands over: "train t's are at 4 * (t - 1) and after it".
abbrev pub sections_at : FlatSituation → ℕ → List ℕ
sections_at v t = take (size_at v t) (drop (4 * (t - 1)) v.train_section)

-- The bytes of a T line with these sections, "filled from the left".
abbrev pub fields_of : List ℕ → List ℕ
fields_of [] = []
fields_of (a ∷ l) = field_text a ++ fields_of l

abbrev pub train_bytes : List ℕ → List ℕ
train_bytes l = 84 ∷ (fields_of l ++ (replicate (20 - length l * 5) 32 ++ 10 ∷ []))

-- What an accepted file says of its trains, and v is its situation.
pub record LongTrains (file : List ℕ) (v : FlatSituation) : Type 0 where
  -- "Then a T line holds one to four different sections".
  pub one_to_four : (t : ℕ) → Numbered v t → (1 ≤ length (sections_at v t)) × (length (sections_at v t) ≤ 4)
  pub different : (t : ℕ) → Numbered v t → Once (sections_at v t)
  -- "filled from the left": the bytes of the line, in a file without leading zeros (Item 13).
  pub line : OldForm file → (t : ℕ) → Numbered v t → take 22 (drop ((line_of v t - 1) * 22) file) ≡ train_bytes (sections_at v t)
  -- These are the sections where the train stands, for the verdict and the settings.
  pub stands : (t : ℕ) → Numbered v t → standing (situation file) t ≡ sections_at v t
  -- "S files keep their answers": each train has one section.
  pub one_under_s : v.is_long ≡ 0 → (t : ℕ) → Numbered v t → size_at v t ≡ 1

abbrev pub TLines : Type 0
TLines = (file : List ℕ) → Accepted file → LongTrains file (flat_situation (situation file))

-- "A train of no section, of more than four, or under S of more than one".
abbrev pub HasNoLine : FlatSituation → ℕ → Type 0
HasNoLine v t = (size_at v t ≡ 0) ⊎ ((4 < size_at v t) ⊎ ((v.is_long ≡ 0) × (1 < size_at v t)))

-- The writer gives 2 for such a train, "before 5 on that line", and for no other line, and writes none such.
abbrev pub TwoForNoLine : Type 0
TwoForNoLine =
    (values : FlatSituation) (buffer buffer' : List ℕ) (r : FlatOutput) → Demand1Write values buffer buffer' r
    → (r.refusal.number ≡ 2 → (t : ℕ) × Numbered values t × (r.refusal.line ≡ line_of values t) × HasNoLine values t)
    × ((t : ℕ) → Numbered values t → HasNoLine values t → (r.refusal.number ≡ 0 → ⊥) × (r.refusal.line ≡ line_of values t → r.refusal.number ≡ 2))

-- ---- Item 3, signals on turnout legs
-- Item 3: which moves are permitted in an accepted file, with its elements in any states.
pub record SignalsOnLegs (file : List ℕ) : Type 0 where
  -- "An ordered pair may now stand under one signal and one turnout, and the move is then permitted exactly when both permit it."
  pub both : Accepted file → (σ : List ℕ) (i j a b : ℕ) (m : Move) (t : Turnout) → kind_in (situation file) i ≡ kind.Signal m → kind_in (situation file) j ≡ kind.Turnout t
      → Over (situation file) i a b → Over (situation file) j a b
      → Agreed (situation file) σ a b ↔ (Permits (situation file) σ i a b × Permits (situation file) σ j a b)
  -- Under one element alone it is as in 01.
  pub alone : Accepted file → (σ : List ℕ) (i a b : ℕ) → Over (situation file) i a b → ((j : ℕ) → Over (situation file) j a b → j ≡ i)
      → Agreed (situation file) σ a b ↔ Permits (situation file) σ i a b

abbrev pub MovesOnLegs : Type 0
MovesOnLegs = (file : List ℕ) → SignalsOnLegs file

-- ---- Item 5, old desks
-- "On the way to S it refuses with 13 .. a U file with a train in more than one section", and nothing else.
abbrev pub ThirteenExactly : Type 0
ThirteenExactly =
    (x : Letter) (file buffer buffer' : List ℕ) (r : FlatFilled) → Item5 x file buffer buffer' r → Accepted file
    → (r.refusal.number ≡ 13) ↔ ((x ≡ letter.S) × ((t : ℕ) × Several file t))

-- ---- Item 6, can it be saved at all?
-- "Where the full question also replies, the two agree": a is its answer. A yes goes with a number of safe settings that is not 0.
abbrev pub FullAgrees : Type 0
FullAgrees =
    (file buffer buffer' : List ℕ) (r : FlatYesNo) (a : FlatReply) → Item6 file r → SettingsStatement file buffer buffer' a → a.refusal ≡ no_refusal
    → (r.refusal ≡ no_refusal) × ((r.yes ≡ 1) ↔ (SaysNone a → ⊥))

-- "With all open signals at stop": the setting σ has each of them at 2.
abbrev pub SignalsAtStop : Situation → List ℕ → Type 0
SignalsAtStop s σ = (e : ℕ) (m : Move) → IsOpen s e → kind_of_element s e ≡ kind.Signal m → get_or σ (e - 1) 0 ≡ 2

-- A no says that under every setting two trains meet.
abbrev pub NoMeansNone : Type 0
NoMeansNone =
    (file : List ℕ) (r : FlatYesNo) → Item6 file r → r.refusal ≡ no_refusal → r.yes ≡ 0
    → (σ : List ℕ) → Setting (situation file) σ → TwoTrainsMeet (situation file) σ

-- "This operation tries turnouts alone, with all open signals at stop": that is enough.
abbrev pub TurnoutsAlone : Type 0
TurnoutsAlone =
    (file : List ℕ) (r : FlatYesNo) → Item6 file r → r.refusal ≡ no_refusal
    → (r.yes ≡ 1) ↔ ((σ : List ℕ) × SafeSetting (situation file) σ × SignalsAtStop (situation file) σ)

-- "Refusal 11 here means thirteen or more open turnouts."
abbrev pub ElevenExactly : Type 0
ElevenExactly = (file : List ℕ) (r : FlatYesNo) → Item6 file r → (r.refusal.number ≡ 11) ↔ (Accepted file × (13 ≤ turnouts file))

-- ---- Item 9, session report
abbrev pub added_up : (Total → ℕ) → List Total → ℕ
added_up f [] = 0
added_up f (t ∷ l) = f t + added_up f l

pub record Entered (marks : List Mark) (lines : List Total) : Type 0 where
  -- "Every record enters just one candidate's line."
  pub one_line : (m : Mark) → In m marks
      → (t : Total) × In t lines × (t.candidate ≡ m.candidate) × ((u : Total) → In u lines → u.candidate ≡ m.candidate → u ≡ t)
  -- "The session sums equal those over the records": those of the lines, added up, are the session's.
  pub all_gained : added_up (λ t. t.gained) lines ≡ sum_of (λ m. m.gained) marks
  pub all_possible : added_up (λ t. t.possible) lines ≡ sum_of (λ m. m.possible) marks

abbrev pub EachEntered : Type 0
EachEntered = (marks : List Mark) (lines : List Total) → Lines marks lines → Entered marks lines

-- Sums fit a field of five digits.
abbrev pub SumsFit : Type 0
SumsFit =
    (marks : List Mark) → length marks ≤ 999 → EachRight marks → (sum_of (λ m. m.gained) marks ≤ 99900) × (sum_of (λ m. m.possible) marks ≤ 99900)

-- "An empty list gives the last line alone, with zeros."
abbrev pub EmptyReport : Type 0
EmptyReport =
    (buffer buffer' : List ℕ) (r : FlatFilled) → Item9 [] buffer buffer' r → r.refusal ≡ no_refusal → Filled (row_text 90 2 0 0 0 0) buffer buffer'

-- ---- Item 11, one lever at a time
-- There is just one walk.
abbrev pub OneWalk : Type 0
OneWalk = (fs : List ℕ) (frame other : ℕ → List ℕ) → Walk fs frame → Walk fs other → (n : ℕ) → other n ≡ frame n

-- There is just one number with the property P.
pub record JustOne (P : ℕ → Type 0) : Type 0 where
  pub one : ℕ
  pub is : P one
  pub only : (m : ℕ) → P m → m ≡ one

pub record OneLever (fs : List ℕ) (frame : ℕ → List ℕ) : Type 0 where
  -- "With at least one open element, neighbouring frames"
  pub neighbours : 1 ≤ open_count fs → (n : ℕ) → OneChanges fs (frame n) (frame (n + 1))
  -- ", and the last and first, differ in just one;"
  pub last_and_first : 1 ≤ open_count fs → OneChanges fs (frame (round fs - 1)) (frame 0)
  -- "each setting is one frame"
  pub each_once : (σ : List ℕ) → is_setting fs σ ≡ true → JustOne (λ n. (n < round fs) × (frame n ≡ σ))

-- The walk is for "only one open element to change between frames".
abbrev pub WalksOneLever : Type 0
WalksOneLever = (fs : List ℕ) (frame : ℕ → List ℕ) → Walk fs frame → OneLever fs frame

-- "The settings question follows this order too: its number of safe settings is shown to be how many frames from 0 to the last are safe." That
-- "its reply stays the same, ties included", is demand 3, as it was.
abbrev pub SafeFrames : Type 0
SafeFrames =
    (file buffer buffer' : List ℕ) (r : FlatReply) → Demand3 file buffer buffer' r → Accepted file → AtMostOpen 12 (situation file)
    → (situation file).header.elements ≤ length buffer → (frame : ℕ → List ℕ) → Walk (file_states (situation file)) frame
    → HowMany (λ (n : ℕ). (n < round (file_states (situation file))) × (TwoTrainsMeet (situation file) (frame n) → ⊥)) r.safe

-- ---- Item 12, splitting a question
-- "We want this shown for every accepted file with one to twelve open elements and each open element of it" (specs/Item12).
abbrev pub PartsAddUp : Type 0
PartsAddUp = (file buffer buffer' : List ℕ) (r : FlatReply) → Demand3 file buffer buffer' r → Item12 file buffer buffer' r

-- ---- Item 13, padded numbers
-- "A filled field of a station file may now have spaces, then one or more digits, leading zeros allowed": what an accepted file has in it, wherever a field of `file`
-- begins. "The writer, route files and answer logs keep the old form" stands in `Written` (Demand1) and in the definitions that the statements of the others cite
-- (`old` in Item07, `answer_text` in Item08).
abbrev pub PaddedFields : Type 0
PaddedFields = (file : List ℕ) (at : ℕ) → (fits true (field_at padded file at) ≡ true) ↔ SpacesThenDigits file at 5

-- "Files of the old form still come back byte for byte": the values are those that the reader returns for the file.
abbrev pub OldFormComesBack : Type 0
OldFormComesBack =
    (values : FlatSituation) (buffer buffer' : List ℕ) (q : FlatRefusal) → Demand2Write values buffer buffer' q
    → (file : List ℕ) → Accepted file → OldForm file → values ≡ flat_situation (situation file) → length file ≤ length buffer
    → (q ≡ no_refusal) × Filled file buffer buffer'

-- A padded file gets the verdict that its old form gets from path lists as long, shown paths aside.
abbrev pub SameForOldForm : Type 0
SameForOldForm =
    (file text : List ℕ) → SameStation file text → (first second first' second' third fourth third' fourth' : List ℕ) (r r' : FlatVerdict)
    → length third ≡ length first → length fourth ≡ length second
    → VerdictStatement file first second first' second' r → VerdictStatement text third fourth third' fourth' r' → SameVerdict r r'

-- ---- Item 14, placing trains
-- "The state does not return to an earlier one in fewer than 2 to the power 64 draws." With so many it does: the period is full.
abbrev pub FullPeriod : Type 0
FullPeriod =
    (paper : ℕ) (state : ℕ → ℕ) → paper < 2 ^ 64 → States paper state
    → ((i j : ℕ) → i < j → j < i + 2 ^ 64 → state i ≡ state j → ⊥) × ((i : ℕ) → state (i + 2 ^ 64) ≡ state i)

-- A train in section a alone.
abbrev pub in_section : ℕ → Train
in_section a = record { count = 1; first = section a; second = section 0; third = section 0; fourth = section 0 }

-- The situation s with trains in the sections xs, one each, in place of its own.
abbrev pub with_trains : Situation → List ℕ → Situation
with_trains s xs =
    record {
      header = record { letter = s.header.letter; sections = s.header.sections; plain = s.header.plain; elements = s.header.elements; trains = length xs };
      plain = s.plain;
      elements = s.elements;
      trains = pad_to 64 no_train (map in_section xs);
    }

-- The sections xs are accepted as the T lines of an accepted file, in place of its own: a text of the old form, and so just one, says that.
pub record TakesTrains (file xs : List ℕ) : Type 0 where
  pub text : List ℕ
  pub accepted : Accepted text
  pub read : situation text ≡ with_trains (situation file) xs
  pub old_form : OldForm text

-- What holds of placed trains, in the sections xs.
pub record Apart (sections trains : ℕ) (state : ℕ → ℕ) (xs : List ℕ) : Type 0 where
  -- Each draw is a section.
  pub draw_within : (t : ℕ) → 1 ≤ t → (1 ≤ draw (state t) sections) × (draw (state t) sections ≤ sections)
  -- "All sections are different",
  pub different : (t u : ℕ) → 1 ≤ t → t < u → u ≤ trains → section_at xs t ≡ section_at xs u → ⊥
  -- and from 1 to the number of sections.
  pub within : (t : ℕ) → 1 ≤ t → t ≤ trains → (1 ≤ section_at xs t) × (section_at xs t ≤ sections)
  -- The trains are accepted as T lines of any station with so many sections.
  pub accepted : (file : List ℕ) → Accepted file → (situation file).header.sections ≡ sections → TakesTrains file xs

abbrev pub PlacedApart : Type 0
PlacedApart =
    (paper sections trains : ℕ) (list list' : List ℕ) (r : FlatPlaced) → paper < 2 ^ 64 → Placeable sections trains
    → (w : PlacesTrains paper sections trains list list' r) → Apart sections trains w.state w.xs

-- With no trains the last state is the paper number itself, and the list is as it was.
abbrev pub NoneToPlace : Type 0
NoneToPlace =
    (paper sections : ℕ) (list list' : List ℕ) (r : FlatPlaced) → PlacesTrains paper sections 0 list list' r → (r.state ≡ paper) × (list' ≡ list)
