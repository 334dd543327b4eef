-- Demand 1: "An examiner who hands over a file of arbitrary bytes, with lent buffers of any length, always gets an answer: what was
-- requested, or one of eleven numbered refusals with a line number, and after a refusal each buffer holds what it held before."
-- Each refusal comes with its cause, and says that those before it in 01's order are absent: "1; then 2 and 3 on line 1; then 4; then line by
-- line from the second, in each 2, 5, 7, 6, 8; then 10 or 11; then 9. The first found is returned with its line, counted from 1".
use Rattle.std.specs.Prelude.{◌≡◌, true, false, List, [], ◌∷◌, ℕ, zero, suc, ◌+◌, ◌*◌, ◌-◌, ◌/◌, ◌%◌, ◌≤◌, ◌<◌, length, take, get_or}
use Rattle.meaning.specs.declared.Line.{Line}
use Rattle.meaning.specs.declared.Header.{Header}
use Rattle.meaning.specs.declared.Situation.{Situation}
use Rattle.meaning.specs.Station.{file_states, has_pair}
use Rattle.meaning.specs.Columns.{padded, well_formed, having, no_kind, section_field, state_field}
use Rattle.meaning.specs.File.{pairs_of, excludes, Limits, line_count, first_kind_of, no_situation, written_line, up_to_counts}
use Rattle.meaning.specs.Settings.{open_count}
use Rattle.meaning.specs.Parts.{IsOpen}
use Rattle.meaning.specs.Accepted.{LengthAllowed, Accepted, OldForm, file_header, body_line}
use Rattle.c_layout.specs.declared.FlatRefusal.{FlatRefusal}
use Rattle.c_layout.specs.declared.FlatSituation.{FlatSituation}
use Rattle.c_layout.specs.declared.FlatReading.{FlatReading}
use Rattle.c_layout.specs.declared.FlatOutput.{FlatOutput}
use Rattle.c_layout.specs.Flat.{no_refusal, flat_situation, situation_from_c}
use Rattle.basics.specs.Lists.{In, Once}
use Rattle.demands.specs.Words.{situation, AtMostOpen, Filled}
use Rattle.demands.specs.Item04.{HandsBack}

-- "What was requested, or one of .. numbered refusals .., and after a refusal each buffer holds what it held before." Number 0 stands for none.
pub data Answer (q : FlatRefusal) (Requested Cause Unchanged : Type 0) : Type 0 where
  requested : q ≡ no_refusal → Requested → Answer q Requested Cause Unchanged
  refused : 1 ≤ q.number → Cause → Unchanged → Answer q Requested Cause Unchanged

-- Conditions in their order, of which the first that does not hold decides: unless `Holds`, it is refused as `Refused` says; then come the later ones.
pub data Unless (Holds Refused Later : Type 0) : Type 0 where
  fails : (Holds → ⊥) → Refused → Unless Holds Refused Later
  holds : Holds → Later → Unless Holds Refused Later

-- The refusal is `number`, found on line `line`.
abbrev pub Is : FlatRefusal → ℕ → ℕ → Type 0
Is q number line = (q.number ≡ number) × (q.line ≡ line)

-- ---- "line by line"
-- None of the first m lines has a cause; `Cause i number` says that line i has the cause `number`.
abbrev pub NoneOf : (ℕ → ℕ → Type 0) → ℕ → Type 0
NoneOf Cause m = (i number : ℕ) → i < m → Cause i number → ⊥

-- "The first found is returned with its line": q is the cause of the first of m lines that has one, where line 0 of them is line `first` of the file.
abbrev pub FirstOf : (ℕ → ℕ → Type 0) → ℕ → ℕ → FlatRefusal → Type 0
FirstOf Cause m first q = (i : ℕ) × (i < m) × NoneOf Cause i × Cause i q.number × (q.line ≡ i + first)

-- ---- causes in a line
-- "An ordered pair that an earlier line stands over", where the two are "two signals, two turnouts, or a P line with any other line, another P line included"
-- (02, Item 3).
abbrev pub Clash : List Line → Line → Type 0
Clash earlier l =
    (e : Line) × In e earlier × (excludes e.kind l.kind ≡ true)
    × (a b : ℕ) × (has_pair (pairs_of e) a b ≡ true) × (has_pair (pairs_of l) a b ≡ true)

-- The first cause in the line l, "in each 2, 5, 7, 6, 8", in a station of n sections, after the lines `earlier`.
abbrev pub LineCause : ℕ → List Line → Line → ℕ → Type 0
LineCause n earlier l number =
    -- "a line is not of the stated form, or its letter is not allowed at that place": its kind is the one past the table
    Unless (l.kind ≡ no_kind → ⊥) (number ≡ 2)
    -- "a section number outside 1 to the number of sections"
    (Unless ((a : ℕ) → In a (having section_field l) → (1 ≤ a) × (a ≤ n)) (number ≡ 5)
    -- "a section twice in one P, L or D line", or in a T line of a U file
    (Unless (Once (having section_field l)) (number ≡ 7)
    -- "a state above 2"
    (Unless ((x : ℕ) → In x (having state_field l) → x ≤ 2) (number ≡ 6)
    (Clash earlier l × (number ≡ 8)))))

-- The first j lines below the first line, the last first.
abbrev pub lines_to : (ℕ → Line) → ℕ → List Line
lines_to lines zero = []
lines_to lines (suc j) = lines (suc j) ∷ lines_to lines j

-- Line j + 1 below the first line, which is line j + 2 of the file, has the cause `number`.
abbrev pub HasCause : ℕ → (ℕ → Line) → ℕ → ℕ → Type 0
HasCause n lines j number = LineCause n (lines_to lines j) (lines (suc j)) number

-- ---- causes in a file
abbrev pub FileCause : List ℕ → FlatRefusal → Type 0
FileCause file q =
    let h : Header = file_header file in
    Unless (LengthAllowed file) (Is q 1 0)
    (Unless (well_formed padded file 0 (first_kind_of file) ≡ true) (Is q 2 1)
    (Unless (Limits h) (Is q 3 1)
    (Unless (length file / 22 ≡ line_count h) (Is q 4 1)
    (FirstOf (HasCause h.sections (body_line file)) (line_count h - 1) 2 q))))

-- Element e is the m-th open one.
abbrev pub OpenAt : Situation → ℕ → ℕ → Type 0
OpenAt s m e = IsOpen s e × (open_count (take (e - 1) (file_states s)) + 1 ≡ m)

-- Why a question about a file, with at most m open elements, is refused; `Last` says what comes last.
abbrev pub CallCause : List ℕ → ℕ → ℕ → (FlatRefusal → Type 0) → FlatRefusal → Type 0
CallCause file number m Last q =
    let s : Situation = situation file in
    Unless (Accepted file) (FileCause file q)
    -- 10: "the line of the first"; 11: "the line of the thirteenth". Elements stand below the first line and the P lines.
    (Unless (AtMostOpen m s) ((e : ℕ) × OpenAt s (suc m) e × Is q number (1 + s.header.plain + e)) (Last q))

-- 9, last of all: "a lent buffer too short: .. Line 0."
abbrev pub Short : Type 0 → FlatRefusal → Type 0
Short TooShort q = TooShort × Is q 9 0

-- ---- the operations
-- The reader: `file` is handed over, and it answers r.
abbrev pub Demand1Read : List ℕ → FlatReading → Type 0
Demand1Read file r =
    Answer r.refusal
    (Accepted file × (r.situation ≡ flat_situation (situation file)))
    ((Accepted file → ⊥) × FileCause file r.refusal)
    -- No situation is returned.
    (r.situation ≡ flat_situation no_situation)

-- The writer: s is the situation that the values stand for, "entries past its counts are ignored".
-- "The writer gives 3, 5, 7, 6, 8, 9 only, with the line that would have been written", and 2 for a train that no T line has (`TwoForNoLine`, Laws).
abbrev pub WriteCause : Situation → ℕ → FlatRefusal → Type 0
WriteCause s room q =
    let m : ℕ = line_count s.header - 1 in
    let Cause : ℕ → ℕ → Type 0 = HasCause s.header.sections (written_line s) in
    Unless (Limits s.header) (Is q 3 1)
    (Unless (NoneOf Cause m) (FirstOf Cause m 2 q)
    -- "the writer 22 bytes a line"
    (Short (room < line_count s.header * 22) q))

-- "Fills the start of a lent buffer, the rest unchanged. Reading those bytes gives the same situation up to its counts."
pub record Written (s : Situation) (buffer buffer' : List ℕ) (r : FlatOutput) : Type 0 where
  pub text : List ℕ
  pub filled : Filled text buffer buffer'
  pub accepted : Accepted text
  pub same : situation text ≡ up_to_counts s
  -- "The writer .. keep[s] the old form" (02, Item 13), so there is one such text.
  pub old_form : OldForm text
  pub handed_back : HandsBack text r

abbrev pub Demand1Write : FlatSituation → List ℕ → List ℕ → FlatOutput → Type 0
Demand1Write values buffer buffer' r =
    let s : Situation = situation_from_c values in
    Answer r.refusal (Written s buffer buffer' r) (WriteCause s (length buffer) r.refusal) ((buffer' ≡ buffer) × HandsBack [] r)
