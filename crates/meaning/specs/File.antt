-- Reading and writing a whole file (01, "The station file", "Writer", "Who can cause a refusal"). Lines are counted from 0 here, and
-- from 1 in refusals.
use Rattle.std.specs.Prelude.{Result, Ok, Err, Bool, false, not, ◌||◌, cond, List, [], ◌∷◌, ◌++◌, map, ℕ, zero, suc, ◌+◌, ◌*◌, ◌-◌, ◌/◌, ◌%◌, ◌≤◌, eqb, ltb, leb, get_or, length, drop}
use Rattle.meaning.specs.declared.FieldForm.{FieldForm}
use Rattle.meaning.specs.declared.Section.{Section}
use Rattle.meaning.specs.declared.Move.{Move}
use Rattle.meaning.specs.declared.Kind.{Kind}
use Rattle.meaning.specs.declared.Kind.TheVariants as kind
use Rattle.meaning.specs.declared.Element.{Element}
use Rattle.meaning.specs.declared.Letter.{Letter}
use Rattle.meaning.specs.declared.Letter.TheVariants as letter
use Rattle.meaning.specs.declared.Train.{Train}
use Rattle.meaning.specs.declared.Header.{Header}
use Rattle.meaning.specs.declared.Situation.{Situation}
use Rattle.meaning.specs.declared.Refusal.{Refusal}
use Rattle.meaning.specs.declared.Output.{Output}
use Rattle.meaning.specs.declared.Line.{Line}
use Rattle.meaning.specs.Station.{section, move_between, signal_over, turnout_joining, train_in, both_ways, has_pair, plain_moves, elements_of, trains_of, no_train}
use Rattle.meaning.specs.Paths.{once}
use Rattle.meaning.specs.Digits.{output_of}
use Rattle.meaning.specs.Columns.{
  p_line,
  section_field,
  signal_line,
  state_field,
  t_line,
  turnout_line,
  field_in,
  s_line,
  u_line,
  fits,
  having,
  line_at,
  line_with,
  line_text,
  malformed,
  no_kind,
  padded,
}
use Rattle.basics.specs.Lists.{list_of, pad_to}

-- ---- the causes of refusal in one line
-- 3: "an S field outside its range"; a U line has the same ranges.
abbrev pub out_of_range : ℕ → ℕ → ℕ → ℕ → Bool
out_of_range sections plain elements trains = eqb sections 0 || ltb 512 sections || ltb 1024 plain || ltb 256 elements || ltb 64 trains

-- The limits of the first line: "sections, 1 to 512", "P lines, 0 to 1024", "elements, 0 to 256", "trains, 0 to 64".
pub record Limits (h : Header) : Type 0 where
  pub some_section : 1 ≤ h.sections
  pub sections : h.sections ≤ 512
  pub plain : h.plain ≤ 1024
  pub elements : h.elements ≤ 256
  pub trains : h.trains ≤ 64

-- 5: "a section number outside 1 to the number of sections", 6: "a state above 2".
abbrev pub some_outside : ℕ → List ℕ → Bool
some_outside n [] = false
some_outside n (a ∷ xs) = (eqb a 0 || ltb n a) || some_outside n xs

abbrev pub some_above2 : List ℕ → Bool
some_above2 [] = false
some_above2 (x ∷ xs) = ltb 2 x || some_above2 xs

-- "An L or P line stands over the ordered pair (from, to). A D line stands over four: stem to each leg and each leg to stem."
unfoldable pub pairs_of : Line → List Move
pairs_of l =
    cond (eqb l.kind p_line || eqb l.kind signal_line) (move_between l.first l.second ∷ [])
    (cond (eqb l.kind turnout_line) (both_ways (section l.first) (section l.second) ++ both_ways (section l.first) (section l.third)) [])

-- Refusal 8 "remains for two signals, two turnouts, or a P line with any other line, another P line included" (02, Item 3): lines of the kinds
-- j and k may not stand over one ordered pair.
abbrev pub excludes : ℕ → ℕ → Bool
excludes j k = eqb j k || (eqb j p_line || eqb k p_line)

-- The pairs of earlier lines over which no line of kind k may stand.
unfoldable pub closed_to : ℕ → List Line → List Move
unfolding pairs_of
closed_to k [] = []
closed_to k (e ∷ es) = cond (excludes e.kind k) (pairs_of e) [] ++ closed_to k es

-- The two lists of pairs have a pair in common.
unfoldable pub clashes : List Move → List Move → Bool
clashes closed [] = false
clashes closed (m ∷ ms) = has_pair closed m.from.0 m.to.0 || clashes closed ms

-- "In each 2, 5, 7, 6": the first cause of a line taken by itself, in a station of n sections; 0 where there is none.
unfoldable pub line_cause : ℕ → Line → ℕ
line_cause n l =
    cond (eqb l.kind no_kind) 2
    (cond (some_outside n (having section_field l)) 5
    (cond (not (once (having section_field l))) 7
    (cond (some_above2 (having state_field l)) 6
    0)))

-- The first cause of a line after the lines `earlier`: a cause of the line by itself, then 8.
unfoldable pub cause_after : ℕ → List Line → Line → ℕ
cause_after n earlier l = cond (eqb (line_cause n l) 0) (cond (clashes (closed_to l.kind earlier) (pairs_of l)) 8 0) (line_cause n l)

abbrev pub refusal : ℕ → ℕ → Refusal
refusal q line = record { number = q; line = line }

-- The refusal is none: its number is 0.
abbrev pub is_none : Refusal → Bool
is_none q = eqb q.number 0

-- The answer x, or the refusal q, unless that is none.
abbrev pub unless_refused : {T : Type 0} → Refusal → T → Result T Refusal
unless_refused q x = cond (is_none q) (Ok x) (Err q)

-- "Line by line": the first cause in the m lines from line i on, where line j is `lines j`; number 0 where there is none.
unfoldable pub first_refusal : ℕ → (ℕ → Line) → ℕ → ℕ → List Line → Refusal
first_refusal n lines zero i earlier = refusal 0 0
first_refusal n lines (suc m) i earlier =
    cond (eqb (cause_after n earlier (lines i)) 0)
    (first_refusal n lines m (i + 1) (lines i ∷ earlier))
    (refusal (cause_after n earlier (lines i)) (i + 1))

-- "1 plus the three counts".
abbrev pub line_count : Header → ℕ
line_count h = h.plain + h.elements + h.trains + 1

-- The first refusal in the lines after the first.
unfoldable pub refusal_of : Header → (ℕ → Line) → Refusal
refusal_of h lines = first_refusal h.sections lines (line_count h - 1) 1 []

-- ---- lines and values
abbrev pub move_of : Line → Move
move_of l = move_between l.first l.second

abbrev pub element_of : Line → Element
element_of l =
    cond (eqb l.kind turnout_line) (turnout_joining l.first l.second l.third l.fourth) (signal_over l.first l.second l.third)

-- A T line of n sections has kind n + 3: the first such kind is `t_line`, which is 4.
abbrev pub train_of : Line → Train
train_of l = train_in (l.kind - 3) l.first l.second l.third l.fourth

-- The entries past the counts: zeros.
abbrev pub no_move : Move
no_move = move_between 0 0

abbrev pub no_element : Element
no_element = signal_over 0 0 0

abbrev pub situation_with : Header → List Move → List Element → List Train → Situation
situation_with h ms es ts =
    record { header = h; plain = pad_to 1024 no_move ms; elements = pad_to 256 no_element es; trains = pad_to 64 no_train ts }

-- The situation that lines 1, 2, .. give under a header.
unfoldable pub situation_of : Header → (ℕ → Line) → Situation
situation_of h lines =
    situation_with h (list_of h.plain (λ i. move_of (lines (1 + i)))) (list_of h.elements (λ i. element_of (lines (1 + h.plain + i))))
    (list_of h.trains (λ i. train_of (lines (1 + h.plain + h.elements + i))))

-- ---- reading
-- First the kind that a line must have at its place: `line_at` compares letter and fields with it, so that any other letter is refused with 2.
-- The kind of the first line: "A file may begin with U in place of S" (02, Item 2). Byte 85 is U.
abbrev pub first_kind_of : List ℕ → ℕ
first_kind_of file = cond (eqb (get_or file 0 0) 85) u_line s_line

abbrev pub letter_of : ℕ → Letter
letter_of k = cond (eqb k u_line) letter.U letter.S

abbrev pub header_of : Line → Header
header_of l = record { letter = letter_of l.kind; sections = l.first; plain = l.second; elements = l.third; trains = l.fourth }

-- The kind of a T line: one section under S; under U as many sections as fields stand before the first blank field. A line that has a filled field
-- behind a blank one, or no filled field, has not the form of its kind.
abbrev pub train_kind : Letter → List ℕ → ℕ → ℕ
train_kind letter.S file i = t_line
train_kind letter.U file i =
    cond (fits false (field_in padded file i 1)) t_line
    (cond (fits false (field_in padded file i 2)) (t_line + 1) (cond (fits false (field_in padded file i 3)) (t_line + 2) (t_line + 3)))

-- The kind of line i, after the first: "First the S line, then all P lines, then all elements (L and D in any order), then all T lines." Byte 76 is
-- L; an element line with any other letter must be a D line.
unfoldable pub kind_at : List ℕ → Header → ℕ → ℕ
kind_at file h i =
    cond (leb i h.plain) p_line
    (cond (leb i (h.plain + h.elements)) (cond (eqb (get_or file (i * 22) 0) 76) signal_line turnout_line)
    (train_kind h.letter file i))

unfoldable pub file_line_in : FieldForm → List ℕ → Header → ℕ → Line
file_line_in form file h i = line_at form file i (kind_at file h i)

-- Line i of a station file, after the first. The fields of a station file have the padded form.
abbrev pub file_line : List ℕ → Header → ℕ → Line
file_line = file_line_in padded

unfoldable pub no_situation : Situation
no_situation =
    situation_with (record { letter = letter.S; sections = 0; plain = 0; elements = 0; trains = 0 }) [] [] []

-- What is read of a file: a refusal, of number 0 where the file is accepted, and the situation, all zeros after a refusal.
pub record Reading : Type 0 where
  pub refusal : Refusal
  pub situation : Situation

unfoldable pub refused : Refusal → Reading
refused q = record { refusal = q; situation = no_situation }

-- The reading with the refusal q, and the situation where that is none.
abbrev pub read_with : Refusal → Situation → Reading
read_with q s = cond (is_none q) (record { refusal = q; situation = s }) (refused q)

-- "2 and 3 on line 1; then 4; then line by line from the second": the reading of a file with the first line l.
unfoldable pub reading_under_in : FieldForm → List ℕ → Line → Reading
reading_under_in form file l =
    cond (eqb l.kind no_kind) (refused (refusal 2 1))
    (cond (out_of_range l.first l.second l.third l.fourth) (refused (refusal 3 1))
    (cond (not (eqb (length file / 22) (line_count (header_of l)))) (refused (refusal 4 1))
    (read_with (refusal_of (header_of l) (file_line_in form file (header_of l))) (situation_of (header_of l) (file_line_in form file (header_of l))))))

-- "1: empty, not a multiple of 22 bytes, or above 29,590 bytes. Line 0."
unfoldable pub reading_in : FieldForm → List ℕ → Reading
reading_in form file =
    cond (eqb (length file) 0 || not (eqb (length file % 22) 0) || ltb 29590 (length file)) (refused (refusal 1 0))
    (reading_under_in form file (line_at form file 0 (first_kind_of file)))

-- The reading of a station file; `reading_in old` is its reading before padded fields were allowed.
abbrev pub reading : List ℕ → Reading
reading = reading_in padded

-- What a reading answers: the situation, or the refusal.
abbrev pub answered : Reading → Result Situation Refusal
answered r = unless_refused r.refusal r.situation

abbrev pub reading_answer : List ℕ → Result Situation Refusal
reading_answer file = answered (reading file)

-- ---- writing
abbrev pub line_of_move : Move → Line
line_of_move m = line_with p_line m.from.0 m.to.0 0 0

abbrev pub line_of_kind : Kind → ℕ → Line
line_of_kind (kind.Signal m) x = line_with signal_line m.from.0 m.to.0 x 0
line_of_kind (kind.Turnout t) x = line_with turnout_line t.stem.0 t.straight.0 t.diverted.0 x

-- The most sections that a train has under a letter.
abbrev pub most_under : Letter → ℕ
most_under letter.S = 1
most_under letter.U = 4

-- The number of a train's section in field j, 0 past its count.
abbrev pub counted : ℕ → ℕ → Section → ℕ
counted n j a = cond (ltb j n) a.0 0

-- "Giving 2, before 5 on that line, for a train of no section, of more than four, or under S of more than one" (02, Item 2): such a train has no
-- line of the form.
abbrev pub line_of_train : Letter → Train → Line
line_of_train x t =
    cond (eqb t.count 0 || ltb (most_under x) t.count) malformed
    (line_with (t.count + 3) (counted t.count 0 t.first) (counted t.count 1 t.second) (counted t.count 2 t.third) (counted t.count 3 t.fourth))

-- "The situation records its letter, and the writer writes it" (02, Item 2).
abbrev pub kind_of_letter : Letter → ℕ
kind_of_letter letter.S = s_line
kind_of_letter letter.U = u_line

abbrev pub line_of_header : Header → Line
line_of_header h = line_with (kind_of_letter h.letter) h.sections h.plain h.elements h.trains

abbrev pub line_of_element : Element → Line
line_of_element e = line_of_kind e.kind e.state

-- "First the S line, then all P lines, then all elements (L and D in any order), then all T lines": as the writer writes them.
unfoldable pub written_lines : Situation → List Line
written_lines s =
    line_of_header s.header
    ∷ (list_of s.header.plain (λ j. line_of_move (get_or s.plain j no_move))
    ++ (list_of s.header.elements (λ j. line_of_element (get_or s.elements j no_element))
    ++ list_of s.header.trains (λ j. line_of_train s.header.letter (get_or s.trains j no_train))))

-- Line i of the lines that are written.
unfoldable pub written_line : Situation → ℕ → Line
written_line s i = get_or (written_lines s) i malformed

-- The bytes of the first n lines.
unfoldable pub text_of : (ℕ → Line) → ℕ → List ℕ
text_of lines zero = []
text_of lines (suc n) = text_of lines n ++ line_text (lines n)

unfoldable pub file_text : Situation → List ℕ
file_text s = text_of (written_line s) (line_count s.header)

-- The refusal of the writer, with the line that would have been written: 3; then, line by line, 2, 5, 7, 6 and 8; then 9, for a buffer of `room`
-- bytes.
unfoldable pub write_refusal : Situation → ℕ → Refusal
write_refusal s room =
    cond (out_of_range s.header.sections s.header.plain s.header.elements s.header.trains) (refusal 3 1)
    (let q : Refusal = refusal_of s.header (written_line s) in
    cond (is_none q) (cond (ltb room (line_count s.header * 22)) (refusal 9 0) q) q)

-- What writing answers: the refusal, or how much was written.
abbrev pub writing_answer : Situation → ℕ → Result Output Refusal
writing_answer s room = unless_refused (write_refusal s room) (output_of (file_text s))

-- "Fills the start of a lent buffer, the rest unchanged"; "a refusal leaves all lent memory unchanged".
unfoldable pub after_writing : Situation → List ℕ → List ℕ
after_writing s buffer =
    cond (is_none (write_refusal s (length buffer))) (file_text s ++ drop (line_count s.header * 22) buffer) buffer

-- ---- "the same situation up to its counts": with zeros past the counts, those of the trains among them
abbrev pub train_up_to_count : Train → Train
train_up_to_count t =
    train_in t.count (counted t.count 0 t.first) (counted t.count 1 t.second) (counted t.count 2 t.third) (counted t.count 3 t.fourth)

unfoldable pub up_to_counts : Situation → Situation
up_to_counts s = situation_with s.header (plain_moves s) (elements_of s) (map train_up_to_count (trains_of s))
