-- Both round trips of 01. `read_then_write`: an accepted file of the old form is what the writer makes of the situation that was read.
-- `written_again`: of any accepted file the writer makes a file of the old form, as long, and reading that gives the same situation.
-- `write_then_read`: "Reading those bytes gives the same situation up to its counts". Each goes line by line: the line that is written
-- and the line that is read are equal, so their causes of refusal are too.
use mathlib.Core.Path.{◌≡◌, sym, ap, ◌∙◌, subst}
use mathlib.Core.Logic.{◌↔◌}
use mathlib.Core.Bool.{true, cond}
use mathlib.Core.List.{List, [], ◌++◌, map}
use Prim.Native.Nat.{ℕ, zero, suc, ◌+◌, ◌*◌, ◌-◌, ◌≤◌, ◌<◌}
use native.Mathlib.Omega.{arith}
use lib.Dec.{eqb}
use lib.ListN.{length, get_or, drop}
use Rattle.meaning.specs.declared.FieldForm.{FieldForm}
use Rattle.meaning.specs.declared.Kind.{Kind}
use Rattle.meaning.specs.declared.Element.{Element}
use Rattle.meaning.specs.declared.Letter.{Letter}
use Rattle.meaning.specs.declared.Letter.TheVariants as letter
use Rattle.meaning.specs.declared.Train.{Train}
use Rattle.meaning.specs.declared.Header.{Header}
use Rattle.meaning.specs.declared.Situation.{Situation}
use Rattle.meaning.specs.declared.Refusal.{Refusal}
use Rattle.meaning.specs.declared.Line.{Line}
use Rattle.meaning.specs.Station.{plain_moves, elements_of, trains_of, no_train}
use Rattle.meaning.specs.Columns.{old, padded, record_kind_at, well_formed, line_at, row_text, line_text}
use Rattle.basics.specs.Lists.{list_of, pad_to}
use Rattle.meaning.specs.File.{refusal, line_count, refusal_of}
use Rattle.meaning.specs.File.{move_of, element_of, train_of, no_move, no_element, situation_of, header_of, first_kind_of, kind_at, file_line_in, file_line, reading}
use Rattle.meaning.specs.File.{line_of_move, line_of_kind, line_of_train, kind_of_letter, line_of_header, written_line, train_up_to_count}
use Rattle.meaning.specs.File.{file_text, write_refusal, after_writing, up_to_counts}
use Rattle.meaning.specs.Accepted.{file_header, Accepted, OldForm}
use Rattle.basics.proofs.Lists.{list_of_ext, list_of-take, list_of-map, pad_list_of_get}
use Rattle.basics.proofs.Holds.{Holds}
use Rattle.meaning.proofs.Columns.{Writable, line_kind, line_formed, well_formed_holds, well_formed_writable, holds_line, old_line}
use Rattle.file_meaning.proofs.Text.{text_length, text_holds, holds_whole}
use Rattle.meaning.proofs.Causes.{Clear, all_clear}
use Rattle.meaning.proofs.FirstRefusal.{refusal_ext, no_refusal_none}
use Rattle.meaning.proofs.Places.{OfTrain, by_place, written_header, written_plain, written_element, written_train}
use Rattle.meaning.proofs.Places.{kind_plain, kind_element, kind_train, train_kind_within, train_kind_of}
use Rattle.meaning.proofs.Accepted.{InRange, ranges, passed_exactly, accepted_exactly, accepted_situation}
use Rattle.meaning.proofs.AcceptedSituation.{plain_lines, element_lines_lem, train_lines, accepted_counts}
use Rattle.file_meaning.proofs.Values.{line_header, move_line, element_line, train_line, line_element}
use Rattle.file_meaning.proofs.Values.{train_formed, train_line_kind, line_train}
use Rattle.file_meaning.proofs.Values.{header_writable, move_writable, element_writable, train_writable}

-- Where there is no refusal, no line after the first has a cause by itself.
pub lines_clear : (h : Header) (f : ℕ → Line) → (refusal_of h f).number ≡ 0 → (i : ℕ) → 1 ≤ i → i < line_count h → Clear h.sections (f i)
unfolding refusal_of
lines_clear h f e i low high = ((all_clear h.sections f (line_count h - 1) 1 []).0 e).alone i low (omega arith)

-- ---- a file that is accepted, written again
module _ (file : List ℕ) (accepted : (reading file).refusal.number ≡ 0) where
  causes : Accepted file
  causes = (accepted_exactly file).0 accepted

  whole : length file ≡ line_count (file_header file) * 22
  whole = omega (arith, causes.size.1, causes.lines)

  situation : Situation
  situation = situation_of (file_header file) (file_line file (file_header file))

  formed : (i : ℕ) → 1 ≤ i → i < line_count (file_header file) → well_formed padded file i (kind_at file (file_header file) i) ≡ true
  formed i low high = causes.form i (low, high)

  kind_and_writable : (i : ℕ) → 1 ≤ i → i < line_count (file_header file)
      → ((file_line file (file_header file) i).kind ≡ kind_at file (file_header file) i) × Writable (file_line file (file_header file) i)
  unfolding file_line_in
  kind_and_writable i low high = grind (arith, formed, line_kind, well_formed_writable)

  -- The first line that is written is the first line that was read.
  first_again : written_line situation 0 ≡ line_at padded file 0 (first_kind_of file)
  unfolding situation situation_of file_header
  first_again = grind (arith, causes, line_kind, written_header)

  -- Each line after it that is written is the line that was read.
  line_again : (i : ℕ) → 1 ≤ i → i < line_count (file_header file) → written_line situation i ≡ file_line file (file_header file) i
  unfolding situation situation_of
  line_again =
      let h = file_header file in
      let line : ℕ → Line = file_line file h in
      by_place h (λ i. written_line situation i ≡ line i)
      (λ j l.
      let i = 1 + j in
      let w = kind_and_writable i (omega arith) (omega arith) in
      written_plain situation j l
      ∙ ap line_of_move (pad_list_of_get 1024 h.plain no_move no_move (λ k. move_of (line (1 + k))) j l)
      ∙ move_line (line i) (w.0 ∙ kind_plain file h j l) w.1)
      (λ j l.
      let i = 1 + h.plain + j in
      let w = kind_and_writable i (omega arith) (omega arith) in
      written_element situation j l
      ∙ ap (λ (e : Element). line_of_kind e.kind e.state)
      (pad_list_of_get 256 h.elements no_element no_element (λ k. element_of (line (1 + h.plain + k))) j l)
      ∙ element_line (line i) (eqb (get_or file (i * 22) 0) 76) (w.0 ∙ kind_element file h j l) w.1)
      (λ j l.
      let i = 1 + h.plain + h.elements + j in
      let w = kind_and_writable i (omega arith) (omega arith) in
      let f : ℕ → Train = λ k. train_of (line (1 + h.plain + h.elements + k)) in
      written_train situation j l
      ∙ ap (line_of_train h.letter) (pad_list_of_get 64 h.trains no_train no_train f j l)
      ∙ train_line h.letter (line i) (rw (w.0 ∙ kind_train file h j) (train_kind_within h.letter file i)) w.1)

  -- A line of the old form stands there as it is written.
  held : OldForm file → (i : ℕ) → i < line_count (file_header file) → Holds file (i * 22) (line_text (written_line situation i))
  unfolding file_line_in
  held o zero high = rw (first_again, (old_line padded file 0 (first_kind_of file) o.first_form).1) (well_formed_holds file 0 (first_kind_of file) o.first_form)
  held o (suc i) high =
      let k = kind_at file (file_header file) (suc i) in
      let h = o.form (suc i) (omega arith, high) in
      rw (line_again (suc i) (omega arith) high, (old_line padded file (suc i) k h).1) (well_formed_holds file (suc i) k h)

  text_again : OldForm file → file_text situation ≡ file
  unfolding file_text situation situation_of
  text_again o = holds_whole file (written_line situation) (line_count (file_header file)) (held o) whole

  as_long : length (file_text situation) ≡ length file
  unfolding file_text situation situation_of
  as_long = text_length (written_line situation) (line_count (file_header file)) ∙ sym whole

  none_again : (room : ℕ) → length file ≤ room → write_refusal situation room ≡ refusal 0 0
  unfolding write_refusal situation situation_of
  none_again room enough = grind (arith, line_again, no_refusal_none, passed_exactly, refusal_ext)

  buffer_again : (buffer : List ℕ) → length file ≤ length buffer
      → after_writing situation buffer ≡ file_text situation ++ drop (length file) buffer
  unfolding after_writing situation situation_of
  buffer_again buffer enough = rw (none_again (length buffer) enough, whole)

  -- The train of a T line: zeros stand past its sections.
  abbrev train_read : ℕ → Train
  train_read j = train_of (file_line file (file_header file) (1 + (file_header file).plain + (file_header file).elements + j))

  train_again : (j : ℕ) → j < (file_header file).trains → train_up_to_count (train_read j) ≡ train_read j
  train_again j l =
      let h = file_header file in
      let i = 1 + h.plain + h.elements + j in
      let w = kind_and_writable i (omega arith) (omega arith) in
      let o : OfTrain h.letter (file_line file h i).kind = rw (w.0 ∙ kind_train file h j) (train_kind_within h.letter file i) in
      sym (line_train h.letter (train_read j) (omega arith, omega arith))
      ∙ ap train_of (train_line h.letter (file_line file h i) o w.1)

  trains_again : map train_up_to_count (trains_of situation) ≡ list_of (file_header file).trains train_read
  unfolding situation
  trains_again =
      ap (map train_up_to_count) (train_lines (file_header file) (file_line file (file_header file)))
      ∙ sym (list_of-map train_up_to_count (file_header file).trains train_read)
      ∙ list_of_ext (file_header file).trains (λ j. train_up_to_count (train_read j)) train_read train_again

  -- Past the counts stand zeros already.
  counts_again : up_to_counts situation ≡ situation
  unfolding up_to_counts situation situation_of
  counts_again = grind (arith, element_lines_lem, plain_lines, trains_again)

-- ---- a situation that is written, read again
module _ (s : Situation) (in_range_lem : InRange s.header) (none : refusal_of s.header (written_line s) ≡ refusal 0 0) where
  bytes : length (file_text s) ≡ line_count s.header * 22
  unfolding file_text
  bytes = text_length (written_line s) (line_count s.header)

  line_held : (i : ℕ) → i < line_count s.header → (l : Line) → written_line s i ≡ l → Holds (file_text s) (i * 22) (line_text l)
  unfolding file_text
  line_held i high l e = rw (← e) (text_holds (written_line s) (line_count s.header) i high)

  letter_of : (i : ℕ) (l : Line) → Holds (file_text s) (i * 22) (line_text l) → get_or (file_text s) (i * 22) 0 ≡ (record_kind_at l.kind).letter
  unfolding line_text row_text
  letter_of i l h = h.0

  -- The first line is read back.
  first_letter : first_kind_of (file_text s) ≡ kind_of_letter s.header.letter
  unfolding record_kind_at
  first_letter = go s.header.letter (letter_of 0 (line_of_header s.header) (line_held 0 (omega arith) (line_of_header s.header) (written_header s)))
    where
      go : (x : Letter) → get_or (file_text s) 0 0 ≡ (record_kind_at (kind_of_letter x)).letter → first_kind_of (file_text s) ≡ kind_of_letter x
      go letter.S e = rw e
      go letter.U e = rw e

  first_read : (form : FieldForm) → (well_formed form (file_text s) 0 (first_kind_of (file_text s)) ≡ true)
      × (line_at form (file_text s) 0 (first_kind_of (file_text s)) ≡ line_of_header s.header)
  first_read form =
      rw first_letter
      (holds_line form (file_text s) 0 (line_of_header s.header) (header_writable s.header in_range_lem)
      (line_held 0 (omega arith) (line_of_header s.header) (written_header s)))

  header_read : file_header (file_text s) ≡ s.header
  unfolding file_header
  header_read = ap header_of (first_read padded).1 ∙ line_header s.header

  few : s.header.sections ≤ 512
  few = (ranges s.header in_range_lem).sections

  clear : (i : ℕ) → 1 ≤ i → i < line_count s.header → (l : Line) → written_line s i ≡ l → Clear s.header.sections l
  clear i low high l e =
      rw (← e) (lines_clear s.header (written_line s) (ap (λ (q : Refusal). q.number) none) i low high)

  -- Line i is of the old form, and is read back.
  abbrev ReadBack : ℕ → Type 0
  ReadBack i =
      (well_formed old (file_text s) i (kind_at (file_text s) s.header i) ≡ true)
      × (file_line (file_text s) s.header i ≡ written_line s i)

  -- A line that can be written, at a place that allows its kind, is read back.
  read_back : (i : ℕ) → i < line_count s.header → (l : Line) → written_line s i ≡ l → Writable l
      → kind_at (file_text s) s.header i ≡ l.kind → ReadBack i
  unfolding file_line_in
  read_back i high l e w k =
      let held = line_held i high l e in (
        ap (well_formed old (file_text s) i) k ∙ (holds_line old (file_text s) i l w held).0,
        ap (line_at padded (file_text s) i) k ∙ (holds_line padded (file_text s) i l w held).1 ∙ sym e,
      )

  element_kind : (i : ℕ) (k : Kind) (x : ℕ) → Holds (file_text s) (i * 22) (line_text (line_of_kind k x))
      → cond (eqb (get_or (file_text s) (i * 22) 0) 76) 2 3 ≡ (line_of_kind k x).kind
  unfolding record_kind_at
  element_kind i k x h = grind (arith, letter_of)

  -- Each line after the first is read back.
  lines_read : (i : ℕ) → 1 ≤ i → i < line_count s.header → ReadBack i
  lines_read =
      let h = s.header in
      by_place h ReadBack
      (λ j l.
      let i = 1 + j in
      let m = get_or s.plain j no_move in
      let e = written_plain s j l in
      read_back i (omega arith) (line_of_move m) e
      (move_writable h.sections few m (clear i (omega arith) (omega arith) (line_of_move m) e))
      (kind_plain (file_text s) h j l))
      (λ j l.
      let i = 1 + h.plain + j in
      let k = (get_or s.elements j no_element).kind in
      let x = (get_or s.elements j no_element).state in
      let e = written_element s j l in
      read_back i (omega arith) (line_of_kind k x) e
      (element_writable h.sections few k x (clear i (omega arith) (omega arith) (line_of_kind k x) e))
      (kind_element (file_text s) h j l ∙ element_kind i k x (line_held i (omega arith) (line_of_kind k x) e)))
      (λ j l.
      let i = 1 + h.plain + h.elements + j in
      let x = h.letter in
      let t = get_or s.trains j no_train in
      let e = written_train s j l in
      let c = clear i (omega arith) (omega arith) (line_of_train x t) e in
      let w = train_writable h.sections few x t c in
      let formed = (holds_line padded (file_text s) i (line_of_train x t) w (line_held i (omega arith) (line_of_train x t) e)).0 in
      let k = train_line_kind x t (train_formed x t c.formed) in
      read_back i (omega arith) (line_of_train x t) e w
      (kind_train (file_text s) h j ∙ train_kind_of x (file_text s) i (line_of_train x t).kind k formed))

  line_read : (i : ℕ) → 1 ≤ i → i < line_count s.header → file_line (file_text s) s.header i ≡ written_line s i
  line_read i low high = (lines_read i low high).1

  text_old : OldForm (file_text s)
  text_old = record { first_form = (first_read old).0; form = λ i b. rw header_read (lines_read i b.0 (rw header_read at b.1)).0 }

  text_accepted : (reading (file_text s)).refusal.number ≡ 0
  text_accepted = grind (arith, bytes, first_read, header_read, line_formed, line_read, passed_exactly, refusal_ext)

  situation-read : length s.plain ≡ 1024 → length s.elements ≡ 256 → length s.trains ≡ 64
      → situation_of s.header (file_line (file_text s) s.header) ≡ up_to_counts s
  unfolding situation_of up_to_counts plain_moves elements_of trains_of
  situation-read lp le lt =
      let h = s.header in
      let r = ranges h in_range_lem in
      let line : ℕ → Line = file_line (file_text s) h in
      let plain : list_of h.plain (λ j. move_of (line (1 + j))) ≡ plain_moves s =
      list_of_ext h.plain (λ j. move_of (line (1 + j))) (λ j. get_or s.plain j no_move)
      (λ j l. ap move_of (line_read (1 + j) (omega arith) (omega arith) ∙ written_plain s j l))
      ∙ list_of-take s.plain no_move h.plain (omega arith) in
      let elements : list_of h.elements (λ j. element_of (line (1 + h.plain + j))) ≡ elements_of s =
      list_of_ext h.elements (λ j. element_of (line (1 + h.plain + j))) (λ j. get_or s.elements j no_element)
      (λ j l.
      ap element_of (line_read (1 + h.plain + j) (omega arith) (omega arith) ∙ written_element s j l)
      ∙ line_element (get_or s.elements j no_element))
      ∙ list_of-take s.elements no_element h.elements (omega arith) in
      let train : ℕ → Train = λ j. get_or s.trains j no_train in
      let trains : list_of h.trains (λ j. train_of (line (1 + h.plain + h.elements + j))) ≡ map train_up_to_count (trains_of s) =
      list_of_ext h.trains (λ j. train_of (line (1 + h.plain + h.elements + j))) (λ j. train_up_to_count (train j))
      (λ j l.
      let i = 1 + h.plain + h.elements + j in
      let e = written_train s j l in
      ap train_of (line_read i (omega arith) (omega arith) ∙ e)
      ∙ line_train h.letter (train j)
      (train_formed h.letter (train j) (clear i (omega arith) (omega arith) (line_of_train h.letter (train j)) e).formed))
      ∙ list_of-map train_up_to_count h.trains train
      ∙ ap (map train_up_to_count) (list_of-take s.trains no_train h.trains (omega arith)) in
      λ i. record {
        header = h;
        plain = pad_to 1024 no_move (plain i);
        elements = pad_to 256 no_element (elements i);
        trains = pad_to 64 no_train (trains i);
      }

-- ---- the two laws
-- An accepted file of the old form is the text of the situation that was read.
pub read_then_write : (file : List ℕ) → (reading file).refusal.number ≡ 0 → OldForm file → file_text (reading file).situation ≡ file
unfolding situation
read_then_write file e o = rw (accepted_situation file e) (text_again file e o)

-- Each line that is written is the line that was read.
pub lines_again : (file : List ℕ) → (reading file).refusal.number ≡ 0
    → (written_line (reading file).situation 0 ≡ line_at padded file 0 (first_kind_of file))
    × ((i : ℕ) → 1 ≤ i → i < line_count (file_header file) → written_line (reading file).situation i ≡ file_line file (file_header file) i)
unfolding situation
lines_again file e = rw (accepted_situation file e) (first_again file e, line_again file e)

-- What was read has zeros past its counts.
pub up_to_counts_lem : (file : List ℕ) → (reading file).refusal.number ≡ 0 → up_to_counts (reading file).situation ≡ (reading file).situation
unfolding situation
up_to_counts_lem file e = rw (accepted_situation file e) (counts_again file e)

-- The writer takes that situation wherever there is room.
pub read_then_write_accepted :
    (file : List ℕ) → (reading file).refusal.number ≡ 0 → (room : ℕ) → length file ≤ room
    → write_refusal (reading file).situation room ≡ refusal 0 0
unfolding situation
read_then_write_accepted file e room enough = rw (accepted_situation file e) (none_again file e room enough)

-- After that the buffer begins with the text, and keeps its rest.
pub read_then_write_buffer :
    (file : List ℕ) → (reading file).refusal.number ≡ 0 → (buffer : List ℕ) → length file ≤ length buffer
    → after_writing (reading file).situation buffer ≡ file_text (reading file).situation ++ drop (length file) buffer
unfolding situation
read_then_write_buffer file e buffer enough = rw (accepted_situation file e) (buffer_again file e buffer enough)

-- What holds where the writer refuses nothing.
pub write_checked : (s : Situation) (room : ℕ) → (write_refusal s room).number ≡ 0
    → InRange s.header × ((refusal_of s.header (written_line s)).number ≡ 0)
unfolding write_refusal
write_checked s room e = grind arith

-- Each line of what was written is read as it was written.
pub lines_written : (s : Situation) (room : ℕ) → (write_refusal s room).number ≡ 0
    → (line_at padded (file_text s) 0 (first_kind_of (file_text s)) ≡ line_of_header s.header)
    × ((i : ℕ) → 1 ≤ i → i < line_count s.header → file_line (file_text s) s.header i ≡ written_line s i)
lines_written s room e =
    let c = write_checked s room e in
    let none = no_refusal_none s.header (written_line s) c.1 in
    ((first_read s c.0 none padded).1, line_read s c.0 none)

-- Reading what was written gives the same situation up to its counts.
pub write_then_read :
    (s : Situation) (room : ℕ) → length s.plain ≡ 1024 → length s.elements ≡ 256 → length s.trains ≡ 64
    → (write_refusal s room).number ≡ 0
    → reading (file_text s) ≡ record { refusal = refusal 0 0; situation = up_to_counts s }
write_then_read s room lp le lt e = grind (arith, accepted_situation, header_read, no_refusal_none, situation-read, text_accepted, write_checked)

-- What was written is of the old form.
pub written-old : (s : Situation) (room : ℕ) → (write_refusal s room).number ≡ 0 → OldForm (file_text s)
written-old s room e = let c = write_checked s room e in text_old s c.0 (no_refusal_none s.header (written_line s) c.1)

-- What the writer makes of any accepted file: a file of the old form, as long, that is read as the same situation.
pub record WrittenAgain (file : List ℕ) (text : List ℕ) : Type 0 where
  pub old_form : OldForm text
  pub as_long : length text ≡ length file
  pub same : reading text ≡ reading file

pub written_again : (file : List ℕ) → (reading file).refusal.number ≡ 0 → WrittenAgain file (file_text (reading file).situation)
unfolding situation
written_again file e =
    let s = situation file e in
    let n = none_again file e (length file) (omega arith) in
    let c = write_checked s (length file) (ap (λ (q : Refusal). q.number) n) in
    let none = no_refusal_none s.header (written_line s) c.1 in
    let w = rw (accepted_situation file e) at (accepted_counts file e) in
    let again = write_then_read s (length file) w.plain_length w.elements_length w.trains_length (ap (λ (q : Refusal). q.number) n) in
    rw (accepted_situation file e)
    (record {
      old_form = text_old s c.0 none;
      as_long = as_long file e;
      same = cc (again, counts_again file e, accepted_situation file e);
    })

-- The text is the file exactly where the file is of the old form.
pub text_is_file : (file : List ℕ) → (reading file).refusal.number ≡ 0 → (file_text (reading file).situation ≡ file) ↔ OldForm file
text_is_file file e = (λ t. subst OldForm t (written_again file e).old_form, read_then_write file e)
