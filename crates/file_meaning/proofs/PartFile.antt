-- A part as a file: with the digit of one open element's state changed to 1 or 2, an accepted file is accepted and read as the part
-- (`part-reading`). The changed file has the lines of the part as it is written, which has no cause of refusal that the whole has not.
use mathlib.Core.Path.{◌≡◌, refl, sym, ap, ap₂, subst, ◌∙◌}
use mathlib.Core.Logic.{◌⊎◌, ⊎_elim}
use mathlib.Core.Bool.{Bool, true, cond}
use mathlib.Core.List.{List, [], ◌∷◌}
use Prim.Native.Nat.{ℕ, zero, suc, ◌+◌, ◌*◌, ◌-◌, ◌≤◌, ◌<◌}
use native.Mathlib.Decide.{ℕ_discrete}
use native.Mathlib.Omega.{arith}
use lib.Dec.{eqb, ltb}
use lib.ListN.{length, get_or, set, length-map, length-take, length-set, get_or-map}
use lib.Seq.{get_or-take, get_or-set_same, get_or-set_other, set-append_left}
use borrow.Author.Tests.{le-leb}
use Rattle.meaning.specs.declared.Field.{Field}
use Rattle.meaning.specs.declared.Field.TheVariants.{Number}
use Rattle.meaning.specs.declared.Kind.{Kind}
use Rattle.meaning.specs.declared.Kind.TheVariants.{Signal, Turnout}
use Rattle.meaning.specs.declared.Element.{Element}
use Rattle.meaning.specs.declared.Header.{Header}
use Rattle.meaning.specs.declared.Refusal.{Refusal}
use Rattle.meaning.specs.File.{Reading}
use Rattle.meaning.specs.declared.Line.{Line}
use Rattle.meaning.specs.declared.Situation.{Situation}
use Rattle.meaning.specs.Station.{plain_moves, elements_of, trains_of, file_states}
use Rattle.meaning.specs.Columns.{padded, step, front, field_at, field_in, fits, value_of, record_kind_at, well_formed, line_at, having}
use Rattle.meaning.specs.File.{no_element, first_kind_of, pairs_of, line_cause, refusal, line_count}
use Rattle.basics.specs.Lists.{pad_to}
use Rattle.meaning.specs.File.{header_of, situation_of, kind_at, file_line_in, file_line, reading, line_of_kind, written_line}
use Rattle.meaning.specs.File.{file_text, out_of_range, write_refusal, up_to_counts}
use Rattle.meaning.specs.Accepted.{file_header}
use Rattle.meaning.specs.Parts.{IsOpen, fixed, part, kind_of_element}
use Rattle.file_meaning.specs.PartFile.{state_digit, part_file}
use Rattle.meaning.proofs.Columns.{front_same, field_same, kind_form, line_kind, kind_well_formed, line_same}
use Rattle.file_meaning.proofs.Text.{text_length}
use Rattle.meaning.proofs.Places.{by_place, written_header, written_plain, written_element, written_train, kind_element, train_kind_same}
use Rattle.meaning.proofs.Accepted.{accepted_exactly, accepted_situation}
use Rattle.file_meaning.proofs.RoundTrip.{up_to_counts_lem, read_then_write_accepted, write_then_read, lines_again, lines_written}
use Rattle.file_meaning.proofs.OldForm.{reading_same}
use Rattle.meaning.proofs.FirstRefusal.{Alike, refusal_alike}
use Rattle.meaning.proofs.AcceptedSituation.{accepted_counts}
use Rattle.meaning.proofs.Parts.{part_elements}

-- ---- one digit of a file
-- The digit of the state in an element's line, by its kind.
abbrev digit_place : Kind → ℕ
digit_place (Signal m) = 15
digit_place (Turnout t) = 20

digit_inside : (k : Kind) → (1 ≤ digit_place k) × (digit_place k < 21)
digit_inside k = grind arith

-- The letter tells the kind.
letter_place : (b : Bool) (k : Kind) → cond b 2 3 ≡ (line_of_kind k 0).kind → cond b 15 20 ≡ digit_place k
letter_place b k h = grind arith

-- A digit after spaces and zeros.
zero_then : (f : Field) (b x : ℕ) → x < 10 → step padded f b ≡ Number 0 → step padded f (48 + x) ≡ Number x
zero_then f b x h h2 = grind arith

-- A field that has to be filled and gives 0 holds 0.
is_zero : (f : Field) → fits true f ≡ true → value_of f ≡ 0 → f ≡ Number 0
is_zero f h h2 = grind arith

module _ (file : List ℕ) (i x : ℕ) (few : x < 10) where
  -- With the last byte of field j as another digit, every other field keeps its bytes.
  field_kept : (j m : ℕ) → j < 4 → m < 4 → (m ≡ j → ⊥)
      → field_in padded (set file (i * 22 + (j * 5 + 5)) (48 + x)) i m ≡ field_in padded file i m
  field_kept j m lj lm d = grind (arith, field_same, get_or-set_other)

  -- A field that holds 0 then holds that digit.
  field_set : (j : ℕ) → i * 22 + (j * 5 + 5) < length file → field_in padded file i j ≡ Number 0
      → field_in padded (set file (i * 22 + (j * 5 + 5)) (48 + x)) i j ≡ Number x
  unfolding field_at
  field_set j inside e =
      let at = i * 22 + (j * 5 + 1) in
      let g = set file (i * 22 + (j * 5 + 5)) (48 + x) in
      let q : at + 4 ≡ i * 22 + (j * 5 + 5) = omega arith in
      let before : front padded g at 4 ≡ front padded file at 4 =
      front_same padded g file at at 4 (λ k l. get_or-set_other file (i * 22 + (j * 5 + 5)) (at + k) (48 + x) 0 (λ e. omega arith)) in
      let last : get_or g (at + 4) 0 ≡ 48 + x = rw q (get_or-set_same file (i * 22 + (j * 5 + 5)) (48 + x) 0 inside) in
      rw (before, last) (zero_then (front padded file at 4) (get_or file (at + 4) 0) x few e)

  -- The line of an open element, with its state's last digit as another one.
  element_set : (k : Kind) → i * 22 + digit_place k < length file → line_at padded file i (line_of_kind k 0).kind ≡ line_of_kind k 0
      → line_at padded (set file (i * 22 + digit_place k) (48 + x)) i (line_of_kind k 0).kind ≡ line_of_kind k x
  unfolding line_at well_formed record_kind_at
  element_set (Signal m) inside e =
      let w = kind_well_formed padded file i 2 (rw e) in
      let f = kind_form padded file i 2 w in
      let l = rw w at e in
      let state = field_set 2 inside (is_zero (field_in padded file i 2) f.third (ap (λ (l : Line). l.third) l)) in
      rw (
        get_or-set_other file (i * 22 + 15) (i * 22) (48 + x) 0 (λ e. omega arith),
        get_or-set_other file (i * 22 + 15) (i * 22 + 21) (48 + x) 0 (λ e. omega arith),
        f.letter,
        f.feed,
        field_kept 2 0 (omega arith) (omega arith) (λ e. omega arith),
        field_kept 2 1 (omega arith) (omega arith) (λ e. omega arith),
        state,
        field_kept 2 3 (omega arith) (omega arith) (λ e. omega arith),
        f.first,
        f.second,
        f.fourth,
        ap (λ (l : Line). l.first) l,
        ap (λ (l : Line). l.second) l,
        ap (λ (l : Line). l.fourth) l,
      )
  element_set (Turnout t) inside e =
      let w = kind_well_formed padded file i 3 (rw e) in
      let f = kind_form padded file i 3 w in
      let l = rw w at e in
      let state = field_set 3 inside (is_zero (field_in padded file i 3) f.fourth (ap (λ (l : Line). l.fourth) l)) in
      rw (
        get_or-set_other file (i * 22 + 20) (i * 22) (48 + x) 0 (λ e. omega arith),
        get_or-set_other file (i * 22 + 20) (i * 22 + 21) (48 + x) 0 (λ e. omega arith),
        f.letter,
        f.feed,
        field_kept 3 0 (omega arith) (omega arith) (λ e. omega arith),
        field_kept 3 1 (omega arith) (omega arith) (λ e. omega arith),
        field_kept 3 2 (omega arith) (omega arith) (λ e. omega arith),
        state,
        f.first,
        f.second,
        f.third,
        ap (λ (l : Line). l.first) l,
        ap (λ (l : Line). l.second) l,
        ap (λ (l : Line). l.third) l,
      )

-- ---- the causes of refusal
state_alike : (n : ℕ) (k : Kind) (x : ℕ) → (x ≡ 1) ⊎ (x ≡ 2) → Alike n (line_of_kind k x) (line_of_kind k 0)
unfolding line_cause pairs_of having record_kind_at
state_alike n k x h = grind arith

-- ---- the fixed element
fixed-set : (i x : ℕ) (es : List Element) → fixed i x es ≡ set es i (record { kind = (get_or es i no_element).kind; state = x })
unfolding fixed
fixed-set i x [] = refl
fixed-set zero x (e ∷ es) = refl
fixed-set (suc i) x (e ∷ es) = ap (λ (l : List Element). e ∷ l) (fixed-set i x es)

-- A list filled up, with an entry of the list set.
pad_set_inside : {A : Type 0} (n : ℕ) (z v : A) (l : List A) (i : ℕ) → i < length l → pad_to n z (set l i v) ≡ set (pad_to n z l) i v
unfolding pad_to
pad_set_inside n z v l i h = grind (arith, length-set, set-append_left)

-- ---- a part as text
module _ (s : Situation) (e x : ℕ) (is_open : IsOpen s e) (fixes : (x ≡ 1) ⊎ (x ≡ 2)) where
  -- The element is one of the file's lines, and of the situation's list.
  counted : (1 ≤ e) × (e - 1 < s.header.elements) × (e - 1 < length s.elements) × (e - 1 < length (elements_of s))
  unfolding file_states elements_of
  counted = grind (arith, length-map, length-take)

  element_kind : (get_or s.elements (e - 1) no_element).kind ≡ kind_of_element s e
  unfolding elements_of
  element_kind = ap (λ (a : Element). a.kind) (sym (get_or-take s.header.elements s.elements (e - 1) no_element counted.1))

  element_state : (get_or s.elements (e - 1) no_element).state ≡ 0
  unfolding file_states elements_of
  element_state =
      ap (λ (a : Element). a.state) (sym (get_or-take s.header.elements s.elements (e - 1) no_element counted.1))
      ∙ sym (get_or-map (λ (a : Element). a.state) (elements_of s) (e - 1) no_element)
      ∙ is_open.at_0

  abbrev new : Element
  new = record { kind = (get_or s.elements (e - 1) no_element).kind; state = x }

  -- The element's line in the whole and in the part.
  line_whole : written_line s (s.header.plain + e) ≡ line_of_kind (kind_of_element s e) 0
  line_whole =
      let q : s.header.plain + e ≡ 1 + s.header.plain + (e - 1) = omega arith in
      ap (written_line s) q ∙ written_element s (e - 1) counted.1 ∙ ap₂ line_of_kind element_kind element_state

  line_part : written_line (part s e x) (s.header.plain + e) ≡ line_of_kind (kind_of_element s e) x
  unfolding part
  line_part =
      let q : s.header.plain + e ≡ 1 + s.header.plain + (e - 1) = omega arith in
      let g : get_or (fixed (e - 1) x s.elements) (e - 1) no_element ≡ new =
      ap (λ (l : List Element). get_or l (e - 1) no_element) (fixed-set (e - 1) x s.elements)
      ∙ get_or-set_same s.elements (e - 1) new no_element counted.2 in
      ap (written_line (part s e x)) q
      ∙ written_element (part s e x) (e - 1) counted.1
      ∙ ap (λ (a : Element). line_of_kind a.kind a.state) g
      ∙ ap (λ (k : Kind). line_of_kind k x) element_kind

  -- Every other line is the whole's.
  line_other : (i : ℕ) → i < line_count s.header → (i ≡ s.header.plain + e → ⊥) → written_line (part s e x) i ≡ written_line s i
  unfolding part
  line_other zero h d = written_header (part s e x) ∙ sym (written_header s)
  line_other (suc i) h d =
      by_place s.header (λ i. (i ≡ s.header.plain + e → ⊥) → written_line (part s e x) i ≡ written_line s i)
      (λ j l d. written_plain (part s e x) j l ∙ sym (written_plain s j l))
      (λ j l d.
      let n : j ≡ e - 1 → ⊥ = λ q. d (omega arith) in
      let g : get_or (fixed (e - 1) x s.elements) j no_element ≡ get_or s.elements j no_element =
      ap (λ (l : List Element). get_or l j no_element) (fixed-set (e - 1) x s.elements)
      ∙ get_or-set_other s.elements (e - 1) j new no_element n in
      written_element (part s e x) j l
      ∙ ap (λ (a : Element). line_of_kind a.kind a.state) g
      ∙ sym (written_element s j l))
      (λ j l d. written_train (part s e x) j l ∙ sym (written_train s j l))
      (suc i) (omega arith) h d

  -- The part's lines have the whole's causes of refusal.
  line_alike : (i : ℕ) → i < line_count s.header → Alike s.header.sections (written_line (part s e x) i) (written_line s i)
  line_alike i h = go (ℕ_discrete i (s.header.plain + e))
    where
      n : ℕ
      n = s.header.sections

      go : Dec (i ≡ s.header.plain + e) → Alike n (written_line (part s e x) i) (written_line s i)
      go (yes q) =
          let a = state_alike n (kind_of_element s e) x fixes in
          let u : written_line (part s e x) i ≡ line_of_kind (kind_of_element s e) x = ap (written_line (part s e x)) q ∙ line_part in
          let v : written_line s i ≡ line_of_kind (kind_of_element s e) 0 = ap (written_line s) q ∙ line_whole in
          let kind : Line → ℕ = λ l. l.kind in
          (ap (line_cause n) u ∙ a.0 ∙ sym (ap (line_cause n) v), ap kind u ∙ a.1 ∙ sym (ap kind v), ap pairs_of u ∙ a.2 ∙ sym (ap pairs_of v))
      go (no q) = let u = line_other i h q in (ap (line_cause n) u, ap (λ (l : Line). l.kind) u, ap pairs_of u)

  part-refusal : (room : ℕ) → write_refusal (part s e x) room ≡ write_refusal s room
  unfolding write_refusal part
  part-refusal room =
      let h = s.header in
      ap
      (λ (q : Refusal).
      cond (out_of_range h.sections h.plain h.elements h.trains) (refusal 3 1)
      (cond (eqb q.number 0) (cond (ltb room (line_count h * 22)) (refusal 9 0) q) q))
      (refusal_alike h (written_line (part s e x)) (written_line s) (λ i low high. line_alike i high))

-- ---- a part as a file
module _ (file : List ℕ) (accepted : (reading file).refusal.number ≡ 0) where
  header_is : (reading file).situation.header ≡ file_header file
  unfolding situation_of
  header_is = ap (λ (r : Reading). r.situation.header) (accepted_situation file accepted)

  module _ (e x : ℕ) (is_open : IsOpen (reading file).situation e) (fixes : (x ≡ 1) ⊎ (x ≡ 2)) where
    part_elements_length : length (part (reading file).situation e x).elements ≡ 256
    unfolding part
    part_elements_length = grind (arith, accepted_counts, fixed-set, length-set)

    -- The part has zeros past its counts too.
    part-up_to_counts : up_to_counts (part (reading file).situation e x) ≡ part (reading file).situation e x
    unfolding up_to_counts part plain_moves trains_of
    part-up_to_counts =
        let s = (reading file).situation in
        let es = elements_of s in
        let i = e - 1 in
        let same = sym (up_to_counts_lem file accepted) in
        let value : List Element → Element = λ l. record { kind = (get_or l i no_element).kind; state = x } in
        let inside = counted s e x is_open fixes in
        let elements : pad_to 256 no_element (elements_of (part s e x)) ≡ fixed i x s.elements =
        ap (pad_to 256 no_element) (part_elements s e x ∙ fixed-set i x es)
        ∙ pad_set_inside 256 no_element (value es) es i inside.3
        ∙ ap (λ (l : List Element). set l i (value es)) (sym (ap (λ (r : Situation). r.elements) same))
        ∙ ap (λ (k : Kind). set s.elements i (record { kind = k; state = x })) (sym (element_kind s e x is_open fixes))
        ∙ sym (fixed-set i x s.elements) in
        λ j. record {
          header = s.header;
          plain = ap (λ (r : Situation). r.plain) (sym same) j;
          elements = elements j;
          trains = ap (λ (r : Situation). r.trains) (sym same) j;
        }

    -- The element's line, in the file.
    line_at_lem : ℕ
    line_at_lem = (file_header file).plain + e

    inside_file : (1 ≤ line_at_lem) × (line_at_lem < line_count (file_header file)) × (line_at_lem * 22 + 22 ≤ length file)
    unfolding line_at_lem
    inside_file =
        let a = (accepted_exactly file).0 accepted in
        let c = rw header_is at (counted (reading file).situation e x is_open fixes) in
        (omega arith, omega arith, omega arith)

    abbrev kind : Kind
    kind = kind_of_element (reading file).situation e

    -- That line is read as the line of the open element.
    line_read : file_line file (file_header file) line_at_lem ≡ line_of_kind kind 0
    unfolding line_at_lem
    line_read =
        sym ((lines_again file accepted).1 ((file_header file).plain + e) inside_file.0 inside_file.1)
        ∙ ap (λ (h : Header). written_line (reading file).situation (h.plain + e)) (sym header_is)
        ∙ line_whole (reading file).situation e x is_open fixes

    -- The letter of the element's line is allowed there, and tells where the digit stands.
    kind_there : kind_at file (file_header file) line_at_lem ≡ (line_of_kind kind 0).kind
    unfolding file_line_in
    kind_there = grind (arith, accepted_exactly, inside_file, line_kind, line_read)

    letter_there : cond (eqb (get_or file (line_at_lem * 22) 0) 76) 2 3 ≡ (line_of_kind kind 0).kind
    unfolding line_at_lem
    letter_there =
        let h = file_header file in
        let c = rw header_is at (counted (reading file).situation e x is_open fixes) in
        let q : 1 + h.plain + (e - 1) ≡ h.plain + e = omega arith in
        sym (subst (λ (i : ℕ). kind_at file h i ≡ cond (eqb (get_or file (i * 22) 0) 76) 2 3) q (kind_element file h (e - 1) c.1)) ∙ kind_there

    digit_is : state_digit file e ≡ line_at_lem * 22 + digit_place kind
    unfolding state_digit line_at_lem
    digit_is = ap (λ (k : ℕ). line_at_lem * 22 + k) (letter_place (eqb (get_or file (line_at_lem * 22) 0) 76) kind letter_there)

    -- Every other byte is the file's.
    byte_kept : (n : ℕ) → (n ≡ line_at_lem * 22 + digit_place kind → ⊥) → get_or (part_file file e x) n 0 ≡ get_or file n 0
    unfolding part_file
    byte_kept n d = get_or-set_other file (state_digit file e) n (48 + x) 0 (λ q. d (q ∙ digit_is))

    line_kept : (i : ℕ) → (i ≡ line_at_lem → ⊥) → (t : ℕ) → t < 22 → get_or (part_file file e x) (i * 22 + t) 0 ≡ get_or file (i * 22 + t) 0
    line_kept i d t l = byte_kept (i * 22 + t) (λ q. d (omega (arith, digit_inside kind)))

    -- At each place the same kind is allowed.
    kind_kept : (i : ℕ) → kind_at (part_file file e x) (file_header file) i ≡ kind_at file (file_header file) i
    unfolding kind_at line_at_lem
    kind_kept i = go (ℕ_discrete i line_at_lem)
      where
        h : Header
        h = file_header file

        letter : get_or (part_file file e x) (i * 22) 0 ≡ get_or file (i * 22) 0
        letter = byte_kept (i * 22) (λ q. omega (arith, digit_inside kind))

        go : Dec (i ≡ line_at_lem) → kind_at (part_file file e x) h i ≡ kind_at file h i
        go (yes q) =
            let c = rw header_is at (counted (reading file).situation e x is_open fixes) in
            rw (le-leb i (h.plain + h.elements) (omega arith), letter)
        go (no d) = rw (letter, train_kind_same h.letter (part_file file e x) file i (line_kept i d))

    -- The lines of the file with that digit changed are those of the part.
    first_changed : line_at padded (part_file file e x) 0 (first_kind_of (part_file file e x)) ≡ line_at padded file 0 (first_kind_of file)
    first_changed =
        let same = line_kept 0 (λ q. omega (arith, inside_file.0)) in
        ap (λ (b : ℕ). line_at padded (part_file file e x) 0 (cond (eqb b 85) 8 0)) (same 0 (omega arith))
        ∙ line_same padded (part_file file e x) file 0 (first_kind_of file) same

    line_changed : (i : ℕ) → 1 ≤ i → i < line_count (file_header file)
        → file_line (part_file file e x) (file_header file) i ≡ written_line (part (reading file).situation e x) i
    unfolding file_line_in line_at_lem part_file
    line_changed i low high = go (ℕ_discrete i line_at_lem)
      where
        s : Situation
        s = (reading file).situation

        h : Header
        h = file_header file

        go : Dec (i ≡ line_at_lem) → line_at padded (part_file file e x) i (kind_at (part_file file e x) h i) ≡ written_line (part s e x) i
        go (yes q) =
            let u : line_at padded (part_file file e x) line_at_lem (kind_at (part_file file e x) h line_at_lem) ≡ line_of_kind kind x =
            ap₂ (λ (n k : ℕ). line_at padded (set file n (48 + x)) line_at_lem k) digit_is (kind_kept line_at_lem ∙ kind_there)
            ∙ element_set file line_at_lem x (⊎_elim (λ (o : x ≡ 1). omega arith) (λ (o : x ≡ 2). omega arith) fixes) kind
            (omega (arith, inside_file, digit_inside kind))
            (ap (line_at padded file line_at_lem) (sym kind_there) ∙ line_read) in
            subst (λ (n : ℕ). line_at padded (part_file file e x) n (kind_at (part_file file e x) h n) ≡ written_line (part s e x) n) (sym q)
            (u ∙ sym (line_part s e x is_open fixes) ∙ ap (λ (h : Header). written_line (part s e x) (h.plain + e)) header_is)
        go (no d) =
            ap (line_at padded (part_file file e x) i) (kind_kept i)
            ∙ line_same padded (part_file file e x) file i (kind_at file h i) (line_kept i d)
            ∙ sym ((lines_again file accepted).1 i low high)
            ∙ sym (line_other s e x is_open fixes i (rw header_is high) (λ q. d (q ∙ ap (λ (h : Header). h.plain + e) header_is)))

    -- "Fixing one open element": the file with that one digit changed is accepted, and is read as the part.
    pub part-reading : reading (part_file file e x) ≡ record { refusal = refusal 0 0; situation = part (reading file).situation e x }
    unfolding part_file part file_text file_header
    part-reading =
        let s = (reading file).situation in
        let p = part s e x in
        let c = accepted_counts file accepted in
        let a = (accepted_exactly file).0 accepted in
        let none : (write_refusal p (length file)).number ≡ 0 =
        ap (λ (r : Refusal). r.number)
        (part-refusal s e x is_open fixes (length file) ∙ read_then_write_accepted file accepted (length file) (omega arith)) in
        let text = lines_written p (length file) none in
        let first : line_at padded (file_text p) 0 (first_kind_of (file_text p)) ≡ line_at padded file 0 (first_kind_of file) =
        text.0 ∙ sym (written_header s) ∙ (lines_again file accepted).0 in
        let as_long : length (part_file file e x) ≡ length (file_text p) =
        length-set file (state_digit file e) (48 + x)
        ∙ (let n : length file ≡ line_count (file_header file) * 22 = omega arith in n)
        ∙ ap (λ (h : Header). line_count h * 22) (sym header_is)
        ∙ sym (text_length (written_line p) (line_count s.header)) in
        let written : (i : ℕ) → 1 ≤ i → i < line_count (file_header file) → file_line (file_text p) (file_header file) i ≡ written_line p i =
        subst (λ (h : Header). (i : ℕ) → 1 ≤ i → i < line_count h → file_line (file_text p) h i ≡ written_line p i) header_is text.1 in
        reading_same padded padded (part_file file e x) (file_text p) as_long (first_changed ∙ sym first)
        (subst (λ (l : Line). (i : ℕ) → 1 ≤ i → i < line_count (header_of l) → file_line (part_file file e x) (header_of l) i ≡ file_line (file_text p) (header_of l) i)
        (sym first) (λ i low high. line_changed i low high ∙ sym (written i low high)))
        ∙ write_then_read p (length file) c.plain_length part_elements_length c.trains_length none
        ∙ ap (λ (t : Situation). record { refusal = refusal 0 0; situation = t }) part-up_to_counts
