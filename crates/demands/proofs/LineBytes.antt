-- The reader's values say what stands in each line of an accepted file of the old form: `line_bytes`.
use mathlib.Core.Path.{◌≡◌, refl, ◌∙◌}
use mathlib.Core.Logic.{◌⊎◌, inl, inr}
use mathlib.Core.Bool.{Bool, true, false, cond}
use mathlib.Core.List.{List}
use Prim.Native.Nat.{ℕ, ◌+◌, ◌*◌, ◌≤◌, ◌<◌}
use native.Mathlib.Omega.{arith}
use lib.Dec.{eqb}
use lib.ListN.{length, get_or, get_or-map}
use Rattle.meaning.specs.declared.Move.{Move}
use Rattle.meaning.specs.declared.Element.{Element}
use Rattle.meaning.specs.declared.Header.{Header}
use Rattle.meaning.specs.declared.Line.{Line}
use Rattle.meaning.specs.declared.Situation.{Situation}
use Rattle.meaning.specs.Columns.{old, padded, record_kind_at, well_formed, line_at, line_text, row_text}
use Rattle.meaning.specs.File.{header_of, move_of, element_of, no_move, no_element, situation_of, first_kind_of, kind_at, file_line_in, file_line}
use Rattle.meaning.specs.Accepted.{Accepted, OldForm, InBody, file_header, body_line}
use Rattle.basics.proofs.Lists.{pad_list_of_get}
use Rattle.meaning.proofs.Columns.{line_kind, line_length, well_formed_holds, old_line}
use Rattle.basics.proofs.Holds.{holds_part}
use Rattle.meaning.proofs.Places.{kind_plain, kind_element}
use Rattle.c_layout.specs.Flat.{flat_element, flat_letter, flat_situation, flat_element_at}
use Rattle.demands.specs.Words.{situation}
use Rattle.demands.specs.LineBytes.{bytes_of, ElementLine, LineBytes, LinesAreBytes}

-- ---- a line by its kind
plain_text : (l : Line) → l.kind ≡ 1 → line_text l ≡ row_text 80 2 l.first l.second 0 0
unfolding line_text row_text record_kind_at
plain_text l e = rw e refl

element_text : (l : Line) (is_signal : Bool) → l.kind ≡ cond is_signal 2 3 → ElementLine (flat_element (element_of l)) (line_text l)
unfolding line_text record_kind_at row_text
element_text l true e = rw e (ElementLine.signal refl refl)
element_text l false e = rw e (ElementLine.turnout refl refl)

-- The first line, of either letter.
abbrev First : Line → List ℕ → Type 0
First l bytes =
    ((flat_letter (header_of l).letter ≡ 0) × (bytes ≡ row_text 83 4 l.first l.second l.third l.fourth))
    ⊎ ((flat_letter (header_of l).letter ≡ 1) × (bytes ≡ row_text 85 4 l.first l.second l.third l.fourth))

first_text : (l : Line) (is_u : Bool) → l.kind ≡ cond is_u 8 0 → First l (line_text l)
unfolding line_text row_text record_kind_at
first_text l true e = rw e (inr (refl, refl))
first_text l false e = rw e (inl (refl, refl))

-- The values of an element, from the arrays.
element_at : (s : Situation) (j : ℕ) → flat_element_at (flat_situation s) j ≡ flat_element (get_or s.elements j no_element)
unfolding flat_situation
element_at s j =
    λ k.
    record {
      turnout = get_or-map (λ (e : Element). (flat_element e).turnout) s.elements j no_element k;
      first = get_or-map (λ (e : Element). (flat_element e).first) s.elements j no_element k;
      second = get_or-map (λ (e : Element). (flat_element e).second) s.elements j no_element k;
      third = get_or-map (λ (e : Element). (flat_element e).third) s.elements j no_element k;
      state = get_or-map (λ (e : Element). (flat_element e).state) s.elements j no_element k;
    }

-- A line of the old form has the bytes of its numbers.
bytes_are : (file : List ℕ) (i k : ℕ) → i * 22 + 22 ≤ length file → well_formed old file i k ≡ true
    → (bytes_of file i ≡ line_text (line_at padded file i k)) × ((line_at padded file i k).kind ≡ k)
bytes_are file i k room formed =
    let same : line_at padded file i k ≡ line_at old file i k = (old_line padded file i k formed).1 in
    let size = line_length (line_at old file i k) in
    rw same (rw size at (holds_part file (i * 22) (line_text (line_at old file i k)) (well_formed_holds file i k formed) (omega (arith, size, room))), line_kind old file i k formed)

module _ (file : List ℕ) (a : Accepted file) (o : OldForm file) where
  abbrev h : Header
  h = file_header file

  in_body : (i : ℕ) → InBody file i → (bytes_of file i ≡ line_text (body_line file i)) × ((body_line file i).kind ≡ kind_at file h i)
  unfolding body_line file_line_in
  in_body i b = bytes_are file i (kind_at file h i) (omega (arith, b, a.size.1, a.lines)) (o.form i b)

  first_bytes : First (line_at padded file 0 (first_kind_of file)) (bytes_of file 0)
  first_bytes =
      let b = bytes_are file 0 (first_kind_of file) (omega (arith, a.size.1, a.size.0)) o.first_form in
      rw b.0 (first_text (line_at padded file 0 (first_kind_of file)) (eqb (get_or file 0 0) 85) b.1)

  plain_had : (j : ℕ) → j < h.plain → get_or (situation file).plain j no_move ≡ move_of (body_line file (1 + j))
  unfolding situation situation_of body_line
  plain_had j l = pad_list_of_get 1024 h.plain no_move no_move (λ i. move_of (file_line file h (1 + i))) j l

  element_had : (j : ℕ) → j < h.elements → get_or (situation file).elements j no_element ≡ element_of (body_line file (1 + h.plain + j))
  unfolding situation situation_of body_line
  element_had j l = pad_list_of_get 256 h.elements no_element no_element (λ i. element_of (file_line file h (1 + h.plain + i))) j l

  plain_bytes : (j : ℕ) → j < h.plain
      → let v = flat_situation (situation file) in bytes_of file (1 + j) ≡ row_text 80 2 (get_or v.plain_from j 0) (get_or v.plain_to j 0) 0 0
  unfolding flat_situation
  plain_bytes j l =
      let b = in_body (1 + j) (omega arith, omega (arith, l)) in
      let ms = (situation file).plain in
      rw (get_or-map (λ (m : Move). m.from.0) ms j no_move, get_or-map (λ (m : Move). m.to.0) ms j no_move, plain_had j l)
      (b.0 ∙ plain_text (body_line file (1 + j)) (b.1 ∙ kind_plain file h j l))

  element_bytes : (j : ℕ) → j < h.elements → ElementLine (flat_element_at (flat_situation (situation file)) j) (bytes_of file (1 + h.plain + j))
  element_bytes j l =
      let i = 1 + h.plain + j in
      let b = in_body i (omega arith, omega (arith, l)) in
      rw (element_at (situation file) j, element_had j l, b.0)
      (element_text (body_line file i) (eqb (get_or file (i * 22) 0) 76) (b.1 ∙ kind_element file h j l))

  line_bytes_of : LineBytes file (flat_situation (situation file))
  unfolding situation situation_of flat_situation file_header
  line_bytes_of = record { first = first_bytes; plain = plain_bytes; elements = element_bytes }

pub line_bytes : LinesAreBytes
line_bytes file r d a o = rw (d.values a) (line_bytes_of file a o)
