-- What the writer makes of an accepted file has the file's bytes, but for zeros of the file that are spaces now (`written-bytes`). `Keeps` says
-- so of a run of bytes; it goes through the field from the right, and then line by line.
use mathlib.Core.Path.{◌≡◌, refl, sym, ap, ◌∙◌}
use mathlib.Core.Logic.{◌⊎◌, inl}
use mathlib.Core.Bool.{Bool, true}
use mathlib.Core.List.{List, [], ◌∷◌, ◌++◌}
use Prim.Native.Nat.{ℕ, zero, suc, ◌+◌, ◌*◌, ◌/◌, ◌%◌, ◌<◌}
use native.Mathlib.Omega.{arith}
use native.Mathlib.Decide.{dec_lt}
use native.Mathlib.Nat.{add-zero}
use native.Mathlib.Numerals.{add-one, add-two, add-three, add-four}
use lib.Dec.{ltb}
use lib.ListN.{length, get_or, get_or-eq_default}
use Rattle.meaning.specs.declared.Field.{Field}
use Rattle.meaning.specs.declared.Field.TheVariants.{Number, Malformed}
use Rattle.meaning.specs.declared.Header.{Header}
use Rattle.meaning.specs.File.{Reading}
use Rattle.meaning.specs.declared.Line.{Line}
use Rattle.meaning.specs.Columns.{padded, step, front, field_at, place, field_text, record_kind_at, fits, value_of, field_in}
use Rattle.meaning.specs.Columns.{well_formed, line_at, cell_text, row_text, line_text}
use Rattle.meaning.specs.File.{line_count, situation_of, first_kind_of, kind_at, file_line_in, reading, written_line, text_of, file_text}
use Rattle.meaning.specs.Accepted.{file_header}
use Rattle.meaning.proofs.Columns.{blank_holds, cell_length, kind_form}
use Rattle.file_meaning.proofs.Text.{text_length}
use Rattle.meaning.proofs.Accepted.{accepted_exactly, accepted_situation}
use Rattle.file_meaning.proofs.RoundTrip.{lines_again, written_again}

-- The byte t stands for the byte b: it is the same, or a space where a zero was.
abbrev pub Kept : ℕ → ℕ → Type 0
Kept t b = (t ≡ b) ⊎ ((b ≡ 48) × (t ≡ 32))

-- The bytes stand for those of the file from the offset on.
abbrev Keeps : List ℕ → ℕ → List ℕ → Type 0
Keeps file at [] = Unit {0}
Keeps file at (b ∷ bytes) = Kept b (get_or file at 0) × Keeps file (suc at) bytes

keeps-append : (file : List ℕ) (at : ℕ) (xs ys : List ℕ) → Keeps file at xs → Keeps file (at + length xs) ys → Keeps file at (xs ++ ys)
keeps-append file at [] ys h k = rw add-zero at k
keeps-append file at (x ∷ xs) ys h k =
    let e : at + suc (length xs) ≡ suc at + length xs = omega arith in
    (h.0, keeps-append file (suc at) xs ys h.1 (rw e at k))

keeps_at : (file : List ℕ) (at : ℕ) (bytes : List ℕ) → Keeps file at bytes → (m : ℕ) → m < length bytes → Kept (get_or bytes m 0) (get_or file (at + m) 0)
keeps_at file at [] h m l = absurd (omega arith)
keeps_at file at (b ∷ bytes) h zero l = rw add-zero h.0
keeps_at file at (b ∷ bytes) h (suc m) l = grind (arith, keeps_at file (suc at) bytes h.1 m (omega arith))

-- ---- a field
-- The last byte is the digit of the ones.
ones_back : (f : Field) (b n : ℕ) → step padded f b ≡ Number n → (f ≡ Malformed → ⊥) × (value_of f ≡ n / 10) × (b ≡ n % 10 + 48)
ones_back f b n e = grind arith

-- Each byte before the last is the digit of its place, or a space or a zero where the number is 0 so far.
place_back : (f g : Field) (b q : ℕ) → step padded f b ≡ g → (g ≡ Malformed → ⊥) → value_of g ≡ q
    → (f ≡ Malformed → ⊥) × (value_of f ≡ q / 10) × Kept (place q) b
place_back f g b q e d v = grind arith

field_keeps : (file : List ℕ) (at n : ℕ) → field_at padded file at ≡ Number n → Keeps file at (field_text n)
unfolding field_at field_text
field_keeps file at n e =
    let byte : ℕ → ℕ = λ k. get_or file (at + k) 0 in
    let a = ones_back (front padded file at 4) (byte 4) n e in
    let b = place_back (front padded file at 3) (front padded file at 4) (byte 3) (n / 10) refl a.0 a.1 in
    let c = place_back (front padded file at 2) (front padded file at 3) (byte 2) (n / 10 / 10) refl b.0 b.1 in
    let d = place_back (front padded file at 1) (front padded file at 2) (byte 1) (n / 10 / 10 / 10) refl c.0 c.1 in
    let f = place_back (front padded file at 0) (front padded file at 1) (byte 0) (n / 10 / 10 / 10 / 10) refl d.0 d.1 in
    let hundreds : n / 10 / 10 ≡ n / 100 = omega arith in
    let thousands : n / 10 / 10 / 10 ≡ n / 1000 = omega arith in
    let most : n / 10 / 10 / 10 / 10 ≡ n / 10000 = omega arith in
    let at_byte : (q r k : ℕ) (m : ℕ) → q ≡ r → at + k ≡ m → Kept (place q) (get_or file (at + k) 0) → Kept (place r) (get_or file m 0) =
    λ q r k m eq em h. rw (eq, em) at h in (
      at_byte (n / 10 / 10 / 10 / 10) (n / 10000) 0 at most (add-zero at) f.2,
      (
        at_byte (n / 10 / 10 / 10) (n / 1000) 1 (suc at) thousands (add-one at) d.2,
        (
          at_byte (n / 10 / 10) (n / 100) 2 (suc (suc at)) hundreds (add-two at) c.2,
          (
            at_byte (n / 10) (n / 10) 3 (suc (suc (suc at))) refl (add-three at) b.2,
            (inl (sym (rw add-four at a.2)), tt),
          ),
        ),
      ),
    )

cell_keeps : (file : List ℕ) (at : ℕ) (filled : Bool) → fits filled (field_at padded file at) ≡ true
    → Keeps file at (cell_text filled (value_of (field_at padded file at)))
cell_keeps file at filled h = grind (arith, blank_holds, field_keeps)

-- ---- a line and a text
cell_more : (file : List ℕ) (filled : Bool) (n at next : ℕ) (rest : List ℕ) → at + 5 ≡ next → Keeps file at (cell_text filled n)
    → Keeps file next rest → Keeps file at (cell_text filled n ++ rest)
cell_more file filled n at next rest e h k = keeps-append file at (cell_text filled n) rest h (rw (cell_length filled n, e) k)

line_keeps : (file : List ℕ) (i k : ℕ) → well_formed padded file i k ≡ true → Keeps file (i * 22) (line_text (line_at padded file i k))
unfolding line_at line_text row_text
line_keeps file i k h =
    let f = kind_form padded file i k h in
    let at = i * 22 in
    let filled : ℕ → Bool = λ j. ltb j (record_kind_at k).filled in
    let value : ℕ → ℕ = λ j. value_of (field_in padded file i j) in
    let cell : (j : ℕ) → fits (filled j) (field_in padded file i j) ≡ true → Keeps file (i * 22 + (j * 5 + 1)) (cell_text (filled j) (value j)) =
    λ j e. cell_keeps file (i * 22 + (j * 5 + 1)) (filled j) e in
    let r3 = cell_text (filled 3) (value 3) ++ (10 ∷ []) in
    let r2 = cell_text (filled 2) (value 2) ++ r3 in
    let r1 = cell_text (filled 1) (value 1) ++ r2 in
    let h3 = cell_more file (filled 3) (value 3) (at + 16) (at + 21) (10 ∷ []) (omega arith) (cell 3 f.fourth) (inl (sym f.feed), tt) in
    let h2 = cell_more file (filled 2) (value 2) (at + 11) (at + 16) r3 (omega arith) (cell 2 f.third) h3 in
    let h1 = cell_more file (filled 1) (value 1) (at + 6) (at + 11) r2 (omega arith) (cell 1 f.second) h2 in
    rw h (inl (sym f.letter), rw (← add-one at) (cell_more file (filled 0) (value 0) (at + 1) (at + 6) r1 (omega arith) (cell 0 f.first) h1))

text_keeps : (file : List ℕ) (lines : ℕ → Line) (n : ℕ) → ((i : ℕ) → i < n → Keeps file (i * 22) (line_text (lines i))) → Keeps file 0 (text_of lines n)
unfolding text_of
text_keeps file lines zero h = tt
text_keeps file lines (suc n) h =
    keeps-append file 0 (text_of lines n) (line_text (lines n)) (text_keeps file lines n (λ i l. h i (omega arith)))
    (let e : 0 + length (text_of lines n) ≡ n * 22 = omega (arith, text_length lines n) in rw e (h n (omega arith)))

-- Each byte that is written of an accepted file is the file's, or a space where the file has a zero.
pub written-bytes : (file : List ℕ) → (reading file).refusal.number ≡ 0
    → (n : ℕ) → Kept (get_or (file_text (reading file).situation) n 0) (get_or file n 0)
unfolding file_text file_line_in situation_of
written-bytes file accepted n = go (dec_lt n (length text))
  where
    text : List ℕ
    text = file_text (reading file).situation

    h : Header
    h = (reading file).situation.header

    same : h ≡ file_header file
    same = ap (λ (r : Reading). r.situation.header) (accepted_situation file accepted)

    lines : (i : ℕ) → i < line_count h → Keeps file (i * 22) (line_text (written_line (reading file).situation i))
    lines zero l = rw (lines_again file accepted).0 (line_keeps file 0 (first_kind_of file) ((accepted_exactly file).0 accepted).first_form)
    lines (suc i) l =
        let b : suc i < line_count (file_header file) = rw same at l in
        rw ((lines_again file accepted).1 (suc i) (omega arith) b)
        (line_keeps file (suc i) (kind_at file (file_header file) (suc i)) (((accepted_exactly file).0 accepted).form (suc i) (omega arith, b)))

    go : Dec (n < length text) → Kept (get_or text n 0) (get_or file n 0)
    go (yes l) =
        let e : 0 + n ≡ n = omega arith in
        rw e at (keeps_at file 0 text (text_keeps file (written_line (reading file).situation) (line_count h) lines) n l)
    go (no l) =
        let e : length text ≡ length file = (written_again file accepted).as_long in
        inl (get_or-eq_default text 0 (omega arith) ∙ sym (get_or-eq_default file 0 (omega arith)))
