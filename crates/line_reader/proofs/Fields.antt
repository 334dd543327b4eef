-- What the proofs of `field_of`, `number_of`, `is_blank`, `line_as` and `long_kind` need of the definitions: the bound on a number of a few digits, which keeps
-- it in its width, a number of at most three digits, five spaces, and the line of four fields.
use mathlib.Core.Path.{◌≡◌, refl, sym, ap, ◌∙◌}
use mathlib.Core.Bool.{Bool, true, false, not, ◌&&◌, ◌||◌, cond, and-false, false≢true}
use mathlib.Core.List.{List, []}
use Prim.Native.Nat.{ℕ, zero, suc, ◌/◌, ◌+◌, ◌*◌, ◌-◌, ◌<◌, ◌≤◌}
use native.Mathlib.Omega.{arith}
use native.Mathlib.Nat.{add-zero, zero-add, le_of_suc-le-suc, lt_of_lt_of_le, pow-le-pow_right}
use lib.Dec.{eqb, ltb}
use lib.ListN.{get_or, length, take, drop, get_or-eq_default}
use borrow.Author.Tests.{eq-eqb, eqb-true}
use Rattle.std.specs.Simd.{first_chunks}
use Rattle.std.proofs.lemmas.List.{get_or-take, get_or-drop, drop-drop, length-drop, length-take-le, take_all}
use Rattle.std.specs.Prelude.{IfSome, Option, Some, None, is_some, unwrap_or, Result, MatchResult}
use Rattle.std.specs.Option.{ok_or}
use Rattle.meaning.specs.declared.FieldForm.{FieldForm}
use Rattle.meaning.specs.declared.Field.{Field}
use Rattle.meaning.specs.declared.Field.TheVariants.{Blank, Number, Malformed}
use Rattle.meaning.specs.declared.Letter.TheVariants.{U}
use Rattle.meaning.specs.declared.Line.{Line}
use Rattle.meaning.specs.Columns.{old, padded, row_at, digit, step, front, field_at, field_in, fits, record_kind_at, line_at, malformed, value_of, well_formed, leading_zeros}
use Rattle.meaning.specs.File.{train_kind}
use Rattle.basics.proofs.Tests.{and_both, same_test}
use Rattle.meaning.proofs.Columns.{front_below, number_holds, holds_number, field_same}
use Rattle.line_reader.specs.Cells.{cell_value}

-- What the first four bytes give is below 10000, so that one digit more fits.
pub front_below_10000 : (form : FieldForm) (s : List ℕ) (at k : ℕ) → k < 5 → value_of (front form s at k) < 10000
front_below_10000 form s at k h =
    lt_of_lt_of_le (front_below form s at k) (pow-le-pow_right (omega arith) (le_of_suc-le-suc h))

digit_not_blank : (b n : ℕ) → fits false (digit b (Number n)) ≡ false
digit_not_blank b n = go (ltb b 48) (ltb b 58)
  where
    go : (p q : Bool) → fits false (cond p Malformed (cond q (Number n) Malformed)) ≡ false
    go true q = refl
    go false true = refl
    go false false = refl

-- With one byte more a field is blank where it was blank and the byte is a space.
blank_step : (form : FieldForm) (f : Field) (b : ℕ) → fits false (step form f b) ≡ (fits false f && eqb b 32)
blank_step form Blank b = go (eqb b 32)
  where
    go : (p : Bool) → fits false (cond p Blank (digit b (Number (b - 48)))) ≡ p
    go true = refl
    go false = digit_not_blank b (b - 48)
blank_step form (Number n) b = go (not (leading_zeros form) && eqb n 0)
  where
    go : (p : Bool) → fits false (cond p Malformed (digit b (Number (n * 10 + (b - 48))))) ≡ false
    go true = refl
    go false = digit_not_blank b (n * 10 + (b - 48))
blank_step form Malformed b = refl

-- Five spaces are a blank field, and nothing else is.
blank_spaces : (form : FieldForm) (s : List ℕ) (at : ℕ)
    → (eqb (get_or s at 0) 32
    && eqb (get_or s (at + 1) 0) 32
    && eqb (get_or s (at + 2) 0) 32
    && eqb (get_or s (at + 3) 0) 32
    && eqb (get_or s (at + 4) 0) 32)
    ≡ fits false (field_at form s at)
unfolding field_at
blank_spaces form s at = sym (simp (blank_step, add-zero, blank_step form Blank (get_or s at 0)))

-- The number of four bytes is that of four spaces where each is a space.
four_spaces : (a b c d : ℕ) → a < 256 → b < 256 → c < 256 → d < 256
    → eqb (a + b * 256 + c * 65536 + d * 16777216) 538976288 ≡ (eqb a 32 && eqb b 32 && eqb c 32 && eqb d 32)
four_spaces a b c d ha hb hc hd =
    same_test (eqb (a + b * 256 + c * 65536 + d * 16777216) 538976288) (eqb a 32 && eqb b 32 && eqb c 32 && eqb d 32) there back
  where
    there : eqb (a + b * 256 + c * 65536 + d * 16777216) 538976288 ≡ true → (eqb a 32 && eqb b 32 && eqb c 32 && eqb d 32) ≡ true
    there e =
        let h = eqb-true (a + b * 256 + c * 65536 + d * 16777216) 538976288 e in
        rw (eq-eqb a 32 (omega arith), eq-eqb b 32 (omega arith), eq-eqb c 32 (omega arith), eq-eqb d 32 (omega arith))

    back : (eqb a 32 && eqb b 32 && eqb c 32 && eqb d 32) ≡ true → eqb (a + b * 256 + c * 65536 + d * 16777216) 538976288 ≡ true
    back e =
        let abc = and_both (eqb a 32 && eqb b 32 && eqb c 32) (eqb d 32) e in
        let ab = and_both (eqb a 32 && eqb b 32) (eqb c 32) abc.0 in
        let each = and_both (eqb a 32) (eqb b 32) ab.0 in
        rw (eqb-true a 32 each.0, eqb-true b 32 each.1, eqb-true c 32 ab.1, eqb-true d 32 abc.1)

-- The test of `blank`.
pub blank_word : (form : FieldForm) (s : List ℕ) (at : ℕ) → ((i : ℕ) → get_or s i 0 < 256)
    → (eqb (get_or s at 0 + get_or s (at + 1) 0 * 256 + get_or s (at + 2) 0 * 65536 + get_or s (at + 3) 0 * 16777216) 538976288
    && eqb (get_or s (at + 4) 0) 32)
    ≡ fits false (field_at form s at)
blank_word form s at bytes =
    rw (four_spaces _ _ _ _ (bytes at) (bytes (at + 1)) (bytes (at + 2)) (bytes (at + 3))) (blank_spaces form s at)

-- ---- a number of at most three digits
-- A field that starts with two spaces is what its other three bytes give.
after_two_spaces : (s : List ℕ) (at : ℕ) → get_or s at 0 ≡ 32 → get_or s (at + 1) 0 ≡ 32
    → field_at old s at ≡ step old (step old (step old Blank (get_or s (at + 2) 0)) (get_or s (at + 3) 0)) (get_or s (at + 4) 0)
unfolding field_at
after_two_spaces s at e e' = rw (add-zero at, e, e')

-- A number in the old form is the same in both.
old_in_both : (form : FieldForm) (s : List ℕ) (at : ℕ) → is_some (cell_value true (field_at old s at)) ≡ true
    → cell_value true (field_at old s at) ≡ cell_value true (field_at form s at)
old_in_both form s at n = go (field_at old s at) refl n
  where
    go : (f : Field) → field_at old s at ≡ f → is_some (cell_value true f) ≡ true → cell_value true f ≡ cell_value true (field_at form s at)
    go Blank e n = absurd (false≢true n)
    go (Number m) e n = let h = number_holds s at m e in rw (holds_number form s at m h.1 h.0)
    go Malformed e n = absurd (false≢true n)

-- So a number that the three bytes after two spaces give is that of the field, in both. The number of the two bytes is that of two spaces.
pub short_in_both : (form : FieldForm) (s : List ℕ) (at : ℕ) {n : Option ℕ} → ((i : ℕ) → get_or s i 0 < 256) → get_or s at 0 + get_or s (at + 1) 0 * 256 ≡ 8224
    → n ≡ cell_value true (step old (step old (step old Blank (get_or s (at + 2) 0)) (get_or s (at + 3) 0)) (get_or s (at + 4) 0))
    → is_some n ≡ true → n ≡ cell_value true (field_at form s at)
short_in_both form s at bytes e r some =
    let is = r ∙ ap (cell_value true) (sym (after_two_spaces s at (omega (arith, bytes at, bytes (at + 1))) (omega (arith, bytes at, bytes (at + 1))))) in
    is ∙ old_in_both form s at (rw is at some)

-- A number that the five bytes give in the padded form is that of the field.
pub five_padded : {form : FieldForm} → form ≡ padded → (s : List ℕ) {n : Option ℕ}
    → IfSome n (λ x. step padded (step padded (step padded (step padded (step padded Blank (get_or s 0 0)) (get_or s 1 0)) (get_or s 2 0)) (get_or s 3 0)) (get_or s 4 0) ≡ Number x)
    → is_some n ≡ true → n ≡ cell_value true (field_at form s 0)
unfolding field_at
five_padded e s {n = Some x} h t = rw e (sym (ap (cell_value true) h))
five_padded e s {n = None} h t = absurd (false≢true t)

-- ---- a line
-- The line of what its four fields give.
abbrev pub line_of : ℕ → Option ℕ → Option ℕ → Option ℕ → Option ℕ → Line
line_of k (Some a) (Some b) (Some c) (Some d) = record { kind = k; first = a; second = b; third = c; fourth = d }
line_of k (Some a) (Some b) (Some c) None = malformed
line_of k (Some a) (Some b) None z = malformed
line_of k (Some a) None y z = malformed
line_of k None x y z = malformed

line_of_cells : (k : ℕ) (w x y z : Bool) (a b c d : ℕ)
    → line_of k (cond w (Some a) None) (cond x (Some b) None) (cond y (Some c) None) (cond z (Some d) None)
    ≡ cond (w && (x && (y && z))) (record { kind = k; first = a; second = b; third = c; fourth = d }) malformed
line_of_cells k false x y z a b c d = refl
line_of_cells k true false y z a b c d = refl
line_of_cells k true true false z a b c d = refl
line_of_cells k true true true false a b c d = refl
line_of_cells k true true true true a b c d = refl

-- Where neither of two tests fails, both pass.
neither_fails : (p q : Bool) → (not p || not q) ≡ false → (p ≡ true) × (q ≡ true)
neither_fails true true h = (refl, refl)
neither_fails true false h = absurd (false≢true (sym h))
neither_fails false q h = absurd (false≢true (sym h))

-- Whether field j fits a line of which the first n fields are filled.
abbrev filled_in : FieldForm → List ℕ → ℕ → ℕ → ℕ → Bool
filled_in form s i n j = fits (ltb j n) (field_in form s i j)

-- A line that has another letter, or no line feed.
pub line_of_other : (form : FieldForm) (s : List ℕ) (i k letter n : ℕ) {at : ℕ} → at ≡ i * 22
    → (not (eqb (get_or s at 0) letter) || not (eqb (get_or s (at + 21) 0) 10)) ≡ true → malformed ≡ row_at form s i k letter n
unfolding row_at
line_of_other form s i k letter n ea h =
    go (eqb (get_or s (i * 22) 0) letter) (eqb (get_or s (i * 22 + 21) 0) 10)
    (filled_in form s i n 0 && (filled_in form s i n 1 && (filled_in form s i n 2 && filled_in form s i n 3))) _ (rw ea at h)
  where
    go : (p q t : Bool) (l : Line) → (not p || not q) ≡ true → malformed ≡ cond (p && (q && t)) l malformed
    go true true t l g = absurd (false≢true g)
    go true false t l g = refl
    go false q t l g = refl

-- The line whose ends are as they should be is that of its four fields.
pub line_read : (form : FieldForm) (s : List ℕ) (i k letter n : ℕ) {at : ℕ} {a b c d : Option ℕ} → at ≡ i * 22
    → (not (eqb (get_or s at 0) letter) || not (eqb (get_or s (at + 21) 0) 10)) ≡ false
    → a ≡ cell_value (ltb 0 n) (field_at form s (at + 1))
    → b ≡ cell_value (ltb 1 n) (field_at form s (at + 6))
    → c ≡ cell_value (ltb 2 n) (field_at form s (at + 11))
    → d ≡ cell_value (ltb 3 n) (field_at form s (at + 16))
    → line_of k a b c d ≡ row_at form s i k letter n
unfolding row_at
line_read form s i k letter n eat h ea eb ec ed =
    let ends = neither_fails (eqb (get_or s (i * 22) 0) letter) (eqb (get_or s (i * 22 + 21) 0) 10) (rw eat at h) in
    rw (ea, eb, ec, ed, eat, ends.0, ends.1)
    (line_of_cells k (filled_in form s i n 0) (filled_in form s i n 1) (filled_in form s i n 2) (filled_in form s i n 3)
    (value_of (field_in form s i 0)) (value_of (field_in form s i 1)) (value_of (field_in form s i 2)) (value_of (field_in form s i 3)))

-- A line that runs past the end is malformed: it has no line feed.
pub row_cut : (form : FieldForm) (s : List ℕ) (i k letter n : ℕ) → length s < i * 22 + 22 → malformed ≡ row_at form s i k letter n
unfolding row_at
row_cut form s i k letter n h =
    let past : get_or s (i * 22 + 21) 0 ≡ 0 = get_or-eq_default s 0 (omega arith) in
    rw (past, and-false) refl

-- A line of kind k is one with the letter and the filled fields of its entry.
pub line_row : (form : FieldForm) (s : List ℕ) (i k : ℕ) → row_at form s i k (record_kind_at k).letter (record_kind_at k).filled ≡ line_at form s i k
unfolding row_at line_at well_formed
line_row form s i k = refl

pub malformed_cut : (form : FieldForm) (s : List ℕ) (i k : ℕ) → length s < i * 22 + 22 → malformed ≡ line_at form s i k
malformed_cut form s i k h = row_cut form s i k (record_kind_at k).letter (record_kind_at k).filled h ∙ line_row form s i k

-- ---- a line as an array
-- Five bytes of a list are its field there.
chunk_there : (form : FieldForm) (s : List ℕ) (at : ℕ) → field_at form (take 5 (drop at s)) 0 ≡ field_at form s at
chunk_there form s at = field_same form (take 5 (drop at s)) s 0 at (λ k h. rw (zero-add k, get_or-take, get_or-drop))

pub part_there : (form : FieldForm) (s cell : List ℕ) (at : ℕ) → cell ≡ take 5 (take (length s - at) (drop at s))
    → cell_value true (field_at form cell 0) ≡ cell_value true (field_at form s at)
part_there form s cell at e =
    let all : take (length s - at) (drop at s) ≡ drop at s = take_all (length s - at) (drop at s) (omega (arith, length-drop at s)) in
    rw (e, all) (ap (cell_value true) (chunk_there form s at))

-- The fields of a line are the chunks of its bytes after the letter.
pub cell_there : (form : FieldForm) (line : List ℕ) (cells : List (List ℕ)) → cells ≡ first_chunks 5 4 (drop 1 line) → (j : ℕ) → j < 4
    → field_at form (get_or cells j []) 0 ≡ field_at form line (j * 5 + 1)
cell_there form line cells e zero h = rw e (chunk_there form line 1)
cell_there form line cells e (suc zero) h = rw (e, drop-drop) (chunk_there form line 6)
cell_there form line cells e (suc (suc zero)) h = rw (e, drop-drop, drop-drop) (chunk_there form line 11)
cell_there form line cells e (suc (suc (suc zero))) h = rw (e, drop-drop, drop-drop, drop-drop) (chunk_there form line 16)
cell_there form line cells e (suc (suc (suc (suc j)))) h = absurd (omega arith)

pub cells_are : (line : List ℕ) (cells : List (List ℕ)) → length line ≡ 22
    → cells ≡ first_chunks 5 (length (take 21 (drop 1 line)) / 5) (take 21 (drop 1 line)) → cells ≡ first_chunks 5 4 (drop 1 line)
cells_are line cells h e =
    let n : length (drop 1 line) ≡ 21 = length-drop 1 line ∙ rw h in
    let all : take 21 (drop 1 line) ≡ drop 1 line = take_all 21 (drop 1 line) (omega arith) in
    rw (e, all, n)

pub cell_held : (form : FieldForm) (line : List ℕ) (cells : List (List ℕ)) (filled : Bool) → length line ≡ 22
    → cells ≡ first_chunks 5 (length (take 21 (drop 1 line)) / 5) (take 21 (drop 1 line)) → (j : ℕ) → j < 4
    → {r : Option ℕ} → r ≡ cell_value filled (field_at form (get_or cells j []) 0) → r ≡ cell_value filled (field_at form line (j * 5 + 1))
cell_held form line cells filled h e j l is = is ∙ ap (cell_value filled) (cell_there form line cells (cells_are line cells h e) j l)

-- What is read of 22 bytes of a file is what is read of them there.
module _ (form : FieldForm) (s line : List ℕ) (i : ℕ) (e : line ≡ take 22 (drop (i * 22) s)) where
  byte : (t : ℕ) → t < 22 → get_or line t 0 ≡ get_or s (i * 22 + t) 0
  byte t h = rw (e, get_or-take, get_or-drop)

  field : (j : ℕ) → j < 4 → field_at form line (j * 5 + 1) ≡ field_in form s i j
  field j l =
      field_same form line s (j * 5 + 1) (i * 22 + (j * 5 + 1))
      (λ m b. let f : i * 22 + (j * 5 + 1) + m ≡ i * 22 + (j * 5 + 1 + m) = omega arith in rw f (byte (j * 5 + 1 + m) (omega arith)))

  pub cell_in : (cells : List (List ℕ)) → i * 22 + 22 ≤ length s
      → cells ≡ first_chunks 5 (length (take 21 (drop 1 line)) / 5) (take 21 (drop 1 line)) → (j : ℕ) → j < 4
      → field_at form (get_or cells j []) 0 ≡ field_in form s i j
  cell_in cells room h j l =
      let long : length line ≡ 22 = ap length e ∙ length-take-le 22 (drop (i * 22) s) (omega (arith, length-drop (i * 22) s)) in
      cell_there form line cells (cells_are line cells long h) j l ∙ field j l

  pub row_there : (k letter n : ℕ) → row_at form line 0 k letter n ≡ row_at form s i k letter n
  unfolding row_at
  row_there k letter n =
      rw (
        rw add-zero at (byte 0 (omega arith)),
        byte 21 (omega arith),
        field 0 (omega arith),
        field 1 (omega arith),
        field 2 (omega arith),
        field 3 (omega arith),
      )

-- ---- T lines of a U file
-- Line i has the kind of its sections, where the fields at its offset are filled up to the first blank one.
module _ (s : List ℕ) (i at : ℕ) (e : at ≡ i * 22) where
  here : (o : ℕ) (b : Bool) → fits false (field_at padded s (at + o)) ≡ b → fits false (field_at padded s (i * 22 + o)) ≡ b
  here o b h = rw (← e) h

  pub long_1 : fits false (field_at padded s (at + 6)) ≡ true → line_at padded s i 4 ≡ line_at padded s i (train_kind U s i)
  long_1 a = rw (here 6 true a)

  pub long_2 : fits false (field_at padded s (at + 6)) ≡ false → fits false (field_at padded s (at + 11)) ≡ true → line_at padded s i 5 ≡ line_at padded s i (train_kind U s i)
  long_2 a b = rw (here 6 false a, here 11 true b)

  pub long_3 : fits false (field_at padded s (at + 6)) ≡ false → fits false (field_at padded s (at + 11)) ≡ false → fits false (field_at padded s (at + 16)) ≡ true
      → line_at padded s i 6 ≡ line_at padded s i (train_kind U s i)
  long_3 a b c = rw (here 6 false a, here 11 false b, here 16 true c)

  pub long_4 : fits false (field_at padded s (at + 6)) ≡ false → fits false (field_at padded s (at + 11)) ≡ false → fits false (field_at padded s (at + 16)) ≡ false
      → line_at padded s i 7 ≡ line_at padded s i (train_kind U s i)
  long_4 a b c = rw (here 6 false a, here 11 false b, here 16 false c)

-- ---- a line, or an error in its place
pub line_or_error : {E : Type 0} (o : Option Line) {l : Line} (x : E) → unwrap_or o malformed ≡ l → {r : Result Line E} → r ≡ ok_or o x
    → MatchResult r (λ y. y ≡ l) (λ q. (q ≡ x) × (malformed ≡ l))
line_or_error None x h e = rw e (refl, h)
line_or_error (Some z) x h e = rw e h
