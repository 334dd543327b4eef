-- A field and a line, both ways: what is written is read back, in both forms of a field (`form` says which), and what was read in the old
-- form is what stands there. A field goes digit by digit: `up_to q` is what the digits of q so far give, and one law for one digit each
-- way is used five times.
use Rattle.std.proofs.lemmas.Bool.Decides.{nat_tests}
use mathlib.Core.Path.{◌≡◌, refl, sym, ap₂, subst}
use mathlib.Core.Logic.{◌↔◌}
use mathlib.Core.Bool.{Bool, true, false, not, cond, false≢true}
use mathlib.Core.List.{List, ◌++◌}
use Prim.Native.Nat.{ℕ, zero, suc, ◌+◌, ◌*◌, ◌/◌, ◌%◌, ◌^◌, ◌≤◌, ◌<◌}
use native.Mathlib.Omega.{arith}
use native.Mathlib.Nat.{add-zero, pow-suc}
use native.Mathlib.Numerals.{towards_suc, add-one, add-two, add-three, add-four}
use lib.Dec.{eqb, ltb}
use lib.ListN.{length, get_or, length-append}
use Rattle.meaning.specs.declared.FieldForm.{FieldForm}
use Rattle.meaning.specs.declared.Field.{Field}
use Rattle.meaning.specs.declared.Field.TheVariants.{Blank, Number, Malformed}
use Rattle.meaning.specs.declared.Line.{Line}
use Rattle.meaning.specs.Columns.{old, digit, step, front, field_at, place, field_text, spaces, record_kind_at, fits, value_of, field_in, formed}
use Rattle.meaning.specs.Columns.{well_formed, no_kind, line_at, cell_text, row_text, line_text}
use Rattle.basics.proofs.Tests.{and_both}
use Rattle.basics.proofs.Holds.{Holds, holds_append, holds_split}

-- ---- one digit
-- What the digits of q so far give: nothing for 0.
abbrev up_to : ℕ → Field
up_to q = cond (eqb q 0) Blank (Number q)

pub number_not_malformed : (n : ℕ) → Number n ≡ Malformed → ⊥
number_not_malformed n e = let z : ◌≡◌ {A = ℕ} 0 1 = cc in omega arith

pub blank_not_number : (n : ℕ) → Blank ≡ Number n → ⊥
blank_not_number n e = let z : ◌≡◌ {A = ℕ} 0 1 = cc in omega arith

-- One digit more: the step from the digits of q / 10 to those of q.
digit_more : (form : FieldForm) (q : ℕ) → step form (up_to (q / 10)) (place q) ≡ up_to q
digit_more form q = grind arith

-- A byte that is taken as a digit is one.
pub digit_taken : (b : ℕ) (x y : Field) → (y ≡ Malformed → ⊥) → digit b x ≡ y → (48 ≤ b) × (b < 58) × (x ≡ y)
digit_taken b x y ne e = grind arith

-- One digit back, in the old form.
number-before : (f : Field) (b n : ℕ) → step old f b ≡ Number n → (f ≡ up_to (n / 10)) × (b ≡ n % 10 + 48)
number-before f b n h = grind arith

pub blank_before : (form : FieldForm) (f : Field) (b : ℕ) → step form f b ≡ Blank → (f ≡ Blank) × (b ≡ 32)
blank_before form f b h = grind arith

digit-before : (f : Field) (b q : ℕ) → step old f b ≡ up_to q → (f ≡ up_to (q / 10)) × (b ≡ place q)
digit-before f b q e = grind arith

-- ---- a field
nothing-before : (q : ℕ) → Blank ≡ up_to q → q ≡ 0
nothing-before q e = grind arith

-- A number that was read in the old form stands there as it is written, and has at most five digits.
pub number_holds : (file : List ℕ) (at n : ℕ) → field_at old file at ≡ Number n → Holds file at (field_text n) × (n ≤ 99999)
unfolding field_at field_text
number_holds file at n e =
    let a = number-before (front old file at 4) (get_or file (at + 4) 0) n e in
    let b = digit-before (front old file at 3) (get_or file (at + 3) 0) (n / 10) a.0 in
    let c = digit-before (front old file at 2) (get_or file (at + 2) 0) (n / 10 / 10) b.0 in
    let d = digit-before (front old file at 1) (get_or file (at + 1) 0) (n / 10 / 10 / 10) c.0 in
    let f = digit-before (front old file at 0) (get_or file (at + 0) 0) (n / 10 / 10 / 10 / 10) d.0 in
    let hundreds : n / 10 / 10 ≡ n / 100 = omega arith in
    let thousands : n / 10 / 10 / 10 ≡ n / 1000 = omega arith in
    let most : n / 10 / 10 / 10 / 10 ≡ n / 10000 = omega arith in
    let none = nothing-before (n / 10 / 10 / 10 / 10 / 10) f.0 in (
      (
        simp (add-zero, most) at f.1,
        (
          simp (towards_suc, thousands) at d.1,
          (
            simp (towards_suc, hundreds) at c.1,
            (simp towards_suc at b.1, (simp towards_suc at a.1, tt)),
          ),
        ),
      ),
      omega arith,
    )

more : (form : FieldForm) (f : Field) (b q p : ℕ) → p ≡ q / 10 → f ≡ up_to p → b ≡ place q → step form f b ≡ up_to q
more form f b q p e hf hb = rw (hf, e, hb) (digit_more form q)

last : (form : FieldForm) (f : Field) (b n : ℕ) → f ≡ up_to (n / 10) → b ≡ n % 10 + 48 → step form f b ≡ Number n
last form f b n hf hb = grind arith

-- A number of at most five digits that is written is read back, in both forms.
pub holds_number : (form : FieldForm) (file : List ℕ) (at n : ℕ) → n ≤ 99999 → Holds file at (field_text n) → field_at form file at ≡ Number n
unfolding field_at field_text
holds_number form file at n l h =
    let a = more form Blank (get_or file (at + 0) 0) (n / 10000) 0 (omega arith) refl (rw add-zero h.0) in
    let b = more form (front form file at 1) (get_or file (at + 1) 0) (n / 1000) (n / 10000) (omega arith) a (rw add-one h.1.0) in
    let c = more form (front form file at 2) (get_or file (at + 2) 0) (n / 100) (n / 1000) (omega arith) b (rw add-two h.1.1.0) in
    let d = more form (front form file at 3) (get_or file (at + 3) 0) (n / 10) (n / 100) (omega arith) c (rw add-three h.1.1.1.0) in
    last form (front form file at 4) (get_or file (at + 4) 0) n d (rw add-four h.1.1.1.1.0)

-- A blank field is five spaces.
pub blank_holds : (form : FieldForm) (file : List ℕ) (at : ℕ) → field_at form file at ≡ Blank → Holds file at spaces
unfolding field_at
blank_holds form file at e = grind (arith, blank_before)

-- Five spaces are a blank field.
holds_blank : (form : FieldForm) (file : List ℕ) (at : ℕ) → Holds file at spaces → field_at form file at ≡ Blank
unfolding field_at
holds_blank form file at h = simp (add-zero, towards_suc, h.0, h.1.0, h.1.1.0, h.1.1.1.0, h.1.1.1.1.0)

-- Fields of the same bytes are the same.
pub front_same : (form : FieldForm) (f g : List ℕ) (a b m : ℕ) → ((k : ℕ) → k < m → get_or f (a + k) 0 ≡ get_or g (b + k) 0)
    → front form f a m ≡ front form g b m
front_same form f g a b zero h = refl
front_same form f g a b (suc m) h = ap₂ (step form) (front_same form f g a b m (λ k l. h k (omega arith))) (h m (omega arith))

pub field_same : (form : FieldForm) (f g : List ℕ) (a b : ℕ) → ((k : ℕ) → k < 5 → get_or f (a + k) 0 ≡ get_or g (b + k) 0)
    → field_at form f a ≡ field_at form g b
unfolding field_at
field_same form f g a b h = front_same form f g a b 5 h

-- ---- the bound of a number
step_below : (form : FieldForm) (f : Field) (b n : ℕ) → value_of f < n → value_of (step form f b) < n * 10
step_below form f b n h = grind arith

-- A number of k digits is below 10 to the power k.
pub front_below : (form : FieldForm) (s : List ℕ) (at k : ℕ) → value_of (front form s at k) < 10 ^ k
front_below form s at zero = omega arith
front_below form s at (suc k) = rw pow-suc (step_below form (front form s at k) (get_or s (at + k) 0) (10 ^ k) (front_below form s at k))

-- A number of five digits is below 100000.
pub field_below_100000 : (form : FieldForm) (s : List ℕ) (at : ℕ) → value_of (field_at form s at) < 100000
unfolding field_at
field_below_100000 form s at = front_below form s at 5

-- ---- a field as its place asks
-- A number fits its place: five digits, and 0 where the field is unused.
abbrev pub Suits : Bool → ℕ → Type 0
Suits filled n = (n ≤ 99999) × (filled ≡ false → n ≡ 0)

pub used : {n : ℕ} → n ≤ 99999 → Suits true n
used h = (h, λ e. absurd (false≢true (sym e)))

pub unused : Suits false 0
unused = (omega arith, λ e. refl)

-- The value of a field that is as its place asks fits.
cell_suits : (form : FieldForm) (file : List ℕ) (at : ℕ) (filled : Bool) → fits filled (field_at form file at) ≡ true
    → Suits filled (value_of (field_at form file at))
cell_suits form file at filled h = grind (arith, field_below_100000)

-- In the old form the field is its value as it is written.
cell_holds : (file : List ℕ) (at : ℕ) (filled : Bool) → fits filled (field_at old file at) ≡ true
    → Holds file at (cell_text filled (value_of (field_at old file at)))
cell_holds file at filled h = grind (arith, blank_holds, number_holds)

-- A value that fits and is written is read back, in both forms.
holds_cell : (form : FieldForm) (file : List ℕ) (at : ℕ) (filled : Bool) (n : ℕ) → Suits filled n → Holds file at (cell_text filled n)
    → (fits filled (field_at form file at) ≡ true) × (value_of (field_at form file at) ≡ n)
holds_cell form file at filled n h h2 = grind (arith, holds_blank, holds_number)

-- A cell is five bytes long.
pub cell_length : (filled : Bool) (n : ℕ) → length (cell_text filled n) ≡ 5
unfolding field_text
cell_length filled n = grind arith

cell_then : (file : List ℕ) (filled : Bool) (n at next : ℕ) (rest : List ℕ) → at + 5 ≡ next → Holds file at (cell_text filled n)
    → Holds file next rest → Holds file at (cell_text filled n ++ rest)
cell_then file filled n at next rest e h k = holds_append file at (cell_text filled n) rest h (rw (cell_length filled n, e) k)

then_cell : (file : List ℕ) (filled : Bool) (n at next : ℕ) (rest : List ℕ) → at + 5 ≡ next → Holds file at (cell_text filled n ++ rest)
    → Holds file at (cell_text filled n) × Holds file next rest
then_cell file filled n at next rest e h = grind (arith, cell_length, holds_split)

-- ---- a line
-- A row has 22 bytes, and so has a line.
pub row-length : (letter filled a b c d : ℕ) → length (row_text letter filled a b c d) ≡ 22
unfolding row_text
row-length letter filled a b c d = simp (length-append, cell_length)

pub line_length : (l : Line) → length (line_text l) ≡ 22
unfolding line_text row_text
line_length l = simp (length-append, cell_length)

-- A line that can be written: each number fits its place.
pub record Writable (l : Line) : Type 0 where
  pub first : Suits (ltb 0 (record_kind_at l.kind).filled) l.first
  pub second : Suits (ltb 1 (record_kind_at l.kind).filled) l.second
  pub third : Suits (ltb 2 (record_kind_at l.kind).filled) l.third
  pub fourth : Suits (ltb 3 (record_kind_at l.kind).filled) l.fourth

-- Line i has this letter, and its first n fields are filled.
pub record Form (form : FieldForm) (file : List ℕ) (i byte n : ℕ) : Type 0 where
  pub letter : get_or file (i * 22) 0 ≡ byte
  pub feed : get_or file (i * 22 + 21) 0 ≡ 10
  pub first : fits (ltb 0 n) (field_in form file i 0) ≡ true
  pub second : fits (ltb 1 n) (field_in form file i 1) ≡ true
  pub third : fits (ltb 2 n) (field_in form file i 2) ≡ true
  pub fourth : fits (ltb 3 n) (field_in form file i 3) ≡ true

pub form_of : (form : FieldForm) (file : List ℕ) (i byte n : ℕ) → formed form file i byte n ≡ true → Form form file i byte n
form_of form file i byte n h = grind (arith, and_both)

of_form : (form : FieldForm) (file : List ℕ) (i byte n : ℕ) → Form form file i byte n → formed form file i byte n ≡ true
of_form form file i byte n f = grind arith

-- The form of a well-formed line.
pub kind_form : (form : FieldForm) (file : List ℕ) (i k : ℕ) → well_formed form file i k ≡ true
    → Form form file i (record_kind_at k).letter (record_kind_at k).filled
unfolding well_formed
kind_form form file i k = form_of form file i (record_kind_at k).letter (record_kind_at k).filled

-- A well-formed line has the kind that it is read as.
pub line_kind : (form : FieldForm) (file : List ℕ) (i k : ℕ) → well_formed form file i k ≡ true → (line_at form file i k).kind ≡ k
unfolding line_at
line_kind form file i k h = rw h

-- A line whose kind is in the table is well-formed.
pub kind_well_formed : (form : FieldForm) (file : List ℕ) (i k : ℕ) → eqb (line_at form file i k).kind no_kind ≡ false
    → well_formed form file i k ≡ true
unfolding line_at
kind_well_formed form file i k h = grind arith

-- A line is well-formed exactly where its kind is in the table.
pub line_formed : (form : FieldForm) (file : List ℕ) (i k : ℕ) → (k ≡ no_kind → ⊥) → (eqb (line_at form file i k).kind no_kind ≡ false) ↔ (well_formed form file i k ≡ true)
line_formed form file i k d = grind (arith, kind_well_formed, line_kind)

-- Which fields of a well-formed line are blank.
pub record Blanks (form : FieldForm) (file : List ℕ) (i filled : ℕ) : Type 0 where
  pub second : fits false (field_in form file i 1) ≡ not (ltb 1 filled)
  pub third : fits false (field_in form file i 2) ≡ not (ltb 2 filled)
  pub fourth : fits false (field_in form file i 3) ≡ not (ltb 3 filled)

-- The blank fields are those that the line's kind does not fill.
pub well_formed_blanks : (form : FieldForm) (file : List ℕ) (i k : ℕ) → well_formed form file i k ≡ true → Blanks form file i (record_kind_at k).filled
well_formed_blanks form file i k h =
    let f = kind_form form file i k h in
    let n = (record_kind_at k).filled in
    record {
      second = go (ltb 1 n) (field_in form file i 1) f.second;
      third = go (ltb 2 n) (field_in form file i 2) f.third;
      fourth = go (ltb 3 n) (field_in form file i 3) f.fourth;
    }
  where
    go : (filled : Bool) (x : Field) → fits filled x ≡ true → fits false x ≡ not filled
    go true Blank e = absurd (false≢true e)
    go true (Number n) e = refl
    go true Malformed e = absurd (false≢true e)
    go false x e = e

-- In the old form a line stands there as its numbers are written.
pub row_holds : (file : List ℕ) (i byte n : ℕ) → Form old file i byte n
    → Holds file (i * 22) (row_text byte n (value_of (field_in old file i 0)) (value_of (field_in old file i 1)) (value_of (field_in old file i 2)) (value_of (field_in old file i 3)))
unfolding row_text
row_holds file i byte n f = grind (arith, cell_holds, cell_then)

-- A well-formed line can be written.
pub well_formed_writable : (form : FieldForm) (file : List ℕ) (i k : ℕ) → well_formed form file i k ≡ true → Writable (line_at form file i k)
unfolding line_at
well_formed_writable form file i k h =
    let f = kind_form form file i k h in
    let cell : (j : ℕ) → fits (ltb j (record_kind_at k).filled) (field_in form file i j) ≡ true → Suits (ltb j (record_kind_at k).filled) (value_of (field_in form file i j)) =
    λ j e. cell_suits form file (i * 22 + (j * 5 + 1)) (ltb j (record_kind_at k).filled) e in
    rw h (record { first = cell 0 f.first; second = cell 1 f.second; third = cell 2 f.third; fourth = cell 3 f.fourth })

-- A well-formed line of the old form stands there as it is written.
pub well_formed_holds : (file : List ℕ) (i k : ℕ) → well_formed old file i k ≡ true → Holds file (i * 22) (line_text (line_at old file i k))
unfolding line_at line_text
well_formed_holds file i k h = rw h (row_holds file i (record_kind_at k).letter (record_kind_at k).filled (kind_form old file i k h))

-- What stands in each field of a row that stands there.
pub record RowHeld (file : List ℕ) (at letter filled a b c d : ℕ) : Type 0 where
  pub head : get_or file at 0 ≡ letter
  pub first : Holds file (at + 1) (cell_text (ltb 0 filled) a)
  pub second : Holds file (at + 6) (cell_text (ltb 1 filled) b)
  pub third : Holds file (at + 11) (cell_text (ltb 2 filled) c)
  pub fourth : Holds file (at + 16) (cell_text (ltb 3 filled) d)
  pub feed : get_or file (at + 21) 0 ≡ 10

pub row_held : (file : List ℕ) (at letter filled a b c d : ℕ) → Holds file at (row_text letter filled a b c d) → RowHeld file at letter filled a b c d
unfolding row_text
row_held file at letter filled a b c d h = grind (arith, then_cell)

-- A cell whose number has at most five digits is read back.
pub cell_read : (form : FieldForm) (file : List ℕ) (at : ℕ) (filled : Bool) (n : ℕ) → n ≤ 99999 → Holds file at (cell_text filled n)
    → field_at form file at ≡ cond filled (Number n) Blank
cell_read form file at filled n h h2 = grind (arith, holds_blank, holds_number)

-- Numbers that fit their places, and stand there as they are written, are read back, in both forms.
pub holds_row : (form : FieldForm) (file : List ℕ) (i byte n a b c d : ℕ) → Suits (ltb 0 n) a → Suits (ltb 1 n) b → Suits (ltb 2 n) c → Suits (ltb 3 n) d
    → Holds file (i * 22) (row_text byte n a b c d)
    → (formed form file i byte n ≡ true) × (value_of (field_in form file i 0) ≡ a) × (value_of (field_in form file i 1) ≡ b)
    × (value_of (field_in form file i 2) ≡ c) × (value_of (field_in form file i 3) ≡ d)
holds_row form file i byte n a b c d sa sb sc sd h =
    let r = row_held file (i * 22) byte n a b c d h in
    let c0 = holds_cell form file (i * 22 + 1) (ltb 0 n) a sa r.first in
    let c1 = holds_cell form file (i * 22 + 6) (ltb 1 n) b sb r.second in
    let c2 = holds_cell form file (i * 22 + 11) (ltb 2 n) c sc r.third in
    let c3 = holds_cell form file (i * 22 + 16) (ltb 3 n) d sd r.fourth in
    let f : Form form file i byte n = record { letter = r.head; feed = r.feed; first = c0.0; second = c1.0; third = c2.0; fourth = c3.0 } in
    (of_form form file i byte n f, c0.1, c1.1, c2.1, c3.1)

-- A line that can be written, and stands there, is read back.
pub holds_line : (form : FieldForm) (file : List ℕ) (i : ℕ) (l : Line) → Writable l → Holds file (i * 22) (line_text l)
    → (well_formed form file i l.kind ≡ true) × (line_at form file i l.kind ≡ l)
unfolding line_at line_text well_formed
holds_line form file i l w h = grind (arith, nat_tests, holds_row)

-- Two lines of the same bytes have the same fields.
pub field_in_same : (form : FieldForm) (f g : List ℕ) (i : ℕ) → ((t : ℕ) → t < 22 → get_or f (i * 22 + t) 0 ≡ get_or g (i * 22 + t) 0)
    → (j : ℕ) → j < 4 → field_in form f i j ≡ field_in form g i j
field_in_same form f g i h j l =
    field_same form f g (i * 22 + (j * 5 + 1)) (i * 22 + (j * 5 + 1))
    (λ m b. let e : i * 22 + (j * 5 + 1) + m ≡ i * 22 + (j * 5 + 1 + m) = omega arith in rw e (h (j * 5 + 1 + m) (omega arith)))

-- Two lines of the same bytes are read alike.
pub line_same : (form : FieldForm) (f g : List ℕ) (i k : ℕ) → ((t : ℕ) → t < 22 → get_or f (i * 22 + t) 0 ≡ get_or g (i * 22 + t) 0)
    → line_at form f i k ≡ line_at form g i k
unfolding line_at well_formed
line_same form f g i k h =
    let field = field_in_same form f g i h in
    rw (rw add-zero at (h 0 (omega arith)), h 21 (omega arith), field 0 (omega arith), field 1 (omega arith), field 2 (omega arith), field 3 (omega arith))

-- ---- the two forms
-- A line of the old form is well-formed in both, with the same numbers.
pub old_line : (form : FieldForm) (file : List ℕ) (i k : ℕ) → well_formed old file i k ≡ true
    → (well_formed form file i k ≡ true) × (line_at form file i k ≡ line_at old file i k)
old_line form file i k h =
    let l = line_at old file i k in
    let r = holds_line form file i l (well_formed_writable old file i k h) (well_formed_holds file i k h) in
    subst (λ (m : ℕ). (well_formed form file i m ≡ true) × (line_at form file i m ≡ l)) (line_kind old file i k h) r
