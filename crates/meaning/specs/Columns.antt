-- The 22-byte line: its fields and the table of record kinds (01, "The station file"). A file is the list of its bytes; past its end
-- stand zeros, which no line has. Offsets and lines are counted from 0 here.
use Rattle.std.specs.Prelude.{Option, Some, None, Bool, true, false, not, ◌&&◌, cond, List, [], ◌∷◌, ◌++◌, ℕ, zero, suc, ◌+◌, ◌*◌, ◌-◌, ◌/◌, ◌%◌, eqb, ltb, get_or}
use Rattle.meaning.specs.declared.FieldForm.{FieldForm}
use Rattle.meaning.specs.declared.FieldForm.TheVariants.{Old, Padded}
use Rattle.meaning.specs.declared.Field.{Field}
use Rattle.meaning.specs.declared.Field.TheVariants.{Blank, Number, Malformed}
use Rattle.meaning.specs.declared.StationField.{StationField}
use Rattle.meaning.specs.declared.StationField.TheVariants as field
use Rattle.meaning.specs.declared.RecordKind.{RecordKind}
use Rattle.meaning.specs.declared.Line.{Line}

-- ---- a field
-- Two forms of a filled field. The old one (01): "A filled field is a number in base ten, right-justified, with spaces before it and no leading
-- zero; zero is the single digit 0." The padded one (02, Item 13): "spaces, then one or more digits, leading zeros allowed". In both "an unused field is
-- five spaces". They differ in one place: whether a digit may stand after a zero with nothing but spaces and zeros before it.
abbrev pub old : FieldForm
old = Old

abbrev pub padded : FieldForm
padded = Padded

-- Zeros may stand before a number.
abbrev pub leading_zeros : FieldForm → Bool
leading_zeros Old = false
leading_zeros Padded = true

-- The field f where byte b is a digit, which are the bytes 48 to 57; else a malformed field.
abbrev pub digit : ℕ → Field → Field
digit b f = cond (ltb b 48) Malformed (cond (ltb b 58) f Malformed)

-- The field with one byte more, after the field that the bytes before it give. 32 is a space.
abbrev pub step : FieldForm → Field → ℕ → Field
step form Blank b = cond (eqb b 32) Blank (digit b (Number (b - 48)))
step form (Number n) b = cond (not (leading_zeros form) && eqb n 0) Malformed (digit b (Number (n * 10 + (b - 48))))
step form Malformed b = Malformed

-- The field that the first k bytes from an offset give.
abbrev pub front : FieldForm → List ℕ → ℕ → ℕ → Field
front form file at zero = Blank
front form file at (suc k) = step form (front form file at k) (get_or file (at + k) 0)

-- The field that the five bytes from an offset give.
unfoldable pub field_at : FieldForm → List ℕ → ℕ → Field
field_at form file at = front form file at 5

-- The byte at a place of a field: the last digit of q, or a space where q is 0. q is the number without the digits behind that place.
abbrev pub place : ℕ → ℕ
place q = cond (eqb q 0) 32 (q % 10 + 48)

-- The five bytes of a field that holds the number n.
unfoldable pub field_text : ℕ → List ℕ
field_text n = place (n / 10000) ∷ place (n / 1000) ∷ place (n / 100) ∷ place (n / 10) ∷ (n % 10 + 48) ∷ []

abbrev pub spaces : List ℕ
spaces = 32 ∷ 32 ∷ 32 ∷ 32 ∷ 32 ∷ []

-- ---- the table of record kinds
-- The field's meaning is a section.
abbrev pub section_field : Option StationField → Bool
section_field (Some field.Section) = true
section_field m = false

-- The field's meaning is the state of an element.
abbrev pub state_field : Option StationField → Bool
state_field (Some field.State) = true
state_field m = false

-- The kinds by their places in the table. A T line of one section has kind `t_line`; of two, three and four it has the three that follow.
abbrev pub s_line : ℕ
s_line = 0

abbrev pub p_line : ℕ
p_line = 1

abbrev pub signal_line : ℕ
signal_line = 2

abbrev pub turnout_line : ℕ
turnout_line = 3

abbrev pub t_line : ℕ
t_line = 4

abbrev pub u_line : ℕ
u_line = 8

-- "Which fields a letter fills is fixed by the table below": S, P, L (signal), D (turnout), T with one to four sections, U.
abbrev pub record_kinds : List (RecordKind (Option StationField))
record_kinds =
    record { letter = 83; filled = 4; meaning = Some field.Sections ∷ Some field.Plain ∷ Some field.Elements ∷ Some field.Trains ∷ [] }
    ∷ record { letter = 80; filled = 2; meaning = Some field.Section ∷ Some field.Section ∷ None ∷ None ∷ [] }
    ∷ record { letter = 76; filled = 3; meaning = Some field.Section ∷ Some field.Section ∷ Some field.State ∷ None ∷ [] }
    ∷ record { letter = 68; filled = 4; meaning = Some field.Section ∷ Some field.Section ∷ Some field.Section ∷ Some field.State ∷ [] }
    ∷ record { letter = 84; filled = 1; meaning = Some field.Section ∷ None ∷ None ∷ None ∷ [] }
    ∷ record { letter = 84; filled = 2; meaning = Some field.Section ∷ Some field.Section ∷ None ∷ None ∷ [] }
    ∷ record { letter = 84; filled = 3; meaning = Some field.Section ∷ Some field.Section ∷ Some field.Section ∷ None ∷ [] }
    ∷ record { letter = 84; filled = 4; meaning = Some field.Section ∷ Some field.Section ∷ Some field.Section ∷ Some field.Section ∷ [] }
    ∷ record { letter = 85; filled = 4; meaning = Some field.Sections ∷ Some field.Plain ∷ Some field.Elements ∷ Some field.Trains ∷ [] }
    ∷ []

-- The entry of kind k in the table; past the table, an entry that no line has.
unfoldable pub record_kind_at : ℕ → RecordKind (Option StationField)
record_kind_at k = get_or record_kinds k (record { letter = 0; filled = 0; meaning = None ∷ None ∷ None ∷ None ∷ [] })

-- ---- a line
-- The field is as its place requires: a number where it is to be filled, blank where not.
abbrev pub fits : Bool → Field → Bool
fits filled Blank = not filled
fits filled (Number n) = filled
fits filled Malformed = false

abbrev pub value_of : Field → ℕ
value_of Blank = 0
value_of (Number n) = n
value_of Malformed = 0

-- Field j, from 0, of line i.
abbrev pub field_in : FieldForm → List ℕ → ℕ → ℕ → Field
field_in form file i j = field_at form file (i * 22 + (j * 5 + 1))

-- "One letter, four fields of 5 bytes, one line feed (byte 10)": line i has this letter and its first n fields filled.
abbrev pub formed : FieldForm → List ℕ → ℕ → ℕ → ℕ → Bool
formed form file i letter n =
    eqb (get_or file (i * 22) 0) letter
    && (eqb (get_or file (i * 22 + 21) 0) 10
    && (fits (ltb 0 n) (field_in form file i 0)
    && (fits (ltb 1 n) (field_in form file i 1) && (fits (ltb 2 n) (field_in form file i 2) && fits (ltb 3 n) (field_in form file i 3)))))

-- Line i has the form of kind k.
unfoldable pub well_formed : FieldForm → List ℕ → ℕ → ℕ → Bool
well_formed form file i k = formed form file i (record_kind_at k).letter (record_kind_at k).filled

-- A line of kind k with these numbers; 0 stands for a blank field.
abbrev pub line_with : ℕ → ℕ → ℕ → ℕ → ℕ → Line
line_with k a b c d = record { kind = k; first = a; second = b; third = c; fourth = d }

-- The kind of a line that has not the stated form: it is past the table.
abbrev pub no_kind : ℕ
no_kind = 9

abbrev pub malformed : Line
malformed = line_with no_kind 0 0 0 0

-- Line i with its numbers, as a line of kind k, where it is well formed; else a line of no kind.
abbrev pub line_if : FieldForm → Bool → List ℕ → ℕ → ℕ → Line
line_if form well file i k =
    let number : ℕ → ℕ = λ j. value_of (field_in form file i j) in
    cond well (line_with k (number 0) (number 1) (number 2) (number 3)) malformed

-- Line i of a file, at a place where kind k is allowed.
unfoldable pub line_at : FieldForm → List ℕ → ℕ → ℕ → Line
line_at form file i k = line_if form (well_formed form file i k) file i k

-- Line i of a file that has a table of its own, as a line with this letter and this number of filled fields.
unfoldable pub row_at : FieldForm → List ℕ → ℕ → ℕ → ℕ → ℕ → Line
row_at form file i k letter n = line_if form (formed form file i letter n) file i k

-- The five bytes of a field: a number, or spaces.
abbrev pub cell_text : Bool → ℕ → List ℕ
cell_text filled n = cond filled (field_text n) spaces

-- The 22 bytes of a line: a letter, four fields of which the first are filled, a line feed.
unfoldable pub row_text : ℕ → ℕ → ℕ → ℕ → ℕ → ℕ → List ℕ
row_text letter filled a b c d =
    letter
    ∷ (cell_text (ltb 0 filled) a
    ++ (cell_text (ltb 1 filled) b ++ (cell_text (ltb 2 filled) c ++ (cell_text (ltb 3 filled) d ++ (10 ∷ [])))))

-- The rows of a list's entries, one after the other.
abbrev pub rows_of : {A : Type 0} → (A → List ℕ) → List A → List ℕ
rows_of row [] = []
rows_of row (x ∷ l) = row x ++ rows_of row l

unfoldable pub line_text : Line → List ℕ
unfolding row_text
line_text l = row_text (record_kind_at l.kind).letter (record_kind_at l.kind).filled l.first l.second l.third l.fourth

-- The fields of a line whose meaning passes a test.
abbrev pub select : (Option StationField → Bool) → List (Option StationField) → List ℕ → List ℕ
select is [] xs = []
select is (m ∷ ms) [] = []
select is (m ∷ ms) (x ∷ xs) = cond (is m) (x ∷ select is ms xs) (select is ms xs)

unfoldable pub having : (Option StationField → Bool) → Line → List ℕ
having is l = select is (record_kind_at l.kind).meaning (l.first ∷ l.second ∷ l.third ∷ l.fourth ∷ [])
