-- Tables of examples at the boundaries of the sentences of 01 and 02: each row is what the definitions give for an input, and what must come
-- out. A table is one theorem, by evaluation, in a module whose name begins with Boundary. Here: a row, that all rows of a table hold, and files
-- in bytes.
use Rattle.std.specs.Prelude.{◌≡◌, List, [], ◌∷◌, ◌++◌, map, ℕ}
use Prim.Native.String.{String}
use Rattle.meaning.specs.Columns.{field_at, record_kind_at, well_formed, line_at, having}
use Rattle.basics.specs.Lists.{list_of, pad_to}
use Rattle.meaning.specs.File.{
  Reading,
  pairs_of,
  closed_to,
  clashes,
  line_cause,
  cause_after,
  first_refusal,
  refusal_of,
  situation_of,
  kind_at,
  file_line_in,
  no_situation,
  refused,
  reading_under_in,
  reading_in,
  reading,
}
use Rattle.worked_examples.proofs.Examples.{bytes}

-- What the definitions give, and what must come out.
infix 20 ◌is◌
abbrev pub ◌is◌ : {A : Type 0} → A → A → A × A
x is y = (x, y)

abbrev pub Hold : {A : Type 0} → List (A × A) → Type 0
Hold {A} rows = map (λ (r : A × A). r.0) rows ≡ map (λ (r : A × A). r.1) rows

-- The bytes of some lines, each with its line feed: byte 10.
unfoldable pub lines : List String → List ℕ
unfolding bytes
lines [] = []
lines (t ∷ l) = bytes t ++ (10 ∷ lines l)

-- What a file is read as, open to computation.
unfoldable pub opened : List ℕ → Reading
unfolding reading_in reading_under_in refused no_situation line_at well_formed field_at record_kind_at file_line_in kind_at refusal_of first_refusal cause_after line_cause closed_to
    clashes pairs_of having situation_of list_of pad_to
opened file = reading file

-- The printed station K of 01, and K6: "all open".
unfoldable pub file_k : List ℕ
unfolding lines
file_k =
    lines
    ("S    5    1    4    2" ∷ "P    2    1          " ∷ "L    1    2    1     " ∷ "D    2    3    4    1" ∷ "L    3    5    1     " ∷ "L    4    5    1     "
    ∷ "T    1               " ∷ "T    4               " ∷ [])

unfoldable pub file_k6 : List ℕ
unfolding lines
file_k6 =
    lines
    ("S    5    1    4    2" ∷ "P    2    1          " ∷ "L    1    2    0     " ∷ "D    2    3    4    0" ∷ "L    3    5    0     " ∷ "L    4    5    0     "
    ∷ "T    1               " ∷ "T    4               " ∷ [])
