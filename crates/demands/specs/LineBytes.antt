-- What the reader's values say of each line of an accepted file without leading zeros, byte by byte: "Each line is 22 bytes: one letter, four fields of 5 bytes,
-- one line feed", "which fields a letter fills is fixed by the table". Of T lines the law is `line` of `LongTrains` (Laws). The theorem is `line_bytes`
-- (proofs/LineBytes). Byte 83 is S, 85 is U, 80 is P, 76 is L and 68 is D.
use Rattle.std.specs.Prelude.{◌≡◌, ◌⊎◌, List, ℕ, ◌+◌, ◌*◌, ◌<◌, get_or, take, drop}
use Rattle.meaning.specs.Columns.{row_text}
use Rattle.meaning.specs.Accepted.{Accepted, OldForm}
use Rattle.c_layout.specs.declared.FlatElement.{FlatElement}
use Rattle.c_layout.specs.declared.FlatSituation.{FlatSituation}
use Rattle.c_layout.specs.declared.FlatReading.{FlatReading}
use Rattle.c_layout.specs.Flat.{flat_element_at}
use Rattle.demands.specs.Demand2.{Demand2Read}

-- Line i of the file, from 0.
abbrev pub bytes_of : List ℕ → ℕ → List ℕ
bytes_of file i = take 22 (drop (i * 22) file)

-- The bytes of an element's line: "L (signal): from, to, state", "D (turnout): stem, straight leg, diverted leg, state".
pub data ElementLine (e : FlatElement) (bytes : List ℕ) : Type 0 where
  signal : e.turnout ≡ 0 → bytes ≡ row_text 76 3 e.first e.second e.state 0 → ElementLine e bytes
  turnout : e.turnout ≡ 1 → bytes ≡ row_text 68 4 e.first e.second e.third e.state → ElementLine e bytes

pub record LineBytes (file : List ℕ) (v : FlatSituation) : Type 0 where
  -- "S: sections, P lines, elements, trains", or U (02, Item 2).
  pub first : ((v.is_long ≡ 0) × (bytes_of file 0 ≡ row_text 83 4 v.sections v.plain v.elements v.trains))
      ⊎ ((v.is_long ≡ 1) × (bytes_of file 0 ≡ row_text 85 4 v.sections v.plain v.elements v.trains))
  -- "First the S line, then all P lines": "P: from, to".
  pub plain : (j : ℕ) → j < v.plain → bytes_of file (1 + j) ≡ row_text 80 2 (get_or v.plain_from j 0) (get_or v.plain_to j 0) 0 0
  -- "Then all elements (L and D in any order)".
  pub elements : (j : ℕ) → j < v.elements → ElementLine (flat_element_at v j) (bytes_of file (1 + v.plain + j))

abbrev pub LinesAreBytes : Type 0
LinesAreBytes = (file : List ℕ) (r : FlatReading) → Demand2Read file r → Accepted file → OldForm file → LineBytes file r.situation
