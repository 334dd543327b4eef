-- A part of a question as a file (02, Item 12): one byte is changed. Elements are numbered from 1; lines and bytes are counted from 0 here.
use Rattle.std.specs.Prelude.{cond, List, ℕ, ◌+◌, ◌*◌, eqb, get_or, set}
use Rattle.meaning.specs.Accepted.{file_header}

-- The first byte of the line of element e: the elements come after the S line and the P lines.
abbrev pub line_start : List ℕ → ℕ → ℕ
line_start file e = ((file_header file).plain + e) * 22

-- The place of the digit of element e's state: the last byte of field 3 of an L line, and of field 4 of a D line. Byte 76 is L.
unfoldable pub state_digit : List ℕ → ℕ → ℕ
state_digit file e = line_start file e + cond (eqb (get_or file (line_start file e) 0) 76) 15 20

-- The file with x as the digit of element e's state: one byte is changed. Byte 48 is the digit 0.
unfoldable pub part_file : List ℕ → ℕ → ℕ → List ℕ
part_file file e x = set file (state_digit file e) (48 + x)
