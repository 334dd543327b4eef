-- A row of a letter and at most four numbers, which fill its first fields: its bytes, and the subtractions that its digits take. And a line whose
-- subtractions are the sum of the digits that it prints.
use Rattle.std.specs.Prelude.{ℕ, List, ◌≤◌, length, get_or}
use Rattle.meaning.specs.declared.Line.{Line}
use Rattle.meaning.specs.Columns.{row_text}
use Rattle.meaning.specs.Digits.{row_sum}

abbrev pub text_of : ℕ → List ℕ → List ℕ
text_of letter ns = row_text letter (length ns) (get_or ns 0 0) (get_or ns 1 0) (get_or ns 2 0) (get_or ns 3 0)

abbrev pub sum_of : List ℕ → ℕ
sum_of ns = row_sum (length ns) (get_or ns 0 0) (get_or ns 1 0) (get_or ns 2 0) (get_or ns 3 0)

-- No number of the line has more than five digits.
abbrev pub Printable : Line → Type 0
Printable l = (l.first ≤ 99999) × (l.second ≤ 99999) × (l.third ≤ 99999) × (l.fourth ≤ 99999)
