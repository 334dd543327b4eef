-- The sum of a number's digits in base ten (02, item 4): "the subtractions are counted and handed back: for every number up to 99999 they
-- are exactly the sum of its digits".
use Rattle.std.specs.Prelude.{Bool, cond, List, [], ◌∷◌, ℕ, zero, suc, ◌+◌, ◌-◌, ◌/◌, ◌%◌, ltb, length}
use Rattle.meaning.specs.declared.Output.{Output}

-- The sum of the k lowest digits of n.
unfoldable pub low_sum : ℕ → ℕ → ℕ
low_sum zero n = 0
low_sum (suc k) n = n % 10 + low_sum k (n / 10)

-- The sum of all digits of a number of 32 bits, which has at most ten.
unfoldable pub digit_sum : ℕ → ℕ
digit_sum n = low_sum 10 n

-- The sum of the digits of a cell, and of the four cells of a row. An unused cell has no digit.
abbrev pub cell_sum : Bool → ℕ → ℕ
cell_sum filled n = cond filled (digit_sum n) 0

unfoldable pub row_sum : ℕ → ℕ → ℕ → ℕ → ℕ → ℕ
row_sum filled a b c d = cell_sum (ltb 0 filled) a + cell_sum (ltb 1 filled) b + cell_sum (ltb 2 filled) c + cell_sum (ltb 3 filled) d

-- The sum of the digits in a text: a byte 49 to 57 counts 1 to 9, and any other 0.
abbrev pub byte_sum : ℕ → ℕ
byte_sum b = cond (ltb b 58) (b - 48) 0

unfoldable pub printed_sum : List ℕ → ℕ
printed_sum [] = 0
printed_sum (b ∷ l) = byte_sum b + printed_sum l

-- What is returned of a text that was written: its length, and the subtractions.
abbrev pub output_of : List ℕ → Output
output_of text = record { length = length text; subtractions = printed_sum text }
