-- Lines stored one after the other at the start of a buffer: the text so far, then what the buffer had; and the digits in the text.
use Rattle.std.specs.Prelude.{◌≡◌, List, ◌++◌, ℕ, ◌*◌, drop, length}
use Rattle.meaning.specs.declared.Line.{Line}
use Rattle.meaning.specs.Digits.{printed_sum}
use Rattle.meaning.specs.File.{text_of}

-- d is b with the first n lines at its start, whose digits took x subtractions.
pub record Begun (lines : ℕ → Line) (n : ℕ) (b d : List ℕ) (x : ℕ) : Type 0 where
  pub same_length : length d ≡ length b
  pub text : d ≡ text_of lines n ++ drop (n * 22) b
  pub counted : x ≡ printed_sum (text_of lines n)
