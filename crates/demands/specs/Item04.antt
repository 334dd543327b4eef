-- Item 4 of 02, dividing while printing: "The subtractions are counted and handed back: for every number up to 99999 they are exactly the sum of its
-- digits." No number of a key or of a written file is above 99999, so for all that is written they are the sum of the digits that stand in it (`printed_sum`):
-- a byte 49 to 57 counts 1 to 9, and any other 0.
use Rattle.std.specs.Prelude.{◌≡◌, List, ℕ, length}
use Rattle.meaning.specs.Digits.{printed_sum}
use Rattle.c_layout.specs.declared.FlatOutput.{FlatOutput}

-- r returns the length and the subtractions of the text that was written; a refused call writes the text of no bytes.
abbrev pub HandsBack : List ℕ → FlatOutput → Type 0
HandsBack text r = (r.length ≡ length text) × (r.subtractions ≡ printed_sum text)
