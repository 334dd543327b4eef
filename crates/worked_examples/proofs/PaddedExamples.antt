-- Fields in both forms, and station K with padded numbers: tests of ours, computed from the definitions (02, Item 13).
use Rattle.std.specs.Prelude.{◌≡◌, refl, List, [], ◌∷◌, map}
use Prim.Native.String.{String, ◌++◌}
use Rattle.meaning.specs.declared.Field.{Field}
use Rattle.meaning.specs.declared.Field.TheVariants.{Blank, Number, Malformed}
use Rattle.meaning.specs.Columns.{old, padded, field_at}
use Rattle.meaning.specs.File.{refusal}
use Rattle.worked_examples.proofs.Examples.{bytes, read, file_k}

-- The five bytes of a field, read in the old form and in the padded one.
record InBoth : Type 0 where
  field : String
  in_old : Field
  in_padded : Field

infix 20 ◌is◌then◌
abbrev ◌is◌then◌ : String → Field → Field → InBoth
t is f then g = record { field = t; in_old = f; in_padded = g }

fields : List InBoth
fields =
    ("    0" is Number 0 then Number 0)
    ∷ ("  512" is Number 512 then Number 512)
    ∷ ("     " is Blank then Blank)
    ∷ ("00000" is Malformed then Number 0)
    ∷ ("00005" is Malformed then Number 5)
    ∷ ("  005" is Malformed then Number 5)
    ∷ ("   00" is Malformed then Number 0)
    ∷ (" 0512" is Malformed then Number 512)
    ∷ ("0 005" is Malformed then Malformed)
    ∷ ("  05 " is Malformed then Malformed)
    ∷ ("0    " is Malformed then Malformed)
    ∷ ("-0001" is Malformed then Malformed)
    ∷ ("+0001" is Malformed then Malformed)
    ∷ ("000a5" is Malformed then Malformed)
    ∷ []

both_forms :
    map (λ (x : InBoth). field_at old (bytes x.field) 0 ∷ field_at padded (bytes x.field) 0 ∷ []) fields
    ≡ map (λ (x : InBoth). x.in_old ∷ x.in_padded ∷ []) fields
unfolding fields bytes field_at
both_forms = refl

-- Station K as a drawing tool may pad it: it is read as the printed file.
padded_k : String
padded_k =
    "S00005000010000400002\n"
    ++ "P0000200001          \n"
    ++ "L   01  00200001     \n"
    ++ "D00002    3 0004    1\n"
    ++ "L0000300005   01     \n"
    ++ "L    4    5    1     \n"
    ++ "T00001               \n"
    ++ "T   04               \n"

station_k-padded : read padded_k ≡ read file_k
unfolding padded_k read file_k
station_k-padded = refl

-- Padding where a field has to be blank, and a count that is a blank, are no padded numbers; five zeros as a count are 0.
near_misses :
    ((read "S00001000000000000000\n").refusal ∷ (read "S0000100000     00000\n").refusal
    ∷ (read "S00001000000000000001\nT0000100000          \n").refusal ∷ (read "S00001000000000000001\nT00001               \n").refusal ∷ [])
    ≡ refusal 0 0 ∷ refusal 2 1 ∷ refusal 2 2 ∷ refusal 0 0 ∷ []
unfolding read
near_misses = refl
