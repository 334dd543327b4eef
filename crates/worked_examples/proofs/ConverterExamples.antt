-- The converter, computed from the definitions: tests of ours. A station of five sections with two trains, the second over one or two; the
-- files have 66 bytes.
use Rattle.std.specs.Prelude.{◌≡◌, refl, List, [], ◌∷◌, map, ℕ}
use Prim.Native.String.{String, ◌++◌}
use Rattle.meaning.specs.declared.Letter.{Letter}
use Rattle.meaning.specs.declared.Letter.TheVariants as letter
use Rattle.meaning.specs.declared.Refusal.{Refusal}
use Rattle.meaning.specs.Station.{standing}
use Rattle.basics.specs.Numbers.{lowest}
use Rattle.meaning.specs.Columns.{field_at, record_kind_at, well_formed, line_at, having}
use Rattle.basics.specs.Lists.{list_of, pad_to}
use Rattle.meaning.specs.File.{pairs_of, closed_to, clashes, line_cause, cause_after, refusal, first_refusal, refusal_of, situation_of, kind_at, file_line_in, no_situation, refused, reading_under_in, reading_in}
use Rattle.worked_examples.proofs.Examples.{bytes}
use Rattle.file_meaning.specs.Converter.{with_letter, first_long, conversion_refusal, to_s, to_u}

-- A letter, and the second train's sections.
file : String → String → String
file first sections = first ++ "    5    0    0    2\n" ++ "T    3               \n" ++ "T" ++ sections ++ "\n"

one : String
one = "    4               "

two : String
two = "    4    5          "

-- To the letter `wanted`, into a buffer of `room` bytes: refusal number and line.
record Asked : Type 0 where
  wanted : Letter
  given : String
  room : ℕ
  number : ℕ
  line : ℕ

infix 20 ◌to◌room◌gives◌on◌
abbrev ◌to◌room◌gives◌on◌ : String → Letter → ℕ → ℕ → ℕ → Asked
f to x room n gives q on l = record { wanted = x; given = f; room = n; number = q; line = l }

table : List Asked
unfolding file one two
table =
    (file "U" one to letter.S room 66 gives 0 on 0)
    ∷ (file "S" one to letter.U room 66 gives 0 on 0)
    -- 13 stands before 9, and on the way to S alone
    ∷ (file "U" two to letter.S room 65 gives 13 on 3)
    ∷ (file "U" two to letter.U room 66 gives 0 on 0)
    -- 9 also where the letter stays
    ∷ (file "S" one to letter.S room 65 gives 9 on 0)
    ∷ (file "U" one to letter.S room 65 gives 9 on 0)
    -- the file's own refusals come first: two sections under S
    ∷ (file "S" two to letter.S room 0 gives 2 on 3)
    ∷ []

-- What the definitions give, open to computation.
found : Asked → Refusal
unfolding bytes conversion_refusal first_long lowest standing reading_in reading_under_in refused no_situation line_at well_formed field_at record_kind_at file_line_in kind_at refusal_of
    first_refusal cause_after line_cause closed_to clashes pairs_of having situation_of list_of pad_to
found a = conversion_refusal a.wanted (bytes a.given) a.room

refusals : map found table ≡ map (λ (a : Asked). refusal a.number a.line) table
unfolding found table
refusals = refl

-- The bytes, both ways.
both_ways : (to_s (bytes (file "U" one)) ≡ bytes (file "S" one)) × (to_u (bytes (file "S" one)) ≡ bytes (file "U" one))
unfolding file one bytes with_letter
both_ways = (refl, refl)
