-- Boundaries of 01, "The station file" and "Who can cause a refusal", with Items 2 and 13 of 02: files in bytes, and the refusal of each, number 0
-- where it is accepted. All rows are ours.
use Rattle.std.specs.Prelude.{refl, List, [], ◌∷◌, ℕ, replicate}
use Prim.Native.String.{String, ◌++◌}
use Rattle.meaning.specs.declared.Refusal.{Refusal}
use Rattle.meaning.specs.Columns.{field_at, record_kind_at, well_formed, line_at}
use Rattle.meaning.specs.File.{refusal, no_situation, refused, reading_under_in, reading_in, reading}
use Rattle.worked_examples.proofs.Examples.{read}
use Rattle.worked_examples.proofs.Boundary.{◌is◌, Hold}

of_file : String → Refusal
unfolding read
of_file t = (read t).refusal

infix 20 ◌refused◌on◌
abbrev ◌refused◌on◌ : String → ℕ → ℕ → Refusal × Refusal
t refused q on l = of_file t is refusal q l

accepted : String → Refusal × Refusal
unfolding of_file
accepted t = of_file t is refusal 0 0

-- ---- the first line
-- "S: sections, 1 to 512; P lines, 0 to 1024; elements, 0 to 256; trains, 0 to 64", under U too. A first line alone that is in its ranges and counts
-- lines is 4. "2 and 3 on line 1; then 4."
first_lines : List (Refusal × Refusal)
unfolding of_file accepted
first_lines =
    ("S    0    0    0    0\n" refused 3 on 1)
    ∷ (accepted "S    1    0    0    0\n")
    ∷ (accepted "S  512    0    0    0\n")
    ∷ ("S  513    0    0    0\n" refused 3 on 1)
    ∷ ("S65537    0    0    0\n" refused 3 on 1)
    ∷ ("S    1    1    0    0\n" refused 4 on 1)
    ∷ ("S    1 1024    0    0\n" refused 4 on 1)
    ∷ ("S    1 1025    0    0\n" refused 3 on 1)
    ∷ ("S    1    0  256    0\n" refused 4 on 1)
    ∷ ("S    1    0  257    0\n" refused 3 on 1)
    ∷ ("S    1    0    0   64\n" refused 4 on 1)
    ∷ ("S    1    0    0   65\n" refused 3 on 1)
    ∷ ("S  512 1024  256   64\n" refused 4 on 1)
    ∷ ("U    0    0    0    0\n" refused 3 on 1)
    ∷ (accepted "U  512    0    0    0\n")
    ∷ ("U  513    0    0    0\n" refused 3 on 1)
    ∷ ("U    1 1024  256   64\n" refused 4 on 1)
    ∷ ("U    1 1025    0    0\n" refused 3 on 1)
    ∷ ("U    1    0  257    0\n" refused 3 on 1)
    ∷ ("U    1    0    0   65\n" refused 3 on 1)
    ∷ ("S  513    0    0     \n" refused 2 on 1)
    ∷ ("S    1    0    0    1\nP    1    1          \nP    1    1          \n" refused 4 on 1)
    ∷ ("S    1    1    1    1\nP    9    9          \n" refused 4 on 1)
    ∷ []

first_lines_hold : Hold first_lines
unfolding first_lines of_file accepted
first_lines_hold = refl

-- ---- bytes
-- "1: empty, not a multiple of 22 bytes, or above 29,590 bytes. Line 0." Spaces are no line: 2 where the length is allowed.
lengths : List (Refusal × Refusal)
unfolding of_file
lengths =
    ("" refused 1 on 0)
    ∷ ("S    1    0    0    0" refused 1 on 0)
    ∷ ("S    1    0    0    0\n\n" refused 1 on 0)
    ∷ ((reading (replicate 29590 32)).refusal is refusal 2 1)
    ∷ ((reading (replicate 29591 32)).refusal is refusal 1 0)
    ∷ ((reading (replicate 29612 32)).refusal is refusal 1 0)
    ∷ []

lengths_hold : Hold lengths
unfolding lengths of_file reading_in reading_under_in refused no_situation line_at well_formed field_at record_kind_at
lengths_hold = refl

-- ---- the form of a line
-- "One letter, four fields of 5 bytes, one line feed (byte 10)"; letters are capitals; the fields that the table fills for a letter, no more and no
-- fewer. One line below the first, in a station of nine sections: a P line, an element, a train.
plain_line : String → String
plain_line t = "S    9    1    0    0\n" ++ t

element_line : String → String
element_line t = "S    9    0    1    0\n" ++ t

train_line : String → String
train_line t = "S    9    0    0    1\n" ++ t

forms : List (Refusal × Refusal)
unfolding of_file accepted plain_line element_line train_line
forms =
    ("s    1    0    0    0\n" refused 2 on 1)
    ∷ ("T    1    0    0    0\n" refused 2 on 1)
    ∷ ("V    1    0    0    0\n" refused 2 on 1)
    ∷ ("S    1    0    0    0\r" refused 2 on 1)
    ∷ ("S1    0    0    0    \n" refused 2 on 1)
    ∷ (accepted "S    9    0    0    0\n")
    ∷ ("S    :    0    0    0\n" refused 2 on 1)
    ∷ ("S    /    0    0    0\n" refused 2 on 1)
    ∷ ("S    1    0!   0    0\n" refused 2 on 1)
    ∷ (accepted (plain_line "P    1    2          \n"))
    ∷ (plain_line "P    1               \n" refused 2 on 2)
    ∷ (plain_line "P    1    2    0     \n" refused 2 on 2)
    ∷ (plain_line "P    1    2          \r" refused 2 on 2)
    ∷ (plain_line "p    1    2          \n" refused 2 on 2)
    ∷ (plain_line "Q    1    2          \n" refused 2 on 2)
    ∷ (plain_line "O    1    2          \n" refused 2 on 2)
    ∷ (accepted (element_line "L    1    2    0     \n"))
    ∷ (element_line "L    1    2          \n" refused 2 on 2)
    ∷ (element_line "L    1    2    0    0\n" refused 2 on 2)
    ∷ (accepted (element_line "D    1    2    3    0\n"))
    ∷ (element_line "D    1    2    3     \n" refused 2 on 2)
    ∷ (element_line "E    1    2    3    0\n" refused 2 on 2)
    ∷ (element_line "P    1    2          \n" refused 2 on 2)
    ∷ (accepted (train_line "T    1               \n"))
    ∷ (train_line "T                    \n" refused 2 on 2)
    ∷ (train_line "T    1    2          \n" refused 2 on 2)
    ∷ (train_line "U    1               \n" refused 2 on 2)
    ∷ (train_line "P    1    2          \n" refused 2 on 2)
    ∷ []

forms_hold : Hold forms
unfolding forms of_file accepted plain_line element_line train_line
forms_hold = refl

-- "First the S line, then all P lines, then all elements (L and D in any order), then all T lines. Nothing follows."
ordered : String → String → String → String → String
ordered a b c d = "S    9    1    2    1\n" ++ a ++ b ++ c ++ d

p_line : String
p_line = "P    1    2          \n"

l_line : String
l_line = "L    3    4    1     \n"

d_line : String
d_line = "D    5    6    7    2\n"

t_line : String
t_line = "T    8               \n"

orders : List (Refusal × Refusal)
unfolding of_file accepted ordered p_line l_line d_line t_line
orders =
    (accepted (ordered p_line l_line d_line t_line))
    ∷ (accepted (ordered p_line d_line l_line t_line))
    ∷ (ordered l_line p_line d_line t_line refused 2 on 2)
    ∷ (ordered p_line l_line t_line d_line refused 2 on 4)
    ∷ (ordered t_line p_line l_line d_line refused 2 on 2)
    ∷ (ordered p_line l_line d_line d_line refused 2 on 5)
    ∷ ((ordered p_line l_line d_line t_line ++ t_line) refused 4 on 1)
    ∷ []

orders_hold : Hold orders
unfolding orders of_file accepted ordered p_line l_line d_line t_line
orders_hold = refl

-- ---- the numbers of a line
-- "5: a section number outside 1 to the number of sections", nine here, in each section field. "6: a state above 2": 0, 1, 2 and 3, of L and D. "7: a
-- section twice in one P, L or D line": any two of three. The order: "in each 2, 5, 7, 6, 8".
numbers : List (Refusal × Refusal)
unfolding of_file accepted plain_line element_line train_line
numbers =
    (plain_line "P    0    2          \n" refused 5 on 2)
    ∷ (plain_line "P    2    0          \n" refused 5 on 2)
    ∷ (accepted (plain_line "P    9    1          \n"))
    ∷ (accepted (plain_line "P    1    9          \n"))
    ∷ (plain_line "P   10    1          \n" refused 5 on 2)
    ∷ (plain_line "P    1   10          \n" refused 5 on 2)
    ∷ (element_line "L    0    1    1     \n" refused 5 on 2)
    ∷ (accepted (element_line "L    9    1    1     \n"))
    ∷ (element_line "L    1   10    1     \n" refused 5 on 2)
    ∷ (accepted (element_line "D    9    1    2    1\n"))
    ∷ (accepted (element_line "D    1    9    2    1\n"))
    ∷ (accepted (element_line "D    1    2    9    1\n"))
    ∷ (element_line "D   10    1    2    1\n" refused 5 on 2)
    ∷ (element_line "D    1   10    2    1\n" refused 5 on 2)
    ∷ (element_line "D    1    2   10    1\n" refused 5 on 2)
    ∷ (element_line "D    1    2    0    1\n" refused 5 on 2)
    ∷ (train_line "T    0               \n" refused 5 on 2)
    ∷ (accepted (train_line "T    9               \n"))
    ∷ (train_line "T   10               \n" refused 5 on 2)
    ∷ (accepted (element_line "L    1    2    1     \n"))
    ∷ (accepted (element_line "L    1    2    2     \n"))
    ∷ (element_line "L    1    2    3     \n" refused 6 on 2)
    ∷ (accepted (element_line "D    1    2    3    2\n"))
    ∷ (element_line "D    1    2    3    3\n" refused 6 on 2)
    ∷ (plain_line "P    1    1          \n" refused 7 on 2)
    ∷ (element_line "L    1    1    1     \n" refused 7 on 2)
    ∷ (element_line "D    1    1    2    1\n" refused 7 on 2)
    ∷ (element_line "D    1    2    1    1\n" refused 7 on 2)
    ∷ (element_line "D    2    1    1    1\n" refused 7 on 2)
    ∷ (element_line "D   10   10    1    3\n" refused 5 on 2)
    ∷ (element_line "D    1    1    2    3\n" refused 7 on 2)
    ∷ ("S    9    1    1    0\nP    1    2          \nL    1    2    3     \n" refused 6 on 3)
    ∷ ("S    9    1    1    0\nP    1    2          \nL    1    2    2     \n" refused 8 on 3)
    ∷ ("S    9    2    0    0\nP    1    1          \nP    1               \n" refused 7 on 2)
    ∷ []

numbers_hold : Hold numbers
unfolding numbers of_file accepted plain_line element_line train_line
numbers_hold = refl

-- "A T line holds one to four different sections, filled from the left" (02, Item 2), in a U file: any two of four are 7, and 5 comes first.
long_line : String → String
long_line t = "U    9    0    0    1\nT" ++ t ++ "\n"

long_lines : List (Refusal × Refusal)
unfolding of_file accepted long_line
long_lines =
    (long_line "                    " refused 2 on 2)
    ∷ (accepted (long_line "    9               "))
    ∷ (accepted (long_line "    1    9          "))
    ∷ (accepted (long_line "    1    2    9     "))
    ∷ (accepted (long_line "    1    2    3    9"))
    ∷ (long_line "   10               " refused 5 on 2)
    ∷ (long_line "    1   10          " refused 5 on 2)
    ∷ (long_line "    1    2   10     " refused 5 on 2)
    ∷ (long_line "    1    2    3   10" refused 5 on 2)
    ∷ (long_line "    0    1          " refused 5 on 2)
    ∷ (long_line "    1    0          " refused 5 on 2)
    ∷ (long_line "         1          " refused 2 on 2)
    ∷ (long_line "    1         2     " refused 2 on 2)
    ∷ (long_line "    1    2         3" refused 2 on 2)
    ∷ (long_line "    1    1          " refused 7 on 2)
    ∷ (long_line "    1    2    1     " refused 7 on 2)
    ∷ (long_line "    1    2    2     " refused 7 on 2)
    ∷ (long_line "    1    2    3    1" refused 7 on 2)
    ∷ (long_line "    1    2    3    2" refused 7 on 2)
    ∷ (long_line "    1    2    3    3" refused 7 on 2)
    ∷ (long_line "   10   10          " refused 5 on 2)
    ∷ []

long_lines_hold : Hold long_lines
unfolding long_lines of_file accepted long_line
long_lines_hold = refl
