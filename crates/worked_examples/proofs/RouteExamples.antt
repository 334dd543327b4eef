-- A test of the definitions of Routes, and no definition: station K of 01 with four routes, its table, and the refusals of a few files.
use Rattle.std.specs.Prelude.{◌≡◌, refl, List, [], ◌∷◌, ◌++◌, map, ℕ, take}
use Rattle.meaning.specs.declared.Section.{Section}
use Rattle.meaning.specs.declared.Kind.TheVariants.{Signal, Turnout}
use Rattle.meaning.specs.declared.Letter.TheVariants as letter
use Rattle.meaning.specs.declared.Situation.{Situation}
use Rattle.meaning.specs.Station.{plain_moves, elements_of}
use Rattle.meaning.specs.Columns.{field_at, field_text, row_text, row_at}
use Rattle.basics.specs.Lists.{list_of}
use Rattle.meaning.specs.File.{refusal}
use Rattle.route_meaning.specs.Routes.{
  stood_over,
  sort_at,
  kind_next,
  route_line,
  route_cause,
  after_line,
  refusal_from,
  line_before,
  rest_from,
  routes_read,
  conflict,
  pair_byte,
  table_of,
}

abbrev section : ℕ → Section
section a = record { 0 = a }

-- Station K.
station_k : Situation
station_k =
    record {
      header = record { letter = letter.S; sections = 5; plain = 1; elements = 4; trains = 0 };
      plain = record { from = section 2; to = section 1 } ∷ [];
      elements =
          record { kind = Signal (record { from = section 1; to = section 2 }); state = 1 }
          ∷ record { kind = Turnout (record { stem = section 2; straight = section 3; diverted = section 4 }); state = 0 }
          ∷ record { kind = Signal (record { from = section 3; to = section 5 }); state = 2 }
          ∷ record { kind = Signal (record { from = section 4; to = section 5 }); state = 0 }
          ∷ [];
      trains = [];
    }

-- The lines of a route file.
line_r : ℕ → ℕ → ℕ → ℕ → List ℕ
line_r a e k w = row_text 82 4 a e k w

line_k : ℕ → List ℕ
line_k a = row_text 75 1 a 0 0 0

line_w : ℕ → ℕ → List ℕ
line_w e x = row_text 87 2 e x 0 0

-- 1: sections 1 2 3 with the turnout straight; 2: 1 2 4, diverted; 3: 3 5; 4: 4 5, diverted.
one : List ℕ
one = line_r 1 1 3 1 ++ (line_k 1 ++ (line_k 2 ++ (line_k 3 ++ line_w 2 1)))

two : List ℕ
two = line_r 2 1 3 1 ++ (line_k 1 ++ (line_k 2 ++ (line_k 4 ++ line_w 2 2)))

three : List ℕ
three = line_r 3 3 2 0 ++ (line_k 3 ++ line_k 5)

four : List ℕ
four = line_r 4 4 2 1 ++ (line_k 4 ++ (line_k 5 ++ line_w 2 2))

all : List ℕ
all = one ++ (two ++ (three ++ four))

-- 1 and 4 share no section, and conflict by the turnout alone; 2 and 3 do not conflict.
table_of_k : table_of (routes_read station_k all).routes
    ≡ 0 ∷ 1 ∷ 1 ∷ 1
    ∷ 1 ∷ 0 ∷ 0 ∷ 1
    ∷ 1 ∷ 0 ∷ 0 ∷ 1
    ∷ 1 ∷ 1 ∷ 1 ∷ 0 ∷ []
unfolding station_k line_r line_k line_w one two three four all stood_over sort_at kind_next route_line route_cause after_line refusal_from line_before rest_from routes_read conflict pair_byte table_of list_of plain_moves elements_of field_at field_text row_text row_at
table_of_k = refl

-- Accepted; no route; the last line cut, missing, and one too many; 3 and then 4, which no line stands over, on line 4, and 5 twice;
-- a section outside; an R line that names a turnout; a route that is not the next; state 3; a K line where a W line is due.
files : List (List ℕ)
files =
    all
    ∷ []
    ∷ take 109 one
    ∷ take 88 one
    ∷ (one ++ line_k 1)
    ∷ (line_r 1 1 3 0 ++ (line_k 2 ++ (line_k 3 ++ line_k 4)))
    ∷ (line_r 1 3 2 0 ++ (line_k 5 ++ line_k 5))
    ∷ (line_r 1 3 2 0 ++ (line_k 5 ++ line_k 6))
    ∷ (line_r 1 2 2 0 ++ (line_k 3 ++ line_k 5))
    ∷ (one ++ three)
    ∷ (line_r 1 1 2 1 ++ (line_k 1 ++ (line_k 2 ++ line_w 2 3)))
    ∷ (line_r 1 1 2 1 ++ (line_k 1 ++ (line_k 2 ++ line_k 1)))
    ∷ []

refusals_of_k : map (λ (f : List ℕ). (routes_read station_k f).refusal) files
    ≡ refusal 0 0
    ∷ refusal 0 0
    ∷ refusal 14 5
    ∷ refusal 14 5
    ∷ refusal 14 6
    ∷ refusal 15 4
    ∷ refusal 15 3
    ∷ refusal 14 3
    ∷ refusal 14 1
    ∷ refusal 14 6
    ∷ refusal 14 4
    ∷ refusal 14 4
    ∷ []
unfolding station_k line_r line_k line_w one two three four all files stood_over sort_at kind_next route_line route_cause after_line refusal_from line_before rest_from routes_read plain_moves elements_of field_at field_text row_text row_at
refusals_of_k = refl
