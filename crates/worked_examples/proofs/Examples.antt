-- The starred examples of 01, K1 to K8, and its printed file and key, as one table of the definitions: `station_k_lem` says that what the
-- definitions give is what 01 prints. A path that 01 prints is given back where a verdict may show it: it is a path of its train from
-- the train's section to the meeting section, with no section twice. Rows and files that are not in 01 are marked as ours.
use Rattle.std.specs.Prelude.{Option, Some, None, ◌≡◌, refl, Bool, true, false, cond, List, [], ◌∷◌, map, ℕ, length, get_or}
use Rattle.std.proofs.Common.{sym}
use Rattle.std.proofs.lemmas.Bool.{false≢true}
use Prim.Native.Char.{code}
use Prim.Native.String as text
use Prim.Native.String.{String, ◌++◌}
use Rattle.meaning.specs.declared.Move.{Move}
use Rattle.meaning.specs.declared.Kind.TheVariants.{Signal, Turnout}
use Rattle.meaning.specs.declared.Letter.{Letter}
use Rattle.meaning.specs.declared.Letter.TheVariants as letter
use Rattle.meaning.specs.declared.Train.{Train}
use Rattle.meaning.specs.declared.Situation.{Situation}
use Rattle.meaning.specs.declared.Counts.{Counts}
use Rattle.meaning.specs.declared.Meeting.{Meeting}
use Rattle.meaning.specs.declared.Verdict.{Verdict}
use Rattle.meaning.specs.declared.Verdict.TheVariants.{Safe, Dangerous}
use Rattle.meaning.specs.declared.Choice.{Choice}
use Rattle.meaning.specs.Station.{section, file_states, moves, permitted}
use Rattle.basics.specs.Numbers.{lowest}
use Rattle.meaning.specs.Verdict.{leads, verdict, shows}
use Rattle.meaning.specs.Settings.{open_count, settings, reply, chosen}
use Rattle.meaning.specs.Columns.{field_at, record_kind_at, well_formed, line_at, row_text, field_text, having}
use Rattle.basics.specs.Lists.{list_of, pad_to}
use Rattle.meaning.specs.File.{Reading, pairs_of, closed_to, clashes, line_cause, cause_after, refusal, first_refusal, refusal_of, situation_of, kind_at, file_line_in, no_situation, refused, reading_under_in, reading_in, reading, up_to_counts}
use Rattle.meaning.specs.Operations.{open_element, call_refusal, verdict_refusal}
use Rattle.meaning.specs.Drawing.{drawn}
use Rattle.meaning.specs.Key.{path_lines, element_lines, key_refusal, KeyText}

-- A train of these sections.
train : List ℕ → Train
train xs =
    record {
      count = length xs;
      first = section (get_or xs 0 0);
      second = section (get_or xs 1 0);
      third = section (get_or xs 2 0);
      fourth = section (get_or xs 3 0);
    }

-- Station K under a letter, with the states of its four elements and the sections of its trains.
long_k : Letter → ℕ → ℕ → ℕ → ℕ → List (List ℕ) → Situation
unfolding train
long_k u w x y z ts =
    record {
      header = record { letter = u; sections = 5; plain = 1; elements = 4; trains = length ts };
      plain = record { from = section 2; to = section 1 } ∷ [];
      elements =
          record { kind = Signal (record { from = section 1; to = section 2 }); state = w }
          ∷ record { kind = Turnout (record { stem = section 2; straight = section 3; diverted = section 4 }); state = x }
          ∷ record { kind = Signal (record { from = section 3; to = section 5 }); state = y }
          ∷ record { kind = Signal (record { from = section 4; to = section 5 }); state = z }
          ∷ [];
      trains = map train ts;
    }

-- Station K under S, where each train has one section.
unfoldable pub station_k : ℕ → ℕ → ℕ → ℕ → List ℕ → Situation
unfolding long_k
station_k w x y z ts = long_k letter.S w x y z (map (λ (a : ℕ). a ∷ []) ts)

-- Entries and looks, where 01 gives them.
data Printed : Type 0 where
  counted : ℕ → ℕ → Printed
  unsaid : Printed

-- The two paths, likewise.
data Paths : Type 0 where
  paths : List ℕ → List ℕ → Paths
  unshown : Paths

-- What 01 says of an example.
data Says : Type 0 where
  is_safe : Printed → Says
  -- trains i and j, meeting section
  is_dangerous : ℕ → ℕ → ℕ → Printed → Paths → Says
  no_safe_setting : Says
  -- number of safe settings, of how many, proceed count, the setting shown
  shown_setting : ℕ → ℕ → ℕ → List ℕ → Says

record Example : Type 0 where
  station : Situation
  says : Says

infix 20 ◌says◌
abbrev ◌says◌ : Situation → Says → Example
s says x = record { station = s; says = x }

table : List Example
unfolding station_k
table =
    (station_k 1 1 1 1 (1 ∷ 4 ∷ []) says is_dangerous 1 2 5 (counted 6 6) (paths (1 ∷ 2 ∷ 3 ∷ 5 ∷ []) (4 ∷ 5 ∷ [])))
    ∷ (station_k 1 1 1 2 (1 ∷ 4 ∷ []) says is_safe (counted 5 5))
    ∷ (station_k 2 2 2 2 (1 ∷ 4 ∷ []) says is_dangerous 1 2 1 unsaid (paths (1 ∷ []) (4 ∷ 2 ∷ 1 ∷ [])))
    ∷ (station_k 1 1 1 2 (3 ∷ 3 ∷ []) says is_dangerous 1 2 1 (counted 8 10) (paths (3 ∷ 2 ∷ 1 ∷ []) (3 ∷ 2 ∷ 1 ∷ [])))
    ∷ (station_k 1 1 1 1 (5 ∷ 1 ∷ 4 ∷ []) says is_dangerous 1 2 5 (counted 5 5) unshown)
    ∷ (station_k 0 0 0 0 (1 ∷ 4 ∷ []) says shown_setting 7 16 2 (1 ∷ 1 ∷ 1 ∷ 2 ∷ []))
    ∷ (station_k 0 0 0 0 [] says shown_setting 16 16 3 (1 ∷ 1 ∷ 1 ∷ 1 ∷ []))
    ∷ (station_k 0 0 0 0 (3 ∷ 3 ∷ []) says no_safe_setting)
    -- ours: a fixed signal at 1 adds nothing
    ∷ (station_k 1 0 0 2 [] says shown_setting 4 4 1 (1 ∷ 1 ∷ 1 ∷ 2 ∷ []))
    ∷ []

-- ---- a signal at the points themselves (02, Item 3): ours
-- Turnout 2, 3, 4 with a signal over stem to straight leg.
unfoldable at_points : ℕ → ℕ → List ℕ → Situation
unfolding train
at_points signal turnout ts =
    record {
      header = record { letter = letter.S; sections = 4; plain = 0; elements = 2; trains = length ts };
      plain = [];
      elements =
          record { kind = Signal (record { from = section 2; to = section 3 }); state = signal }
          ∷ record { kind = Turnout (record { stem = section 2; straight = section 3; diverted = section 4 }); state = turnout }
          ∷ [];
      trains = map (λ (a : ℕ). train (a ∷ [])) ts;
    }

-- The states of signal and turnout, and whether 2 to 3, 3 to 2, 2 to 4 and 4 to 2 are permitted. The signal at stop forbids the leg that the
-- turnout is set to; at 1 it does not permit a leg that is not set; the way back, over which no signal stands, goes by the turnout alone. With
-- either open the pair under both is not permitted.
record Legs : Type 0 where
  signal : ℕ
  turnout : ℕ
  permits : List Bool

infix 20 ◌over◌permits◌
abbrev ◌over◌permits◌ : ℕ → ℕ → List Bool → Legs
x over y permits l = record { signal = x; turnout = y; permits = l }

legs : List Legs
legs =
    (1 over 1 permits (true ∷ true ∷ false ∷ false ∷ []))
    ∷ (1 over 2 permits (false ∷ false ∷ true ∷ true ∷ []))
    ∷ (2 over 1 permits (false ∷ true ∷ false ∷ false ∷ []))
    ∷ (2 over 2 permits (false ∷ false ∷ true ∷ true ∷ []))
    ∷ (0 over 1 permits (false ∷ true ∷ false ∷ false ∷ []))
    ∷ (1 over 0 permits (false ∷ false ∷ false ∷ false ∷ []))
    ∷ []

legs_permitted : Legs → List Bool
unfolding at_points moves file_states
legs_permitted l =
    let s : Situation = at_points l.signal l.turnout [] in
    let ms : List Move = moves s (file_states s) in
    permitted ms 2 3 ∷ permitted ms 3 2 ∷ permitted ms 2 4 ∷ permitted ms 4 2 ∷ []

-- A train in 2 with both at 1 looks at two moves: 2 to 3 is one, under two lines. Trains in 2 and 3 meet where the turnout is set to 3, whatever
-- the signal says, as the way back is free. With trains in 2 and 4 the turnout must be set to 3; the signal is then free, and at 1 it counts. It
-- counts too over a leg that is not set, by an open or by a fixed turnout.
points_table : List Example
unfolding at_points
points_table =
    (at_points 1 1 (2 ∷ []) says is_safe (counted 2 2))
    ∷ (at_points 2 1 (2 ∷ []) says is_safe (counted 1 0))
    ∷ (at_points 1 2 (2 ∷ []) says is_safe (counted 2 2))
    ∷ (at_points 2 1 (3 ∷ []) says is_safe (counted 2 1))
    ∷ (at_points 2 1 (2 ∷ 3 ∷ []) says is_dangerous 1 2 2 (counted 3 1) (paths (2 ∷ []) (3 ∷ 2 ∷ [])))
    ∷ (at_points 0 0 (2 ∷ 4 ∷ []) says shown_setting 2 4 1 (1 ∷ 1 ∷ []))
    ∷ (at_points 0 0 (2 ∷ 3 ∷ []) says shown_setting 2 4 1 (1 ∷ 2 ∷ []))
    ∷ (at_points 0 2 (2 ∷ 3 ∷ []) says shown_setting 2 2 1 (1 ∷ 2 ∷ []))
    ∷ []

-- Ours, of long trains (02, Item 2): a train whose sections reach each other, alone; a section that both its sections reach is counted once; a
-- path from the first section, and from the second; two trains that share a section of their standing; trains that do not meet; settings.
long_table : List Example
unfolding long_k
long_table =
    (long_k letter.U 2 1 2 2 ((2 ∷ 3 ∷ []) ∷ []) says is_safe (counted 3 3))
    ∷ (long_k letter.U 1 1 1 1 ((1 ∷ 4 ∷ []) ∷ []) says is_safe (counted 5 6))
    ∷ (long_k letter.U 1 1 1 2 ((1 ∷ 4 ∷ []) ∷ (5 ∷ []) ∷ []) says is_dangerous 1 2 5 (counted 6 5) (paths (1 ∷ 2 ∷ 3 ∷ 5 ∷ []) (5 ∷ [])))
    ∷ (long_k letter.U 2 1 2 1 ((1 ∷ 4 ∷ []) ∷ (5 ∷ []) ∷ []) says is_dangerous 1 2 5 (counted 4 1) (paths (4 ∷ 5 ∷ []) (5 ∷ [])))
    ∷ (long_k letter.U 2 1 2 2 ((1 ∷ 4 ∷ []) ∷ (5 ∷ 4 ∷ []) ∷ []) says is_dangerous 1 2 4 (counted 4 0) (paths (4 ∷ []) (4 ∷ [])))
    ∷ (long_k letter.U 2 2 2 2 ((1 ∷ 2 ∷ 4 ∷ []) ∷ (3 ∷ 5 ∷ []) ∷ []) says is_safe (counted 5 3))
    ∷ (long_k letter.U 0 0 0 0 ((1 ∷ 2 ∷ []) ∷ (4 ∷ []) ∷ []) says shown_setting 6 16 2 (1 ∷ 1 ∷ 1 ∷ 2 ∷ []))
    ∷ (long_k letter.U 0 0 0 0 ((1 ∷ 2 ∷ 3 ∷ 4 ∷ []) ∷ (4 ∷ []) ∷ []) says no_safe_setting)
    ∷ []

-- ---- what the definitions give, in the same form
counts : Printed → Counts → Printed
counts (counted e l) c = counted c.entries c.looks
counts unsaid c = unsaid

-- The paths, each given back where the verdict may show it.
shown : Situation → Meeting → Paths → Paths
unfolding shows file_states
shown s m (paths p q) =
    let path : ℕ → List ℕ → List ℕ = λ t l. cond (shows s (file_states s) t m.section.0 l) l [] in
    paths (path m.first.0 p) (path m.second.0 q)
shown s m unshown = unshown

judged : Situation → Printed → Paths → Verdict → Says
unfolding counts shown
judged s n p (Safe c) = is_safe (counts n c)
judged s n p (Dangerous m c) = is_dangerous m.first.0 m.second.0 m.section.0 (counts n c) (shown s m p)

replied : Situation → Option Choice → Says
unfolding settings chosen file_states
replied s None = no_safe_setting
replied s (Some c) = shown_setting c.safe (length (settings (file_states s))) c.proceed (chosen s)

abbrev found : Situation → Says → Says
unfolding judged replied verdict reply file_states
found s (is_safe n) = judged s n unshown (verdict s (file_states s))
found s (is_dangerous i j k n p) = judged s n p (verdict s (file_states s))
found s no_safe_setting = replied s (reply s)
found s (shown_setting n m p σ) = replied s (reply s)

-- ---- files and keys as they are printed
unfoldable pub bytes : String → List ℕ
bytes text.[] = []
bytes (text.◌∷◌ c t) = code c ∷ bytes t

-- The printed station, with another last line too, and its key. Unused fields are spaces.
file_with : String → String
file_with last =
    "S    5    1    4    2\n"
    ++ "P    2    1          \n"
    ++ "L    1    2    1     \n"
    ++ "D    2    3    4    1\n"
    ++ "L    3    5    1     \n"
    ++ "L    4    5    1     \n"
    ++ "T    1               \n"
    ++ last

unfoldable pub file_k : String
unfolding file_with
file_k = file_with "T    4               \n"

key_k : String
key_k =
    "V    1    6    6    5\n"
    ++ "A    1    1          \n"
    ++ "A    1    2          \n"
    ++ "A    1    3          \n"
    ++ "A    1    5          \n"
    ++ "B    2    4          \n"
    ++ "B    2    5          \n"

-- K6: "all open: 7 safe of 16; shown 1 1 1 2, proceed count 2". The bytes of its file and key are ours.
file_k6 : String
file_k6 =
    "S    5    1    4    2\n"
    ++ "P    2    1          \n"
    ++ "L    1    2    0     \n"
    ++ "D    2    3    4    0\n"
    ++ "L    3    5    0     \n"
    ++ "L    4    5    0     \n"
    ++ "T    1               \n"
    ++ "T    4               \n"

key_k6 : String
key_k6 =
    "Q    1    7    2     \n"
    ++ "E    1    1          \n"
    ++ "E    2    1          \n"
    ++ "E    3    1          \n"
    ++ "E    4    2          \n"

-- "T 6 is refusal 5". The bytes of the key are ours.
file_t6 : String
unfolding file_with
file_t6 = file_with "T    6               \n"

key_t6 : String
key_t6 = "R    5    8          \n"

-- Files and the refusal of each, number 0 where it is accepted: ours.
record Refuses : Type 0 where
  file : String
  number : ℕ
  line : ℕ

infix 20 ◌gives◌on◌
abbrev ◌gives◌on◌ : String → ℕ → ℕ → Refuses
f gives q on l = record { file = f; number = q; line = l }

-- A turnout 1, 2, 3 after a P line over one pair.
turnout_after : String → String
turnout_after pair = "S    3    1    1    0\n" ++ ("P" ++ pair ++ "          \n") ++ "D    1    2    3    0\n"

-- A file of one train in a station of five sections, under a letter.
one_train : String → String → String
one_train letter sections = letter ++ "    5    0    0    1\n" ++ "T" ++ sections ++ "\n"

-- Two and three lines over the pair 1 to 2 (02, Item 3): a signal and a turnout may stand over it together, in either order.
elements_over : String → String → String
elements_over x y = "S    3    0    2    0\n" ++ x ++ y

third_over : String → String → String → String
third_over x y z = "S    3    0    3    0\n" ++ x ++ y ++ z

line_l : String
line_l = "L    1    2    1     \n"

line_d : String
line_d = "D    1    2    3    0\n"

-- This turnout stands over 1 to 2 as the way back to its stem.
line_back : String
line_back = "D    2    3    1    2\n"

refusals : List Refuses
unfolding turnout_after one_train elements_over third_over line_l line_d line_back
refusals =
    ("" gives 1 on 0)
    ∷ ("S    1    0    0    0" gives 1 on 0)
    ∷ ("P    1    2          \n" gives 2 on 1)
    ∷ ("S    1    0    0     \n" gives 2 on 1)
    ∷ ("S  512    0    0    0\n" gives 0 on 0)
    ∷ ("S  513    0    0    0\n" gives 3 on 1)
    ∷ ("S    0    0    0    0\n" gives 3 on 1)
    ∷ ("S    1 1025    0    0\n" gives 3 on 1)
    ∷ ("S    1    0  257    0\n" gives 3 on 1)
    ∷ ("S    1    0    0   65\n" gives 3 on 1)
    ∷ ("S    1    0    0    1\n" gives 4 on 1)
    ∷ (("S    2    1    0    0\n" ++ "L    1    2    1     \n") gives 2 on 2)
    ∷ (("S    2    1    0    0\n" ++ "P    3    3          \n") gives 5 on 2)
    ∷ (("S    2    0    0    1\n" ++ "T    0               \n") gives 5 on 2)
    ∷ (("S    2    0    1    0\n" ++ "L    1    1    3     \n") gives 7 on 2)
    ∷ (("S    2    0    1    0\n" ++ "D    1    2    2    0\n") gives 7 on 2)
    ∷ (("S    2    0    1    0\n" ++ "L    1    2    3     \n") gives 6 on 2)
    ∷ (("S    3    0    1    0\n" ++ "D    1    2    3    3\n") gives 6 on 2)
    ∷ (("S    2    1    1    0\n" ++ "P    1    2          \n" ++ "L    1    2    0     \n") gives 8 on 3)
    ∷ (("S    2    1    1    0\n" ++ "P    2    1          \n" ++ "L    1    2    0     \n") gives 0 on 0)
    ∷ (turnout_after "    1    2" gives 8 on 3)
    ∷ (turnout_after "    2    1" gives 8 on 3)
    ∷ (turnout_after "    1    3" gives 8 on 3)
    ∷ (turnout_after "    3    1" gives 8 on 3)
    ∷ (turnout_after "    2    3" gives 0 on 0)
    -- 02, Item 2: "refusals 2 and 7 now cover a gap and a repeat in a T line of a U file"
    ∷ (one_train "U" "    1    2    3    5" gives 0 on 0)
    ∷ (one_train "U" "    1               " gives 0 on 0)
    ∷ (one_train "S" "    1    2          " gives 2 on 2)
    ∷ (one_train "U" "                    " gives 2 on 2)
    ∷ (one_train "U" "         1          " gives 2 on 2)
    ∷ (one_train "U" "    1         9     " gives 2 on 2)
    ∷ (one_train "U" "    1    1    6     " gives 5 on 2)
    ∷ (one_train "U" "    1    2    1     " gives 7 on 2)
    ∷ (one_train "U" "    4    2    1    4" gives 7 on 2)
    ∷ ("U  513    0    0    0\n" gives 3 on 1)
    ∷ ("U    1    0    0    1\n" gives 4 on 1)
    ∷ (("S    2    2    0    0\n" ++ "P    1    2          \n" ++ "P    1    2          \n") gives 8 on 3)
    ∷ (elements_over line_l line_l gives 8 on 3)
    ∷ (elements_over line_d line_back gives 8 on 3)
    ∷ (elements_over line_l line_d gives 0 on 0)
    ∷ (elements_over line_d line_l gives 0 on 0)
    ∷ (elements_over line_l line_back gives 0 on 0)
    ∷ (third_over line_l line_d line_l gives 8 on 4)
    ∷ (third_over line_d line_l line_back gives 8 on 4)
    ∷ []

-- Drawings for K1, trains 1 and 2 in sections 1 and 4 (02, Item 1): ours. Right are the paths that 01 prints, the same with a section twice, and
-- the other order. Wrong are one train twice, empty lists, another start, a move that is not permitted, two ends, a number that no section has.
record Drawing : Type 0 where
  i : ℕ
  j : ℕ
  first : List ℕ
  second : List ℕ
  right : Bool

infix 20 ◌with◌and◌with◌is◌
abbrev ◌with◌and◌with◌is◌ : ℕ → List ℕ → ℕ → List ℕ → Bool → Drawing
i with p and j with q is b = record { i = i; j = j; first = p; second = q; right = b }

drawings : List Drawing
drawings =
    (1 with (1 ∷ 2 ∷ 3 ∷ 5 ∷ []) and 2 with (4 ∷ 5 ∷ []) is true)
    ∷ (1 with (1 ∷ 2 ∷ 1 ∷ 2 ∷ 3 ∷ 5 ∷ []) and 2 with (4 ∷ 5 ∷ []) is true)
    ∷ (2 with (4 ∷ 5 ∷ []) and 1 with (1 ∷ 2 ∷ 3 ∷ 5 ∷ []) is true)
    ∷ (1 with (1 ∷ []) and 1 with (1 ∷ []) is false)
    ∷ (1 with [] and 2 with [] is false)
    ∷ (1 with (2 ∷ 3 ∷ 5 ∷ []) and 2 with (4 ∷ 5 ∷ []) is false)
    ∷ (1 with (1 ∷ 2 ∷ []) and 2 with (4 ∷ 2 ∷ []) is false)
    ∷ (1 with (1 ∷ 2 ∷ []) and 2 with (4 ∷ 5 ∷ []) is false)
    ∷ (1 with (1 ∷ 0 ∷ []) and 2 with (4 ∷ 0 ∷ []) is false)
    ∷ []

marked : Drawing → Bool
unfolding station_k drawn leads file_states
marked d = let s : Situation = station_k 1 1 1 1 (1 ∷ 4 ∷ []) in drawn s (file_states s) d.i d.j d.first d.second

-- What the definitions give, open to computation.
unfoldable pub read : String → Reading
unfolding bytes reading_in reading_under_in refused no_situation line_at well_formed field_at record_kind_at file_line_in kind_at refusal_of first_refusal cause_after line_cause closed_to
    clashes pairs_of having situation_of list_of pad_to
read t = reading (bytes t)

-- ---- the theorem
record AsPrinted : Type 0 where
  -- K1 to K8
  answers : map (λ (x : Example). found x.station x.says) table ≡ map (λ (x : Example). x.says) table
  long_trains : map (λ (x : Example). found x.station x.says) long_table ≡ map (λ (x : Example). x.says) long_table
  -- the printed file is station K, with zeros past its counts
  file : read file_k ≡ record { refusal = refusal 0 0; situation = up_to_counts (station_k 1 1 1 1 (1 ∷ 4 ∷ [])) }
  refused : map (λ (x : Refuses). (read x.file).refusal) refusals ≡ map (λ (x : Refuses). refusal x.number x.line) refusals
  -- ours: signals at the points
  at_points_lem : map (λ (x : Example). found x.station x.says) points_table ≡ map (λ (x : Example). x.says) points_table
  legs_permitted_lem : map legs_permitted legs ≡ map (λ (l : Legs). l.permits) legs
  -- ours: the first open element of K6 is in line 3
  open_line : verdict_refusal (bytes file_k6) 5 5 ≡ refusal 10 3
  drawn_k : map marked drawings ≡ map (λ (d : Drawing). d.right) drawings
  -- the keys, byte for byte
  key_k_lem : KeyText (bytes file_k) (bytes key_k)
  key_k6_lem : KeyText (bytes file_k6) (bytes key_k6)
  key_t6_lem : KeyText (bytes file_t6) (bytes key_t6)

station_k_lem : AsPrinted
unfolding found table long_table points_table legs legs_permitted drawings marked read file_k key_k file_k6 key_k6 file_t6 key_t6 refusals up_to_counts station_k long_k open_count lowest verdict_refusal call_refusal open_element key_refusal row_text field_text
    path_lines element_lines
station_k_lem =
    record {
      answers = refl;
      long_trains = refl;
      file = refl;
      refused = refl;
      at_points_lem = refl;
      legs_permitted_lem = refl;
      open_line = refl;
      drawn_k = refl;
      key_k_lem =
          record {
            refused = λ e. absurd (false≢true (sym e));
            asked = λ e o. absurd (false≢true (sym o));
            judged = λ e o. (1 ∷ 2 ∷ 3 ∷ 5 ∷ [], 4 ∷ 5 ∷ [], refl, refl, refl);
          };
      key_k6_lem = record { refused = λ e. absurd (false≢true (sym e)); asked = λ e o. refl; judged = λ e o. absurd (false≢true o) };
      key_t6_lem = record { refused = λ e. refl; asked = λ e o. absurd (false≢true e); judged = λ e o. absurd (false≢true e) };
    }
