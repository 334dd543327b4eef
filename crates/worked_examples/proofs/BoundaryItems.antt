-- Boundaries of 02, Items 1, 4, 5 and 7 to 9. All rows are ours.
use Rattle.std.specs.Prelude.{refl, Result, Ok, Err, Bool, true, false, List, [], ◌∷◌, ◌++◌, ℕ, replicate, take}
use Prim.Native.String.{String}
use Rattle.meaning.specs.declared.Letter.TheVariants as letter
use Rattle.meaning.specs.declared.Situation.{Situation}
use Rattle.meaning.specs.declared.Refusal.{Refusal}
use Rattle.session_meaning.specs.declared.Mark.{Mark}
use Rattle.meaning.specs.Station.{plain_moves, elements_of, file_states, standing}
use Rattle.basics.specs.Numbers.{lowest}
use Rattle.meaning.specs.Settings.{open_count}
use Rattle.meaning.specs.Columns.{field_at, record_kind_at, well_formed, line_at, having, row_at, row_text, field_text}
use Rattle.basics.specs.Lists.{list_of, pad_to}
use Rattle.meaning.specs.File.{
  refusal,
  pairs_of,
  closed_to,
  clashes,
  line_cause,
  cause_after,
  first_refusal,
  refusal_of,
  situation_of,
  kind_at,
  file_line_in,
  no_situation,
  refused,
  reading_under_in,
  reading_in,
}
use Rattle.meaning.specs.Operations.{open_element, call_refusal}
use Rattle.meaning.specs.Drawing.{drawing_refusal}
use Rattle.meaning.specs.Digits.{low_sum, digit_sum, row_sum, printed_sum}
use Rattle.file_meaning.specs.Converter.{with_letter, first_long, conversion_refusal, after_conversion}
use Rattle.route_meaning.specs.Routes.{
  Route,
  Want,
  Progress,
  routes_text,
  stood_over,
  sort_at,
  kind_next,
  route_line,
  route_cause,
  after_line,
  refusal_from,
  line_before,
  rest_from,
  routes_read,
  conflict,
  pair_byte,
  table_of,
  routes_refusal,
  routes_answer,
  after_routes,
}
use Rattle.session_meaning.specs.Answers.{
  is_c,
  sent_at,
  in_range,
  seen,
  superseded,
  right,
  log_cause_at,
  first_wrong_line,
  cut_or_long,
  log_refusal,
  stands,
  enter_answer,
  standing_of,
  sent_lines,
  answers_text,
  standing_refusal,
  standing_answer,
  after_standing,
  claimed,
}
use Rattle.session_meaning.specs.Answers as answers
use Rattle.session_meaning.specs.Report as report
use Rattle.session_meaning.specs.Report.{
  right_mark,
  marks_refusal,
  sum_of,
  totals,
  totals_text,
  session_text,
  report_text,
  report_length,
  report_refusal,
  report_answer,
  after_report,
}
use Rattle.worked_examples.proofs.Boundary.{◌is◌, Hold, lines, opened, file_k, file_k6}

-- ---- Item 1
-- "It refuses an open element with 10 as the verdict does, and after that with 12 a train number of 0 or above the number of trains": station K has two
-- trains.
drawings : List (Refusal × Refusal)
drawings =
    (drawing_refusal file_k 1 2 is refusal 0 0)
    ∷ (drawing_refusal file_k 2 2 is refusal 0 0)
    ∷ (drawing_refusal file_k 0 2 is refusal 12 0)
    ∷ (drawing_refusal file_k 1 0 is refusal 12 0)
    ∷ (drawing_refusal file_k 3 1 is refusal 12 0)
    ∷ (drawing_refusal file_k 1 3 is refusal 12 0)
    ∷ (drawing_refusal file_k6 0 3 is refusal 10 3)
    ∷ []

drawings_hold : Hold drawings
unfolding drawings file_k file_k6 lines drawing_refusal call_refusal open_element open_count lowest file_states
    reading_in reading_under_in refused no_situation line_at well_formed field_at record_kind_at file_line_in kind_at refusal_of first_refusal cause_after line_cause closed_to
    clashes pairs_of having situation_of list_of pad_to
drawings_hold = refl

-- ---- Item 4
-- "For every number up to 99999 they are exactly the sum of its digits": of a number, of the two filled fields of a line, and of printed bytes: 49 to 57 count 1 to 9.
digit_sums : List (ℕ × ℕ)
digit_sums =
    (digit_sum 0 is 0)
    ∷ (digit_sum 9 is 9)
    ∷ (digit_sum 10 is 1)
    ∷ (digit_sum 12345 is 15)
    ∷ (digit_sum 90009 is 18)
    ∷ (digit_sum 99999 is 45)
    ∷ (row_sum 2 12 99999 7 7 is 48)
    ∷ (row_sum 4 1 20 300 4000 is 10)
    ∷ (printed_sum (field_text 90210) is 12)
    ∷ (printed_sum (47 ∷ 48 ∷ 49 ∷ []) is 1)
    ∷ (printed_sum (56 ∷ 57 ∷ 58 ∷ []) is 17)
    ∷ (printed_sum (0 ∷ 10 ∷ 32 ∷ 65 ∷ 255 ∷ []) is 0)
    ∷ []

digit_sums_hold : Hold digit_sums
unfolding digit_sums digit_sum low_sum row_sum printed_sum field_text
digit_sums_hold = refl

-- ---- Item 5
-- "A U file with a train in more than one section, giving the line of the first such train": train 2 of three, below one P line and one element. "Before 9
-- (22 bytes a line)". The way to U has no 13.
three_trains : List ℕ
unfolding lines
three_trains =
    lines
    ("U    9    1    1    3" ∷ "P    1    2          " ∷ "L    3    4    0     " ∷ "T    5               " ∷ "T    6    7          " ∷ "T    8    9          "
    ∷ [])

no_train_u : List ℕ
unfolding lines
no_train_u = lines ("U    1    0    0    0" ∷ [])

no_train_s : List ℕ
unfolding lines
no_train_s = lines ("S    1    0    0    0" ∷ [])

conversions : List (Refusal × Refusal)
conversions =
    (conversion_refusal letter.S three_trains 131 is refusal 13 5)
    ∷ (conversion_refusal letter.U three_trains 132 is refusal 0 0)
    ∷ (conversion_refusal letter.U three_trains 131 is refusal 9 0)
    ∷ (conversion_refusal letter.S no_train_u 22 is refusal 0 0)
    ∷ (conversion_refusal letter.S no_train_u 21 is refusal 9 0)
    ∷ (conversion_refusal letter.S no_train_s 21 is refusal 9 0)
    ∷ []

conversions_hold : Hold conversions
unfolding conversions three_trains no_train_u no_train_s lines conversion_refusal first_long lowest standing
    reading_in reading_under_in refused no_situation line_at well_formed field_at record_kind_at file_line_in kind_at refusal_of first_refusal cause_after line_cause closed_to
    clashes pairs_of having situation_of list_of pad_to
conversions_hold = refl

-- "Changes the first letter and nothing else"; "lent memory past what an operation writes keeps its content. .. A refusal leaves all lent memory unchanged."
converted : List (List ℕ × List ℕ)
converted =
    (after_conversion letter.S no_train_u (replicate 22 0 ++ (1 ∷ 2 ∷ 3 ∷ [])) is (no_train_s ++ (1 ∷ 2 ∷ 3 ∷ [])))
    ∷ (after_conversion letter.U no_train_s (replicate 22 0 ++ (1 ∷ 2 ∷ 3 ∷ [])) is (no_train_u ++ (1 ∷ 2 ∷ 3 ∷ [])))
    ∷ (after_conversion letter.S no_train_s (replicate 22 0) is no_train_s)
    ∷ (after_conversion letter.S no_train_u (replicate 21 7) is replicate 21 7)
    ∷ []

converted_hold : Hold converted
unfolding converted no_train_u no_train_s lines after_conversion with_letter conversion_refusal first_long lowest standing
    reading_in reading_under_in refused no_situation line_at well_formed field_at record_kind_at file_line_in kind_at refusal_of first_refusal cause_after line_cause closed_to
    clashes pairs_of having situation_of list_of pad_to
converted_hold = refl

-- ---- Item 7
-- Ten sections, a line of each sort; element 1 is a signal, element 2 a turnout.
station_file : List ℕ
unfolding lines
station_file = lines ("S   10    1    2    0" ∷ "P    1    2          " ∷ "L    3    4    0     " ∷ "D    5    6    7    2" ∷ [])

station : Situation
unfolding opened station_file
station = (opened station_file).situation

route_refusal : List ℕ → Refusal
unfolding station routes_read refusal_from line_before rest_from route_line route_cause kind_next after_line sort_at elements_of stood_over plain_moves row_at field_at
route_refusal file = (routes_read station file).refusal

-- A route of two sections.
along : String → String → Refusal
unfolding route_refusal lines
along a b = route_refusal (lines ("R    1    1    2    0" ∷ a ∷ b ∷ []))

-- "15, at the second's line, two consecutive sections whose ordered pair, first to second, no station line stands over": with and against a line of each
-- sort, in any state. "14 a number outside .. the station", "on one line 14 before 15".
steps : List (Refusal × Refusal)
unfolding along
steps =
    (along "K    1               " "K    2               " is refusal 0 0)
    ∷ (along "K    2               " "K    1               " is refusal 15 3)
    ∷ (along "K    3               " "K    4               " is refusal 0 0)
    ∷ (along "K    4               " "K    3               " is refusal 15 3)
    ∷ (along "K    5               " "K    6               " is refusal 0 0)
    ∷ (along "K    6               " "K    5               " is refusal 0 0)
    ∷ (along "K    5               " "K    7               " is refusal 0 0)
    ∷ (along "K    7               " "K    5               " is refusal 0 0)
    ∷ (along "K    6               " "K    7               " is refusal 15 3)
    ∷ (along "K    7               " "K    6               " is refusal 15 3)
    ∷ (along "K    1               " "K    1               " is refusal 15 3)
    ∷ (along "K   10               " "K    1               " is refusal 15 3)
    ∷ (along "K    1               " "K   10               " is refusal 15 3)
    ∷ (along "K   11               " "K    1               " is refusal 14 2)
    ∷ (along "K    1               " "K   11               " is refusal 14 3)
    ∷ (along "K    0               " "K    1               " is refusal 14 2)
    ∷ []

steps_hold : Hold steps
unfolding steps along
steps_hold = refl

-- "A line R (route number, element number of its start signal, number of sections, number of turnouts) .. Limits are 0 to 64 routes numbered from 1 upwards in
-- file order, 2 to 32 sections and 0 to 16 turnouts a route"; "a number outside these limits or the station, or an R or W line that names an element of the
-- wrong sort": the cause of an R line after so many routes; of a W line (element, state 1 or 2).
after_routes_of : ℕ → Progress
after_routes_of n = record { routes = n; sections = 0; turnouts = 0; last = 0 }

r_line : ℕ → ℕ → ℕ → ℕ → ℕ → ℕ
unfolding station route_cause sort_at elements_of after_routes_of
r_line n a e k w = route_cause station (after_routes_of n) (record { kind = 0; first = a; second = e; third = k; fourth = w })

w_line : ℕ → ℕ → ℕ
unfolding station route_cause sort_at elements_of after_routes_of
w_line e x = route_cause station (after_routes_of 1) (record { kind = 2; first = e; second = x; third = 0; fourth = 0 })

route_numbers : List (ℕ × ℕ)
unfolding r_line w_line
route_numbers =
    (r_line 0 1 1 2 0 is 0)
    ∷ (r_line 0 0 1 2 0 is 14)
    ∷ (r_line 0 2 1 2 0 is 14)
    ∷ (r_line 1 1 1 2 0 is 14)
    ∷ (r_line 63 64 1 2 0 is 0)
    ∷ (r_line 64 65 1 2 0 is 14)
    ∷ (r_line 0 1 0 2 0 is 14)
    ∷ (r_line 0 1 2 2 0 is 14)
    ∷ (r_line 0 1 3 2 0 is 14)
    ∷ (r_line 0 1 1 1 0 is 14)
    ∷ (r_line 0 1 1 32 0 is 0)
    ∷ (r_line 0 1 1 33 0 is 14)
    ∷ (r_line 0 1 1 2 16 is 0)
    ∷ (r_line 0 1 1 2 17 is 14)
    ∷ (w_line 0 1 is 14)
    ∷ (w_line 1 1 is 14)
    ∷ (w_line 2 0 is 14)
    ∷ (w_line 2 1 is 0)
    ∷ (w_line 2 2 is 0)
    ∷ (w_line 2 3 is 14)
    ∷ (w_line 3 1 is 14)
    ∷ []

route_numbers_hold : Hold route_numbers
unfolding route_numbers r_line w_line
route_numbers_hold = refl

-- "It refuses with 14 a line of another form or with the wrong letter for its place .. A cut line is 14 there, a missing one 14 with the line it would have
-- had." Lines of two routes; "route files .. keep the old form" (Item 13).
one : List ℕ
unfolding lines
one = lines ("R    1    1    2    1" ∷ "K    1               " ∷ "K    2               " ∷ "W    2    1          " ∷ [])

two : List ℕ
unfolding lines
two = lines ("R    2    1    2    1" ∷ "K    3               " ∷ "K    4               " ∷ "W    2    2          " ∷ [])

last_line : String → Refusal
unfolding route_refusal lines
last_line w = route_refusal (lines ("R    1    1    2    1" ∷ "K    1               " ∷ "K    2               " ∷ w ∷ []))

route_forms : List (Refusal × Refusal)
unfolding route_refusal one two last_line lines
route_forms =
    (route_refusal [] is refusal 0 0)
    ∷ (route_refusal (32 ∷ []) is refusal 14 1)
    ∷ (route_refusal one is refusal 0 0)
    ∷ (route_refusal (one ++ two) is refusal 0 0)
    ∷ (route_refusal (one ++ (32 ∷ [])) is refusal 14 5)
    ∷ (route_refusal (one ++ (10 ∷ [])) is refusal 14 5)
    ∷ (route_refusal (one ++ take 21 two) is refusal 14 5)
    ∷ (route_refusal (one ++ take 22 two) is refusal 14 6)
    ∷ (route_refusal (take 87 one) is refusal 14 4)
    ∷ (route_refusal (take 67 one) is refusal 14 4)
    ∷ (route_refusal (take 66 one) is refusal 14 4)
    ∷ (route_refusal (take 22 one) is refusal 14 2)
    ∷ (route_refusal (one ++ one) is refusal 14 5)
    ∷ (last_line "W    2    2          " is refusal 0 0)
    ∷ (last_line "V    2    2          " is refusal 14 4)
    ∷ (last_line "X    2    2          " is refusal 14 4)
    ∷ (last_line "W    2    2    0     " is refusal 14 4)
    ∷ (last_line "W    2               " is refusal 14 4)
    ∷ (last_line "W    2   02          " is refusal 14 4)
    ∷ (last_line "K    1               " is refusal 14 4)
    ∷ (route_refusal (lines ("Q    1    1    2    0" ∷ [])) is refusal 14 1)
    ∷ (route_refusal (lines ("R    1    1    2     " ∷ [])) is refusal 14 1)
    ∷ (route_refusal (lines ("R    1    1    2    0" ∷ "K    1    0          " ∷ [])) is refusal 14 2)
    ∷ (route_refusal (lines ("R    1    1    2    0" ∷ "J    1               " ∷ [])) is refusal 14 2)
    ∷ (route_refusal (lines ("R    1    1    2    1" ∷ "W    2    1          " ∷ "K    1               " ∷ "K    2               " ∷ [])) is refusal 14 2)
    ∷ (route_refusal (lines ("R    1    1    2    1" ∷ "K    1               " ∷ "W    2    1          " ∷ "K    2               " ∷ [])) is refusal 14 3)
    ∷ (route_refusal (one ++ lines ("W    2    2          " ∷ [])) is refusal 14 5)
    ∷ []

route_forms_hold : Hold route_forms
unfolding route_forms route_refusal one two last_line lines
route_forms_hold = refl

-- "Two different routes conflict exactly when they share a section or some W line of one and some W line of the other want one turnout in different states", and
-- not by their start signal.
route : List ℕ → List Want → Route
route xs ws = record { signal = 1; sections = xs; wants = ws }

want : ℕ → ℕ → Want
want e x = record { element = e; state = x }

-- "A route file has, for each route, a line R .., then K lines .., then W lines", "numbered from 1 upwards in file order": the text of routes.
route_of_one : Route
unfolding route want
route_of_one = route (1 ∷ 2 ∷ []) (want 2 1 ∷ [])

route_of_two : Route
unfolding route want
route_of_two = route (3 ∷ 4 ∷ []) (want 2 2 ∷ [])

route_texts : List (List ℕ × List ℕ)
unfolding route want route_of_one route_of_two one two lines routes_text row_text field_text
route_texts =
    (routes_text 1 [] is [])
    ∷ (routes_text 1 (route_of_one ∷ []) is one)
    ∷ (routes_text 1 (route_of_one ∷ route_of_two ∷ []) is (one ++ two))
    ∷ (routes_text 2 (route_of_two ∷ []) is two)
    ∷ (routes_text 1 (route (3 ∷ 1 ∷ 2 ∷ []) [] ∷ [])
    is lines ("R    1    1    3    0" ∷ "K    3               " ∷ "K    1               " ∷ "K    2               " ∷ []))
    ∷ (routes_text 64 (record { signal = 256; sections = 512 ∷ 1 ∷ []; wants = want 255 2 ∷ want 1 1 ∷ [] } ∷ [])
    is lines ("R   64  256    2    2" ∷ "K  512               " ∷ "K    1               " ∷ "W  255    2          " ∷ "W    1    1          " ∷ []))
    ∷ []

route_texts_hold : Hold route_texts
unfolding route_texts route want route_of_one route_of_two one two lines routes_text row_text field_text
route_texts_hold = refl

-- The way back: the routes that the lines of a file say.
of_lines : List ℕ → List Route
unfolding station routes_read rest_from line_before route_line kind_next after_line row_at field_at
of_lines file = (routes_read station file).routes

route_lists : List (List Route × List Route)
unfolding of_lines route want route_of_one route_of_two one two lines
route_lists =
    (of_lines [] is [])
    ∷ (of_lines one is (route_of_one ∷ []))
    ∷ (of_lines (one ++ two) is (route_of_one ∷ route_of_two ∷ []))
    ∷ (of_lines (lines ("R    1    1    3    0" ∷ "K    3               " ∷ "K    1               " ∷ "K    2               " ∷ []) ++ two)
    is (route (3 ∷ 1 ∷ 2 ∷ []) [] ∷ route_of_two ∷ []))
    ∷ []

route_lists_hold : Hold route_lists
unfolding route_lists of_lines route want route_of_one route_of_two one two lines
route_lists_hold = refl

-- Routes 1 and 2 share section 2; 1 and 3, and 3 and 4, want turnout 5 in different states; 1 and 4 want it alike, as 2 and 3 do turnout 6.
four_routes : List Route
unfolding route want
four_routes =
    route (1 ∷ 2 ∷ []) (want 5 1 ∷ []) ∷ route (2 ∷ 3 ∷ []) (want 6 2 ∷ []) ∷ route (4 ∷ 5 ∷ []) (want 6 2 ∷ want 5 2 ∷ [])
    ∷ route (6 ∷ 7 ∷ []) (want 5 1 ∷ []) ∷ []

tables : List (List ℕ × List ℕ)
unfolding four_routes table_of pair_byte conflict list_of
tables =
    (table_of four_routes
    is (0 ∷ 1 ∷ 1 ∷ 0
    ∷ 1 ∷ 0 ∷ 0 ∷ 0
    ∷ 1 ∷ 0 ∷ 0 ∷ 1
    ∷ 0 ∷ 0 ∷ 1 ∷ 0 ∷ []))
    ∷ (table_of [] is [])
    ∷ (after_routes station_file (one ++ two) (9 ∷ 9 ∷ 9 ∷ 9 ∷ 7 ∷ 8 ∷ []) is (0 ∷ 1 ∷ 1 ∷ 0 ∷ 7 ∷ 8 ∷ []))
    ∷ (after_routes station_file (one ++ two) (9 ∷ 8 ∷ 7 ∷ []) is (9 ∷ 8 ∷ 7 ∷ []))
    ∷ (after_routes station_file [] (9 ∷ 8 ∷ []) is (9 ∷ 8 ∷ []))
    ∷ []

tables_hold : Hold tables
unfolding tables four_routes table_of pair_byte conflict list_of station_file one two lines after_routes routes_refusal routes_read refusal_from line_before rest_from route_line route_cause kind_next after_line sort_at elements_of
    stood_over plain_moves row_at field_at reading_in reading_under_in refused no_situation line_at well_formed record_kind_at file_line_in kind_at refusal_of first_refusal cause_after
    line_cause closed_to clashes pairs_of having situation_of pad_to
tables_hold = refl

-- "The number of bytes filled is returned"; "after the station's refusals and before 9 (routes × routes bytes)".
table_answers : List (Result ℕ Refusal × Result ℕ Refusal)
table_answers =
    (routes_answer station_file (one ++ two) 4 is Ok 4)
    ∷ (routes_answer station_file (one ++ two) 3 is Err (refusal 9 0))
    ∷ (routes_answer station_file one 1 is Ok 1)
    ∷ (routes_answer station_file [] 0 is Ok 0)
    ∷ (routes_answer station_file (32 ∷ []) 0 is Err (refusal 14 1))
    ∷ (routes_answer [] (32 ∷ []) 0 is Err (refusal 1 0))
    ∷ []

table_answers_hold : Hold table_answers
unfolding table_answers list_of station_file one two lines routes_answer routes_refusal routes_read refusal_from line_before rest_from route_line route_cause kind_next after_line sort_at elements_of
    stood_over plain_moves row_at field_at reading_in reading_under_in refused no_situation line_at well_formed record_kind_at file_line_in kind_at refusal_of first_refusal cause_after
    line_cause closed_to clashes pairs_of having situation_of pad_to
table_answers_hold = refl

-- ---- Item 8
of_log : List ℕ → Refusal
unfolding log_refusal cut_or_long first_wrong_line lowest log_cause_at right is_c in_range seen list_of sent_at field_at
of_log log = log_refusal log

log_line : String → Refusal
unfolding of_log lines
log_line t = of_log (lines (t ∷ []))

-- "The log has C lines in our columns: candidate 1 to 9999, question 1 to 99, sequence 1 to 99999, answer 0 to 4097, at most 1,000 lines in any order." 16
-- is "a log of cut lines or too many (line 0, first of all) or a line of wrong form or range". "Answer logs keep the old form" (Item 13).
log_lines : List (Refusal × Refusal)
unfolding log_line of_log
log_lines =
    (log_line "C    1    1    1    0" is refusal 0 0)
    ∷ (log_line "C    0    1    1    0" is refusal 16 1)
    ∷ (log_line "C 9999    1    1    0" is refusal 0 0)
    ∷ (log_line "C10000    1    1    0" is refusal 16 1)
    ∷ (log_line "C    1    0    1    0" is refusal 16 1)
    ∷ (log_line "C    1   99    1    0" is refusal 0 0)
    ∷ (log_line "C    1  100    1    0" is refusal 16 1)
    ∷ (log_line "C    1    1    0    0" is refusal 16 1)
    ∷ (log_line "C    1    199999    0" is refusal 0 0)
    ∷ (log_line "C    1    1    1 4097" is refusal 0 0)
    ∷ (log_line "C    1    1    1 4098" is refusal 16 1)
    ∷ (log_line "c    1    1    1    0" is refusal 16 1)
    ∷ (log_line "B    1    1    1    0" is refusal 16 1)
    ∷ (log_line "D    1    1    1    0" is refusal 16 1)
    ∷ (log_line "C    1    1    1     " is refusal 16 1)
    ∷ (log_line "C    1    1   01    0" is refusal 16 1)
    ∷ (of_log [] is refusal 0 0)
    ∷ (of_log (replicate 21 32) is refusal 16 0)
    ∷ (of_log (replicate 23 32) is refusal 16 0)
    ∷ (of_log (replicate 22 32) is refusal 16 1)
    ∷ []

log_lines_hold : Hold log_lines
unfolding log_lines log_line of_log
log_lines_hold = refl

-- 1,000 lines are not too many, 1,001 are.
log_lengths : List (Bool × Bool)
log_lengths = (cut_or_long (replicate 22000 32) is false) ∷ (cut_or_long (replicate 22022 32) is true) ∷ (cut_or_long (replicate 21999 32) is true) ∷ []

log_lengths_hold : Hold log_lengths
unfolding log_lengths cut_or_long
log_lengths_hold = refl

-- "17 a sequence already seen for that candidate and question; line by line, 16 first."
logs : List (Refusal × Refusal)
unfolding of_log lines
logs =
    (of_log (lines ("C    1    1    1    5" ∷ "C    1    1    1    5" ∷ [])) is refusal 17 2)
    ∷ (of_log (lines ("C    1    1    1    5" ∷ "C    1    1    2    5" ∷ [])) is refusal 0 0)
    ∷ (of_log (lines ("C    1    1    1    5" ∷ "C    1    2    1    5" ∷ [])) is refusal 0 0)
    ∷ (of_log (lines ("C    1    1    1    5" ∷ "C    2    1    1    5" ∷ [])) is refusal 0 0)
    ∷ (of_log (lines ("C    1    1    2    5" ∷ "C    1    1    1    5" ∷ "C    1    1    2    0" ∷ "C    0    1    1    5" ∷ [])) is refusal 17 3)
    ∷ (of_log (lines ("C    1    1    1    5" ∷ "C    0    1    1    5" ∷ "C    1    1    1    5" ∷ [])) is refusal 16 2)
    ∷ []

logs_hold : Hold logs
unfolding logs of_log lines
logs_hold = refl

-- "For one candidate and question the highest sequence supersedes the rest. Answer 0 withdraws. .. The standing answers come out as their C lines by
-- candidate, then question, each once, withdrawn ones left out"; "the number of bytes filled is returned"; "9 at the end for a buffer below 22 bytes a
-- standing answer".
log : List ℕ
unfolding lines
log =
    lines
    ("C    2    1   10    7" ∷ "C   10    1    1    6" ∷ "C    2   10    1    5" ∷ "C    2    2    3    4" ∷ "C    2    1    9    0" ∷ "C    2    2    4    3"
    ∷ "C    3    1    1    2" ∷ "C    3    1    2    0" ∷ [])

stand : List (List ℕ × List ℕ)
unfolding log lines
stand =
    (after_standing log (replicate 88 0 ++ (1 ∷ 2 ∷ 3 ∷ []))
    is (lines ("C    2    1   10    7" ∷ "C    2    2    4    3" ∷ "C    2   10    1    5" ∷ "C   10    1    1    6" ∷ []) ++ (1 ∷ 2 ∷ 3 ∷ [])))
    ∷ (after_standing log (replicate 87 7) is replicate 87 7)
    ∷ (after_standing [] (1 ∷ 2 ∷ []) is (1 ∷ 2 ∷ []))
    ∷ []

stand_hold : Hold stand
unfolding stand log lines after_standing standing_refusal log_refusal cut_or_long first_wrong_line lowest log_cause_at right is_c in_range seen list_of sent_at field_at answers.standing_lines sent_lines standing_of enter_answer stands
    superseded answers_text row_text field_text
stand_hold = refl

log_answers : List (Result ℕ Refusal × Result ℕ Refusal)
unfolding log lines
log_answers =
    (standing_answer log 88 is Ok 88)
    ∷ (standing_answer log 87 is Err (refusal 9 0))
    ∷ (standing_answer (lines ("C    0    1    1    1" ∷ [])) 0 is Err (refusal 16 1))
    ∷ []

log_answers_hold : Hold log_answers
unfolding log_answers log lines standing_answer standing_refusal log_refusal cut_or_long first_wrong_line lowest log_cause_at right is_c in_range seen list_of sent_at field_at answers.standing_lines sent_lines standing_of enter_answer
    stands superseded
log_answers_hold = refl

-- "Any other answer claims one safe setting fewer than its number."
claims : List (ℕ × ℕ)
claims =
    (claimed (record { candidate = 1; question = 1; sequence = 9; answer = 1 }) is 0)
    ∷ (claimed (record { candidate = 1; question = 1; sequence = 9; answer = 4097 }) is 4096)
    ∷ []

claims_hold : Hold claims
unfolding claims
claims_hold = refl

-- ---- Item 9
mark : ℕ → ℕ → ℕ → ℕ → Mark
mark c q g p = record { candidate = c; question = q; gained = g; possible = p }

of_marks : List Mark → Refusal
unfolding mark marks_refusal report.first_wrong_mark right_mark
of_marks l = marks_refusal l

-- "18, giving the first such record's place counted from 1, a candidate or question outside Item 8's ranges, more marks gained than possible, or above 100
-- possible, and with 19 a list of more than 999 records; 19 is tested first".
marks : List (Refusal × Refusal)
unfolding of_marks mark
marks =
    (of_marks [] is refusal 0 0)
    ∷ (of_marks (mark 0 1 0 0 ∷ []) is refusal 18 1)
    ∷ (of_marks (mark 1 1 0 0 ∷ []) is refusal 0 0)
    ∷ (of_marks (mark 9999 99 100 100 ∷ []) is refusal 0 0)
    ∷ (of_marks (mark 10000 1 0 0 ∷ []) is refusal 18 1)
    ∷ (of_marks (mark 1 0 0 0 ∷ []) is refusal 18 1)
    ∷ (of_marks (mark 1 100 0 0 ∷ []) is refusal 18 1)
    ∷ (of_marks (mark 1 1 7 7 ∷ []) is refusal 0 0)
    ∷ (of_marks (mark 1 1 8 7 ∷ []) is refusal 18 1)
    ∷ (of_marks (mark 1 1 0 100 ∷ []) is refusal 0 0)
    ∷ (of_marks (mark 1 1 0 101 ∷ []) is refusal 18 1)
    ∷ (of_marks (mark 1 1 0 1 ∷ mark 2 1 1 1 ∷ mark 1 1 2 1 ∷ mark 0 1 0 1 ∷ []) is refusal 18 3)
    ∷ (of_marks (replicate 999 (mark 1 1 0 1)) is refusal 0 0)
    ∷ (of_marks (replicate 1000 (mark 0 1 0 1)) is refusal 19 0)
    ∷ []

marks_hold : Hold marks
unfolding marks of_marks mark
marks_hold = refl

-- "One M line (candidate, both sums over that candidate's records) for each candidate with a record, in rising order, and a last Z line (both sums over
-- the session), in our columns. .. An empty list gives the last line alone, with zeros." Gained, then possible. "9 (22 bytes a line) last."
three_marks : List Mark
unfolding mark
three_marks = mark 7 1 3 10 ∷ mark 3 9 5 8 ∷ mark 7 2 1 4 ∷ []

reports : List (List ℕ × List ℕ)
unfolding three_marks lines mark
reports =
    (report_text [] is lines ("Z    0    0          " ∷ []))
    ∷ (report_text three_marks is lines ("M    3    5    8     " ∷ "M    7    4   14     " ∷ "Z    9   22          " ∷ []))
    ∷ (report_text (mark 9999 1 0 100 ∷ mark 1 1 2 2 ∷ []) is lines ("M    1    2    2     " ∷ "M 9999    0  100     " ∷ "Z    2  102          " ∷ []))
    ∷ (report_text (replicate 999 (mark 1 1 100 100)) is lines ("M    19990099900     " ∷ "Z9990099900          " ∷ []))
    ∷ (after_report three_marks (replicate 66 0 ++ (1 ∷ 2 ∷ 3 ∷ []))
    is (lines ("M    3    5    8     " ∷ "M    7    4   14     " ∷ "Z    9   22          " ∷ []) ++ (1 ∷ 2 ∷ 3 ∷ [])))
    ∷ (after_report three_marks (replicate 65 7) is replicate 65 7)
    ∷ []

reports_hold : Hold reports
unfolding reports three_marks lines mark after_report report_text totals_text session_text totals report.enter_total sum_of report_length report_refusal marks_refusal report.first_wrong_mark right_mark row_text field_text
reports_hold = refl

report_answers : List (Result ℕ Refusal × Result ℕ Refusal)
unfolding three_marks mark
report_answers =
    (report_answer three_marks 66 is Ok 66)
    ∷ (report_answer three_marks 65 is Err (refusal 9 0))
    ∷ (report_answer [] 22 is Ok 22)
    ∷ (report_answer [] 21 is Err (refusal 9 0))
    ∷ (report_answer (mark 0 1 0 0 ∷ []) 0 is Err (refusal 18 1))
    ∷ []

report_answers_hold : Hold report_answers
unfolding report_answers three_marks mark report_answer report_length report_refusal totals report.enter_total marks_refusal report.first_wrong_mark right_mark
report_answers_hold = refl
