-- Boundaries of 01, "Moves, reach and verdict" and "Settings of open elements", and of the key's lines. Rows are ours unless a comment says that 01
-- prints them.
use Rattle.std.specs.Prelude.{refl, Some, None, Bool, true, false, cond, List, [], ◌∷◌, ◌++◌, ℕ, ◌+◌, eqb}
use Prim.Native.String.{String}
use Rattle.meaning.specs.declared.Situation.{Situation}
use Rattle.meaning.specs.declared.Refusal.{Refusal}
use Rattle.meaning.specs.declared.Verdict.{Verdict}
use Rattle.meaning.specs.declared.Verdict.TheVariants.{Safe, Dangerous}
use Rattle.meaning.specs.Station.{section, plain_moves, elements_of, file_states, standing, has_pair, moves}
use Rattle.meaning.specs.Paths.{follow_all, rounds, reach}
use Rattle.basics.specs.Numbers.{lowest, total, count}
use Rattle.meaning.specs.Verdict.{
  leads,
  in_reach,
  shared_section,
  earlier_train,
  dangerous,
  later_train,
  entries_of,
  outdegree,
  looks_of,
  counts_to,
  meeting_of,
  verdict_for,
  verdict,
  shows,
}
use Rattle.meaning.specs.Settings.{open_count, is_setting, before, settings, chosen}
use Rattle.meaning.specs.declared.Line.{Line}
use Rattle.meaning.specs.Columns.{s_line, signal_line, turnout_line, field_at, record_kind_at, well_formed, line_at, line_text, having, row_text, field_text}
use Rattle.basics.specs.Lists.{list_of, pad_to}
use Rattle.meaning.specs.File.{refusal, pairs_of, closed_to, clashes, line_cause, cause_after, first_refusal, refusal_of, situation_of, kind_at, file_line_in, no_situation, refused, reading_under_in, reading_in, text_of}
use Rattle.meaning.specs.CanBeSafe.{can_be_safe_refusal, turnout_element, open_turnouts}
use Rattle.meaning.specs.Operations.{open_element, call_refusal, verdict_refusal, settings_refusal, after_settings}
use Rattle.route_meaning.specs.Routes.{stood_over}
use Rattle.meaning.specs.Key.{path_lines, element_lines, key_refusal, refusal_key, safe_key, danger_key, question_key}
use Rattle.worked_examples.proofs.Examples.{station_k}
use Rattle.c_layout.specs.Flat.{no_refusal}
use Rattle.demands.specs.Keys.{verdict_text, question_text}
use Rattle.worked_examples.proofs.Boundary.{◌is◌, Hold, lines, opened, file_k, file_k6}

-- ---- moves
-- The ordered pairs of two of three sections.
abbrev Pair : Type 0
Pair = ℕ × ℕ

pairs : List Pair
pairs = (1, 2) ∷ (2, 1) ∷ (1, 3) ∷ (3, 1) ∷ (2, 3) ∷ (3, 2) ∷ []

kept : (Pair → Bool) → List Pair → List Pair
kept f [] = []
kept f (p ∷ l) = cond (f p) (p ∷ kept f l) (kept f l)

-- A station of three sections with one line, a P line or an element.
with_line : ℕ → String → List ℕ
unfolding lines
with_line k t = lines (cond (eqb k 0) "S    3    1    0    0" "S    3    0    1    0" ∷ t ∷ [])

-- The moves that it permits, and the pairs that it stands over.
permits : ℕ → String → List Pair
unfolding with_line opened moves file_states kept pairs
permits k t =
    let s : Situation = (opened (with_line k t)).situation in
    kept (λ (p : Pair). has_pair (moves s (file_states s)) p.0 p.1) pairs

over : ℕ → String → List Pair
unfolding with_line opened stood_over plain_moves elements_of kept pairs
over k t = kept (λ (p : Pair). has_pair (stood_over (opened (with_line k t)).situation) p.0 p.1) pairs

-- "A move from a to b is permitted when a P line has it, or a signal over it is at 1, or a turnout at 1 joins stem and straight leg (both ways), or a
-- turnout at 2 joins stem and diverted leg (both ways). Nothing else is permitted."
moves_of_lines : List (List Pair × List Pair)
unfolding permits
moves_of_lines =
    (permits 0 "P    1    2          " is ((1, 2) ∷ []))
    ∷ (permits 0 "P    2    1          " is ((2, 1) ∷ []))
    ∷ (permits 1 "L    1    2    0     " is [])
    ∷ (permits 1 "L    1    2    1     " is ((1, 2) ∷ []))
    ∷ (permits 1 "L    1    2    2     " is [])
    ∷ (permits 1 "D    1    2    3    0" is [])
    ∷ (permits 1 "D    1    2    3    1" is ((1, 2) ∷ (2, 1) ∷ []))
    ∷ (permits 1 "D    1    2    3    2" is ((1, 3) ∷ (3, 1) ∷ []))
    ∷ (permits 1 "D    3    2    1    1" is ((2, 3) ∷ (3, 2) ∷ []))
    ∷ []

moves_of_lines_hold : Hold moves_of_lines
unfolding moves_of_lines permits
moves_of_lines_hold = refl

-- "An L or P line stands over the ordered pair (from, to). A D line stands over four: stem to each leg and each leg to stem", in any state (02, Item 7).
pairs_of_lines : List (List Pair × List Pair)
unfolding over
pairs_of_lines =
    (over 0 "P    1    2          " is ((1, 2) ∷ []))
    ∷ (over 1 "L    2    3    0     " is ((2, 3) ∷ []))
    ∷ (over 1 "L    2    3    2     " is ((2, 3) ∷ []))
    ∷ (over 1 "D    1    2    3    0" is ((1, 2) ∷ (2, 1) ∷ (1, 3) ∷ (3, 1) ∷ []))
    ∷ (over 1 "D    2    1    3    2" is ((1, 2) ∷ (2, 1) ∷ (2, 3) ∷ (3, 2) ∷ []))
    ∷ []

pairs_of_lines_hold : Hold pairs_of_lines
unfolding pairs_of_lines over
pairs_of_lines_hold = refl

-- ---- paths shown
K1 : Situation
unfolding station_k
K1 = station_k 1 1 1 1 (1 ∷ 4 ∷ [])

K1_shows : ℕ → ℕ → List ℕ → Bool
unfolding K1 shows file_states
K1_shows t k p = shows K1 (file_states K1) t k p

K1_leads : ℕ → ℕ → List ℕ → Bool
unfolding K1 leads file_states
K1_leads t k p = leads K1 (file_states K1) t k p

-- "A path of train i from its section to the meeting section, .. neither path has a section twice"; "a single section is a path", and an empty list is
-- none. The paths of K1 are printed in 01.
paths_shown : List (Bool × Bool)
unfolding K1_shows K1_leads
paths_shown =
    (K1_shows 1 5 (1 ∷ 2 ∷ 3 ∷ 5 ∷ []) is true)
    ∷ (K1_shows 2 5 (4 ∷ 5 ∷ []) is true)
    ∷ (K1_shows 1 5 (1 ∷ 2 ∷ 1 ∷ 2 ∷ 3 ∷ 5 ∷ []) is false)
    ∷ (K1_leads 1 5 (1 ∷ 2 ∷ 1 ∷ 2 ∷ 3 ∷ 5 ∷ []) is true)
    ∷ (K1_shows 1 1 (1 ∷ []) is true)
    ∷ (K1_shows 1 1 (1 ∷ 2 ∷ 1 ∷ []) is false)
    ∷ (K1_shows 1 1 [] is false)
    ∷ (K1_shows 1 5 (2 ∷ 3 ∷ 5 ∷ []) is false)
    ∷ (K1_shows 1 3 (1 ∷ 2 ∷ 3 ∷ 5 ∷ []) is false)
    ∷ (K1_shows 2 5 (5 ∷ 4 ∷ []) is false)
    ∷ (K1_shows 0 5 (1 ∷ 2 ∷ 3 ∷ 5 ∷ []) is false)
    ∷ (K1_shows 3 5 (4 ∷ 5 ∷ []) is false)
    ∷ []

paths_shown_hold : Hold paths_shown
unfolding paths_shown K1_shows K1_leads
paths_shown_hold = refl

-- ---- which trains, which section, which counts
judged : List String → Verdict
unfolding lines opened lowest total count in_reach shared_section earlier_train dangerous later_train entries_of outdegree looks_of counts_to meeting_of verdict_for verdict reach rounds follow_all moves standing file_states
judged l = let s : Situation = (opened (lines l)).situation in verdict s (file_states s)

danger : ℕ → ℕ → ℕ → ℕ → ℕ → Verdict
danger i j k e n =
    Dangerous (record { first = record { 0 = i }; second = record { 0 = j }; section = section k }) (record { entries = e; looks = n })

-- Trains i and j, the meeting section, entries, looks. 1: "Train j is the lowest for which trains 1 to j are already dangerous", where trains 1 and 4
-- meet too. 2: train i is the first earlier train that train 3 meets, and not the one with the lower section. 3: the lowest section of both reaches,
-- 1, is not the nearest; "over trains 1 to j", so that train 3 counts nothing. 4, 5: "over all trains when safe"; "entries .. the number of
-- sections in those reaches, added up", "looks .. the number of permitted moves leaving a section of the reach".
verdicts : List (Verdict × Verdict)
unfolding judged danger
verdicts =
    (judged
    ("S    5    0    0    4" ∷ "T    1               " ∷ "T    2               " ∷ "T    2               " ∷ "T    1               " ∷ [])
    is danger 2 3 2 3 0)
    ∷ (judged
    ("S    3    2    0    3" ∷ "P    3    1          " ∷ "P    3    2          " ∷ "T    2               " ∷ "T    1               " ∷ "T    3               " ∷ [])
    is danger 1 3 2 5 2)
    ∷ (judged
    ("S    4    3    0    3" ∷ "P    4    3          " ∷ "P    3    1          " ∷ "P    2    3          " ∷ "T    4               " ∷ "T    2               " ∷ "T    4               " ∷ [])
    is danger 1 2 1 6 4)
    ∷ (judged ("S    3    1    0    2" ∷ "P    1    2          " ∷ "T    1               " ∷ "T    3               " ∷ []) is Safe (record { entries = 3; looks = 1 }))
    ∷ (judged ("S    3    1    0    0" ∷ "P    1    2          " ∷ []) is Safe (record { entries = 0; looks = 0 }))
    ∷ []

verdicts_hold : Hold verdicts
unfolding verdicts judged danger
verdicts_hold = refl

-- ---- settings
-- "A setting gives each element 1 or 2 and keeps the fixed ones." The file's states, and a setting of them.
settings_kept : List (Bool × Bool)
unfolding is_setting
settings_kept =
    (is_setting (0 ∷ []) (0 ∷ []) is false)
    ∷ (is_setting (0 ∷ []) (1 ∷ []) is true)
    ∷ (is_setting (0 ∷ []) (2 ∷ []) is true)
    ∷ (is_setting (0 ∷ []) (3 ∷ []) is false)
    ∷ (is_setting (1 ∷ []) (1 ∷ []) is true)
    ∷ (is_setting (1 ∷ []) (2 ∷ []) is false)
    ∷ (is_setting (2 ∷ []) (2 ∷ []) is true)
    ∷ (is_setting (2 ∷ []) (1 ∷ []) is false)
    ∷ (is_setting [] [] is true)
    ∷ (is_setting (0 ∷ []) [] is false)
    ∷ (is_setting (0 ∷ []) (1 ∷ 1 ∷ []) is false)
    ∷ []

settings_kept_hold : Hold settings_kept
unfolding settings_kept is_setting
settings_kept_hold = refl

-- "Of two settings, the one with 1 at the lowest element number where they differ comes before the other."
orders : List (Bool × Bool)
unfolding before
orders =
    (before (1 ∷ 2 ∷ []) (2 ∷ 1 ∷ []) is true)
    ∷ (before (2 ∷ 1 ∷ []) (1 ∷ 2 ∷ []) is false)
    ∷ (before (2 ∷ 1 ∷ []) (2 ∷ 2 ∷ []) is true)
    ∷ (before (2 ∷ 2 ∷ []) (2 ∷ 1 ∷ []) is false)
    ∷ (before (1 ∷ 1 ∷ []) (1 ∷ 1 ∷ []) is false)
    ∷ []

orders_hold : Hold orders
unfolding orders before
orders_hold = refl

-- "With k open elements there are 2 to the power k settings, one when k is 0", in that order. "The safe setting with the highest count is chosen; among
-- equals, the first in this order": the counts are 1 for a setting that begins with 2, else 0.
lists : List (List (List ℕ) × List (List ℕ))
unfolding settings
lists =
    (settings [] is ([] ∷ []))
    ∷ (settings (2 ∷ 1 ∷ []) is ((2 ∷ 1 ∷ []) ∷ []))
    ∷ (settings (0 ∷ 2 ∷ 0 ∷ []) is ((1 ∷ 2 ∷ 1 ∷ []) ∷ (1 ∷ 2 ∷ 2 ∷ []) ∷ (2 ∷ 2 ∷ 1 ∷ []) ∷ (2 ∷ 2 ∷ 2 ∷ []) ∷ []))
    ∷ []

lists_hold : Hold lists
unfolding lists settings
lists_hold = refl

-- ---- refusals 9, 10 and 11
-- n open signals, and n open turnouts, over pairs of their own.
line_of : ℕ → ℕ → ℕ → ℕ → ℕ → Line
line_of k a b c d = record { kind = k; first = a; second = b; third = c; fourth = d }

signals : ℕ → List ℕ
unfolding line_of text_of line_text record_kind_at row_text field_text
signals n = line_text (line_of s_line 14 0 n 0) ++ text_of (λ i. line_of signal_line (i + 1) (i + 2) 0 0) n

turnouts : ℕ → List ℕ
unfolding line_of text_of line_text record_kind_at row_text field_text
turnouts n = line_text (line_of s_line 39 0 n 0) ++ text_of (λ i. line_of turnout_line (i + 1) (i + 14) (i + 27) 0) n

-- "9: each path list needs one 16-bit number for each section, the settings buffer a byte for each element. Line 0." "10: a verdict while an element is
-- open; the line of the first", "11: a settings question with 13 or more open elements; the line of the thirteenth", "then 10 or 11; then 9". 02, Item 6: "no
-- bound on the open signals", "thirteen or more open turnouts, with the line of the thirteenth". Station K has five sections and four elements.
call_refusals : List (Refusal × Refusal)
unfolding file_k file_k6 signals turnouts opened verdict_refusal settings_refusal key_refusal call_refusal open_element open_count lowest file_states can_be_safe_refusal turnout_element open_turnouts elements_of
call_refusals =
    (verdict_refusal file_k 5 5 is refusal 0 0)
    ∷ (verdict_refusal file_k 4 5 is refusal 9 0)
    ∷ (verdict_refusal file_k 5 4 is refusal 9 0)
    ∷ (verdict_refusal file_k6 0 0 is refusal 10 3)
    ∷ (settings_refusal file_k 4 is refusal 0 0)
    ∷ (settings_refusal file_k6 4 is refusal 0 0)
    ∷ (settings_refusal file_k6 3 is refusal 9 0)
    ∷ (settings_refusal (signals 12) 12 is refusal 0 0)
    ∷ (settings_refusal (signals 12) 11 is refusal 9 0)
    ∷ (settings_refusal (signals 13) 13 is refusal 11 14)
    ∷ (settings_refusal (turnouts 13) 0 is refusal 11 14)
    ∷ (key_refusal (signals 12) is refusal 0 0)
    ∷ (key_refusal (signals 13) is refusal 11 14)
    ∷ (can_be_safe_refusal (signals 13) is refusal 0 0)
    ∷ (can_be_safe_refusal (turnouts 12) is refusal 0 0)
    ∷ (can_be_safe_refusal (turnouts 13) is refusal 11 14)
    ∷ []

call_refusals_hold : Hold call_refusals
unfolding call_refusals file_k file_k6 signals turnouts opened verdict_refusal settings_refusal key_refusal call_refusal open_element open_count lowest file_states can_be_safe_refusal turnout_element open_turnouts elements_of
    reading_in reading_under_in refused no_situation line_at well_formed field_at record_kind_at file_line_in kind_at refusal_of first_refusal cause_after line_cause closed_to
    clashes pairs_of having situation_of list_of pad_to
call_refusals_hold = refl

-- "The buffer's first bytes, one for each element, hold the chosen setting, and later bytes keep their content": K6, which 01 prints. "'No safe setting',
-- .. the lent buffer is unchanged": two trains in one section.
none_safe : List ℕ
unfolding lines
none_safe = lines ("S    2    0    1    2" ∷ "L    1    2    0     " ∷ "T    1               " ∷ "T    1               " ∷ [])

settings_lent : List (List ℕ × List ℕ)
settings_lent =
    (after_settings file_k6 (9 ∷ 9 ∷ 9 ∷ 9 ∷ 7 ∷ 8 ∷ []) is (1 ∷ 1 ∷ 1 ∷ 2 ∷ 7 ∷ 8 ∷ []))
    ∷ (after_settings file_k6 (9 ∷ 9 ∷ 9 ∷ 9 ∷ []) is (1 ∷ 1 ∷ 1 ∷ 2 ∷ []))
    ∷ (after_settings file_k6 (9 ∷ 8 ∷ 7 ∷ []) is (9 ∷ 8 ∷ 7 ∷ []))
    ∷ (after_settings none_safe (9 ∷ 8 ∷ []) is (9 ∷ 8 ∷ []))
    ∷ []

settings_lent_hold : Hold settings_lent
unfolding settings_lent file_k6 none_safe lines after_settings settings_refusal call_refusal open_element open_count lowest file_states chosen
    reading_in reading_under_in refused no_situation line_at well_formed field_at record_kind_at file_line_in kind_at refusal_of first_refusal cause_after line_cause closed_to
    clashes pairs_of having situation_of list_of pad_to
settings_lent_hold = refl

-- ---- printed lines
-- "A refusal prints R, number, line. With no open element: V, 1 for dangerous or 0 for safe, entries, looks, meeting section (blank when safe); if dangerous,
-- one A line (train, section) for each section of the first path in order, then B lines for the second. With open elements: Q, 1 or 0 for whether one is
-- safe, number of safe settings, proceed count; if 1, one E line (element, state) for each element." K1 is printed in 01.
printed : List (List ℕ × List ℕ)
unfolding lines path_lines element_lines row_text field_text
printed =
    (refusal_key (refusal 1 0) is lines ("R    1    0          " ∷ []))
    ∷ (refusal_key (refusal 11 1344) is lines ("R   11 1344          " ∷ []))
    ∷ (safe_key (record { entries = 5; looks = 6 }) is lines ("V    0    5    6     " ∷ []))
    ∷ (safe_key (record { entries = 0; looks = 0 }) is lines ("V    0    0    0     " ∷ []))
    ∷ (danger_key (record { first = record { 0 = 1 }; second = record { 0 = 2 }; section = section 5 }) (record { entries = 6; looks = 7 }) (1 ∷ 2 ∷ 3 ∷ 5 ∷ []) (4 ∷ 5 ∷ [])
    is lines
    ("V    1    6    7    5" ∷ "A    1    1          " ∷ "A    1    2          " ∷ "A    1    3          " ∷ "A    1    5          " ∷ "B    2    4          "
    ∷ "B    2    5          " ∷ []))
    ∷ (question_key None [] is lines ("Q    0    0    0     " ∷ []))
    ∷ (question_key (Some (record { safe = 4096; proceed = 12 })) (1 ∷ 2 ∷ []) is lines ("Q    1 4096   12     " ∷ "E    1    1          " ∷ "E    2    2          " ∷ []))
    ∷ (row_text 67 4 0 9 10 99999 is lines ("C    0    9   1099999" ∷ []))
    ∷ (row_text 67 4 100 1000 10000 10203 is lines ("C  100 10001000010203" ∷ []))
    ∷ []

printed_hold : Hold printed
unfolding printed lines path_lines element_lines row_text field_text
printed_hold = refl

-- These printed lines in the words of demands 2 and 3.
demanded : List (List ℕ × List ℕ)
unfolding lines verdict_text question_text path_lines element_lines row_text field_text
demanded =
    (verdict_text
    (record { refusal = no_refusal; dangerous = 1; first_train = 1; second_train = 2; meeting = 5; entries = 6; looks = 7; first_length = 2; second_length = 1 })
    (3 ∷ 5 ∷ 9 ∷ []) (5 ∷ 9 ∷ [])
    is lines ("V    1    6    7    5" ∷ "A    1    3          " ∷ "A    1    5          " ∷ "B    2    5          " ∷ []))
    ∷ (verdict_text
    (record { refusal = no_refusal; dangerous = 0; first_train = 0; second_train = 0; meeting = 0; entries = 5; looks = 6; first_length = 0; second_length = 0 })
    (9 ∷ []) (9 ∷ [])
    is lines ("V    0    5    6     " ∷ []))
    ∷ (question_text (record { refusal = no_refusal; safe = 0; proceed = 0 }) (9 ∷ []) is lines ("Q    0    0    0     " ∷ []))
    ∷ (question_text (record { refusal = no_refusal; safe = 1; proceed = 2 }) (1 ∷ 2 ∷ [])
    is lines ("Q    1    1    2     " ∷ "E    1    1          " ∷ "E    2    2          " ∷ []))
    ∷ []

demanded_hold : Hold demanded
unfolding demanded lines verdict_text question_text path_lines element_lines row_text field_text
demanded_hold = refl
