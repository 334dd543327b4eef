-- Boundaries of 02, Items 10, 11, 12 and 14. All rows are ours.
use Rattle.std.specs.Prelude.{refl, Result, Ok, Err, ⊤, cond, List, [], ◌∷◌, ℕ, ◌+◌, ◌*◌, replicate}
use Rattle.meaning.specs.declared.Kind.TheVariants.{Signal}
use Rattle.meaning.specs.declared.Letter.TheVariants as letter
use Rattle.meaning.specs.declared.Refusal.{Refusal}
use Rattle.session_meaning.specs.declared.Desk.{Desk}
use Rattle.meaning.specs.Paths.{mem}
use Rattle.basics.specs.Numbers.{lowest}
use Rattle.meaning.specs.Settings.{open_count}
use Rattle.meaning.specs.Station.{section, file_states}
use Rattle.meaning.specs.Columns.{field_at, record_kind_at, well_formed, line_at, having}
use Rattle.basics.specs.Lists.{list_of, pad_to}
use Rattle.meaning.specs.File.{refusal, pairs_of, closed_to, clashes, line_cause, cause_after, first_refusal, refusal_of, situation_of, kind_at, file_line_in, no_situation, refused, reading_under_in, reading_in}
use Rattle.meaning.specs.Accepted.{file_header}
use Rattle.meaning.specs.Operations.{open_element, call_refusal, settings_refusal, after_frame}
use Rattle.session_meaning.specs.Desk.{
  element_number,
  state_in,
  was_open,
  can_set,
  desk_of,
  state_of,
  settable,
  status_after,
  states_after,
  written,
  write_answer,
  byte_at,
  read_answer,
  interrupt_of,
}
use Rattle.meaning.specs.Frames.{frame_at, frames}
use Rattle.file_meaning.specs.PartFile.{state_digit, part_file}
use Rattle.session_meaning.specs.Placement.{growth, grown, state_after, draw, gives_way, placement, placement_refusal, placement_answer, after_placement}
use Rattle.worked_examples.proofs.Boundary.{◌is◌, Hold, lines, opened, file_k6}

-- ---- Item 10
-- Element 1 is open in the file, element 2 is fixed at 1.
start : Desk
unfolding opened lines desk_of
start = desk_of (opened (lines ("S    3    0    2    0" ∷ "L    1    2    0     " ∷ "L    2    3    1     " ∷ []))).situation

-- The desk after some writes, each an address and a byte.
played : Desk → List (ℕ × ℕ) → Desk
unfolding written status_after states_after settable can_set was_open
played d [] = d
played d (w ∷ ws) = played (written d w.0 w.1) ws

-- The bytes at 0 to 5, the states of elements 1 and 2, and whether the interrupt is high.
seen : Desk → List ℕ
unfolding byte_at state_in interrupt_of
seen d =
    byte_at d 0 ∷ byte_at d 1 ∷ byte_at d 2 ∷ byte_at d 3 ∷ byte_at d 4 ∷ byte_at d 5 ∷ state_of d 1 ∷ state_of d 2 ∷ cond (interrupt_of d) 1 0 ∷ []

after : List (ℕ × ℕ) → List ℕ
unfolding seen played start
after ws = seen (played start ws)

-- "Addresses are 0 control (bit 0 enables the interrupt), 1 status (bit 0 change pending, bit 1 last set failed), 2 and 3 element number, low byte first, 4
-- state, 5 command. All start at 0. A write stores the byte, except at 1, which ignores writes, and at 5, which reads 0 always."
stored : List (List ℕ × List ℕ)
unfolding after
stored =
    (after [] is (0 ∷ 0 ∷ 0 ∷ 0 ∷ 0 ∷ 0 ∷ 0 ∷ 1 ∷ 0 ∷ []))
    ∷ (after ((0, 255) ∷ []) is (255 ∷ 0 ∷ 0 ∷ 0 ∷ 0 ∷ 0 ∷ 0 ∷ 1 ∷ 0 ∷ []))
    ∷ (after ((1, 255) ∷ []) is (0 ∷ 0 ∷ 0 ∷ 0 ∷ 0 ∷ 0 ∷ 0 ∷ 1 ∷ 0 ∷ []))
    ∷ (after ((2, 7) ∷ []) is (0 ∷ 0 ∷ 7 ∷ 0 ∷ 0 ∷ 0 ∷ 0 ∷ 1 ∷ 0 ∷ []))
    ∷ (after ((3, 7) ∷ []) is (0 ∷ 0 ∷ 0 ∷ 7 ∷ 0 ∷ 0 ∷ 0 ∷ 1 ∷ 0 ∷ []))
    ∷ (after ((4, 7) ∷ []) is (0 ∷ 0 ∷ 0 ∷ 0 ∷ 7 ∷ 0 ∷ 0 ∷ 1 ∷ 0 ∷ []))
    ∷ (after ((5, 7) ∷ []) is (0 ∷ 0 ∷ 0 ∷ 0 ∷ 0 ∷ 0 ∷ 0 ∷ 1 ∷ 0 ∷ []))
    ∷ (after ((6, 1) ∷ []) is (0 ∷ 0 ∷ 0 ∷ 0 ∷ 0 ∷ 0 ∷ 0 ∷ 1 ∷ 0 ∷ []))
    ∷ []

stored_hold : Hold stored
unfolding stored after
stored_hold = refl

-- "Command 1 sets the element, if it was open in the file and the state is 1 or 2: pending becomes 1, failed 0. If not, failed becomes 1 and nothing else
-- changes. Command 2 clears both bits; others do nothing." States 0 to 3, elements 0 to 3 and 257.
commands : List (List ℕ × List ℕ)
unfolding after
commands =
    (after ((2, 1) ∷ (4, 0) ∷ (5, 1) ∷ []) is (0 ∷ 2 ∷ 1 ∷ 0 ∷ 0 ∷ 0 ∷ 0 ∷ 1 ∷ 0 ∷ []))
    ∷ (after ((2, 1) ∷ (4, 1) ∷ (5, 1) ∷ []) is (0 ∷ 1 ∷ 1 ∷ 0 ∷ 1 ∷ 0 ∷ 1 ∷ 1 ∷ 0 ∷ []))
    ∷ (after ((2, 1) ∷ (4, 2) ∷ (5, 1) ∷ []) is (0 ∷ 1 ∷ 1 ∷ 0 ∷ 2 ∷ 0 ∷ 2 ∷ 1 ∷ 0 ∷ []))
    ∷ (after ((2, 1) ∷ (4, 3) ∷ (5, 1) ∷ []) is (0 ∷ 2 ∷ 1 ∷ 0 ∷ 3 ∷ 0 ∷ 0 ∷ 1 ∷ 0 ∷ []))
    ∷ (after ((2, 0) ∷ (4, 1) ∷ (5, 1) ∷ []) is (0 ∷ 2 ∷ 0 ∷ 0 ∷ 1 ∷ 0 ∷ 0 ∷ 1 ∷ 0 ∷ []))
    ∷ (after ((2, 2) ∷ (4, 2) ∷ (5, 1) ∷ []) is (0 ∷ 2 ∷ 2 ∷ 0 ∷ 2 ∷ 0 ∷ 0 ∷ 1 ∷ 0 ∷ []))
    ∷ (after ((2, 3) ∷ (4, 1) ∷ (5, 1) ∷ []) is (0 ∷ 2 ∷ 3 ∷ 0 ∷ 1 ∷ 0 ∷ 0 ∷ 1 ∷ 0 ∷ []))
    ∷ (after ((2, 1) ∷ (3, 1) ∷ (4, 1) ∷ (5, 1) ∷ []) is (0 ∷ 2 ∷ 1 ∷ 1 ∷ 1 ∷ 0 ∷ 0 ∷ 1 ∷ 0 ∷ []))
    -- a failed set leaves pending, a successful one clears failed; the last successful set stands
    ∷ (after ((2, 1) ∷ (4, 1) ∷ (5, 1) ∷ (4, 3) ∷ (5, 1) ∷ []) is (0 ∷ 3 ∷ 1 ∷ 0 ∷ 3 ∷ 0 ∷ 1 ∷ 1 ∷ 0 ∷ []))
    ∷ (after ((2, 1) ∷ (4, 3) ∷ (5, 1) ∷ (4, 1) ∷ (5, 1) ∷ []) is (0 ∷ 1 ∷ 1 ∷ 0 ∷ 1 ∷ 0 ∷ 1 ∷ 1 ∷ 0 ∷ []))
    ∷ (after ((2, 1) ∷ (4, 1) ∷ (5, 1) ∷ (4, 2) ∷ (5, 1) ∷ []) is (0 ∷ 1 ∷ 1 ∷ 0 ∷ 2 ∷ 0 ∷ 2 ∷ 1 ∷ 0 ∷ []))
    -- commands 2, 0, 3 and 255 after a set that failed and one that did not
    ∷ (after ((2, 1) ∷ (4, 1) ∷ (5, 1) ∷ (4, 3) ∷ (5, 1) ∷ (5, 2) ∷ []) is (0 ∷ 0 ∷ 1 ∷ 0 ∷ 3 ∷ 0 ∷ 1 ∷ 1 ∷ 0 ∷ []))
    ∷ (after ((2, 1) ∷ (4, 1) ∷ (5, 1) ∷ (4, 3) ∷ (5, 1) ∷ (5, 0) ∷ []) is (0 ∷ 3 ∷ 1 ∷ 0 ∷ 3 ∷ 0 ∷ 1 ∷ 1 ∷ 0 ∷ []))
    ∷ (after ((2, 1) ∷ (4, 1) ∷ (5, 1) ∷ (4, 3) ∷ (5, 1) ∷ (5, 3) ∷ []) is (0 ∷ 3 ∷ 1 ∷ 0 ∷ 3 ∷ 0 ∷ 1 ∷ 1 ∷ 0 ∷ []))
    ∷ (after ((2, 1) ∷ (4, 1) ∷ (5, 1) ∷ (4, 3) ∷ (5, 1) ∷ (5, 255) ∷ []) is (0 ∷ 3 ∷ 1 ∷ 0 ∷ 3 ∷ 0 ∷ 1 ∷ 1 ∷ 0 ∷ []))
    -- "the interrupt is high exactly when enabled and pending": control 0 (above), 1, 2 and 3 with a change pending, and 1 with a failed set
    ∷ (after ((0, 1) ∷ (2, 1) ∷ (4, 1) ∷ (5, 1) ∷ []) is (1 ∷ 1 ∷ 1 ∷ 0 ∷ 1 ∷ 0 ∷ 1 ∷ 1 ∷ 1 ∷ []))
    ∷ (after ((0, 2) ∷ (2, 1) ∷ (4, 1) ∷ (5, 1) ∷ []) is (2 ∷ 1 ∷ 1 ∷ 0 ∷ 1 ∷ 0 ∷ 1 ∷ 1 ∷ 0 ∷ []))
    ∷ (after ((0, 3) ∷ (2, 1) ∷ (4, 1) ∷ (5, 1) ∷ []) is (3 ∷ 1 ∷ 1 ∷ 0 ∷ 1 ∷ 0 ∷ 1 ∷ 1 ∷ 1 ∷ []))
    ∷ (after ((0, 1) ∷ (2, 1) ∷ (4, 3) ∷ (5, 1) ∷ []) is (1 ∷ 2 ∷ 1 ∷ 0 ∷ 3 ∷ 0 ∷ 0 ∷ 1 ∷ 0 ∷ []))
    ∷ []

commands_hold : Hold commands
unfolding commands after
commands_hold = refl

-- "2 and 3 element number, low byte first": 256 elements, all open; the status, and the states of elements 1, 255 and 256.
all_open : Desk
unfolding desk_of
all_open =
    desk_of
    (record {
      header = record { letter = letter.S; sections = 2; plain = 0; elements = 256; trains = 0 };
      plain = [];
      elements = replicate 256 (record { kind = Signal (record { from = section 1; to = section 2 }); state = 0 });
      trains = [];
    })

set_at : ℕ → ℕ → List ℕ
unfolding played all_open state_in
set_at low high =
    let d : Desk = played all_open ((2, low) ∷ (3, high) ∷ (4, 2) ∷ (5, 1) ∷ []) in d.status ∷ state_of d 1 ∷ state_of d 255 ∷ state_of d 256 ∷ []

element_numbers : List (List ℕ × List ℕ)
unfolding set_at
element_numbers =
    (set_at 1 0 is (1 ∷ 2 ∷ 0 ∷ 0 ∷ []))
    ∷ (set_at 255 0 is (1 ∷ 0 ∷ 2 ∷ 0 ∷ []))
    ∷ (set_at 0 1 is (1 ∷ 0 ∷ 0 ∷ 2 ∷ []))
    ∷ (set_at 1 1 is (2 ∷ 0 ∷ 0 ∷ 0 ∷ []))
    ∷ (set_at 0 0 is (2 ∷ 0 ∷ 0 ∷ 0 ∷ []))
    ∷ ((element_number 255 255 ∷ element_number 2 3 ∷ []) is (65535 ∷ 770 ∷ []))
    ∷ []

element_numbers_hold : Hold element_numbers
unfolding element_numbers set_at
element_numbers_hold = refl

-- "It refuses with 20 a read or write at an address above 5."
reads : List (Result ℕ Refusal × Result ℕ Refusal)
unfolding start
reads = (read_answer start 5 is Ok 0) ∷ (read_answer start 6 is Err (refusal 20 0)) ∷ (read_answer start 255 is Err (refusal 20 0)) ∷ []

reads_hold : Hold reads
unfolding reads start read_answer byte_at
reads_hold = refl

writes : List (Result ⊤ Refusal × Result ⊤ Refusal)
writes = (write_answer 0 is Ok tt) ∷ (write_answer 5 is Ok tt) ∷ (write_answer 6 is Err (refusal 20 0)) ∷ (write_answer 255 is Err (refusal 20 0)) ∷ []

writes_hold : Hold writes
unfolding writes
writes_hold = refl

-- ---- Item 11
-- "Frame n, counted from 0, .. the bits of n exclusive-or n halved (rounded down), lowest bit for the last open element, 0 for state 1. .. N past the last
-- starts over": all frames of three open elements with a fixed one, then frames 8 and 15; lent memory of station K, all open, with frames 1, 15 and 16.
walk : List (List (List ℕ) × List (List ℕ))
unfolding frames frame_at
walk =
    (frames (0 ∷ 0 ∷ 2 ∷ 0 ∷ [])
    is ((1 ∷ 1 ∷ 2 ∷ 1 ∷ []) ∷ (1 ∷ 1 ∷ 2 ∷ 2 ∷ []) ∷ (1 ∷ 2 ∷ 2 ∷ 2 ∷ []) ∷ (1 ∷ 2 ∷ 2 ∷ 1 ∷ [])
    ∷ (2 ∷ 2 ∷ 2 ∷ 1 ∷ []) ∷ (2 ∷ 2 ∷ 2 ∷ 2 ∷ []) ∷ (2 ∷ 1 ∷ 2 ∷ 2 ∷ []) ∷ (2 ∷ 1 ∷ 2 ∷ 1 ∷ []) ∷ []))
    ∷ ((frame_at (0 ∷ 0 ∷ 2 ∷ 0 ∷ []) 8 ∷ frame_at (0 ∷ 0 ∷ 2 ∷ 0 ∷ []) 15 ∷ []) is ((1 ∷ 1 ∷ 2 ∷ 1 ∷ []) ∷ (2 ∷ 1 ∷ 2 ∷ 1 ∷ []) ∷ []))
    ∷ []

walk_hold : Hold walk
unfolding walk frames frame_at
walk_hold = refl

frames_lent : List (List ℕ × List ℕ)
frames_lent =
    (after_frame file_k6 1 (9 ∷ 9 ∷ 9 ∷ 9 ∷ 7 ∷ 8 ∷ []) is (1 ∷ 1 ∷ 1 ∷ 2 ∷ 7 ∷ 8 ∷ []))
    ∷ (after_frame file_k6 15 (9 ∷ 9 ∷ 9 ∷ 9 ∷ []) is (2 ∷ 1 ∷ 1 ∷ 1 ∷ []))
    ∷ (after_frame file_k6 16 (9 ∷ 9 ∷ 9 ∷ 9 ∷ []) is (1 ∷ 1 ∷ 1 ∷ 1 ∷ []))
    ∷ (after_frame file_k6 1 (9 ∷ 8 ∷ 7 ∷ []) is (9 ∷ 8 ∷ 7 ∷ []))
    ∷ []

frames_lent_hold : Hold frames_lent
unfolding frames_lent file_k6 after_frame frame_at settings_refusal call_refusal open_element open_count lowest file_states
    reading_in reading_under_in refused no_situation line_at well_formed field_at record_kind_at file_line_in kind_at refusal_of first_refusal cause_after line_cause closed_to
    clashes pairs_of having situation_of list_of pad_to
frames_lent_hold = refl

-- ---- Item 12
-- "By fixing one open element, at 1 in the first part and at 2 in the second": the file of a part, an L line and a D line.
parts : List (List ℕ × List ℕ)
unfolding file_k6 lines
parts =
    (part_file file_k6 1 2
    is lines
    ("S    5    1    4    2" ∷ "P    2    1          " ∷ "L    1    2    2     " ∷ "D    2    3    4    0" ∷ "L    3    5    0     " ∷ "L    4    5    0     "
    ∷ "T    1               " ∷ "T    4               " ∷ []))
    ∷ (part_file file_k6 2 1
    is lines
    ("S    5    1    4    2" ∷ "P    2    1          " ∷ "L    1    2    0     " ∷ "D    2    3    4    1" ∷ "L    3    5    0     " ∷ "L    4    5    0     "
    ∷ "T    1               " ∷ "T    4               " ∷ []))
    ∷ []

parts_hold : Hold parts
unfolding parts file_k6 lines part_file state_digit file_header line_at well_formed field_at record_kind_at
parts_hold = refl

-- ---- Item 14
hex : ℕ → List ℕ → ℕ
hex n [] = n
hex n (d ∷ l) = hex (n * 16 + d) l

-- "The hexadecimal number 9E3779B97F4A7C15, and the carry out of 64 bits is dropped": the last states that do not carry, and the first that does.
states : List (ℕ × ℕ)
unfolding hex
states =
    (growth is hex 0 (9 ∷ 14 ∷ 3 ∷ 7 ∷ 7 ∷ 9 ∷ 11 ∷ 9 ∷ 7 ∷ 15 ∷ 4 ∷ 10 ∷ 7 ∷ 12 ∷ 1 ∷ 5 ∷ []))
    ∷ (grown 0 is 11400714819323198485)
    ∷ (grown 7046029254386353130 is 18446744073709551615)
    ∷ (grown 7046029254386353131 is 0)
    ∷ (grown 18446744073709551615 is 11400714819323198484)
    ∷ (state_after 18446744073709551615 2 is 4354685564936845353)
    ∷ []

states_hold : Hold states
unfolding states hex state_after
states_hold = refl

-- "The draw is the upper 32 bits times the number of sections, divided by 2 to the power 32, rounded down, plus 1."
draws : List (ℕ × ℕ)
draws =
    (draw 0 512 is 1)
    ∷ (draw 4294967295 512 is 1)
    ∷ (draw 36028797018963967 512 is 1)
    ∷ (draw 36028797018963968 512 is 2)
    ∷ (draw 9223372036854775807 512 is 256)
    ∷ (draw 9223372036854775808 512 is 257)
    ∷ (draw 18446744073709551615 512 is 512)
    ∷ (draw 18446744073709551615 1 is 1)
    ∷ (draw 9223372036854775808 3 is 2)
    ∷ []

draws_hold : Hold draws
unfolding draws
draws_hold = refl

-- "A taken section gives way to the next free one above it, with section 1 after the last": of four sections, with some taken.
way : List ℕ → ℕ → ℕ
unfolding gives_way
way taken k = gives_way 4 (λ t. mem t taken) k

ways : List (ℕ × ℕ)
unfolding way
ways =
    (way [] 2 is 2)
    ∷ (way (2 ∷ []) 2 is 3)
    ∷ (way (2 ∷ 3 ∷ []) 2 is 4)
    ∷ (way (4 ∷ []) 4 is 1)
    ∷ (way (1 ∷ 4 ∷ []) 4 is 2)
    ∷ (way (1 ∷ 2 ∷ []) 4 is 4)
    ∷ (way (2 ∷ 3 ∷ 4 ∷ []) 2 is 1)
    ∷ []

ways_hold : Hold ways
unfolding ways way
ways_hold = refl

-- "It refuses with 21, before 9 (one 16-bit number a train), a number of sections outside 1 to 512, or more trains than sections or than 64": sections, trains,
-- and the numbers that the list has room for.
placements : List (Refusal × Refusal)
unfolding placement_refusal
placements =
    (placement_refusal 0 0 9 is refusal 21 0)
    ∷ (placement_refusal 1 0 9 is refusal 0 0)
    ∷ (placement_refusal 1 1 9 is refusal 0 0)
    ∷ (placement_refusal 1 2 9 is refusal 21 0)
    ∷ (placement_refusal 512 64 64 is refusal 0 0)
    ∷ (placement_refusal 513 64 64 is refusal 21 0)
    ∷ (placement_refusal 512 65 65 is refusal 21 0)
    ∷ (placement_refusal 64 64 64 is refusal 0 0)
    ∷ (placement_refusal 63 64 64 is refusal 21 0)
    ∷ (placement_refusal 64 64 63 is refusal 9 0)
    ∷ (placement_refusal 513 1 0 is refusal 21 0)
    ∷ []

placements_hold : Hold placements
unfolding placements placement_refusal
placements_hold = refl

-- "The sections fill a lent list in train order, and the last state is returned."
placed : List (List ℕ × List ℕ)
placed =
    (after_placement 1 12 4 (0 ∷ 0 ∷ 0 ∷ 0 ∷ 97 ∷ 98 ∷ []) is (8 ∷ 3 ∷ 11 ∷ 6 ∷ 97 ∷ 98 ∷ []))
    ∷ (after_placement 1 12 4 (97 ∷ 98 ∷ 99 ∷ []) is (97 ∷ 98 ∷ 99 ∷ []))
    ∷ (after_placement 1 12 0 (97 ∷ 98 ∷ []) is (97 ∷ 98 ∷ []))
    ∷ []

placed_hold : Hold placed
unfolding placed after_placement placement placement_refusal
placed_hold = refl

last_states : List (Result ℕ Refusal × Result ℕ Refusal)
last_states =
    (placement_answer 5 12 0 0 is Ok 5)
    ∷ (placement_answer 0 12 1 1 is Ok 11400714819323198485)
    ∷ (placement_answer 0 12 1 0 is Err (refusal 9 0))
    ∷ []

last_states_hold : Hold last_states
unfolding last_states placement_answer placement_refusal state_after
last_states_hold = refl
