-- Boundaries of the places of numbers: the fields of a line that is read (01, "The station file"), the values that C has of it, and the lines that the
-- writer writes of them. All rows are ours.
use Rattle.std.specs.Prelude.{refl, Result, Ok, Err, Option, Some, None, ⊤, Bool, true, false, List, [], ◌∷◌, ◌++◌, ℕ, take, length, replicate}
use Rattle.meaning.specs.declared.Kind.TheVariants.{Signal, Turnout}
use Rattle.meaning.specs.declared.Element.{Element}
use Rattle.meaning.specs.declared.Letter.{Letter}
use Rattle.meaning.specs.declared.Letter.TheVariants as letter
use Rattle.meaning.specs.declared.Choice.{Choice}
use Rattle.meaning.specs.declared.Output.{Output}
use Rattle.meaning.specs.declared.Situation.{Situation}
use Rattle.meaning.specs.declared.Refusal.{Refusal}
use Rattle.meaning.specs.declared.ShownVerdict.TheVariants as shown
use Rattle.meaning.specs.Station.{section, plain_moves, elements_of, trains_of}
use Rattle.meaning.specs.Columns.{record_kind_at, line_text, row_text, field_text, having}
use Rattle.basics.specs.Lists.{list_of, pad_to}
use Rattle.meaning.specs.File.{refusal, pairs_of, closed_to, clashes, line_cause, cause_after, first_refusal, refusal_of, no_situation, written_lines, written_line, text_of, file_text, write_refusal, after_writing}
use Rattle.session_meaning.specs.declared.Desk.{Desk}
use Rattle.session_meaning.specs.Desk.{desk_of}
use Rattle.meaning.specs.Shorter.{shorter_of}
use Rattle.c_layout.specs.declared.FlatRefusal.{FlatRefusal}
use Rattle.c_layout.specs.declared.FlatSituation.{FlatSituation}
use Rattle.c_layout.specs.declared.FlatVerdict.{FlatVerdict}
use Rattle.c_layout.specs.declared.FlatPart.{FlatPart}
use Rattle.c_layout.specs.Flat.{four_each, flat_situation, flat_reading_answer, element_from_c, moves_from_c, elements_from_c, trains_from_c, situation_from_c, letter_from_c, flat_verdict, flat_reply, flat_output, flat_yes_no, flat_filled, flat_placed, flat_outcome, flat_start, flat_desk, flat_desk_byte, flat_shorter}
use Rattle.worked_examples.proofs.Boundary.{◌is◌, Hold, lines, opened}

abbrev numbered : FlatRefusal → List ℕ → List ℕ
numbered q l = q.number ∷ q.line ∷ l

abbrev of_reply : Result (Option Choice) Refusal → List ℕ
of_reply r = numbered (flat_reply r).refusal ((flat_reply r).safe ∷ (flat_reply r).proceed ∷ [])

abbrev of_output : Result Output Refusal → List ℕ
of_output r = numbered (flat_output r).refusal ((flat_output r).length ∷ (flat_output r).subtractions ∷ [])

abbrev of_yes_no : Result Bool Refusal → List ℕ
of_yes_no r = numbered (flat_yes_no r).refusal ((flat_yes_no r).yes ∷ [])

abbrev of_filled : Result ℕ Refusal → List ℕ
of_filled r = numbered (flat_filled r).refusal ((flat_filled r).length ∷ [])

abbrev of_desk_byte : Result ℕ Refusal → List ℕ
of_desk_byte r = numbered (flat_desk_byte r).refusal ((flat_desk_byte r).byte ∷ [])

abbrev of_outcome : Result ⊤ Refusal → List ℕ
of_outcome r = numbered (flat_outcome r) []

-- The control byte and the elements of a desk.
a_desk : Desk
a_desk =
    record { control = 1; status = 0; number_low = 0; number_high = 0; state = 0; elements = 2; file_state = 0 ∷ 1 ∷ []; element_state = 0 ∷ 1 ∷ [] }

of_start : Result Desk Refusal → List ℕ
unfolding desk_of no_situation
of_start r = numbered (flat_start r).refusal ((flat_start r).desk.control ∷ (flat_start r).desk.elements ∷ [])

of_desk : Result ⊤ Refusal → List ℕ
unfolding a_desk
of_desk r = numbered (flat_desk r a_desk).refusal ((flat_desk r a_desk).desk.control ∷ (flat_desk r a_desk).desk.elements ∷ [])

of_reading : Result Situation Refusal → List ℕ
unfolding flat_situation no_situation
of_reading r = numbered (flat_reading_answer r).refusal ((flat_reading_answer r).situation.sections ∷ (flat_reading_answer r).situation.trains ∷ [])

abbrev of_placed : Result ℕ Refusal → List ℕ
of_placed r = numbered (flat_placed r).refusal ((flat_placed r).state ∷ [])

-- ---- values
-- A line of each kind, with a number of its own in each field; and trains of one to four sections under U.
each_kind : List ℕ
unfolding lines
each_kind =
    lines
    ("S    9    1    2    2"
    ∷ "P    1    2          "
    ∷ "L    3    4    1     "
    ∷ "D    5    6    7    2"
    ∷ "T    8               "
    ∷ "T    9               "
    ∷ [])

long : List ℕ
unfolding lines
long =
    lines
    ("U    9    0    0    4"
    ∷ "T    1               "
    ∷ "T    3    2          "
    ∷ "T    4    6    5     "
    ∷ "T    7    9    8    1"
    ∷ [])

values : List ℕ → FlatSituation
unfolding opened flat_situation four_each
values file = flat_situation (opened file).situation

-- "P: from, to; L: from, to, state; D: stem, straight leg, diverted leg, state; T: section"; counts in the S line's order: sections, P lines,
-- elements, trains. "Trains and elements are numbered in file order."
fields_read : List (List ℕ × List ℕ)
unfolding values each_kind long
fields_read =
    let v : FlatSituation = values each_kind in
    let u : FlatSituation = values long in
    ((v.sections ∷ v.plain ∷ v.elements ∷ v.trains ∷ v.is_long ∷ []) is (9 ∷ 1 ∷ 2 ∷ 2 ∷ 0 ∷ []))
    ∷ (take 2 v.plain_from is (1 ∷ 0 ∷ []))
    ∷ (take 2 v.plain_to is (2 ∷ 0 ∷ []))
    ∷ (take 3 v.is_turnout is (0 ∷ 1 ∷ 0 ∷ []))
    ∷ (take 3 v.element_first is (3 ∷ 5 ∷ 0 ∷ []))
    ∷ (take 3 v.element_second is (4 ∷ 6 ∷ 0 ∷ []))
    ∷ (take 3 v.element_third is (0 ∷ 7 ∷ 0 ∷ []))
    ∷ (take 3 v.element_state is (1 ∷ 2 ∷ 0 ∷ []))
    ∷ (take 3 v.train_size is (1 ∷ 1 ∷ 0 ∷ []))
    ∷ (take 9 v.train_section is (8 ∷ 0 ∷ 0 ∷ 0 ∷ 9 ∷ 0 ∷ 0 ∷ 0 ∷ 0 ∷ []))
    ∷ ((u.sections ∷ u.plain ∷ u.elements ∷ u.trains ∷ u.is_long ∷ []) is (9 ∷ 0 ∷ 0 ∷ 4 ∷ 1 ∷ []))
    ∷ (take 5 u.train_size is (1 ∷ 2 ∷ 3 ∷ 4 ∷ 0 ∷ []))
    ∷ (take 17 u.train_section is (1 ∷ 0 ∷ 0 ∷ 0 ∷ 3 ∷ 2 ∷ 0 ∷ 0 ∷ 4 ∷ 6 ∷ 5 ∷ 0 ∷ 7 ∷ 9 ∷ 8 ∷ 1 ∷ 0 ∷ []))
    ∷ []

fields_read_hold : Hold fields_read
unfolding fields_read values each_kind long
fields_read_hold = refl

-- The most that the S line allows has a place: 1024 P lines, 256 elements, 64 trains of four sections.
places : List (ℕ × ℕ)
unfolding flat_situation no_situation pad_to four_each
places =
    let v : FlatSituation = flat_situation no_situation in
    (length v.plain_from is 1024)
    ∷ (length v.plain_to is 1024)
    ∷ (length v.is_turnout is 256)
    ∷ (length v.element_state is 256)
    ∷ (length v.train_size is 64)
    ∷ (length v.train_section is 256)
    ∷ (length (moves_from_c v) is 1024)
    ∷ (length (elements_from_c v) is 256)
    ∷ (length (trains_from_c v) is 64)
    ∷ []

places_hold : Hold places
unfolding places flat_situation no_situation pad_to four_each moves_from_c elements_from_c trains_from_c list_of
places_hold = refl

-- ---- the writer
-- "The writer takes a situation as values": these values, back as lines of each kind.
written : List ℕ → List ℕ
unfolding values situation_from_c moves_from_c elements_from_c trains_from_c list_of file_text text_of written_line written_lines line_text record_kind_at row_text field_text plain_moves elements_of trains_of
written file = file_text (situation_from_c (values file))

texts : List (List ℕ × List ℕ)
unfolding written each_kind long
texts = (written each_kind is each_kind) ∷ (written long is long) ∷ []

texts_hold : Hold texts
unfolding texts written each_kind long
texts_hold = refl

-- "Fills the start of a lent buffer, the rest unchanged": a line of 22 bytes, and what stood behind it. "9: .. the writer 22 bytes a line. Line 0."
one_section : Situation
unfolding opened lines
one_section = (opened (lines ("S    1    0    0    0" ∷ []))).situation

lent : List (List ℕ × List ℕ)
unfolding one_section after_writing write_refusal refusal_of first_refusal file_text text_of written_line written_lines list_of line_text record_kind_at row_text field_text lines
lent =
    (after_writing one_section (replicate 22 0 ++ (1 ∷ 2 ∷ 3 ∷ [])) is (lines ("S    1    0    0    0" ∷ []) ++ (1 ∷ 2 ∷ 3 ∷ [])))
    ∷ (after_writing one_section (replicate 22 0) is lines ("S    1    0    0    0" ∷ []))
    ∷ (after_writing one_section (replicate 21 7) is replicate 21 7)
    ∷ []

lent_hold : Hold lent
unfolding lent one_section after_writing write_refusal refusal_of first_refusal file_text text_of written_line written_lines list_of line_text record_kind_at row_text field_text lines
lent_hold = refl

-- "The writer gives 3, 5, 7, 6, 8, 9 only, with the line that would have been written", and 2 "for a train of no section, of more than four, or under S of
-- more than one" (02, Item 2): a train of 0 to 5 sections under S and under U, in a station of nine sections and one P line; a buffer of 65 bytes
-- and of 66.
one_train : Letter → ℕ → Situation
one_train x n =
    record {
      header = record { letter = x; sections = 9; plain = 1; elements = 0; trains = 1 };
      plain = record { from = section 1; to = section 2 } ∷ [];
      elements = [];
      trains = record { count = n; first = section 1; second = section 2; third = section 3; fourth = section 4 } ∷ [];
    }

under_sizes : ℕ → ℕ → ℕ → ℕ → Situation
under_sizes n p e t =
    record { header = record { letter = letter.S; sections = n; plain = p; elements = e; trains = t }; plain = []; elements = []; trains = [] }

writer_refusals : List (Refusal × Refusal)
unfolding one_train under_sizes write_refusal refusal_of first_refusal cause_after line_cause closed_to clashes pairs_of having record_kind_at written_line written_lines list_of
writer_refusals =
    (write_refusal (one_train letter.S 0) 66 is refusal 2 3)
    ∷ (write_refusal (one_train letter.S 1) 66 is refusal 0 0)
    ∷ (write_refusal (one_train letter.S 1) 65 is refusal 9 0)
    ∷ (write_refusal (one_train letter.S 2) 66 is refusal 2 3)
    ∷ (write_refusal (one_train letter.U 0) 66 is refusal 2 3)
    ∷ (write_refusal (one_train letter.U 1) 66 is refusal 0 0)
    ∷ (write_refusal (one_train letter.U 4) 66 is refusal 0 0)
    ∷ (write_refusal (one_train letter.U 5) 66 is refusal 2 3)
    ∷ (write_refusal (under_sizes 0 0 0 0) 0 is refusal 3 1)
    ∷ (write_refusal (under_sizes 512 0 0 0) 21 is refusal 9 0)
    ∷ (write_refusal (under_sizes 512 0 0 0) 22 is refusal 0 0)
    ∷ (write_refusal (under_sizes 513 0 0 0) 22 is refusal 3 1)
    ∷ (write_refusal (under_sizes 1 1024 0 0) 0 is refusal 5 2)
    ∷ (write_refusal (under_sizes 1 1025 0 0) 0 is refusal 3 1)
    ∷ (write_refusal (under_sizes 1 0 256 0) 0 is refusal 5 2)
    ∷ (write_refusal (under_sizes 1 0 257 0) 0 is refusal 3 1)
    ∷ (write_refusal (under_sizes 1 0 0 64) 0 is refusal 2 2)
    ∷ (write_refusal (under_sizes 1 0 0 65) 0 is refusal 3 1)
    ∷ []

writer_refusals_hold : Hold writer_refusals
unfolding writer_refusals one_train under_sizes write_refusal refusal_of first_refusal cause_after line_cause closed_to clashes pairs_of having record_kind_at written_line written_lines list_of
writer_refusals_hold = refl

-- "Entries past its counts are ignored": the train's sections past its count, and P lines past theirs.
past_counts : List (List ℕ × List ℕ)
unfolding one_train under_sizes lines
past_counts =
    (file_text (one_train letter.S 1) is lines ("S    9    1    0    1" ∷ "P    1    2          " ∷ "T    1               " ∷ []))
    ∷ (file_text (one_train letter.U 3) is lines ("U    9    1    0    1" ∷ "P    1    2          " ∷ "T    1    2    3     " ∷ []))
    ∷ (file_text (record { header = (under_sizes 9 0 0 0).header; plain = (one_train letter.S 1).plain; elements = []; trains = (one_train letter.S 1).trains })
    is lines ("S    9    0    0    0" ∷ []))
    ∷ []

past_counts_hold : Hold past_counts
unfolding past_counts one_train under_sizes lines file_text text_of written_line written_lines list_of line_text record_kind_at row_text field_text
past_counts_hold = refl

-- ---- back from C
-- Turnout 0 is a signal, any other number a turnout; letter 0 is S, any other U.
elements_back : List (Element × Element)
elements_back =
    (element_from_c (record { turnout = 0; first = 1; second = 2; third = 3; state = 1 })
    is record { kind = Signal (record { from = section 1; to = section 2 }); state = 1 })
    ∷ (element_from_c (record { turnout = 1; first = 1; second = 2; third = 3; state = 2 })
    is record { kind = Turnout (record { stem = section 1; straight = section 2; diverted = section 3 }); state = 2 })
    ∷ (element_from_c (record { turnout = 2; first = 1; second = 2; third = 3; state = 0 })
    is record { kind = Turnout (record { stem = section 1; straight = section 2; diverted = section 3 }); state = 0 })
    ∷ []

elements_back_hold : Hold elements_back
unfolding elements_back
elements_back_hold = refl

letters_back : List (Letter × Letter)
letters_back = (letter_from_c 0 is letter.S) ∷ (letter_from_c 1 is letter.U) ∷ (letter_from_c 2 is letter.U) ∷ []

letters_back_hold : Hold letters_back
unfolding letters_back
letters_back_hold = refl

-- ---- answers
-- A dangerous verdict, a safe one, and a refusal, each number in a field of its own.
verdicts : List (FlatVerdict × FlatVerdict)
verdicts =
    (flat_verdict
    (Ok (shown.Dangerous (record { first = record { 0 = 1 }; second = record { 0 = 2 }; section = section 3 })
    (record { entries = 4; looks = 5 }) (record { first = 6; second = 7 })))
    is record { refusal = record { number = 0; line = 0 }; dangerous = 1; first_train = 1; second_train = 2; meeting = 3; entries = 4; looks = 5; first_length = 6; second_length = 7 })
    ∷ (flat_verdict (Ok (shown.Safe (record { entries = 4; looks = 5 })))
    is record { refusal = record { number = 0; line = 0 }; dangerous = 0; first_train = 0; second_train = 0; meeting = 0; entries = 4; looks = 5; first_length = 0; second_length = 0 })
    ∷ (flat_verdict (Err (refusal 8 9))
    is record { refusal = record { number = 8; line = 9 }; dangerous = 0; first_train = 0; second_train = 0; meeting = 0; entries = 0; looks = 0; first_length = 0; second_length = 0 })
    ∷ []

verdicts_hold : Hold verdicts
unfolding verdicts
verdicts_hold = refl

-- Refusal number and line, then the numbers of the answer: a reply, the length and the subtractions of what was written, a yes or no, a number of bytes, a placement's state, a byte
-- read of a desk; a written file; a reading's sections and trains; and a desk, of which a refused start has no element.
answers : List (List ℕ × List ℕ)
unfolding of_start of_desk of_reading
answers =
    (of_reply (Ok (Some (record { safe = 3; proceed = 2 }))) is (0 ∷ 0 ∷ 3 ∷ 2 ∷ []))
    ∷ (of_reply (Ok None) is (0 ∷ 0 ∷ 0 ∷ 0 ∷ []))
    ∷ (of_reply (Err (refusal 11 4)) is (11 ∷ 4 ∷ 0 ∷ 0 ∷ []))
    ∷ (of_output (Ok (record { length = 44; subtractions = 7 })) is (0 ∷ 0 ∷ 44 ∷ 7 ∷ []))
    ∷ (of_output (Err (refusal 9 0)) is (9 ∷ 0 ∷ 0 ∷ 0 ∷ []))
    ∷ (of_yes_no (Ok true) is (0 ∷ 0 ∷ 1 ∷ []))
    ∷ (of_yes_no (Ok false) is (0 ∷ 0 ∷ 0 ∷ []))
    ∷ (of_yes_no (Err (refusal 10 3)) is (10 ∷ 3 ∷ 0 ∷ []))
    ∷ (of_filled (Ok 22) is (0 ∷ 0 ∷ 22 ∷ []))
    ∷ (of_filled (Err (refusal 14 6)) is (14 ∷ 6 ∷ 0 ∷ []))
    ∷ (of_placed (Ok 5) is (0 ∷ 0 ∷ 5 ∷ []))
    ∷ (of_placed (Err (refusal 21 0)) is (21 ∷ 0 ∷ 0 ∷ []))
    ∷ (of_desk_byte (Ok 255) is (0 ∷ 0 ∷ 255 ∷ []))
    ∷ (of_desk_byte (Err (refusal 20 0)) is (20 ∷ 0 ∷ 0 ∷ []))
    ∷ (of_reading (Ok (one_train letter.S 1)) is (0 ∷ 0 ∷ 9 ∷ 1 ∷ []))
    ∷ (of_reading (Err (refusal 3 1)) is (3 ∷ 1 ∷ 0 ∷ 0 ∷ []))
    ∷ (of_outcome (Ok tt) is (0 ∷ 0 ∷ []))
    ∷ (of_outcome (Err (refusal 9 0)) is (9 ∷ 0 ∷ []))
    ∷ (of_start (Ok a_desk) is (0 ∷ 0 ∷ 1 ∷ 2 ∷ []))
    ∷ (of_start (Err (refusal 5 8)) is (5 ∷ 8 ∷ 0 ∷ 0 ∷ []))
    ∷ (of_desk (Ok tt) is (0 ∷ 0 ∷ 1 ∷ 2 ∷ []))
    ∷ (of_desk (Err (refusal 20 0)) is (20 ∷ 0 ∷ 1 ∷ 2 ∷ []))
    ∷ []

answers_hold : Hold answers
unfolding answers a_desk of_start of_desk of_reading one_train
answers_hold = refl

-- "The shorter of two lent paths, the first where they are equally long": the path, and for C list 1 or 2 and its length.
shorter_lists : List (List ℕ × List ℕ)
unfolding shorter_of
shorter_lists =
    (shorter_of (1 ∷ 2 ∷ []) (3 ∷ 4 ∷ []) is (1 ∷ 2 ∷ []))
    ∷ (shorter_of (1 ∷ 2 ∷ 5 ∷ []) (3 ∷ 4 ∷ []) is (3 ∷ 4 ∷ []))
    ∷ (shorter_of (1 ∷ []) (3 ∷ 4 ∷ []) is (1 ∷ []))
    ∷ []

shorter_lists_hold : Hold shorter_lists
unfolding shorter_lists shorter_of
shorter_lists_hold = refl

shorter_paths : List (FlatPart × FlatPart)
unfolding flat_shorter shorter_of
shorter_paths =
    (flat_shorter (1 ∷ 2 ∷ []) (3 ∷ 4 ∷ []) is record { list = 1; length = 2 })
    ∷ (flat_shorter (1 ∷ 2 ∷ 3 ∷ []) (3 ∷ 4 ∷ []) is record { list = 2; length = 2 })
    ∷ (flat_shorter (1 ∷ []) (3 ∷ 4 ∷ []) is record { list = 1; length = 1 })
    ∷ []

shorter_paths_hold : Hold shorter_paths
unfolding shorter_paths flat_shorter shorter_of
shorter_paths_hold = refl
