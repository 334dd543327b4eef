-- The values of document 01 as flat values, as a C program has them, and back. A flat array has one field of every entry, of those past the
-- counts too.
use Rattle.std.specs.Prelude.{Result, Ok, Err, Option, Some, None, Bool, ⊤, cond, List, [], ◌∷◌, map, ℕ, ◌+◌, ◌*◌, eqb, ltb, length, get_or}
use Rattle.meaning.specs.declared.Move.{Move}
use Rattle.meaning.specs.declared.Kind.{Kind}
use Rattle.meaning.specs.declared.Kind.TheVariants as kind
use Rattle.meaning.specs.declared.Element.{Element}
use Rattle.meaning.specs.declared.Letter.{Letter}
use Rattle.meaning.specs.declared.Letter.TheVariants as letter
use Rattle.meaning.specs.declared.Train.{Train}
use Rattle.meaning.specs.declared.Situation.{Situation}
use Rattle.meaning.specs.declared.Refusal.{Refusal}
use Rattle.meaning.specs.declared.ShownVerdict.{ShownVerdict}
use Rattle.meaning.specs.declared.ShownVerdict.TheVariants as shown
use Rattle.meaning.specs.declared.Choice.{Choice}
use Rattle.meaning.specs.declared.Output.{Output}
use Rattle.session_meaning.specs.declared.Desk.{Desk}
use Rattle.basics.specs.Lists.{list_of}
use Rattle.meaning.specs.Station.{move_between, signal_over, turnout_joining, train_in}
use Rattle.meaning.specs.File.{Reading, no_situation}
use Rattle.session_meaning.specs.Desk.{desk_of}
use Rattle.meaning.specs.Shorter.{shorter_of}
use Rattle.c_layout.specs.declared.FlatRefusal.{FlatRefusal}
use Rattle.c_layout.specs.declared.FlatElement.{FlatElement}
use Rattle.c_layout.specs.declared.FlatSituation.{FlatSituation}
use Rattle.c_layout.specs.declared.FlatReading.{FlatReading}
use Rattle.c_layout.specs.declared.FlatVerdict.{FlatVerdict}
use Rattle.c_layout.specs.declared.FlatReply.{FlatReply}
use Rattle.c_layout.specs.declared.FlatOutput.{FlatOutput}
use Rattle.c_layout.specs.declared.FlatYesNo.{FlatYesNo}
use Rattle.c_layout.specs.declared.FlatFilled.{FlatFilled}
use Rattle.c_layout.specs.declared.FlatDeskAnswer.{FlatDeskAnswer}
use Rattle.c_layout.specs.declared.FlatDeskByte.{FlatDeskByte}
use Rattle.c_layout.specs.declared.FlatPlaced.{FlatPlaced}
use Rattle.c_layout.specs.declared.FlatPart.{FlatPart}

abbrev pub flat_refusal : Refusal → FlatRefusal
flat_refusal q = record { number = q.number; line = q.line }

-- No refusal: number 0.
abbrev pub no_refusal : FlatRefusal
no_refusal = record { number = 0; line = 0 }

-- The refusal of an operation that returns nothing else.
abbrev pub flat_outcome : Result ⊤ Refusal → FlatRefusal
flat_outcome (Err q) = flat_refusal q
flat_outcome (Ok u) = no_refusal

-- ---- a situation
abbrev pub element_with : ℕ → ℕ → ℕ → ℕ → ℕ → FlatElement
element_with turnout a b c x = record { turnout = turnout; first = a; second = b; third = c; state = x }

-- A signal has turnout 0 and third 0, a turnout has turnout 1.
abbrev pub flat_kind : Kind → ℕ → FlatElement
flat_kind (kind.Signal m) x = element_with 0 m.from.0 m.to.0 0 x
flat_kind (kind.Turnout t) x = element_with 1 t.stem.0 t.straight.0 t.diverted.0 x

abbrev pub flat_element : Element → FlatElement
flat_element e = flat_kind e.kind e.state

-- The sections of all trains, four places for each, in train order.
unfoldable pub four_each : List Train → List ℕ
four_each [] = []
four_each (t ∷ ts) = t.first.0 ∷ t.second.0 ∷ t.third.0 ∷ t.fourth.0 ∷ four_each ts

-- S is 0, U is 1.
abbrev pub flat_letter : Letter → ℕ
flat_letter letter.S = 0
flat_letter letter.U = 1

unfoldable pub flat_situation : Situation → FlatSituation
flat_situation s =
    record {
      sections = s.header.sections;
      plain = s.header.plain;
      elements = s.header.elements;
      trains = s.header.trains;
      plain_from = map (λ (m : Move). m.from.0) s.plain;
      plain_to = map (λ (m : Move). m.to.0) s.plain;
      is_turnout = map (λ (e : Element). (flat_element e).turnout) s.elements;
      element_first = map (λ (e : Element). (flat_element e).first) s.elements;
      element_second = map (λ (e : Element). (flat_element e).second) s.elements;
      element_third = map (λ (e : Element). (flat_element e).third) s.elements;
      element_state = map (λ (e : Element). (flat_element e).state) s.elements;
      is_long = flat_letter s.header.letter;
      train_size = map (λ (t : Train). t.count) s.trains;
      train_section = four_each s.trains;
    }

unfoldable pub flat_reading : Reading → FlatReading
flat_reading r = record { refusal = flat_refusal r.refusal; situation = flat_situation r.situation }

-- What a file is read as: after a refusal the situation is all zeros.
abbrev pub flat_reading_answer : Result Situation Refusal → FlatReading
flat_reading_answer (Ok s) = record { refusal = no_refusal; situation = flat_situation s }
flat_reading_answer (Err q) = record { refusal = flat_refusal q; situation = flat_situation no_situation }

-- ---- and back
-- The element of five numbers: turnout 0 is a signal, whose third number means nothing; any other is a turnout.
abbrev pub element_from_c : FlatElement → Element
element_from_c e =
    cond (eqb e.turnout 0) (signal_over e.first e.second e.state) (turnout_joining e.first e.second e.third e.state)

-- The P line at place i.
abbrev pub move_at : FlatSituation → ℕ → Move
move_at f i = move_between (get_or f.plain_from i 0) (get_or f.plain_to i 0)

abbrev pub flat_element_at : FlatSituation → ℕ → FlatElement
flat_element_at f i =
    element_with (get_or f.is_turnout i 0) (get_or f.element_first i 0) (get_or f.element_second i 0) (get_or f.element_third i 0) (get_or f.element_state i 0)

unfoldable pub moves_from_c : FlatSituation → List Move
moves_from_c f = list_of 1024 (move_at f)

unfoldable pub elements_from_c : FlatSituation → List Element
elements_from_c f = list_of 256 (λ i. element_from_c (flat_element_at f i))

abbrev pub train_at : FlatSituation → ℕ → Train
train_at f i =
    train_in (get_or f.train_size i 0) (get_or f.train_section (4 * i) 0) (get_or f.train_section (4 * i + 1) 0) (get_or f.train_section (4 * i + 2) 0) (get_or f.train_section (4 * i + 3) 0)

unfoldable pub trains_from_c : FlatSituation → List Train
trains_from_c f = list_of 64 (train_at f)

-- The letter of a number: 0 is S, any other is U.
abbrev pub letter_from_c : ℕ → Letter
letter_from_c k = cond (eqb k 0) letter.S letter.U

unfoldable pub situation_from_c : FlatSituation → Situation
situation_from_c f =
    record {
      header = record { letter = letter_from_c f.is_long; sections = f.sections; plain = f.plain; elements = f.elements; trains = f.trains };
      plain = moves_from_c f;
      elements = elements_from_c f;
      trains = trains_from_c f;
    }

-- ---- answers
-- After a refusal all other fields are 0; a safe verdict has 0 for the trains, the section and the lengths.
abbrev pub flat_verdict : Result ShownVerdict Refusal → FlatVerdict
flat_verdict (Err q) =
    record {
      refusal = flat_refusal q;
      dangerous = 0;
      first_train = 0;
      second_train = 0;
      meeting = 0;
      entries = 0;
      looks = 0;
      first_length = 0;
      second_length = 0;
    }
flat_verdict (Ok (shown.Safe c)) =
    record {
      refusal = no_refusal;
      dangerous = 0;
      first_train = 0;
      second_train = 0;
      meeting = 0;
      entries = c.entries;
      looks = c.looks;
      first_length = 0;
      second_length = 0;
    }
flat_verdict (Ok (shown.Dangerous m c n)) =
    record {
      refusal = no_refusal;
      dangerous = 1;
      first_train = m.first.0;
      second_train = m.second.0;
      meeting = m.section.0;
      entries = c.entries;
      looks = c.looks;
      first_length = n.first;
      second_length = n.second;
    }

-- Both numbers are 0 where no setting is safe, and after a refusal.
abbrev pub flat_reply : Result (Option Choice) Refusal → FlatReply
flat_reply (Err q) = record { refusal = flat_refusal q; safe = 0; proceed = 0 }
flat_reply (Ok None) = record { refusal = no_refusal; safe = 0; proceed = 0 }
flat_reply (Ok (Some c)) = record { refusal = no_refusal; safe = c.safe; proceed = c.proceed }

-- How many bytes were written, and how many subtractions their digits took: 0 after a refusal.
abbrev pub flat_output : Result Output Refusal → FlatOutput
flat_output (Err q) = record { refusal = flat_refusal q; length = 0; subtractions = 0 }
flat_output (Ok o) = record { refusal = no_refusal; length = o.length; subtractions = o.subtractions }

-- Yes is 1, and no is 0, as after a refusal.
abbrev pub flat_yes_no : Result Bool Refusal → FlatYesNo
flat_yes_no (Err q) = record { refusal = flat_refusal q; yes = 0 }
flat_yes_no (Ok b) = record { refusal = no_refusal; yes = cond b 1 0 }

-- How many bytes were filled, 0 after a refusal.
abbrev pub flat_filled : Result ℕ Refusal → FlatFilled
flat_filled (Err q) = record { refusal = flat_refusal q; length = 0 }
flat_filled (Ok n) = record { refusal = no_refusal; length = n }

-- C has the same struct for a desk. The desk of a refused start has no element; after a refused write the desk is as it was.
abbrev pub flat_start : Result Desk Refusal → FlatDeskAnswer
flat_start (Err q) = record { refusal = flat_refusal q; desk = desk_of no_situation }
flat_start (Ok d) = record { refusal = no_refusal; desk = d }

abbrev pub flat_desk : Result ⊤ Refusal → Desk → FlatDeskAnswer
flat_desk r d = record { refusal = flat_outcome r; desk = d }

-- After a refusal the byte is 0.
abbrev pub flat_desk_byte : Result ℕ Refusal → FlatDeskByte
flat_desk_byte (Err q) = record { refusal = flat_refusal q; byte = 0 }
flat_desk_byte (Ok b) = record { refusal = no_refusal; byte = b }

-- After a refusal the state is 0.
abbrev pub flat_placed : Result ℕ Refusal → FlatPlaced
flat_placed (Err q) = record { refusal = flat_refusal q; state = 0 }
flat_placed (Ok s) = record { refusal = no_refusal; state = s }

-- The shorter of two paths: which of the two it is, 1 or 2, and how many sections it has.
unfoldable pub flat_shorter : List ℕ → List ℕ → FlatPart
flat_shorter p q = record { list = cond (ltb (length q) (length p)) 2 1; length = length (shorter_of p q) }
