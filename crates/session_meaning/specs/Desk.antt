-- The push-button desk (02, Item 10): first what each operation does to a desk, any desk; then what a list of writes says by itself. That
-- the two agree is the request's theorem. Elements are numbered from 1, writes are counted from 0.
use Rattle.std.specs.Prelude.{Result, ⊤, ◌≡◌, Bool, true, false, not, ◌&&◌, ◌||◌, cond, List, map, ℕ, zero, suc, ◌+◌, ◌*◌, ◌-◌, ◌%◌, ◌<◌, eqb, ltb, get_or, length, set, take}
use Rattle.meaning.specs.declared.Element.{Element}
use Rattle.meaning.specs.declared.Situation.{Situation}
use Rattle.meaning.specs.declared.Refusal.{Refusal}
use Rattle.session_meaning.specs.declared.Desk.{Desk}
use Rattle.meaning.specs.File.{Reading, refusal, unless_refused}

-- ---- the words of the request
-- "Element number, low byte first."
abbrev pub element_number : ℕ → ℕ → ℕ
element_number low high = low + high * 256

-- The state of element e, in a list of states.
unfoldable pub state_in : List ℕ → ℕ → ℕ
state_in xs zero = 0
state_in xs (suc i) = get_or xs i 0

-- Element e "was open in the file", whose states are fs. 0 is no element's number, nor is one above the elements.
unfoldable pub was_open : List ℕ → ℕ → Bool
was_open fs zero = false
was_open fs (suc i) = ltb i (length fs) && eqb (get_or fs i 0) 0

-- "Command 1 sets the element, if it was open in the file and the state is 1 or 2."
unfoldable pub can_set : List ℕ → ℕ → ℕ → Bool
can_set fs e x = was_open fs e && (eqb x 1 || eqb x 2)

-- ---- a desk
-- "All start at 0", and each element is in its file state.
unfoldable pub desk_of : Situation → Desk
desk_of s =
    record {
      control = 0;
      status = 0;
      number_low = 0;
      number_high = 0;
      state = 0;
      elements = s.header.elements;
      file_state = map (λ (e : Element). e.state) s.elements;
      element_state = map (λ (e : Element). e.state) s.elements;
    }

-- What a start answers: the desk of the situation, or the reader's refusal.
unfoldable pub start_answer : Reading → Result Desk Refusal
start_answer r = unless_refused r.refusal (desk_of r.situation)

-- The states that the desk's elements had in the file: of all 256 where the desk says that there are more.
abbrev pub desk_states : Desk → List ℕ
desk_states d = take d.elements d.file_state

-- The state that element e of the desk holds.
abbrev pub state_of : Desk → ℕ → ℕ
state_of d e = state_in d.element_state e

-- Command 1 would succeed.
unfoldable pub settable : Desk → Bool
settable d = can_set (desk_states d) (element_number d.number_low d.number_high) d.state

-- Bit 0 is "change pending", bit 1 "last set failed"; the other bits mean nothing. "Pending becomes 1, failed 0. If not, failed becomes 1 and
-- nothing else changes. Command 2 clears both bits; others do nothing."
unfoldable pub status_after : Desk → ℕ → ℕ
status_after d command = cond (eqb command 1) (cond (settable d) 1 (d.status % 2 + 2)) (cond (eqb command 2) 0 d.status)

-- The states of the elements after a command.
unfoldable pub states_after : Desk → ℕ → List ℕ
states_after d command =
    cond (eqb command 1 && settable d) (set d.element_state (element_number d.number_low d.number_high - 1) d.state) d.element_state

-- "A write stores the byte, except at 1, which ignores writes, and at 5." At an address above 5 nothing changes.
unfoldable pub written : Desk → ℕ → ℕ → Desk
written d address byte =
    record {
      control = cond (eqb address 0) byte d.control;
      status = cond (eqb address 5) (status_after d byte) d.status;
      number_low = cond (eqb address 2) byte d.number_low;
      number_high = cond (eqb address 3) byte d.number_high;
      state = cond (eqb address 4) byte d.state;
      elements = d.elements;
      file_state = d.file_state;
      element_state = cond (eqb address 5) (states_after d byte) d.element_state;
    }

-- "It refuses with 20 a read or write at an address above 5."
abbrev pub address_refusal : ℕ → Refusal
address_refusal address = cond (ltb 5 address) (refusal 20 0) (refusal 0 0)

-- What a write answers: nothing but a refusal.
abbrev pub write_answer : ℕ → Result ⊤ Refusal
write_answer address = unless_refused (address_refusal address) tt

-- Address 5 "reads 0 always".
unfoldable pub byte_at : Desk → ℕ → ℕ
byte_at d address =
    cond (eqb address 0) d.control
    (cond (eqb address 1) (d.status % 4)
    (cond (eqb address 2) d.number_low
    (cond (eqb address 3) d.number_high
    (cond (eqb address 4) d.state
    0))))

unfoldable pub read_answer : Desk → ℕ → Result ℕ Refusal
read_answer d address = unless_refused (address_refusal address) (byte_at d address)

-- "The interrupt is high exactly when enabled and pending": bit 0 of the control, and bit 0 of the status.
unfoldable pub interrupt_of : Desk → Bool
interrupt_of d = eqb (d.control % 2) 1 && eqb (d.status % 2) 1

-- ---- writes, one after the other
pub record Write : Type 0 where
  pub address : ℕ
  pub byte : ℕ

-- The desk after the first n writes of ws. A refused one changes nothing, and the next one follows.
unfoldable pub desk_after : Desk → (ℕ → Write) → ℕ → Desk
desk_after d ws zero = d
desk_after d ws (suc n) = written (desk_after d ws n) (ws n).address (ws n).byte

-- Write i of a list of bytes, two for each.
abbrev pub pair_at : List ℕ → ℕ → Write
pair_at bytes i = record { address = get_or bytes (i * 2) 0; byte = get_or bytes (i * 2 + 1) 0 }

-- ---- what a list of writes says by itself
-- The value of v at the last place below n where f holds, or else z.
unfoldable pub last_where : (ℕ → Bool) → (ℕ → ℕ) → ℕ → ℕ → ℕ
last_where f v z zero = z
last_where f v z (suc n) = cond (f n) (v n) (last_where f v z n)

-- The last byte that the first n writes wrote at an address, or 0.
unfoldable pub last_byte : (ℕ → Write) → ℕ → ℕ → ℕ
last_byte ws address n = last_where (λ i. eqb (ws i).address address) (λ i. (ws i).byte) 0 n

-- Write i is a command.
abbrev pub is_command : (ℕ → Write) → ℕ → ℕ → Bool
is_command ws command i = eqb (ws i).address 5 && eqb (ws i).byte command

-- The element number before write i.
abbrev pub number_at : (ℕ → Write) → ℕ → ℕ
number_at ws i = element_number (last_byte ws 2 i) (last_byte ws 3 i)

-- Write i is a successful set. fs are the file's states, here and below.
unfoldable pub succeeds : List ℕ → (ℕ → Write) → ℕ → Bool
succeeds fs ws i = is_command ws 1 i && can_set fs (number_at ws i) (last_byte ws 4 i)

-- Write i is a failed set.
unfoldable pub fails : List ℕ → (ℕ → Write) → ℕ → Bool
fails fs ws i = is_command ws 1 i && not (can_set fs (number_at ws i) (last_byte ws 4 i))

-- Write i is a successful set of element e.
unfoldable pub sets_element : List ℕ → (ℕ → Write) → ℕ → ℕ → Bool
sets_element fs ws e i = succeeds fs ws i && eqb (number_at ws i) e

-- "Each element holds the state of the last successful set of it, or else its file state."
unfoldable pub held_state : List ℕ → (ℕ → Write) → ℕ → ℕ → ℕ
held_state fs ws e n = last_where (sets_element fs ws e) (last_byte ws 4) (state_in fs e) n

-- Pending: 1 where the last successful set or clear is a set.
unfoldable pub pending_bit : List ℕ → (ℕ → Write) → ℕ → ℕ
pending_bit fs ws n = last_where (λ i. succeeds fs ws i || is_command ws 2 i) (λ i. cond (succeeds fs ws i) 1 0) 0 n

-- Failed: 1 where the last set or clear is a failed set.
unfoldable pub failed_bit : List ℕ → (ℕ → Write) → ℕ → ℕ
failed_bit fs ws n = last_where (λ i. is_command ws 1 i || is_command ws 2 i) (λ i. cond (fails fs ws i) 1 0) 0 n

-- ---- what a list of writes says, by places in the list
-- Place i is the last one below n where the test holds.
pub record IsLast (f : ℕ → Bool) (n i : ℕ) : Type 0 where
  pub below : i < n
  pub holds : f i ≡ true
  pub later : (j : ℕ) → i < j → j < n → f j ≡ false

-- "Pending": write i is a successful set, and no write after it is a clear.
pub record Uncleared (fs : List ℕ) (ws : ℕ → Write) (n i : ℕ) : Type 0 where
  pub below : i < n
  pub succeeded : succeeds fs ws i ≡ true
  pub uncleared : (j : ℕ) → i < j → j < n → is_command ws 2 j ≡ false

-- "Last set failed": write i is the last set or clear, and it is a failed set.
pub record LastFailed (fs : List ℕ) (ws : ℕ → Write) (n i : ℕ) : Type 0 where
  pub last : IsLast (λ j. is_command ws 1 j || is_command ws 2 j) n i
  pub failure : fails fs ws i ≡ true
