-- Item 10 of 02, the push-button desk: what a start, a write, a read and the interrupt line answer for any desk, as a C caller sees it. What a list of
-- writes after a start then says of the desk are laws (specs/DeskLaws). fs are the file's states.
use Rattle.std.specs.Prelude.{◌≡◌, ◌⊎◌, ◌↔◌, true, List, [], ℕ, ◌-◌, ◌/◌, ◌%◌, ◌≤◌, ◌<◌, length, set}
use Rattle.session_meaning.specs.declared.Desk.{Desk}
use Rattle.meaning.specs.Station.{file_states}
use Rattle.basics.specs.Lists.{pad_to}
use Rattle.meaning.specs.Accepted.{Accepted}
use Rattle.session_meaning.specs.Desk.{element_number, can_set, desk_states}
use Rattle.c_layout.specs.declared.FlatDeskAnswer.{FlatDeskAnswer}
use Rattle.c_layout.specs.declared.FlatDeskByte.{FlatDeskByte}
use Rattle.c_layout.specs.Flat.{no_refusal}
use Rattle.demands.specs.Words.{situation, Says}
use Rattle.demands.specs.Demand1.{Answer, Is, FileCause}

-- ---- a start
-- "All start at 0", and each element is in its file state: the states fs, and 0 in the places past the elements, of 256. What the file says is kept beside it.
abbrev pub at_start : List ℕ → Desk
at_start fs =
    record { control = 0; status = 0; number_low = 0; number_high = 0; state = 0; elements = length fs; file_state = pad_to 256 0 fs; element_state = pad_to 256 0 fs }

-- `file` is handed over, and the start answers r: the reader's refusals, each on its cause, with a desk of no element, and no bound on open elements.
abbrev pub Item10Start : List ℕ → FlatDeskAnswer → Type 0
Item10Start file r =
    Answer r.refusal
    (Accepted file × (r.desk ≡ at_start (file_states (situation file))))
    ((Accepted file → ⊥) × FileCause file r.refusal)
    (r.desk ≡ at_start [])

-- ---- a write
-- The byte at the address `at`, before and after a write: "a write stores the byte" there, and no other write changes it.
abbrev pub Stores : ℕ → ℕ → ℕ → ℕ → ℕ → Type 0
Stores at address byte before after = (address ≡ at → after ≡ byte) × ((address ≡ at → ⊥) → after ≡ before)

-- The element number that the desk has, by which command 1 goes.
abbrev pub number : Desk → ℕ
number d = element_number d.number_low d.number_high

-- "If it was open in the file and the state is 1 or 2."
abbrev pub CanSet : Desk → Type 0
CanSet d = can_set (desk_states d) (number d) d.state ≡ true

-- What a write of `byte` at `address` does to the status and to the elements: d before, d' after.
pub data Command (d d' : Desk) (address byte : ℕ) : Type 0 where
  -- "Command 1 sets the element, if it was open in the file and the state is 1 or 2: pending becomes 1, failed 0." Entry 0 is element 1.
  sets : address ≡ 5 → byte ≡ 1 → CanSet d → d'.status ≡ 1 → d'.element_state ≡ set d.element_state (number d - 1) d.state → Command d d' address byte
  -- "If not, failed becomes 1 and nothing else changes."
  fails : address ≡ 5 → byte ≡ 1 → (CanSet d → ⊥) → d'.status % 2 ≡ d.status % 2 → d'.status / 2 ≡ 1 → d'.element_state ≡ d.element_state
      → Command d d' address byte
  -- "Command 2 clears both bits";
  clears : address ≡ 5 → byte ≡ 2 → d'.status ≡ 0 → d'.element_state ≡ d.element_state → Command d d' address byte
  -- "others do nothing." Nor does a write at another address.
  nothing : (address ≡ 5 → (byte ≡ 1) ⊎ (byte ≡ 2) → ⊥) → d'.status ≡ d.status → d'.element_state ≡ d.element_state → Command d d' address byte

-- The desk d, `address` and `byte` are handed over, and the write answers r.
pub record Item10Write (d : Desk) (address byte : ℕ) (r : FlatDeskAnswer) : Type 0 where
  -- "It refuses with 20 a read or write at an address above 5, which changes no byte and no element."
  pub refused : 5 < address → Is r.refusal 20 0 × (r.desk ≡ d)
  pub not-refused : address ≤ 5 → r.refusal ≡ no_refusal
  -- "A write stores the byte, except at 1, which ignores writes, and at 5".
  pub control : Stores 0 address byte d.control r.desk.control
  pub low : Stores 2 address byte d.number_low r.desk.number_low
  pub high : Stores 3 address byte d.number_high r.desk.number_high
  pub state : Stores 4 address byte d.state r.desk.state
  pub ignored : address ≡ 1 → r.desk ≡ d
  pub command : Command d r.desk address byte
  -- No write changes what the file said.
  pub kept : (r.desk.elements ≡ d.elements) × (r.desk.file_state ≡ d.file_state)

-- ---- a read
-- The desk d and `address` are handed over, and the read answers r.
pub record Item10Read (d : Desk) (address : ℕ) (r : FlatDeskByte) : Type 0 where
  -- "It refuses with 20 a read or write at an address above 5."
  pub refused : 5 < address → Is r.refusal 20 0 × (r.byte ≡ 0)
  pub not-refused : address ≤ 5 → r.refusal ≡ no_refusal
  pub control : address ≡ 0 → r.byte ≡ d.control
  -- Bits 2 to 7 read 0.
  pub status : address ≡ 1 → r.byte ≡ d.status % 4
  pub low : address ≡ 2 → r.byte ≡ d.number_low
  pub high : address ≡ 3 → r.byte ≡ d.number_high
  pub state : address ≡ 4 → r.byte ≡ d.state
  -- "5, which reads 0 always."
  pub command : address ≡ 5 → r.byte ≡ 0

-- ---- the interrupt line
-- The desk d is handed over, and r is answered, 1 for high and 0 for low: "the interrupt is high exactly when enabled and pending", by bit 0 of the control
-- and bit 0 of the status.
abbrev pub Item10Interrupt : Desk → ℕ → Type 0
Item10Interrupt d r = Says r ((d.control % 2 ≡ 1) × (d.status % 2 ≡ 1))
