-- Item 10 of 02: "For every list of writes after a start". What a list of writes says of the desk holds of every desk that a start and the writes answer, since
-- each call's statement carries it on (proofs/DeskLaws). fs are the file's states, ws is a list of writes, of which the first n have been made, refused
-- ones among them.
use Rattle.std.specs.Prelude.{◌≡◌, ◌⊎◌, ◌↔◌, List, ℕ, suc, ◌+◌, ◌*◌, ◌/◌, ◌%◌, ◌≤◌, length}
use Rattle.session_meaning.specs.declared.Desk.{Desk}
use Rattle.meaning.specs.Station.{file_states}
use Rattle.meaning.specs.Accepted.{Accepted}
use Rattle.session_meaning.specs.Desk.{state_in, desk_states, state_of, Write, last_byte, held_state, pending_bit, failed_bit, Uncleared, LastFailed}
use Rattle.c_layout.specs.declared.FlatDeskAnswer.{FlatDeskAnswer}
use Rattle.c_layout.specs.declared.FlatDeskByte.{FlatDeskByte}
use Rattle.demands.specs.Words.{situation}
use Rattle.demands.specs.Item10.{Item10Start, Item10Write, Item10Read, Item10Interrupt}

-- The desk d holds what the first n writes say.
pub record Held (fs : List ℕ) (ws : ℕ → Write) (n : ℕ) (d : Desk) : Type 0 where
  -- The elements are the file's, their file states are kept, and each has a place.
  pub elements : d.elements ≡ length fs
  pub filed : desk_states d ≡ fs
  pub places : length fs ≤ length d.element_state
  -- "All start at 0. A write stores the byte": the byte last written at 0, 2, 3 and 4, or else 0.
  pub control : d.control ≡ last_byte ws 0 n
  pub low : d.number_low ≡ last_byte ws 2 n
  pub high : d.number_high ≡ last_byte ws 3 n
  pub state : d.state ≡ last_byte ws 4 n
  -- "Bit 0 change pending, bit 1 last set failed", as the last command 1 or 2 left them; bits 2 to 7 are 0.
  pub status : d.status ≡ pending_bit fs ws n + failed_bit fs ws n * 2
  -- "Each element holds the state of the last successful set of it, or else its file state."
  pub element : (e : ℕ) → 1 ≤ e → e ≤ length fs → state_of d e ≡ held_state fs ws e n
  -- So an element that the file fixed never changes.
  pub fixed : (e : ℕ) → 1 ≤ e → e ≤ length fs → (state_in fs e ≡ 0 → ⊥) → state_of d e ≡ state_in fs e

-- What the first n writes say of the byte read at an address up to 5.
pub record Reads (fs : List ℕ) (ws : ℕ → Write) (n address byte : ℕ) : Type 0 where
  pub stored : (address ≡ 0) ⊎ ((address ≡ 2) ⊎ ((address ≡ 3) ⊎ (address ≡ 4))) → byte ≡ last_byte ws address n
  -- "1 status (bit 0 change pending, bit 1 last set failed)": pending where a successful set is not cleared, failed where the last command
  -- 1 or 2 is a failed set.
  pub pending : address ≡ 1 → (byte % 2 ≡ 1) ↔ ((i : ℕ) × Uncleared fs ws n i)
  pub failed : address ≡ 1 → (byte / 2 ≡ 1) ↔ ((i : ℕ) × LastFailed fs ws n i)

-- What the desk's interrupt line is by the first n writes: bit 0 of the byte last written at 0, and a successful set that is not cleared.
abbrev pub IsHigh : List ℕ → (ℕ → Write) → ℕ → Type 0
IsHigh fs ws n = (last_byte ws 0 n % 2 ≡ 1) × ((i : ℕ) × Uncleared fs ws n i)

-- To the desk that a start answers no write has been made yet.
abbrev pub HeldAtStart : Type 0
HeldAtStart =
    (file : List ℕ) (r : FlatDeskAnswer) → Item10Start file r → Accepted file → (ws : ℕ → Write) → Held (file_states (situation file)) ws 0 r.desk

-- Where a desk holds what the first n writes say, whoever kept or made it, and this is the next one, the desk that is answered holds what the first
-- n + 1 say.
abbrev pub NextWrite : Type 0
NextWrite =
    (d : Desk) (address byte : ℕ) (r : FlatDeskAnswer) → Item10Write d address byte r
    → (fs : List ℕ) (ws : ℕ → Write) (n : ℕ) → ws n ≡ record { address = address; byte = byte } → Held fs ws n d → Held fs ws (suc n) r.desk

-- `answers 0` is what the start answers, and `answers (suc n)` what write n of the list answers to the desk before it: each desk holds what the list says.
abbrev pub EveryList : Type 0
EveryList =
    (file : List ℕ) (ws : ℕ → Write) (answers : ℕ → FlatDeskAnswer) → Accepted file → Item10Start file (answers 0)
    → ((n : ℕ) → Item10Write (answers n).desk (ws n).address (ws n).byte (answers (suc n)))
    → (n : ℕ) → Held (file_states (situation file)) ws n (answers n).desk

-- A read and the interrupt line say what each of these desks holds.
abbrev pub ReadsWhatIsHeld : Type 0
ReadsWhatIsHeld =
    (d : Desk) (address : ℕ) (r : FlatDeskByte) → Item10Read d address r
    → (fs : List ℕ) (ws : ℕ → Write) (n : ℕ) → Held fs ws n d → Reads fs ws n address r.byte

abbrev pub InterruptOfWhatIsHeld : Type 0
InterruptOfWhatIsHeld =
    (d : Desk) (r : ℕ) → Item10Interrupt d r → (fs : List ℕ) (ws : ℕ → Write) (n : ℕ) → Held fs ws n d → (r ≡ 1) ↔ IsHigh fs ws n
