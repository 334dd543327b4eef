-- Item 14 of 02, placing trains: `paper`, `sections` and `trains` are handed over with `list`; it answers r and leaves list'.
use Rattle.std.specs.Prelude.{◌≡◌, List, ℕ, suc, ◌+◌, ◌-◌, ◌%◌, ◌^◌, ◌≤◌, ◌<◌, length, get_or}
use Rattle.session_meaning.specs.Placement.{growth, draw}
use Rattle.c_layout.specs.declared.FlatPlaced.{FlatPlaced}
use Rattle.c_layout.specs.declared.FlatRefusal.{FlatRefusal}
use Rattle.demands.specs.Words.{Filled}
use Rattle.demands.specs.Demand1.{Answer, Unless, Is, Short}

-- ---- words
-- The section of train t, "in train order": trains are numbered from 1.
abbrev pub section_at : List ℕ → ℕ → ℕ
section_at list t = get_or list (t - 1) 0

-- Section k is taken when train t is placed: an earlier train has it.
abbrev pub Taken : List ℕ → ℕ → ℕ → Type 0
Taken list t k = (u : ℕ) × (1 ≤ u) × (u < t) × (section_at list u ≡ k)

-- "A taken section gives way to the next free one above it, with section 1 after the last": of n sections, section d gives way to section k.
-- A free section gives way to itself.
pub data GivesWay (n : ℕ) (IsTaken : ℕ → Type 0) (d k : ℕ) : Type 0 where
  above : (IsTaken k → ⊥) → d ≤ k → k ≤ n → ((a : ℕ) → d ≤ a → a < k → IsTaken a) → GivesWay n IsTaken d k
  after_last : (IsTaken k → ⊥) → 1 ≤ k → k ≤ n → ((a : ℕ) → d ≤ a → a ≤ n → IsTaken a) → ((a : ℕ) → 1 ≤ a → a < k → IsTaken a)
      → GivesWay n IsTaken d k

-- ---- what is asked
-- The states that a paper number goes through: the state after each number of draws.
abbrev pub States : ℕ → (ℕ → ℕ) → Type 0
States paper state =
    -- "Drawn from a 64-bit paper number." "Before each draw the state grows by the hexadecimal number 9E3779B97F4A7C15, and the carry out of 64 bits is dropped."
    (state 0 ≡ paper) × ((i : ℕ) → state (suc i) ≡ (state i + growth) % 2 ^ 64)

pub record PlacesTrains (paper sections trains : ℕ) (list list' : List ℕ) (r : FlatPlaced) : Type 0 where
  pub state : ℕ → ℕ
  pub states : States paper state
  pub xs : List ℕ
  -- One draw for each train, "the upper 32 bits times the number of sections, divided by 2 to the power 32, rounded down, plus 1"; "a taken section gives
  -- way to the next free one above it, with section 1 after the last". So the sections are different ones of the station (`PlacedApart`, Laws).
  pub gives_way : (t : ℕ) → 1 ≤ t → t ≤ trains → GivesWay sections (Taken xs t) (draw (state t) sections) (section_at xs t)
  -- "The sections fill a lent list in train order."
  pub all : length xs ≡ trains
  pub filled : Filled xs list list'
  -- "and the last state is returned."
  pub last_state : r.state ≡ state trains

-- None of: "a number of sections outside 1 to 512, or more trains than sections or than 64".
abbrev pub Placeable : ℕ → ℕ → Type 0
Placeable sections trains = (1 ≤ sections) × (sections ≤ 512) × (trains ≤ sections) × (trains ≤ 64)

-- "It refuses with 21, before 9 (one 16-bit number a train)."
abbrev pub PlacementCause : ℕ → ℕ → ℕ → FlatRefusal → Type 0
PlacementCause sections trains room q = Unless (Placeable sections trains) (Is q 21 0) (Short (room < trains) q)

-- After a refusal the state is 0.
abbrev pub Item14 : ℕ → ℕ → ℕ → List ℕ → List ℕ → FlatPlaced → Type 0
Item14 paper sections trains list list' r =
    Answer r.refusal (Placeable sections trains × PlacesTrains paper sections trains list list' r) (PlacementCause sections trains (length list) r.refusal)
    ((r.state ≡ 0) × (list' ≡ list))
