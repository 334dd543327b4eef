-- "An open signal adds to the proceed count when at 1; an open turnout never does", for the settings at all places of some elements: a table
-- of counts.
use Rattle.std.specs.Prelude.{◌≡◌, List, ℕ, ◌+◌, ◌*◌, ◌^◌, ◌≤◌, ◌<◌, get_or}
use Rattle.meaning.specs.declared.Element.{Element}
use Rattle.meaning.specs.declared.Situation.{Situation}
use Rattle.meaning.specs.Station.{file_states}
use Rattle.meaning.specs.Settings.{open_count, proceeds_in, proceed_count}
use Rattle.element_states.specs.Collected.{states_of}
use Rattle.setting_order.specs.Order.{setting_at}
use Rattle.setting_order.specs.Doubled.{Doubled}

-- The table of counts for one more open element in front of some: it adds `more` when it is at 1.
abbrev pub Raised : ℕ → ℕ → List ℕ → List ℕ → Type 0
Raised half more = Doubled (λ n m. m ≡ n + more) (λ n m. m ≡ n) half

-- A table of counts that one more open element can double.
pub record Roomy (counts : List ℕ) (places : ℕ) : Type 0 where
  pub few : places ≤ 2048
  pub low : (x : ℕ) → x < places → get_or counts x 0 ≤ 12

-- The table with an element in this state in front: a fixed one leaves it, and an open one doubles it.
pub record Opened (state more places : ℕ) (counts : List ℕ) (places' : ℕ) (counts' : List ℕ) : Type 0 where
  pub fixed : (state ≡ 0 → ⊥) → (places' ≡ places) × (counts' ≡ counts)
  pub raised : state ≡ 0 → (places' ≡ places * 2) × Raised places more counts counts'

-- The proceed count of the setting at every place, for all these elements, in a table that was `counts`. What stands after the places is kept.
pub record Counted (es : List Element) (counts counts' : List ℕ) (places : ℕ) : Type 0 where
  pub all_places : places ≡ 2 ^ open_count (states_of es)
  pub count : (x : ℕ) → x < places → get_or counts' x 0 ≡ proceeds_in es (setting_at (states_of es) x)
  pub few : (x : ℕ) → x < places → get_or counts' x 0 ≤ open_count (states_of es)
  pub rest : (x : ℕ) → places ≤ x → get_or counts' x 0 ≡ get_or counts x 0

-- The same for the elements of a situation.
pub record Counts (s : Situation) (counts : List ℕ) : Type 0 where
  pub count : (x : ℕ) → x < 2 ^ open_count (file_states s) → get_or counts x 0 ≡ proceed_count s (setting_at (file_states s) x)
  pub few : (x : ℕ) → x < 2 ^ open_count (file_states s) → get_or counts x 0 ≤ 12
