-- The settings of a situation, tried one after another.
use Rattle.std.specs.Prelude.{◌≡◌, ◌⊎◌, List, Option, Some, None, ℕ, ◌^◌, ◌≤◌, ◌<◌, length}
use Rattle.meaning.specs.declared.Situation.{Situation}
use Rattle.meaning.specs.Station.{file_states}
use Rattle.meaning.specs.Verdict.{safe}
use Rattle.meaning.specs.Settings.{open_count, settings, proceed_count, keep, choose}
use Rattle.setting_order.specs.Order.{setting_at}
use Rattle.settings.specs.declared.Best.{Best}

-- A setting at a place, with a proceed count, takes the place of the best: its count is higher, or the same and its place is lower.
abbrev pub Better : Best → ℕ → ℕ → Type 0
Better b proceed place = (b.proceed < proceed) ⊎ ((b.proceed ≡ proceed) × (place < b.place))

-- Of the settings l, n are safe; where some are, p is their highest proceed count, and the setting at place b the first that has it.
pub record Tried (s : Situation) (l : List (List ℕ)) (n p b : ℕ) : Type 0 where
  pub number : n ≡ length (keep (safe s) l)
  pub place : b < 2 ^ open_count (file_states s)
  pub highest : (n ≡ 0 → ⊥) → p ≡ proceed_count s (setting_at (file_states s) b)
  pub first : (n ≡ 0 → ⊥) → choose (proceed_count s) (keep (safe s) l) ≡ setting_at (file_states s) b

-- The best of all safe settings, None where none is safe.
abbrev pub IsBest : Situation → Option Best → Type 0
IsBest s None = length (keep (safe s) (settings (file_states s))) ≡ 0
IsBest s (Some b) = (1 ≤ b.safe) × Tried s (settings (file_states s)) b.safe b.proceed b.place
