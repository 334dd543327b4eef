-- How many settings there are, and which answer claims the number of the safe ones (02, Item 8). Each is a theorem of proofs/Claims.
use Rattle.std.specs.Prelude.{◌≡◌, ◌↔◌, List, ℕ, ◌+◌, ◌^◌, ◌≤◌}
use Rattle.session_meaning.specs.declared.Sent.{Sent}
use Rattle.meaning.specs.declared.Situation.{Situation}
use Rattle.meaning.specs.Station.{file_states}
use Rattle.meaning.specs.Settings.{open_count}
use Rattle.session_meaning.specs.Answers.{claimed}
use Rattle.c_layout.specs.declared.FlatReply.{FlatReply}
use Rattle.c_layout.specs.Flat.{no_refusal}
use Rattle.demands.specs.Words.{Setting, HowMany}
use Rattle.demands.specs.OfSettings.{SettingsStatement}

-- "With k open elements there are 2 to the power k settings, one when k is 0."
abbrev pub PowerOfTwo : Type 0
PowerOfTwo = (s : Situation) → HowMany (Setting s) (2 ^ open_count (file_states s))

-- The answer that claims n safe settings.
pub record Claims (n answer : ℕ) : Type 0 where
  -- "Answer 0 to 4097", and it does not withdraw.
  pub within : (1 ≤ answer) × (answer ≤ 4097)
  -- "Any other answer" than 0 "claims one safe setting fewer than its number": it claims n exactly when it is this one.
  pub exactly : (a : Sent) → (a.answer ≡ 0 → ⊥) → (claimed a ≡ n) ↔ (a.answer ≡ answer)

-- "Any other answer claims one safe setting fewer than its number", for every reply to a settings question: its number of safe settings is claimed by
-- the number that is one more.
abbrev pub OneMore : Type 0
OneMore =
    (file buffer buffer' : List ℕ) (r : FlatReply) → SettingsStatement file buffer buffer' r → r.refusal ≡ no_refusal → Claims r.safe (r.safe + 1)
