-- A question split at each of its open elements: a test of ours. Station K with all elements open and trains in 1 and 4 has 7 safe settings of
-- 16; shown is 1 1 1 2, with proceed count 2 (K6 of 01). Elements 1, 3 and 4 are signals, element 2 is a turnout.
use Rattle.std.specs.Prelude.{Option, Some, None, ◌≡◌, refl, List, [], ◌∷◌, ℕ}
use Rattle.meaning.specs.declared.Situation.{Situation}
use Rattle.meaning.specs.declared.Choice.{Choice}
use Rattle.meaning.specs.Settings.{chosen, reply}
use Rattle.worked_examples.proofs.Examples.{station_k}
use Rattle.meaning.specs.Parts.{part, gain}

-- What the settings question replies and shows: number of safe settings, proceed count, setting.
data Shown : Type 0 where
  none : Shown
  setting : ℕ → ℕ → List ℕ → Shown

shown_for : Option Choice → List ℕ → Shown
shown_for None σ = none
shown_for (Some c) σ = setting c.safe c.proceed σ

asked : Situation → Shown
unfolding shown_for reply chosen
asked s = shown_for (reply s) (chosen s)

abbrev K : Situation
unfolding station_k
K = station_k 0 0 0 0 (1 ∷ 4 ∷ [])

-- Split at an element: what the first part's count gains, and the answers to the two parts.
record Split : Type 0 where
  gained : ℕ
  first : Shown
  second : Shown

abbrev at : ℕ → Split
unfolding asked K part gain
at e = record { gained = gain K e; first = asked (part K e 1); second = asked (part K e 2) }

-- 3 + 4, 7 + 0, 3 + 4 and 3 + 4 are 7. At the signals both counts are 2 with the one added: shown for the whole is then the setting that comes
-- first, the first part's at elements 1 and 3, and the second part's at element 4.
split_k :
    (at 1 ∷ at 2 ∷ at 3 ∷ at 4 ∷ [])
    ≡ (record { gained = 1; first = setting 3 1 (1 ∷ 1 ∷ 1 ∷ 2 ∷ []); second = setting 4 2 (2 ∷ 1 ∷ 1 ∷ 1 ∷ []) }
    ∷ record { gained = 0; first = setting 7 2 (1 ∷ 1 ∷ 1 ∷ 2 ∷ []); second = none }
    ∷ record { gained = 1; first = setting 3 1 (1 ∷ 1 ∷ 1 ∷ 2 ∷ []); second = setting 4 2 (1 ∷ 1 ∷ 2 ∷ 1 ∷ []) }
    ∷ record { gained = 1; first = setting 3 1 (1 ∷ 1 ∷ 2 ∷ 1 ∷ []); second = setting 4 2 (1 ∷ 1 ∷ 1 ∷ 2 ∷ []) }
    ∷ [])
unfolding at
split_k = refl
