-- Can it be saved at all: station K, and refusal 11, computed from the definitions. Tests of ours.
use Rattle.std.specs.Prelude.{◌≡◌, refl, true, false, [], ◌∷◌, ℕ}
use Rattle.meaning.specs.declared.Kind.TheVariants.{Signal, Turnout}
use Rattle.meaning.specs.declared.Element.{Element}
use Rattle.meaning.specs.Station.{section}
use Rattle.worked_examples.proofs.Examples.{station_k}
use Rattle.basics.specs.Numbers.{lowest}
use Rattle.meaning.specs.CanBeSafe.{can_be_safe, open_turnouts, turnout_element}

-- All open, with trains in 1 and 4, as in K6: yes. Both in 3, as in K8: no. With the turnout diverted, 4 comes to 1 however the signals are: no.
-- Straight, and the signal before train 1 fixed at proceed: yes, by the other signals.
saved_k :
    (can_be_safe (station_k 0 0 0 0 (1 ∷ 4 ∷ [])) ∷ can_be_safe (station_k 0 0 0 0 (3 ∷ 3 ∷ [])) ∷ can_be_safe (station_k 0 2 0 0 (1 ∷ 4 ∷ []))
    ∷ can_be_safe (station_k 1 1 0 0 (1 ∷ 4 ∷ [])) ∷ [])
    ≡ (true ∷ false ∷ false ∷ true ∷ [])
unfolding can_be_safe station_k
saved_k = refl

signal : ℕ → Element
signal x = record { kind = Signal (record { from = section 1; to = section 2 }); state = x }

turnout : ℕ → Element
turnout x = record { kind = Turnout (record { stem = section 1; straight = section 2; diverted = section 3 }); state = x }

-- The second open turnout is element 5: open signals and fixed turnouts do not count. There is no third.
turnouts-counted :
    (turnout_element 2 (signal 0 ∷ turnout 0 ∷ turnout 1 ∷ signal 0 ∷ turnout 0 ∷ signal 2 ∷ [])
    ∷ turnout_element 3 (signal 0 ∷ turnout 0 ∷ turnout 1 ∷ signal 0 ∷ turnout 0 ∷ signal 2 ∷ []) ∷ [])
    ≡ (5 ∷ 0 ∷ [])
unfolding turnout_element open_turnouts lowest signal turnout
turnouts-counted = refl
