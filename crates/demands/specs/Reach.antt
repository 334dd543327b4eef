-- What a train may do: the permitted moves, a train's paths and its reach, and two trains that meet, as 01 says them with Items 2 and 3 of 02. Each is
-- said here once, and every statement goes by it. s is a situation and σ the states of its elements, which are numbered from 0 here; t is a
-- train, and a, b and k are sections.
use Rattle.std.specs.Prelude.{◌≡◌, ◌⊎◌, true, List, [], ◌∷◌, ℕ, ◌≤◌, ◌<◌, length, get_or}
use Rattle.meaning.specs.declared.Kind.{Kind}
use Rattle.meaning.specs.declared.Situation.{Situation}
use Rattle.meaning.specs.Station.{plain_moves, elements_of, moves_of, pairs_over, has_pair, standing}
use Rattle.meaning.specs.File.{no_element}
use Rattle.basics.specs.Lists.{In}
use Rattle.demands.specs.Words.{Setting}

-- ---- permitted moves
abbrev pub kind_in : Situation → ℕ → Kind
kind_in s i = (get_or (elements_of s) i no_element).kind

-- Element i stands over the ordered pair (a, b), and permits it in its state.
abbrev pub Over : Situation → ℕ → ℕ → ℕ → Type 0
Over s i a b = (i < length (elements_of s)) × (has_pair (pairs_over (kind_in s i)) a b ≡ true)

abbrev pub Permits : Situation → List ℕ → ℕ → ℕ → ℕ → Type 0
Permits s σ i a b = has_pair (moves_of (kind_in s i) (get_or σ i 0)) a b ≡ true

-- A P line has it.
abbrev pub Plain : Situation → ℕ → ℕ → Type 0
Plain s a b = has_pair (plain_moves s) a b ≡ true

-- "A move from a to b is permitted when a P line has it", or when an element stands over it and every one that does permits it: a pair that stands
-- "under one signal and one turnout" is permitted "exactly when both permit it" (02, Item 3). "Nothing else is permitted."
abbrev pub Agreed : Situation → List ℕ → ℕ → ℕ → Type 0
Agreed s σ a b = Plain s a b ⊎ ((i : ℕ) × (Over s i a b × ((j : ℕ) → Over s j a b → Permits s σ j a b)))

-- ---- reach
-- Section a and then the sections p, "each step a permitted move", the last of them k.
abbrev pub Steps : Situation → List ℕ → ℕ → List ℕ → ℕ → Type 0
Steps s σ a [] k = a ≡ k
Steps s σ a (b ∷ p) k = Agreed s σ a b × Steps s σ b p k

-- The list is a path of train t that ends in k: "a list of one or more sections", and "a path of it may start in any of" its sections, its reach being
-- "the union of the reaches of its sections" (02, Item 2).
abbrev pub Leads : Situation → List ℕ → ℕ → ℕ → List ℕ → Type 0
Leads s σ t k [] = ⊥
Leads s σ t k (a ∷ p) = In a (standing s t) × Steps s σ a p k

-- "Its reach is every section where one of them ends": section k is in the reach of train t.
abbrev pub Ends : Situation → List ℕ → ℕ → ℕ → Type 0
Ends s σ t k = (p : List ℕ) × Leads s σ t k p

-- ---- danger
-- Among the trains 1 to m "two trains with different numbers", i and j, "have reaches that share a section", k. No path is one of train 0, which stands nowhere.
abbrev pub Meet : Situation → List ℕ → ℕ → Type 0
Meet s σ m = (i j k : ℕ) × (i ≡ j → ⊥) × (i ≤ m) × (j ≤ m) × Ends s σ i k × Ends s σ j k

-- "Two different trains have permitted paths ending in one section."
abbrev pub TwoTrainsMeet : Situation → List ℕ → Type 0
TwoTrainsMeet s σ = Meet s σ s.header.trains

abbrev pub SafeSetting : Situation → List ℕ → Type 0
SafeSetting s σ = Setting s σ × (TwoTrainsMeet s σ → ⊥)
