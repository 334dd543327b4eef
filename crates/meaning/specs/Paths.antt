-- Paths and reach, over any list of moves (01, "Moves, reach and verdict"). Sections are their numbers.
use Rattle.std.specs.Prelude.{◌≡◌, Bool, true, false, not, ◌&&◌, ◌||◌, cond, List, [], ◌∷◌, ℕ, zero, suc, eqb, length}
use Rattle.meaning.specs.declared.Move.{Move}
use Rattle.meaning.specs.Station.{permitted}

-- Section k is in the list.
abbrev pub mem : ℕ → List ℕ → Bool
mem k [] = false
mem k (a ∷ xs) = eqb k a || mem k xs

-- Each step of the list that has section a and then the sections p is one of the moves ms.
abbrev pub steps : List Move → ℕ → List ℕ → Bool
steps ms a [] = true
steps ms a (b ∷ p) = permitted ms a b && steps ms b p

abbrev pub end_of : ℕ → List ℕ → ℕ
end_of a [] = a
end_of a (b ∷ p) = end_of b p

-- The list is a path from one of the sections S to section k. "A path is a list of one or more sections, each step a permitted move; a single
-- section is a path."
unfoldable pub path_to : List Move → List ℕ → ℕ → List ℕ → Bool
path_to ms S k [] = false
path_to ms S k (a ∷ p) = mem a S && (steps ms a p && eqb (end_of a p) k)

-- No section of the list comes twice.
abbrev pub once : List ℕ → Bool
once [] = true
once (a ∷ p) = not (mem a p) && once p

-- THE MEANING OF REACH: section k is in the reach of the sections S when a path from one of them ends in k.
abbrev pub Reaches : List Move → List ℕ → ℕ → Type 0
Reaches ms S k = (p : List ℕ) × (path_to ms S k p ≡ true)

-- From here on the reach is computed: proofs/Reach shows that its members are the sections k with `Reaches ms S k`.
-- "Adding a section already present changes nothing."
abbrev pub add : ℕ → List ℕ → List ℕ
add k xs = cond (mem k xs) xs (k ∷ xs)

-- The sections xs, and the section to which move m leads from one of them.
abbrev pub follow : Move → List ℕ → List ℕ
follow m xs = cond (mem m.from.0 xs) (add m.to.0 xs) xs

unfoldable pub follow_all : List Move → List ℕ → List ℕ
follow_all [] xs = xs
follow_all (m ∷ ms) xs = follow_all ms (follow m xs)

-- The sections after n rounds. A round follows every move once.
unfoldable pub rounds : ℕ → List Move → List ℕ → List ℕ
unfolding follow_all
rounds zero ms xs = xs
rounds (suc n) ms xs = rounds n ms (follow_all ms xs)

-- The reach of the sections: those after as many rounds as there are moves. A path without a section twice has at most so many steps, and each
-- round goes at least a step further.
unfoldable pub reach : List Move → List ℕ → List ℕ
unfolding rounds
reach ms S = rounds (length ms) ms S
