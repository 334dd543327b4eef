-- What is read back from a search: `before` has for each section found its predecessor, from which it is found, and 0 for a start.
use Rattle.std.specs.Prelude.{◌≡◌, List, [], ◌∷◌, ◌++◌, ℕ, zero, suc, ◌≤◌, get_or}

-- The path of n moves to section k: the path to its predecessor, and k.
abbrev pub path_back : List ℕ → ℕ → ℕ → List ℕ
path_back before zero k = k ∷ []
path_back before (suc n) k = path_back before n (get_or before k 0) ++ (k ∷ [])

-- From section k, n moves back lead to a start.
abbrev pub Back : List ℕ → ℕ → ℕ → Type 0
Back before zero k = (k ≤ 512) × (get_or before k 0 ≡ 0)
Back before (suc n) k = (k ≤ 512) × (1 ≤ get_or before k 0) × Back before n (get_or before k 0)
