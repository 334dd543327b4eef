-- Where a list of sections leads, by the pairs for which a test passes; 0 where it is no path. Sections are their numbers.
use Rattle.std.specs.Prelude.{Bool, cond, List, [], ◌∷◌, ℕ}
use Rattle.meaning.specs.Paths.{mem}

-- The section where the walk from section a by the sections p ends.
abbrev pub walk : (ℕ → ℕ → Bool) → ℕ → List ℕ → ℕ
walk step a [] = a
walk step a (b ∷ p) = cond (step a b) (walk step b p) 0

-- The section where the walk by a list ends, which has to start in one of the sections S.
unfoldable pub path_end : (ℕ → ℕ → Bool) → List ℕ → List ℕ → ℕ
path_end step S [] = 0
path_end step S (b ∷ p) = cond (mem b S) (walk step b p) 0
