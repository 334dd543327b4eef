-- Marking the two paths that a candidate draws (02, item 1). s is a situation, σ the states of its elements; i and j are train numbers.
use Rattle.std.specs.Prelude.{Result, Bool, false, not, ◌&&◌, ◌||◌, cond, List, [], ◌∷◌, ℕ, eqb, ltb}
use Rattle.meaning.specs.declared.Situation.{Situation}
use Rattle.meaning.specs.declared.Refusal.{Refusal}
use Rattle.meaning.specs.Station.{file_states}
use Rattle.meaning.specs.Paths.{end_of}
use Rattle.meaning.specs.Verdict.{leads}
use Rattle.meaning.specs.File.{refusal, reading, unless_refused}
use Rattle.meaning.specs.Operations.{call_refusal, first_of}

-- The last section of a list; 0 for the empty list, which is no path.
abbrev pub last_of : List ℕ → ℕ
last_of [] = 0
last_of (a ∷ p) = end_of a p

-- "The trains differ, each list is a path that starts in its train's section, and both end in one section; a section may come twice, and an empty list
-- is no path": both lists are paths to the section where the first ends.
unfoldable pub drawn : Situation → List ℕ → ℕ → ℕ → List ℕ → List ℕ → Bool
drawn s σ i j first second = not (eqb i j) && (leads s σ i (last_of first) first && leads s σ j (last_of first) second)

-- "A train number of 0 or above the number of trains."
abbrev pub is_no_train : Situation → ℕ → Bool
is_no_train s t = eqb t 0 || ltb s.header.trains t

-- "It refuses an open element with 10 as the verdict does, and after that with 12 a train number of 0 or above the number of trains."
unfoldable pub drawing_refusal : List ℕ → ℕ → ℕ → Refusal
drawing_refusal file i j =
    let s : Situation = (reading file).situation in
    first_of (reading file).refusal (first_of (call_refusal s 10 1 false) (cond (is_no_train s i || is_no_train s j) (refusal 12 0) (refusal 0 0)))

-- What `drawing(file, i, j, first, second)` answers.
unfoldable pub drawing_answer : List ℕ → ℕ → ℕ → List ℕ → List ℕ → Result Bool Refusal
drawing_answer file i j first second =
    unless_refused (drawing_refusal file i j) (drawn (reading file).situation (file_states (reading file).situation) i j first second)
