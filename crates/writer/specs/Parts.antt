-- The parts of a situation, each with its lines: what checking or storing the lines of one part gives.
use Rattle.std.specs.Prelude.{Result, ⊤, ◌≡◌, List, ℕ, ◌+◌, ◌<◌, length, get_or, take}
use Rattle.meaning.specs.declared.Header.{Header}
use Rattle.meaning.specs.declared.Line.{Line}
use Rattle.meaning.specs.declared.Refusal.{Refusal}
use Rattle.line_checks.specs.declared.Seen.{Seen}
use Rattle.line_checks.specs.Causes.{Passed, Outcome}
use Rattle.writer.specs.Text.{Begun}

-- The part is the first n values of an array, which has at least n.
pub record Cut {T : Type 0} (n : ℕ) (xs part : List T) : Type 0 where
  pub are : part ≡ take n xs
  pub count : length part ≡ n

-- From line `first` on, the lines are those of the values of a part, a line for each value.
abbrev pub Has : {T : Type 0} → (ℕ → Line) → ℕ → List T → (T → Line) → Type 0
Has {T} lines first part line = (j : ℕ) (x : T) → j < length part → x ≡ get_or part j x → lines (first + j) ≡ line x

-- r is the first refusal in the lines of a part, where the m lines before the part have none and t is what they have seen; or the part has none either, and
-- u is what has been seen then.
abbrev pub Checks : {T : Type 0} → Header → ℕ → List T → (T → Line) → Seen → Seen → Result ⊤ Refusal → Type 0
Checks h m part line t u r =
    (lines : ℕ → Line) → Has lines (1 + m) part line → Passed h lines m t → Outcome h lines r (λ _. Passed h lines (m + length part) u)

-- d has the lines before the part at its start, and f the lines of the part too, whose digits took c subtractions.
abbrev pub Stores : {T : Type 0} → ℕ → List T → (T → Line) → List ℕ → List ℕ → ℕ → Type 0
Stores first part line d f c =
    (lines : ℕ → Line) → Has lines first part line → (b : List ℕ) (x : ℕ) → Begun lines first b d x
    → Begun lines (first + length part) b f (x + c)
