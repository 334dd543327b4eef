-- The least closed set of a table's moves is the computed reach, by the laws that say the same of `reach`.
use mathlib.Core.Path.{◌≡◌, sym, ◌∙◌}
use mathlib.Core.Bool.{Bool, true}
use mathlib.Core.List.{List}
use Prim.Native.Nat.{ℕ}
use Rattle.meaning.specs.declared.Move.{Move}
use Rattle.meaning.specs.Station.{permitted}
use Rattle.meaning.specs.Paths.{mem, reach}
use Rattle.basics.proofs.Tests.{same_test}
use Rattle.meaning.proofs.Reach.{starts_in, moves_in, least}
use Rattle.search.specs.Search.{IsReach}

-- Where the moves and starts are the list's, the set is the reach.
pub is_reach : (ms : List Move) (S : List ℕ) (move : ℕ → ℕ → Bool) (start has : ℕ → Bool) → ((a b : ℕ) → move a b ≡ permitted ms a b)
    → ((k : ℕ) → start k ≡ mem k S) → IsReach move start has → (k : ℕ) → has k ≡ mem k (reach ms S)
is_reach ms S move start has e f r k =
    same_test (has k) (mem k (reach ms S))
    (r.least (λ j. mem j (reach ms S)) (λ j h. starts_in ms S j (sym (f j) ∙ h)) (λ a b h. moves_in ms S a b (sym (e a b) ∙ h)) k)
    (least ms S (λ j. has j ≡ true) (λ j h. r.starts j (f j ∙ h)) (λ a b h. r.closed a b (e a b ∙ h)) k)
