-- "A train's reach is the union of the reaches of its sections" (02, Item 2): `reach_union`.
use mathlib.Core.Path.{◌≡◌}
use mathlib.Core.Logic.{⊎_elim, ◌↔◌}
use mathlib.Core.Bool.{true, false≢true}
use mathlib.Core.List.{List, [], ◌∷◌}
use Prim.Native.Nat.{ℕ}
use Rattle.meaning.specs.declared.Move.{Move}
use Rattle.meaning.specs.declared.Situation.{Situation}
use Rattle.meaning.specs.Station.{moves, standing}
use Rattle.meaning.specs.Paths.{mem, reach}
use Rattle.meaning.specs.Verdict.{in_reach}
use Rattle.meaning.proofs.Reach.{mem_cases, mem_head, starts_in, moves_in, least}

-- Section k is in the reach of one of the sections.
abbrev pub FromOne : List Move → List ℕ → ℕ → Type 0
FromOne ms S k = (a : ℕ) × (mem a S ≡ true) × (mem k (reach ms (a ∷ [])) ≡ true)

-- The reach of sections is the union of their reaches.
reach_union : (ms : List Move) (S : List ℕ) (k : ℕ) → (mem k (reach ms S) ≡ true) ↔ FromOne ms S k
reach_union ms S k = (
  least ms S (FromOne ms S) (λ a h. (a, h, starts_in ms (a ∷ []) a (mem_head a [])))
      (λ a b h r. (r.0, r.1, moves_in ms (r.0 ∷ []) a b h r.2))
      k,
  λ r.
      least ms (r.0 ∷ []) (λ k. mem k (reach ms S) ≡ true)
      (λ a h. starts_in ms S a (one a r.0 r.1 h))
      (moves_in ms S) k r.2,
)
  where
    one : (a b : ℕ) → mem b S ≡ true → mem a (b ∷ []) ≡ true → mem a S ≡ true
    one a b h e = ⊎_elim (λ q. rw q h) (λ q. absurd (false≢true q)) (mem_cases a b [] e)

-- A train's reach is the union of the reaches of its sections.
pub train_union : (s : Situation) (σ : List ℕ) (t k : ℕ) → (in_reach s σ t k ≡ true) ↔ FromOne (moves s σ) (standing s t) k
unfolding in_reach
train_union s σ t k = reach_union (moves s σ) (standing s t) k
