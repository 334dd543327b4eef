-- What a drawing's mark means, by the definitions: `drawn_exactly`.
use native.Mathlib.Omega.{arith}
use mathlib.Core.Path.{◌≡◌}
use mathlib.Core.Logic.{◌↔◌}
use mathlib.Core.Bool.{true}
use mathlib.Core.List.{List}
use Prim.Native.Nat.{ℕ}
use Rattle.meaning.specs.declared.Situation.{Situation}
use Rattle.meaning.specs.Paths.{path_to}
use Rattle.meaning.specs.Verdict.{leads}
use Rattle.meaning.specs.Drawing.{last_of, drawn}

-- THE MEANING OF A RIGHT DRAWING: "the trains differ, each list is a path that starts in its train's section, and both end in one section".
pub record Drawn (s : Situation) (σ : List ℕ) (i j : ℕ) (first second : List ℕ) : Type 0 where
  pub different : i ≡ j → ⊥
  pub section : ℕ
  pub first_leads : leads s σ i section first ≡ true
  pub second_leads : leads s σ j section second ≡ true

module _ (s : Situation) (σ : List ℕ) where
  -- A path to section k ends in it.
  leads_last : (t k : ℕ) (p : List ℕ) → leads s σ t k p ≡ true → last_of p ≡ k
  unfolding leads path_to
  leads_last t k p h = grind arith

  -- "It says yes exactly when the trains differ, each list is a path that starts in its train's section, and both end in one section."
  pub drawn_exactly : (i j : ℕ) (first second : List ℕ) → (drawn s σ i j first second ≡ true) ↔ Drawn s σ i j first second
  unfolding drawn
  drawn_exactly i j first second = grind (arith, leads_last)
