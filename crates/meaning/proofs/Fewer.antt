-- Fewer moves, smaller reach, no new danger. `Fewer ms ns` says that every move of ms is one of ns; `reach_fewer` and `safe_fewer` carry it
-- to the reach and the test of safety. Only `permitted` is asked of the moves: what makes a move permitted does not matter here.
use native.Mathlib.Omega.{arith}
use mathlib.Core.Path.{◌≡◌, refl}
use mathlib.Core.Bool.{Bool, true}
use mathlib.Core.List.{List}
use Prim.Native.Nat.{ℕ}
use Rattle.meaning.specs.declared.Move.{Move}
use Rattle.meaning.specs.declared.Situation.{Situation}
use Rattle.meaning.specs.Station.{permitted, moves, standing}
use Rattle.meaning.specs.Paths.{mem, reach}
use Rattle.basics.specs.Numbers.{found, lowest}
use Rattle.meaning.specs.Verdict.{in_reach, earlier_train, dangerous, safe}
use Rattle.basics.proofs.Numbers.{found-lowest, found_passes}
use Rattle.meaning.proofs.Reach.{starts_in, moves_in, least}

-- Every move of ms is one of ns.
abbrev pub Fewer : List Move → List Move → Type 0
Fewer ms ns = (a b : ℕ) → permitted ms a b ≡ true → permitted ns a b ≡ true

-- ---- reach
module _ (ms ns : List Move) (fewer : Fewer ms ns) where
  -- The reach has fewer sections.
  reach_fewer : (S : List ℕ) (k : ℕ) → mem k (reach ms S) ≡ true → mem k (reach ns S) ≡ true
  reach_fewer S k h =
      least ms S (λ j. mem j (reach ns S) ≡ true) (starts_in ns S) (λ a b m i. moves_in ns S a b (fewer a b m) i) k h

-- ---- danger, by reaches
-- A test that passes more finds one where the other does.
found_more : (n : ℕ) (f g : ℕ → Bool) → ((k : ℕ) → f k ≡ true → g k ≡ true) → found (lowest n f) ≡ true → found (lowest n g) ≡ true
found_more n f g more h =
    let w = found_passes n f h in found-lowest n g (lowest n f) w.0 w.1 (more (lowest n f) w.2)

-- Two situations with equally many sections and trains, where each train's reach in the first is in its reach in the second.
module _ (s t : Situation) (σ τ : List ℕ) (sections : s.header.sections ≡ t.header.sections)
    (trains : s.header.trains ≡ t.header.trains) (more : (i k : ℕ) → in_reach s σ i k ≡ true → in_reach t τ i k ≡ true) where
  earlier_more : (j : ℕ) → found (earlier_train s σ j) ≡ true → found (earlier_train t τ j) ≡ true
  unfolding earlier_train
  earlier_more j h = grind (arith, found_more)

  dangerous_more : (m : ℕ) → dangerous s σ m ≡ true → dangerous t τ m ≡ true
  unfolding dangerous
  dangerous_more m h = found_more m (λ j. found (earlier_train s σ j)) (λ j. found (earlier_train t τ j)) earlier_more h

  -- Where the second situation is safe, so is the first.
  pub safe_more : safe t τ ≡ true → safe s σ ≡ true
  unfolding safe
  safe_more h = grind (arith, dangerous_more)

-- ---- danger, by moves
module _ (s : Situation) (σ τ : List ℕ) (fewer : Fewer (moves s σ) (moves s τ)) where
  -- Each train's reach has fewer sections.
  in_reach_fewer : (i k : ℕ) → in_reach s σ i k ≡ true → in_reach s τ i k ≡ true
  unfolding in_reach
  in_reach_fewer i k h = reach_fewer (moves s σ) (moves s τ) fewer (standing s i) k h

  -- What is safe under more moves is safe under fewer.
  pub safe_fewer : safe s τ ≡ true → safe s σ ≡ true
  safe_fewer = safe_more s s σ τ refl refl in_reach_fewer
