-- What one element permits, by its kind and state, and that the sections it names are inside.
use mathlib.Core.Path.{◌≡◌, refl}
use mathlib.Core.Bool.{true}
use mathlib.Core.List.{[], ◌∷◌}
use Prim.Native.Nat.{ℕ, zero, suc}
use Rattle.meaning.specs.declared.Move.{Move}
use Rattle.meaning.specs.declared.Turnout.{Turnout}
use Rattle.meaning.specs.declared.Kind.{Kind}
use Rattle.meaning.specs.declared.Kind.TheVariants.{Signal, Turnout as Points}
use Rattle.meaning.specs.Station.{both_ways, moves_of}
use Rattle.meaning.specs.Inside.{sections_of, all_inside}
use Rattle.meaning.specs.Inside.{Inside}
use Rattle.meaning.proofs.Inside.{inside_cons}

-- The two sections of a signal are inside.
pub signal_inside :
    {k : Kind} {m : Move} (n : ℕ)
    → k ≡ Signal m
    → all_inside n (sections_of k) ≡ true
    → Inside n m.from.0 × Inside n m.to.0
signal_inside {m = m} n e named =
    let from = inside_cons n m.from (m.to ∷ []) (rw e at named) in
    (from.0, (inside_cons n m.to [] from.1).0)

-- The three sections of a turnout are inside.
pub turnout_inside :
    {k : Kind} {t : Turnout} (n : ℕ)
    → k ≡ Points t
    → all_inside n (sections_of k) ≡ true
    → Inside n t.stem.0 × Inside n t.straight.0 × Inside n t.diverted.0
turnout_inside {t = t} n e named =
    let stem = inside_cons n t.stem (t.straight ∷ t.diverted ∷ []) (rw e at named) in
    let straight = inside_cons n t.straight (t.diverted ∷ []) stem.1 in
    (stem.0, straight.0, (inside_cons n t.diverted [] straight.1).0)

-- What `Pair`s of an element ask for.
pub ruleset sections_inside = (signal_inside, turnout_inside)

-- A signal at 1 permits its move.
pub signal_1 : {k : Kind} {m : Move} {x : ℕ} → k ≡ Signal m → x ≡ 1 → moves_of k x ≡ m ∷ []
unfolding moves_of
signal_1 e h = rw (e, h)

-- A signal at another state permits nothing.
pub signal_other : {k : Kind} {m : Move} {x : ℕ} → k ≡ Signal m → (x ≡ 1 → ⊥) → moves_of k x ≡ []
unfolding moves_of
signal_other {m = m} {x = x} e h = rw e (go x h)
  where
    go : (x : ℕ) → (x ≡ 1 → ⊥) → moves_of (Signal m) x ≡ []
    go zero h = refl
    go (suc zero) h = absurd (h refl)
    go (suc (suc zero)) h = refl
    go (suc (suc (suc x))) h = refl

-- A turnout at 1 joins stem and straight leg.
pub turnout_1 : {k : Kind} {t : Turnout} {x : ℕ} → k ≡ Points t → x ≡ 1 → moves_of k x ≡ both_ways t.stem t.straight
unfolding moves_of
turnout_1 e h = rw (e, h)

-- A turnout at 2 joins stem and diverted leg.
pub turnout_2 : {k : Kind} {t : Turnout} {x : ℕ} → k ≡ Points t → x ≡ 2 → moves_of k x ≡ both_ways t.stem t.diverted
unfolding moves_of
turnout_2 e h = rw (e, h)

-- A turnout at another state permits nothing.
pub turnout_other : {k : Kind} {t : Turnout} {x : ℕ} → k ≡ Points t → (x ≡ 1 → ⊥) → (x ≡ 2 → ⊥) → moves_of k x ≡ []
unfolding moves_of
turnout_other {t = t} {x = x} e h g = rw e (go x h g)
  where
    go : (x : ℕ) → (x ≡ 1 → ⊥) → (x ≡ 2 → ⊥) → moves_of (Points t) x ≡ []
    go zero h g = refl
    go (suc zero) h g = absurd (h refl)
    go (suc (suc zero)) h g = absurd (g refl)
    go (suc (suc (suc x))) h g = refl
