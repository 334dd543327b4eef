-- The last place below n where a test holds: `last_where` gives the value there. Three laws say so without recursion.
use mathlib.Core.Path.{◌≡◌, refl, sym, ap}
use mathlib.Core.Logic.{◌⊎◌, inl, inr, ⊎_elim}
use mathlib.Core.Bool.{Bool, true, false}
use Prim.Native.Nat.{ℕ, zero, suc, ◌<◌}
use native.Mathlib.Omega.{arith}
use native.Mathlib.Nat.{eq-or-lt_of_le, le_of_suc-le-suc}
use Rattle.session_meaning.specs.Desk.{last_where, IsLast}

-- The test fails at each place below n.
abbrev pub Never : (ℕ → Bool) → ℕ → Type 0
Never f n = (i : ℕ) → i < n → f i ≡ false

module _ (f : ℕ → Bool) (v : ℕ → ℕ) (z : ℕ) where
  pub last_none : (n : ℕ) → Never f n → last_where f v z n ≡ z
  unfolding last_where
  last_none zero h = refl
  last_none (suc n) h = rw (h n (omega arith)) (last_none n (λ i l. h i (omega arith)))

  pub last_found : (n i : ℕ) → IsLast f n i → last_where f v z n ≡ v i
  unfolding last_where
  last_found zero i l = absurd (omega arith)
  last_found (suc n) i l =
      ⊎_elim
      (λ (e : i ≡ n). let t : f n ≡ true = rw e at l.holds in rw t (ap v (sym e)))
      (λ (b : i < n).
      rw (l.later n b (omega arith)) (last_found n i (record { below = b; holds = l.holds; later = λ j a c. l.later j a (omega arith) })))
      (eq-or-lt_of_le (le_of_suc-le-suc l.below))

  -- There is a last place where the test holds, or none.
  pub last_cases : (n : ℕ) → Never f n ⊎ ((i : ℕ) × IsLast f n i)
  last_cases zero = inl (λ i l. absurd (omega arith))
  last_cases (suc n) = go (last_cases n) (f n) refl
    where
      more : (P : ℕ → Type 0) → ((j : ℕ) → j < n → P j) → P n → (j : ℕ) → j < suc n → P j
      more P h p j l = ⊎_elim (λ (e : j ≡ n). rw e p) (λ (b : j < n). h j b) (eq-or-lt_of_le (le_of_suc-le-suc l))

      go : Never f n ⊎ ((i : ℕ) × IsLast f n i) → (t : Bool) → f n ≡ t → Never f (suc n) ⊎ ((i : ℕ) × IsLast f (suc n) i)
      go before true e = inr (n, record { below = omega arith; holds = e; later = λ j a b. absurd (omega arith) })
      go before false e =
          ⊎_elim
          (λ (h : Never f n). inl (more (λ j. f j ≡ false) h e))
          (λ (w : (i : ℕ) × IsLast f n i).
          inr (
            w.0,
            record {
              below = omega arith;
              holds = w.1.holds;
              later = λ j a b. more (λ k. w.0 < k → f k ≡ false) (λ k c d. w.1.later k d c) (λ d. e) j b a;
            },
          ))
          before
