-- The open elements, by their states: how many there are (`counted`), and the n-th of them, from 0, with its place (`nth_open`).
use mathlib.Core.Path.{◌≡◌, refl, ◌∙◌}
use mathlib.Core.Bool.{cond}
use mathlib.Core.List.{List, [], ◌∷◌}
use Prim.Native.Nat.{ℕ, zero, suc, ◌+◌, ◌-◌, ◌≤◌, ◌<◌}
use native.Mathlib.Omega.{arith}
use lib.Dec.{eqb, eqb-suc-zero}
use lib.ListN.{length, take}
use borrow.Author.Tests.{eq-eqb, ne_eqb}
use Rattle.std.specs.List.{filter, enumerate_from, count_by, slice_get}
use Rattle.std.specs.Prelude.{Option, Some, None}
use Rattle.std.specs.Option.{MatchOption}
use Rattle.std.proofs.lemmas.List.Recursion.{is_count_by}
use Rattle.meaning.specs.Settings.{open_count}
use Rattle.meaning.specs.Operations.{open_element}
use Rattle.basics.proofs.Numbers.{lowest_unique, none_lowest}

-- The open states are those that pass a test.
pub counted : (xs : List ℕ) → open_count xs ≡ count_by (λ x. eqb x 0) xs
unfolding open_count
counted = is_count_by open_count (λ x. eqb x 0) refl step
  where
    step : (x : ℕ) (xs : List ℕ) → open_count (x ∷ xs) ≡ cond (eqb x 0) (1 + open_count xs) (open_count xs)
    step zero xs = omega arith
    step (suc x) xs = rw (eqb-suc-zero x) refl

-- The open states, each with its place, from place i on.
abbrev pub placed : ℕ → List ℕ → List (ℕ × ℕ)
placed i xs = filter (λ p. eqb p.1 0) (enumerate_from i xs)

-- State k is open, and n before it are.
pub record Nth (xs : List ℕ) (n k : ℕ) : Type 0 where
  pub inside : k < length xs
  pub opens : open_count (take (suc k) xs) ≡ suc n
  pub before : (e : ℕ) → e ≤ k → open_count (take e xs) ≤ n

-- What is found from place i on: the place of the n-th open one, or none, where at most n are open.
abbrev Found : List ℕ → ℕ → ℕ → Option (ℕ × ℕ) → Type 0
Found xs i n o = MatchOption o ((e : ℕ) → open_count (take e xs) ≤ n) (λ p. (k : ℕ) × (p.0 ≡ i + k) × Nth xs n k)

-- With a state in front that adds a.
found_more : (a x i n n' : ℕ) (xs : List ℕ) → ((e : ℕ) → open_count (take (suc e) (x ∷ xs)) ≡ a + open_count (take e xs)) → n' ≡ a + n
    → (o : Option (ℕ × ℕ)) → Found xs (i + 1) n o → Found (x ∷ xs) i n' o
unfolding open_count
found_more a x i n n' xs same is None few = elim [ zero ↦ omega arith | suc e ↦ omega (arith, same e, few e) ]
found_more a x i n n' xs same is (Some p) (k, at, h) = (
  suc k,
  omega (arith, at),
  record {
    inside = omega (arith, h.inside);
    opens = omega (arith, same (suc k), h.opens);
    before = elim [ zero ↦ λ l. omega arith | suc e ↦ λ l. omega (arith, same e, h.before e (omega arith)) ];
  },
)

found_placed : (xs : List ℕ) (i n : ℕ) → Found xs i n (slice_get (placed i xs) n)
unfolding open_count
found_placed [] i n = elim [ zero ↦ omega arith | suc e ↦ omega arith ]
found_placed (zero ∷ xs) i zero = (0, omega arith, record { inside = omega arith; opens = refl; before = elim [ zero ↦ λ l. omega arith | suc e ↦ λ l. absurd (omega arith) ] })
found_placed (zero ∷ xs) i (suc n) = found_more 1 0 i n _ xs (λ e. omega arith) (omega arith) _ (found_placed xs (i + 1) n)
found_placed (suc x ∷ xs) i n = rw (eqb-suc-zero x) (found_more 0 (suc x) i n _ xs (λ e. omega arith) (omega arith) _ (found_placed xs (i + 1) n))

-- The m-th open element is found at its place, before which m - 1 are open.
pub nth_open : (xs : List ℕ) (m : ℕ) → 1 ≤ m → (o : Option (ℕ × ℕ)) → o ≡ slice_get (placed 0 xs) (m - 1)
    → MatchOption o (open_element m xs ≡ 0) (λ p. (p.0 < length xs) × (open_element m xs ≡ p.0 + 1))
unfolding open_element
nth_open xs m low o is = go o (rw (← is) at (found_placed xs 0 (m - 1)))
  where
    go : (o : Option (ℕ × ℕ)) → Found xs 0 (m - 1) o → MatchOption o (open_element m xs ≡ 0) (λ p. (p.0 < length xs) × (open_element m xs ≡ p.0 + 1))
    go None few = none_lowest (length xs) (λ e. eqb (open_count (take e xs)) m) (λ e a b. ne_eqb (open_count (take e xs)) m (λ z. omega (arith, few e)))
    go (Some p) (k, at, h) = (
      omega (arith, h.inside, at),
      lowest_unique (length xs) (λ e. eqb (open_count (take e xs)) m) (suc k) (
        h.inside,
        eq-eqb (open_count (take (suc k) xs)) m (omega (arith, h.opens)),
        λ e a b. ne_eqb (open_count (take e xs)) m (λ z. omega (arith, h.before e b)),
      ) ∙ omega (arith, at),
    )
