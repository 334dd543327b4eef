-- What a section added to a row, or taken from it, changes in a set of pairs, and which pairs the rows stand for.
use mathlib.Core.Path.{◌≡◌, refl, sym, ap, ap₂, ◌∙◌}
use mathlib.Core.Bool.{Bool, true, false, not, ◌&&◌, ◌||◌, cond, true≢false, and-true}
use mathlib.Core.List.{List, [], ◌∷◌}
use mathlib.Mathlib.Data.Bool.Basic.{eq-false_of_not-eq-true, or-eq-false-eq-eq-false-and-eq-false as neither}
use Prim.Native.Nat.{ℕ, ◌-◌, ◌≤◌}
use native.Mathlib.Decide.{ℕ_discrete}
use native.Mathlib.Omega.{arith}
use lib.Dec.{eqb, ltb}
use lib.ListN.{length, set, replicate, length-set}
use Rattle.std.proofs.lemmas.List.{get_or-replicate}
use borrow.Author.Tests.{eq-eqb, ne_eqb, eqb-true, eqb-false, le-ltb, ltb-false}
use Rattle.meaning.specs.declared.Move.{Move}
use Rattle.meaning.specs.Station.{section}
use Rattle.basics.proofs.Tests.{and_both}
use Rattle.reach.specs.declared.Reach.{Reach}
use Rattle.reach.specs.Reach.{memb, words_at}
use Rattle.reach.proofs.Sets.{StoredAt, stored_at}
use Rattle.pairs.specs.Pairs.{Rows, outside, edge, Represents, Adds, Removes}

-- Two numbers are section numbers where neither is outside.
pub inside : (a b : ℕ) → outside a b ≡ false → (1 ≤ a) × (a ≤ 512) × (1 ≤ b) × (b ≤ 512)
inside a b h =
    let f = (neither (eqb a 0 || ltb 512 a || eqb b 0) (ltb 512 b)).0 h in
    let g = (neither (eqb a 0 || ltb 512 a) (eqb b 0)).0 f.0 in
    let k = (neither (eqb a 0) (ltb 512 a)).0 g.0 in
    (low a k.0, ltb-false 512 a k.1, low b g.1, ltb-false 512 b f.1)
  where
    low : (x : ℕ) → eqb x 0 ≡ false → 1 ≤ x
    low x e = let n : (x ≡ 0 → ⊥) = eqb-false x 0 e in omega arith

-- From 1 to 512, neither is outside.
pub not-outside : (a b : ℕ) → 1 ≤ a → a ≤ 512 → 1 ≤ b → b ≤ 512 → outside a b ≡ false
not-outside a b la ha lb hb =
    rw (ne_eqb a 0 (λ e. omega arith), le-ltb 512 a ha, ne_eqb b 0 (λ e. omega arith), le-ltb 512 b hb)

-- A pair that the rows have is one of sections.
pub edge_inside : (t : Rows) (a b : ℕ) → edge t a b ≡ true → (1 ≤ a) × (a ≤ 512) × (1 ≤ b) × (b ≤ 512)
unfolding edge
edge_inside t a b = go (outside a b) refl
  where
    go : (o : Bool) → outside a b ≡ o → cond o false (memb (words_at t (a - 1)) b) ≡ true → (1 ≤ a) × (a ≤ 512) × (1 ≤ b) × (b ≤ 512)
    go true e h = absurd (true≢false (sym h))
    go false e h = inside a b e

-- One of sections is there where the row of its first has its second.
pub edge_row : (t : Rows) (a b : ℕ) → 1 ≤ a → a ≤ 512 → 1 ≤ b → b ≤ 512 → edge t a b ≡ memb (words_at t (a - 1)) b
unfolding edge
edge_row t a b la ha lb hb = simp (not-outside a b la ha lb hb)

-- Another pair does not pass the test for (a, b).
apart : (x y a b : ℕ) → (x ≡ a → y ≡ b → ⊥) → (eqb x a && eqb y b) ≡ false
apart x y a b n =
    eq-false_of_not-eq-true (λ h. let p = and_both (eqb x a) (eqb y b) h in n (eqb-true x a p.0) (eqb-true y b p.1))

module _ (t : Rows) (a b : ℕ) (len : length t ≡ 512) (la : 1 ≤ a) (ha : a ≤ 512) (lb : 1 ≤ b) (hb : b ≤ 512) where
  -- A row that differs from row a - 1 in section b alone, by the operation f, is stored for it.
  stored : (f : Bool → Bool → Bool) → ((q : Bool) → f false q ≡ q) → (r : Reach)
      → ((k : ℕ) → memb r.words k ≡ f (eqb k b) (memb (words_at t (a - 1)) k))
      → (x y : ℕ) → edge (set t (a - 1) r) x y ≡ f (eqb x a && eqb y b) (edge t x y)
  unfolding edge
  stored f keeps r is x y = all (outside x y) refl
    where
      row : StoredAt t (a - 1) r.words (set t (a - 1) r)
      row = stored_at t (a - 1) r (omega arith)

      all : (o : Bool) → outside x y ≡ o
          → cond o false (memb (words_at (set t (a - 1) r) (x - 1)) y) ≡ f (eqb x a && eqb y b) (cond o false (memb (words_at t (x - 1)) y))
      all true h = rw (apart x y a b (λ ea eb. true≢false (sym h ∙ ap₂ outside ea eb ∙ not-outside a b la ha lb hb))) (sym (keeps false))
      all false h = elim (ℕ_discrete x a) [
        | yes e ↦ rw (e, row.stored, eq-eqb a a refl) (is y)
        | no n ↦
            let i = inside x y h in
            rw (row.kept (x - 1) (λ e. n (omega (arith, i.0))), ne_eqb x a n) (sym (keeps _))
      ]

  -- The row with the section added, stored, adds the pair.
  pub adds_stored : (r : Reach) → ((k : ℕ) → memb r.words k ≡ (eqb k b || memb (words_at t (a - 1)) k)) → Adds t a b (set t (a - 1) r)
  adds_stored r is = record { same_length = length-set t (a - 1) r; pairs = stored ◌||◌ (λ q. refl) r is }

  -- The row without the section, stored, takes the pair away.
  pub removes_stored : (r : Reach) → ((k : ℕ) → memb r.words k ≡ (memb (words_at t (a - 1)) k && not (eqb k b)))
      → Removes t a b (set t (a - 1) r)
  removes_stored r is = record { same_length = length-set t (a - 1) r; pairs = stored (λ p q. q && not p) and-true r is }

-- ---- which pairs the rows stand for
-- Rows of no section stand for no pair.
pub represents_none : (r : Reach) → ((k : ℕ) → memb r.words k ≡ false) → Represents (replicate 512 r) []
unfolding edge words_at
represents_none r none a b = go (outside a b) refl
  where
    go : (o : Bool) → outside a b ≡ o → cond o false (memb (words_at (replicate 512 r) (a - 1)) b) ≡ false
    go true e = refl
    go false e =
        let i = inside a b e in
        ap (λ (x : Reach). memb x.words b) (get_or-replicate 512 (a - 1) r _ (omega (arith, i.0, i.1))) ∙ none b

-- Rows with a pair added stand for that pair in front.
pub represents_add : (t u : Rows) (ms : List Move) (a b : ℕ) → Represents t ms → Adds t a b u
    → Represents u (record { from = section a; to = section b } ∷ ms)
represents_add t u ms a b s h x y = h.pairs x y ∙ ap (λ (p : Bool). (eqb x a && eqb y b) || p) (s x y)
