-- What is permitted under several elements: some element stands over it, and every one that does permits it (`agreed_over`). Where one line at
-- most stands over each pair, that is what the lines permit one by one (`alone_exact`); where a signal and a turnout do, that is what both
-- permit (`both_exact`).
use mathlib.Core.Path.{◌≡◌, refl, sym, ap, ap₂, ◌∙◌}
use mathlib.Core.Logic.{⊎_elim}
use mathlib.Core.Bool.{Bool, true, false, not, ◌&&◌, ◌||◌, cond, false≢true}
use mathlib.Core.List.{List, [], ◌∷◌, ◌++◌}
use mathlib.Mathlib.Data.Bool.Basic.{or_inl, or_inr}
use mathlib.Mathlib.Data.Bool.Basic.{or-eq-false-eq-eq-false-and-eq-false as neither}
use Prim.Native.Nat.{ℕ, ◌+◌, ◌≤◌}
use native.Mathlib.Omega.{arith}
use borrow.Author.Tests.{not-false}
use Rattle.meaning.specs.declared.Move.{Move}
use Rattle.meaning.specs.declared.Kind.{Kind}
use Rattle.meaning.specs.declared.Element.{Element}
use Rattle.meaning.specs.declared.Situation.{Situation}
use Rattle.meaning.specs.Station.{plain_moves, elements_of, moves_of, element_moves, permitted, pairs_over, over_elements, forbids, forbidden, passing, agreed_moves, moves}
use Rattle.basics.proofs.Tests.{or_cases, and_both}
use Rattle.meaning.proofs.Elements.{open_permits_nothing}
use Rattle.meaning.proofs.Reach.{permitted-append}

-- ---- moves that pass a test
-- A move is one of those that pass where it is one and passes.
passing_exact : (f : ℕ → ℕ → Bool) (ms : List Move) (a b : ℕ) → permitted (passing f ms) a b ≡ (permitted ms a b && f a b)
unfolding passing
passing_exact f [] a b = refl
passing_exact f (m ∷ ms) a b = grind (arith, passing_exact f ms a b)

module _ (es : List Element) (σ : List ℕ) (a b : ℕ) where
  -- Some element permits it, and none forbids it.
  pub agreed_exact : permitted (agreed_moves es σ) a b ≡ (permitted (element_moves es σ) a b && not (forbidden es σ a b))
  unfolding agreed_moves
  agreed_exact = passing_exact (λ a b. not (forbidden es σ a b)) (element_moves es σ) a b

  -- What is agreed, some element permits.
  pub agreed_some : permitted (agreed_moves es σ) a b ≡ true → permitted (element_moves es σ) a b ≡ true
  agreed_some h = (and_both (permitted (element_moves es σ) a b) (not (forbidden es σ a b)) (sym agreed_exact ∙ h)).0

-- ---- an element and the pairs it stands over
-- An element stands over what it permits.
pub permits_over : (k : Kind) (x a b : ℕ) → permitted (moves_of k x) a b ≡ true → permitted (pairs_over k) a b ≡ true
unfolding moves_of
permits_over k x a b h = grind arith

-- Some element stands over a pair.
abbrev pub over : List Element → ℕ → ℕ → Bool
over es a b = permitted (over_elements es) a b

pub over_cases : (e : Element) (es : List Element) (a b : ℕ) → over (e ∷ es) a b ≡ (permitted (pairs_over e.kind) a b || over es a b)
over_cases e es a b = permitted-append (pairs_over e.kind) (over_elements es) a b

some-over : (es : List Element) (σ : List ℕ) (a b : ℕ) → permitted (element_moves es σ) a b ≡ true → over es a b ≡ true
unfolding element_moves
some-over [] σ a b h = h
some-over (e ∷ es) [] a b h = absurd (false≢true h)
some-over (e ∷ es) (x ∷ σ) a b h =
    over_cases e es a b
    ∙ ⊎_elim
    (λ p. or_inl (permitted (pairs_over e.kind) a b) (over es a b) (permits_over e.kind x a b p))
    (λ p. or_inr (permitted (pairs_over e.kind) a b) (over es a b) (some-over es σ a b p))
    (or_cases (permitted (moves_of e.kind x) a b) (permitted (element_moves es σ) a b)
    (sym (permitted-append (moves_of e.kind x) (element_moves es σ) a b) ∙ h))

-- An element that stands over a pair and does not forbid it permits it.
over_permits : (k : Kind) (x a b : ℕ) → permitted (pairs_over k) a b ≡ true → forbids k x a b ≡ false → permitted (moves_of k x) a b ≡ true
over_permits k x a b p f = not-false (permitted (moves_of k x) a b) (sym (ap (λ (t : Bool). t && not (permitted (moves_of k x) a b)) p) ∙ f)

over_free : (es : List Element) (σ : List ℕ) (a b : ℕ) → over es a b ≡ true → forbidden es σ a b ≡ false → permitted (element_moves es σ) a b ≡ true
unfolding element_moves forbidden
over_free [] σ a b h f = h
over_free (e ∷ es) [] a b h f =
    let n = (neither (forbids e.kind 0 a b) (forbidden es [] a b)).0 f in
    ⊎_elim
    (λ p. ap (λ (ms : List Move). permitted ms a b) (sym (open_permits_nothing e.kind)) ∙ over_permits e.kind 0 a b p n.0)
    (λ p. absurd (false≢true (sym (stateless es) ∙ over_free es [] a b p n.1)))
    (or_cases (permitted (pairs_over e.kind) a b) (over es a b) (sym (over_cases e es a b) ∙ h))
  where
    stateless : (ds : List Element) → permitted (element_moves ds []) a b ≡ false
    stateless [] = refl
    stateless (d ∷ ds) = refl
over_free (e ∷ es) (x ∷ σ) a b h f =
    let n = (neither (forbids e.kind x a b) (forbidden es σ a b)).0 f in
    permitted-append (moves_of e.kind x) (element_moves es σ) a b
    ∙ ⊎_elim
    (λ p. or_inl (permitted (moves_of e.kind x) a b) (permitted (element_moves es σ) a b) (over_permits e.kind x a b p n.0))
    (λ p. or_inr (permitted (moves_of e.kind x) a b) (permitted (element_moves es σ) a b) (over_free es σ a b p n.1))
    (or_cases (permitted (pairs_over e.kind) a b) (over es a b) (sym (over_cases e es a b) ∙ h))

-- SOME ELEMENT STANDS OVER IT, AND EVERY ONE THAT DOES PERMITS IT: none forbids it.
pub agreed_over : (es : List Element) (σ : List ℕ) (a b : ℕ) → permitted (agreed_moves es σ) a b ≡ (over es a b && not (forbidden es σ a b))
agreed_over es σ a b = grind (arith, agreed_exact, over_free, some-over)

-- How many elements stand over a pair.
unfoldable pub over_count : List Element → ℕ → ℕ → ℕ
over_count [] a b = 0
over_count (e ∷ es) a b = cond (permitted (pairs_over e.kind) a b) 1 0 + over_count es a b

-- Where none does, none permits and none forbids it.
none_over : (es : List Element) (σ : List ℕ) (a b : ℕ) → over_count es a b ≡ 0
    → (permitted (element_moves es σ) a b ≡ false) × (forbidden es σ a b ≡ false)
unfolding over_count element_moves forbidden
none_over [] σ a b h = (refl, refl)
none_over (e ∷ es) [] a b h = grind (arith, none_over es)
none_over (e ∷ es) (x ∷ σ) a b h = grind (arith, none_over es σ a b)

-- Where one does at most, what is permitted is not forbidden.
alone_free : (es : List Element) (σ : List ℕ) (a b : ℕ) → over_count es a b ≤ 1
    → permitted (element_moves es σ) a b ≡ true → forbidden es σ a b ≡ false
unfolding over_count element_moves forbidden
alone_free [] σ a b one h = refl
alone_free (e ∷ es) [] a b one h = absurd (false≢true h)
alone_free (e ∷ es) (x ∷ σ) a b one h = grind (arith, none_over, alone_free es σ a b)

-- WITH ONE LINE OVER EACH PAIR IT IS THE OLD SENSE: what the P lines and the elements permit, one by one.
module _ (s : Situation) (σ : List ℕ) (a b : ℕ) where
  permitted_exact : permitted (moves s σ) a b
      ≡ (permitted (plain_moves s) a b || (permitted (element_moves (elements_of s) σ) a b && not (forbidden (elements_of s) σ a b)))
  unfolding moves
  permitted_exact = grind (arith, agreed_exact, permitted-append)

  pub alone_exact : over_count (elements_of s) a b ≤ 1
      → permitted (moves s σ) a b ≡ permitted (plain_moves s ++ element_moves (elements_of s) σ) a b
  alone_exact one = grind (arith, alone_free, permitted-append, permitted_exact)

-- ---- under two elements
-- In the words of the request: a pair under the two elements of a list is permitted exactly when both permit it.
pub both_exact : (c d : Element) (x y a b : ℕ) → permitted (pairs_over c.kind) a b ≡ true → permitted (pairs_over d.kind) a b ≡ true
    → permitted (agreed_moves (c ∷ d ∷ []) (x ∷ y ∷ [])) a b ≡ (permitted (moves_of c.kind x) a b && permitted (moves_of d.kind y) a b)
unfolding element_moves forbidden
both_exact c d x y a b p q =
    agreed_exact (c ∷ d ∷ []) (x ∷ y ∷ []) a b
    ∙ ap₂ ◌&&◌
    (permitted-append (moves_of c.kind x) (moves_of d.kind y ++ []) a b
    ∙ ap (λ (t : Bool). permitted (moves_of c.kind x) a b || t) (permitted-append (moves_of d.kind y) [] a b))
    (rw (p, q))
    ∙ two (permitted (moves_of c.kind x) a b) (permitted (moves_of d.kind y) a b)
  where
    two : (t u : Bool) → ((t || (u || false)) && not (not t || (not u || false))) ≡ (t && u)
    two true true = refl
    two true false = refl
    two false true = refl
    two false false = refl
