-- The loop of `path_end`: laws of `path_end` and `walk` for its start, a step, a step that is not permitted, and its end; and where a list
-- leads by a table of moves, it is a path (`path_end_is`).
use mathlib.Core.Path.{◌≡◌, refl, sym, ◌∙◌}
use mathlib.Core.Bool.{Bool, true, false, not, ◌&&◌, ◌||◌, cond, false≢true}
use mathlib.Core.Logic.{⊎_elim}
use mathlib.Core.List.{List, [], ◌∷◌}
use Prim.Native.Nat.{ℕ, zero, suc, ◌+◌, ◌≤◌, ◌<◌}
use native.Mathlib.Numerals.{add-one}
use native.Mathlib.Omega.{arith}
use lib.ListN.{length, get_or, drop}
use lib.Seq.{drop-cons, drop-length}
use lib.Dec.{eqb, ltb}
use borrow.Author.Tests.{eqb-true, ne_eqb, not-true}
use Rattle.meaning.specs.declared.Move.{Move}
use Rattle.meaning.specs.Station.{permitted}
use Rattle.meaning.specs.Paths.{mem, steps, end_of, path_to}
use Rattle.basics.proofs.Tests.{or_cases}
use Rattle.pairs.specs.Pairs.{Rows, edge, outside}
use Rattle.drawing.specs.Walk.{walk, path_end}

-- ---- one step
-- A pair with a number that no section has is in no table.
pub edge-outside : (t : Rows) (a b : ℕ) → outside a b ≡ true → edge t a b ≡ false
unfolding edge
edge-outside t a b h = rw h

-- The second number of a pair in a table is no 0.
pub edge_second : (t : Rows) (a b : ℕ) → edge t a b ≡ true → 1 ≤ b
edge_second t a zero h = absurd (false≢true (sym (edge-outside t a 0 (go (eqb a 0) (ltb 512 a))) ∙ h))
  where
    go : (p q : Bool) → (p || q || true || false) ≡ true
    go true true = refl
    go true false = refl
    go false true = refl
    go false false = refl
edge_second t a (suc b) h = omega arith

-- ---- the loop
module _ (step : ℕ → ℕ → Bool) where
  pub end_none : (S list : List ℕ) → length list ≡ 0 → path_end step S list ≡ 0
  unfolding path_end
  end_none S [] e = refl
  end_none S (b ∷ p) e = absurd (omega arith)

  -- A list with a first entry.
  module _ (S : List ℕ) {list : List ℕ} {a : ℕ} {p : List ℕ} (is : list ≡ a ∷ p) where
    end_elsewhere : mem a S ≡ false → path_end step S list ≡ 0
    unfolding path_end
    end_elsewhere n = rw (is, n)

    pub end_start : mem a S ≡ true → path_end step S list ≡ walk step a p
    unfolding path_end
    end_start e = rw (is, e)

    -- No step leaves 0.
    end_zero : ((b : ℕ) → step 0 b ≡ false) → a ≡ 0 → path_end step S list ≡ 0
    unfolding path_end
    end_zero none e = rw (is, e) (go (mem 0 S) p)
      where
        go : (t : Bool) (p : List ℕ) → cond t (walk step 0 p) 0 ≡ 0
        go true [] = refl
        go true (b ∷ p) = rw (none b) refl
        go false p = refl

  module _ (a k : ℕ) (list : List ℕ) where
    pub end_step : k < length list → step a (get_or list k 0) ≡ true
        → walk step a (drop k list) ≡ walk step (get_or list k 0) (drop (k + 1) list)
    end_step l h = rw (drop-cons list k 0 l, h, add-one k)

    pub end_fails : k < length list → step a (get_or list k 0) ≡ false → walk step a (drop k list) ≡ 0
    end_fails l h = rw (drop-cons list k 0 l, h)

    pub end_done : k ≡ length list → walk step a (drop k list) ≡ a
    end_done e = rw (e, drop-length list)

-- A list that begins with 0, or elsewhere than in S, leads nowhere by a table.
pub end_outside : (t : Rows) (S : List ℕ) {list : List ℕ} {a : ℕ} {p : List ℕ} → list ≡ a ∷ p → {stands : Bool} → stands ≡ mem a S
    → (eqb a 0 || not stands) ≡ true → path_end (edge t) S list ≡ 0
end_outside t S {a = a} is {stands} e h =
    ⊎_elim
    (λ z. end_zero (edge t) S is (λ b. edge-outside t 0 b refl) (eqb-true a 0 z))
    (λ n. end_elsewhere (edge t) S is (sym e ∙ not-true stands n))
    (or_cases (eqb a 0) (not stands) h)

module _ (step : ℕ → ℕ → Bool) (ms : List Move) (represents : (a b : ℕ) → step a b ≡ permitted ms a b) (k : ℕ) (low : 1 ≤ k) where
  no_end : eqb 0 k ≡ false
  no_end = ne_eqb 0 k (λ e. omega arith)

  walk_is : (a : ℕ) (p : List ℕ) → eqb (walk step a p) k ≡ (steps ms a p && eqb (end_of a p) k)
  walk_is a [] = refl
  walk_is a (b ∷ p) = rw (represents a b) (go (permitted ms a b) (walk_is b p))
    where
      go : (t : Bool) → eqb (walk step b p) k ≡ (steps ms b p && eqb (end_of b p) k)
          → eqb (cond t (walk step b p) 0) k ≡ ((t && steps ms b p) && eqb (end_of b p) k)
      go true e = e
      go false e = no_end

  -- A list leads to section k where it is a path to it.
  pub path_end_is : (S list : List ℕ) → eqb (path_end step S list) k ≡ path_to ms S k list
  unfolding path_end path_to
  path_end_is S [] = no_end
  path_end_is S (b ∷ p) = go (mem b S)
    where
      go : (t : Bool) → eqb (cond t (walk step b p) 0) k ≡ (t && (steps ms b p && eqb (end_of b p) k))
      go true = walk_is b p
      go false = no_end

-- What the loop of `path_end` goes by.
pub ruleset walking = (edge_second, end_none, end_start, end_step, end_fails, end_done)
