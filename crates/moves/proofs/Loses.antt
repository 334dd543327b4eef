-- Pairs removed from a table one after another, and what is left of the moves that it stood for.
use mathlib.Core.Path.{◌≡◌, refl, sym, ap, subst, ◌∙◌}
use mathlib.Core.Logic.{◌⊎◌, inl, inr, ⊎_elim}
use mathlib.Core.Bool.{Bool, true, false, not, ◌&&◌, ◌||◌, and-true, or-false, false≢true}
use mathlib.Core.List.{List, [], ◌∷◌, ◌++◌, append-nil}
use mathlib.Mathlib.Data.Bool.Basic.{eq-false_of_not-eq-true}
use Prim.Native.Nat.{ℕ, zero, suc}
use lib.Dec.{eqb}
use Rattle.meaning.specs.declared.Section.{Section}
use Rattle.meaning.specs.declared.Move.{Move}
use Rattle.meaning.specs.declared.Turnout.{Turnout}
use Rattle.meaning.specs.declared.Kind.{Kind}
use Rattle.meaning.specs.declared.Kind.TheVariants.{Signal, Turnout as Points}
use Rattle.meaning.specs.declared.Element.{Element}
use Rattle.meaning.specs.declared.Situation.{Situation}
use Rattle.meaning.specs.Station.{plain_moves, elements_of, both_ways, moves_of, permitted, pairs_over, forbids, element_moves, forbidden, agreed_moves, moves}
use Rattle.meaning.proofs.Agreed.{agreed_exact}
use Rattle.meaning.proofs.Reach.{permitted_cases, permitted-append}
use Rattle.pairs.specs.Pairs.{Rows, edge, Represents, Removes, Gains}
use Rattle.pairs.proofs.Gains.{gains_none}
use Rattle.moves.proofs.Station.{kind_inside}
use Rattle.moves.specs.Moves.{Loses}

-- ---- one after another
-- What is removed goes by the test's values alone.
pub loses_same : (t u : Rows) (f g : ℕ → ℕ → Bool) → ((a b : ℕ) → f a b ≡ g a b) → Loses t f u → Loses t g u
loses_same t u f g same l =
    record { same_length = l.same_length; pairs = λ a b. l.pairs a b ∙ ap (λ (p : Bool). edge t a b && not p) (same a b) }

-- A table as it is loses nothing.
pub loses_none : (t : Rows) (f : ℕ → ℕ → Bool) → ((a b : ℕ) → f a b ≡ false) → Loses t f t
loses_none t f none =
    record { same_length = refl; pairs = λ a b. sym (ap (λ (p : Bool). edge t a b && not p) (none a b) ∙ and-true (edge t a b)) }

-- A table without a pair loses that move.
pub loses_one : (t u : Rows) (m : Move) → Removes t m.from.0 m.to.0 u → Loses t (permitted (m ∷ [])) u
loses_one t u m h =
    record {
      same_length = h.same_length;
      pairs = λ a b.
          h.pairs a b
          ∙ ap (λ (p : Bool). edge t a b && not p) (sym (or-false (eqb a m.from.0 && eqb b m.to.0)));
    }

less_twice : (e p q : Bool) → ((e && not p) && not q) ≡ (e && not (p || q))
less_twice true true q = refl
less_twice true false q = refl
less_twice false p q = refl

-- A table that loses moves, and then others, loses both.
pub loses_both : (t u v : Rows) (f g : ℕ → ℕ → Bool) → Loses t f u → Loses u g v → Loses t (λ a b. f a b || g a b) v
loses_both t u v f g l m =
    record {
      same_length = m.same_length ∙ l.same_length;
      pairs = λ a b.
          m.pairs a b
          ∙ ap (λ (e : Bool). e && not (g a b)) (l.pairs a b)
          ∙ less_twice (edge t a b) (f a b) (g a b);
    }

-- A table that loses the moves of one list and then those of another loses those of both.
pub loses_append : (t u v : Rows) (ms ns : List Move) → Loses t (permitted ms) u → Loses u (permitted ns) v → Loses t (permitted (ms ++ ns)) v
loses_append t u v ms ns l m =
    loses_same t v (λ a b. permitted ms a b || permitted ns a b) (permitted (ms ++ ns)) (λ a b. sym (permitted-append ms ns a b))
    (loses_both t u v (permitted ms) (permitted ns) l m)

-- ---- what an element forbids, by its kind and state
module _ (a b : ℕ) where
  -- A signal at 1 forbids nothing; at another state its pair.
  pub signal_free : (k : Kind) (m : Move) (x : ℕ) → k ≡ Signal m → x ≡ 1 → forbids k x a b ≡ false
  unfolding moves_of
  signal_free k m x e h = rw (e, h) (itself (permitted (m ∷ []) a b))
    where
      itself : (p : Bool) → (p && not p) ≡ false
      itself true = refl
      itself false = refl

  pub signal_forbids : (k : Kind) (m : Move) (x : ℕ) → k ≡ Signal m → (x ≡ 1 → ⊥) → permitted (m ∷ []) a b ≡ forbids k x a b
  unfolding moves_of
  signal_forbids k m x e h = rw e (go x h)
    where
      go : (x : ℕ) → (x ≡ 1 → ⊥) → permitted (m ∷ []) a b ≡ forbids (Signal m) x a b
      go zero h = sym (and-true (permitted (m ∷ []) a b))
      go (suc zero) h = absurd (h refl)
      go (suc (suc zero)) h = sym (and-true (permitted (m ∷ []) a b))
      go (suc (suc (suc x))) h = sym (and-true (permitted (m ∷ []) a b))

  -- The pairs of one leg are not those of the other, where the legs are two sections.
  two_legs : (s c d : Section) → (c.0 ≡ d.0 → ⊥) → permitted (both_ways s c) a b ≡ true → permitted (both_ways s d) a b ≡ false
  two_legs s c d different p =
      eq-false_of_not-eq-true
      λ q.
      ⊎_elim
      (λ e. ⊎_elim (λ f. different (sym e.1 ∙ f.1)) (λ f. ⊎_elim (λ g. different (sym e.1 ∙ g.1 ∙ sym e.0 ∙ g.0)) (λ g. false≢true g) f)
      (other s d q))
      (λ e.
      ⊎_elim (λ e. ⊎_elim (λ f. different (sym e.0 ∙ f.0 ∙ sym e.1 ∙ f.1)) (λ f. ⊎_elim (λ g. different (sym e.0 ∙ g.0)) (λ g. false≢true g) f)
      (other s d q)) (λ g. false≢true g) e)
      (other s c p)
    where
      other : (s c : Section) → permitted (both_ways s c) a b ≡ true
          → ((a ≡ s.0) × (b ≡ c.0)) ⊎ (((a ≡ c.0) × (b ≡ s.0)) ⊎ (false ≡ true))
      other s c p =
          ⊎_elim (λ e. inl e) (λ e. inr (permitted_cases (record { from = c; to = s }) [] a b e))
          (permitted_cases (record { from = s; to = c }) (record { from = c; to = s } ∷ []) a b p)

  -- Legs of one section are the same pairs.
  one_leg : (s c d : Section) → c.0 ≡ d.0 → permitted (both_ways s c) a b ≡ permitted (both_ways s d) a b
  one_leg s c d e = ap (λ (n : ℕ). (eqb a s.0 && eqb b n) || ((eqb a n && eqb b s.0) || false)) e

  -- A turnout at 1 forbids the diverted leg, at 2 the straight one; at another state both.
  module _ (k : Kind) (t : Turnout) (x : ℕ) (is : k ≡ Points t) where
    abbrev leg : Section → Bool
    leg c = permitted (both_ways t.stem c) a b

    over : permitted (pairs_over (Points t)) a b ≡ (leg t.straight || leg t.diverted)
    over = permitted-append (both_ways t.stem t.straight) (both_ways t.stem t.diverted) a b

    pub forbids_diverted : x ≡ 1 → (t.straight.0 ≡ t.diverted.0 → ⊥) → leg t.diverted ≡ forbids k x a b
    unfolding moves_of
    forbids_diverted e different =
        rw (is, e, over)
        (go (leg t.straight) (leg t.diverted) (two_legs t.stem t.straight t.diverted different))
      where
        go : (p q : Bool) → (p ≡ true → q ≡ false) → q ≡ ((p || q) && not p)
        go true q f = f refl
        go false q f = sym (and-true q)

    pub forbids_straight : x ≡ 2 → (t.straight.0 ≡ t.diverted.0 → ⊥) → leg t.straight ≡ forbids k x a b
    unfolding moves_of
    forbids_straight e different =
        rw (is, e, over)
        (go (leg t.straight) (leg t.diverted) (two_legs t.stem t.straight t.diverted different))
      where
        go : (p q : Bool) → (p ≡ true → q ≡ false) → p ≡ ((p || q) && not q)
        go true q f = sym (ap not (f refl))
        go false true f = refl
        go false false f = refl

    pub joined_free : (x ≡ 1) ⊎ (x ≡ 2) → t.straight.0 ≡ t.diverted.0 → forbids k x a b ≡ false
    unfolding moves_of
    joined_free j same = rw (is, over) (⊎_elim
        (λ (e : x ≡ 1). rw e (go (leg t.straight) (leg t.diverted) legs))
        (λ (e : x ≡ 2). rw e (back (leg t.straight) (leg t.diverted) legs)) j)
      where
        legs : leg t.straight ≡ leg t.diverted
        legs = one_leg t.stem t.straight t.diverted same

        go : (p q : Bool) → p ≡ q → ((p || q) && not p) ≡ false
        go true q f = refl
        go false q f = ap (λ (z : Bool). z && true) (sym f)

        back : (p q : Bool) → p ≡ q → ((p || q) && not q) ≡ false
        back true q f = ap not (sym f)
        back false q f = ap (λ (z : Bool). z && not z) (sym f)

    pub forbids-both : (x ≡ 1 → ⊥) → (x ≡ 2 → ⊥)
        → permitted (both_ways t.stem t.straight ++ both_ways t.stem t.diverted) a b ≡ forbids k x a b
    unfolding moves_of
    forbids-both n m = rw is (go x n m)
      where
        go : (x : ℕ) → (x ≡ 1 → ⊥) → (x ≡ 2 → ⊥) → permitted (pairs_over (Points t)) a b ≡ forbids (Points t) x a b
        go zero n m = sym (and-true (permitted (pairs_over (Points t)) a b))
        go (suc zero) n m = absurd (n refl)
        go (suc (suc zero)) n m = absurd (m refl)
        go (suc (suc (suc x))) n m = sym (and-true (permitted (pairs_over (Points t)) a b))

-- ---- what is left
-- A table that stood for nothing, gained what some element permits, and lost what one forbids, and then gained the P lines, stands for the
-- moves of the situation.
pub filled-moves : (s : Situation) (σ : List ℕ) (t u v w : Rows) → Represents t [] → Gains t (element_moves (elements_of s) σ) u
    → Loses u (forbidden (elements_of s) σ) v → Gains v (plain_moves s) w → Represents w (moves s σ)
unfolding moves
filled-moves s σ t u v w none g l p =
    let es : List Element = elements_of s in
    p.represents (agreed_moves es σ) (λ a b.
    l.pairs a b
    ∙ ap (λ (e : Bool). e && not (forbidden es σ a b)) (subst (Represents u) (append-nil (element_moves es σ)) (g.represents [] none) a b)
    ∙ sym (agreed_exact es σ a b))

-- What the loops of `fill` begin with, and what the sections of an element are inside of.
pub ruleset filling = (kind_inside, gains_none, loses_none)
