-- Moves added to a set of pairs one after another, and in any order: a set stands for the moves that pass, wherever they are listed.
use mathlib.Core.Path.{◌≡◌, refl, sym, ap, ◌∙◌}
use mathlib.Core.Bool.{Bool, true, false, ◌||◌}
use mathlib.Core.List.{List, [], ◌∷◌, ◌++◌}
use Prim.Native.Nat.{ℕ}
use Rattle.meaning.specs.declared.Move.{Move}
use Rattle.meaning.specs.Station.{permitted}
use Rattle.meaning.proofs.Reach.{permitted-append}
use Rattle.pairs.specs.Pairs.{Rows, Adds, Gains}
use Rattle.pairs.proofs.Laws.{represents_add}

-- A set as it is gains nothing.
pub gains_none : (t : Rows) → Gains t [] t
gains_none t = record { same_length = refl; represents = λ ns h. h }

-- A set with a pair added gains that move.
pub gains_one : (t u : Rows) (m : Move) → Adds t m.from.0 m.to.0 u → Gains t (m ∷ []) u
gains_one t u m h = record { same_length = h.same_length; represents = λ ns s. represents_add t u ns m.from.0 m.to.0 s h }

or_middle : (a b c : Bool) → (b || (a || c)) ≡ ((a || b) || c)
or_middle true true c = refl
or_middle true false c = refl
or_middle false true c = refl
or_middle false false c = refl

-- The order of listing makes no difference.
permitted_middle : (ms ns l : List Move) (a b : ℕ) → permitted (ns ++ (ms ++ l)) a b ≡ permitted ((ms ++ ns) ++ l) a b
permitted_middle ms ns l a b =
    permitted-append ns (ms ++ l) a b
    ∙ ap (λ (p : Bool). permitted ns a b || p) (permitted-append ms l a b)
    ∙ or_middle (permitted ms a b) (permitted ns a b) (permitted l a b)
    ∙ sym (permitted-append (ms ++ ns) l a b ∙ ap (λ (p : Bool). p || permitted l a b) (permitted-append ms ns a b))

-- A set that gains moves, and then others, gains both.
pub gains_both : (t u v : Rows) (ms ns : List Move) → Gains t ms u → Gains u ns v → Gains t (ms ++ ns) v
gains_both t u v ms ns g h =
    record {
      same_length = h.same_length ∙ g.same_length;
      represents = λ l s a b. h.represents (ms ++ l) (g.represents l s) a b ∙ permitted_middle ms ns l a b;
    }
