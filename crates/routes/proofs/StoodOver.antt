-- The pairs that a station's lines stand over: the elements' lines one by one, and after the P lines.
use mathlib.Core.Path.{◌≡◌, subst}
use mathlib.Core.List.{List, [], ◌∷◌, ◌++◌, append_assoc, append-nil}
use Prim.Native.Nat.{ℕ, zero, suc, ◌<◌}
use native.Mathlib.Omega.{arith}
use lib.ListN.{length, get_or, take}
use Rattle.meaning.specs.declared.Element.{Element}
use Rattle.meaning.specs.declared.Situation.{Situation}
use Rattle.meaning.specs.Station.{plain_moves, elements_of, pairs_over, over_elements}
use Rattle.meaning.specs.File.{no_element}
use Rattle.route_meaning.specs.Routes.{stood_over}
use Rattle.pairs.specs.Pairs.{Rows, Represents, Gains}
use Rattle.pairs.proofs.Gains.{gains_both}

-- The pairs of one element more.
pub over_next : (es : List Element) (k : ℕ) → k < length es
    → over_elements (take (suc k) es) ≡ over_elements (take k es) ++ pairs_over (get_or es k no_element).kind
over_next [] k h = absurd (omega arith)
over_next (e ∷ es) zero h = append-nil (pairs_over e.kind)
over_next (e ∷ es) (suc k) h = rw (over_next es k (omega arith), append_assoc)

-- A set of no pair that gains the P lines and then what the elements' lines stand over.
pub over_gained : (s : Situation) (t u v : Rows) → Represents t [] → Gains t (plain_moves s) u → Gains u (over_elements (elements_of s)) v
    → Represents v (stood_over s)
unfolding stood_over
over_gained s t u v none g h =
    subst (Represents v) (append-nil (plain_moves s ++ over_elements (elements_of s)))
    ((gains_both t u v (plain_moves s) (over_elements (elements_of s)) g h).represents [] none)
