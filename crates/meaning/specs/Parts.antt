-- A question split into two (02, Item 12): "by fixing one open element, at 1 in the first part and at 2 in the second". Elements are numbered
-- from 1; places in a list, lines and bytes are counted from 0 here.
use Rattle.std.specs.Prelude.{◌≡◌, List, [], ◌∷◌, ℕ, zero, suc, ◌-◌, ◌≤◌, get_or, length}
use Rattle.meaning.specs.declared.Kind.{Kind}
use Rattle.meaning.specs.declared.Kind.TheVariants.{Signal, Turnout}
use Rattle.meaning.specs.declared.Element.{Element}
use Rattle.meaning.specs.declared.Situation.{Situation}
use Rattle.meaning.specs.Station.{elements_of, file_states}
use Rattle.meaning.specs.File.{no_element}

-- Element e is an open one of the situation.
pub record IsOpen (s : Situation) (e : ℕ) : Type 0 where
  pub numbered : (1 ≤ e) × (e ≤ length (file_states s))
  pub at_0 : get_or (file_states s) (e - 1) 0 ≡ 0

-- ---- a part as a situation
-- The elements, with state x at place i.
unfoldable pub fixed : ℕ → ℕ → List Element → List Element
fixed i x [] = []
fixed zero x (e ∷ es) = record { kind = e.kind; state = x } ∷ es
fixed (suc i) x (e ∷ es) = e ∷ fixed i x es

-- The part of the question in which element e is fixed at x.
unfoldable pub part : Situation → ℕ → ℕ → Situation
unfolding fixed
part s e x = record { header = s.header; plain = s.plain; elements = fixed (e - 1) x s.elements; trains = s.trains }

-- ---- the proceed count
abbrev pub kind_of_element : Situation → ℕ → Kind
kind_of_element s e = (get_or (elements_of s) (e - 1) no_element).kind

abbrev pub gain_of : Kind → ℕ
gain_of (Signal m) = 1
gain_of (Turnout t) = 0

-- "Add one to the first part's proceed count if the element is a signal": what is added.
unfoldable pub gain : Situation → ℕ → ℕ
gain s e = gain_of (kind_of_element s e)
