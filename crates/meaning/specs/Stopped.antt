-- A situation with its open signals at stop.
use mathlib.Core.Path.{◌≡◌}
use mathlib.Core.List.{map}
use Prim.Native.Nat.{ℕ, zero, suc}
use Rattle.meaning.specs.declared.Kind.{Kind}
use Rattle.meaning.specs.declared.Kind.TheVariants.{Signal, Turnout}
use Rattle.meaning.specs.declared.Element.{Element}
use Rattle.meaning.specs.declared.Situation.{Situation}
use Rattle.meaning.specs.Station.{elements_of}

-- A state x of an element of this kind, with the state f in the file: 2 where it is an open signal.
abbrev pub at_stop : Kind → ℕ → ℕ → ℕ
at_stop (Signal m) zero x = 2
at_stop (Signal m) (suc f) x = x
at_stop (Turnout t) f x = x

-- The state of an element in the file, 2 for an open signal.
abbrev pub stop_state : Element → ℕ
stop_state e = at_stop e.kind e.state e.state

abbrev pub stop : Element → Element
stop e = record { kind = e.kind; state = stop_state e }

-- t is the situation s with its open signals at stop in the file.
pub record AtStop (s t : Situation) : Type 0 where
  pub header : t.header ≡ s.header
  pub plain : t.plain ≡ s.plain
  pub elements : elements_of t ≡ map stop (elements_of s)
  pub trains : t.trains ≡ s.trains
