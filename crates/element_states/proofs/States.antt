-- The states of a situation's elements, collected in a list: how they are collected, and that the first of them are the file's.
use mathlib.Core.Path.{◌≡◌, sym, ap, ◌∙◌}
use mathlib.Core.List.{List}
use Prim.Native.Nat.{ℕ, ◌≤◌}
use native.Mathlib.Omega.{arith}
use lib.ListN.{length, take, length-map}
use lib.Seq.{length-take-le}
use Rattle.meaning.specs.declared.Element.{Element}
use Rattle.meaning.specs.declared.Situation.{Situation}
use Rattle.meaning.specs.Station.{file_states}
use Rattle.meaning.specs.File.{Limits}
use Rattle.meaning.proofs.Elements.{states_taken}
use Rattle.element_states.specs.Collected.{Collected}

module _ {s : Situation} {states : List ℕ} (w : Collected s states) where
  pub first_states : take s.header.elements states ≡ file_states s
  first_states = ap (take s.header.elements) w.are ∙ states_taken s

  -- There is a state for each element.
  pub enough_states : Limits s.header → s.header.elements ≤ length states
  enough_states limits = omega (arith, w.size, limits.elements)

  -- The array has all elements.
  pub all_elements : Limits s.header → s.header.elements ≤ length s.elements
  all_elements limits = omega (arith, w.size, ap length w.are, length-map s.elements (λ (e : Element). e.state), limits.elements)

  -- There are as many states as elements.
  pub states_length : Limits s.header → length (file_states s) ≡ s.header.elements
  states_length limits = sym (ap length first_states) ∙ length-take-le s.header.elements states (enough_states limits)
