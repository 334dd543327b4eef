-- The states of a situation's elements, in a list.
use Rattle.std.specs.Prelude.{◌≡◌, List, map, ℕ, length}
use Rattle.meaning.specs.declared.Element.{Element}
use Rattle.meaning.specs.declared.Situation.{Situation}

-- The state of each element of a list.
abbrev pub states_of : List Element → List ℕ
states_of es = map (λ (e : Element). e.state) es

-- The list has the states of all elements of a situation, those past the count too.
pub record Collected (s : Situation) (states : List ℕ) : Type 0 where
  pub are : states ≡ states_of s.elements
  pub size : length states ≡ 256
