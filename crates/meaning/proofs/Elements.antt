-- What one element permits: an open one nothing, whatever it is. And the states of the elements up to their count are the file's.
use native.Mathlib.Omega.{arith}
use mathlib.Core.Path.{◌≡◌}
use mathlib.Core.List.{[], map}
use lib.ListN.{take}
use Rattle.meaning.specs.declared.Kind.{Kind}
use Rattle.meaning.specs.declared.Element.{Element}
use Rattle.meaning.specs.declared.Situation.{Situation}
use Rattle.meaning.specs.Station.{moves_of, elements_of, file_states}
use Rattle.basics.proofs.Lists.{mapped_take}

pub open_permits_nothing : (k : Kind) → moves_of k 0 ≡ []
unfolding moves_of
open_permits_nothing k = grind arith

pub states_taken : (s : Situation) → take s.header.elements (map (λ (e : Element). e.state) s.elements) ≡ file_states s
unfolding file_states elements_of
states_taken s = mapped_take (λ (e : Element). e.state) s.header.elements s.elements
