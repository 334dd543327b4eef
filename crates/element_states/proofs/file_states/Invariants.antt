-- The first k states are those of the first k elements.
use mathlib.Core.Path.{◌≡◌}
use lib.ListN.{length, take}
use Rattle.element_states.specs.Collected.{states_of}
use Rattle.element_states.proofs.file_states.Given as goal

abbrev pub invariant-loop-k : goal.invariant-loop-k
invariant-loop-k l = (length l.states ≡ 256) × (take l.k l.states ≡ take l.k (states_of l.s.elements))
