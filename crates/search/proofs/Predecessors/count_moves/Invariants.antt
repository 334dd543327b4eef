-- The moves from the section back to a start are counted.
use Prim.Native.Nat.{◌-◌}
use Rattle.search.proofs.Back.{Up}
use Rattle.search.proofs.Predecessors.count_moves.Given as goal

abbrev pub invariant-loop-p : goal.invariant-loop-p
invariant-loop-p l = Up l.self.of l.initial.at.0 l.moves l.at.0

abbrev pub decreases-loop-p : goal.decreases-loop-p
decreases-loop-p l = 512 - l.moves
