-- What was subtracted and what is left make up the number; there are no more subtractions than it is high.
use mathlib.Core.Path.{◌≡◌}
use Prim.Native.Nat.{◌+◌, ◌*◌, ◌≤◌}
use Rattle.line_writer.proofs.subtract.Given as goal

abbrev pub invariant-loop-rest : goal.invariant-loop-rest
invariant-loop-rest l = (l.times + l.rest ≤ l.n) × (l.n ≡ l.times * l.power + l.rest)

abbrev pub decreases-loop-rest : goal.decreases-loop-rest
decreases-loop-rest l = l.rest
