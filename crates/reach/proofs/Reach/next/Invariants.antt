-- No section above s and up to n is in the set; n stands in word i.
use mathlib.Core.Path.{◌≡◌}
use Prim.Native.Nat.{◌/◌, ◌≤◌}
use Rattle.reach.proofs.Laws.{Clear}
use Rattle.reach.proofs.Reach.next.Given as goal

abbrev pub invariant-loop-i : goal.invariant-loop-i
invariant-loop-i l = (l.initial.n ≤ l.n) × (l.n / 64 ≡ l.i) × Clear l.self.words l.initial.n l.n
