-- The numbers of the words passed are added, and `next` is the section from which the walk goes on (`Walked`).
use Rattle.reach.proofs.Walk.{Walked, left_from}
use Rattle.reach.proofs.Reach.total.Given as goal

abbrev pub invariant-loop-next : goal.invariant-loop-next
invariant-loop-next l = Walked l.self.words l.of l.n l.next

abbrev pub decreases-loop-next : goal.decreases-loop-next
decreases-loop-next l = left_from l.next
