-- Of each of the eight words of the row the bits that the set does not have are followed.
use Rattle.search.proofs.Row.{Following}
use Rattle.search.proofs.Search.follow.Given as goal

abbrev pub invariant-loop-i : goal.invariant-loop-i
invariant-loop-i l = Following l.pairs.rows l.head l.initial.reach.words l.initial.self.queue l.initial.self.before.of l.initial.n l.reach.words l.self.queue l.self.before.of l.n l.i
