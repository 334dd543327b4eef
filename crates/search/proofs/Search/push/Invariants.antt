-- The bits of the word are pushed, the lowest first.
use Rattle.search.proofs.Words.{Pushing}
use Rattle.search.proofs.Search.push.Given as goal

abbrev pub invariant-loop-b : goal.invariant-loop-b
invariant-loop-b l = Pushing l.i l.w l.a l.initial.self.queue l.initial.self.before.of l.n l.b-iterator.0 l.self.queue l.self.before.of l.m
