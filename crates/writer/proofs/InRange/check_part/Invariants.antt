-- Before a value the lines of those before it have passed.
use Rattle.writer.proofs.Loops.{Passing}
use Rattle.writer.proofs.InRange.check_part.Given as goal

abbrev pub invariant-loop-k : goal.invariant-loop-k
invariant-loop-k g l = Passing l.self.header l.before l.part (g.T.Entry.line l.self.header.letter) l.initial.seen l.k l.seen
