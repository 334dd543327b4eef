-- Before a value the lines of those before it are stored.
use Rattle.writer.proofs.Loops.{Storing}
use Rattle.writer.proofs.InRange.put_part.Given as goal

abbrev pub invariant-loop-k : goal.invariant-loop-k
invariant-loop-k g l = Storing l.first l.part (g.T.Entry.line l.letter) l.initial.buffer l.k l.buffer l.count
