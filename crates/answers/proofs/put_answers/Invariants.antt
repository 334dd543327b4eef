-- `answers::put_answers` meets its contract. The invariant: the lines of the keys so far stand at the start of the buffer.
use Rattle.basics.proofs.Stored.{Put}
use Rattle.answers.proofs.Written.{lines_of}
use Rattle.answers.proofs.put_answers.Given as goal

abbrev pub invariant-loop-i : goal.invariant-loop-i
invariant-loop-i l = Put lines_of l.keys l.initial.buffer l.buffer l.i
