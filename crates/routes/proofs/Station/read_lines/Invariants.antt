-- The lines before have no cause, the place and the words are those of the progress that they make, and the lines from here on give the answer.
use Rattle.routes.proofs.Reading.{Going}
use Rattle.routes.proofs.Station.read_lines.Given as goal

abbrev pub invariant-loop-i : goal.invariant-loop-i
invariant-loop-i l = Going l.self.situation.now.situation l.file l.words l.p l.i
