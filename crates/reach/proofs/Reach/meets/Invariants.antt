-- What the words before word i share is gathered in one word (`Shares`).
use Rattle.reach.proofs.Laws.{Shares}
use Rattle.reach.proofs.Reach.meets.Given as goal

abbrev pub invariant-loop-i : goal.invariant-loop-i
invariant-loop-i l = Shares l.self.words l.other.words l.both l.i
