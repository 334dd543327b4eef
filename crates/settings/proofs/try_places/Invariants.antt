-- The best of the frames so far is kept (`Looping`), and the safe settings of their block (`Asked`).
use Rattle.settings.proofs.Loop.{Looping, Asked}
use Rattle.settings.proofs.try_places.Given as goal

abbrev pub invariant-loop-n : goal.invariant-loop-n
invariant-loop-n l = record { looping : Looping l.q.s.now.situation l.best l.n; asked : Asked l.q.s.now.situation l.n l.safe }
