-- Before train j + 1: `Known`. A meeting is the first; the path of the earlier train is read back from the predecessors kept, its own from its search.
use mathlib.Core.Path.{◌≡◌}
use Rattle.meaning.specs.Station.{file_states}
use Rattle.verdict.proofs.Turn.{Known}
use Rattle.verdict.proofs.decide.Given as goal

abbrev pub invariant-loop-j : goal.invariant-loop-j
invariant-loop-j l =
    (l.first ≡ l.initial.first) × (l.second ≡ l.initial.second)
    × Known l.s.situation (file_states l.s.situation) l.table.pairs.rows l.reaches l.before.of l.earlier.words l.entries l.j
