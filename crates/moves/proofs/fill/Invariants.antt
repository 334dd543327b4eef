-- The moves that the elements passed permit are added, and then those that they forbid removed.
use lib.ListN.{take}
use Rattle.meaning.specs.Station.{elements_of, file_states, element_moves, forbidden}
use Rattle.pairs.specs.Pairs.{Gains}
use Rattle.moves.specs.Moves.{Loses}
use Rattle.moves.proofs.fill.Given as goal

abbrev pub invariant-loop-e : goal.invariant-loop-e
invariant-loop-e l =
    Gains l.initial.table.pairs.rows (element_moves (take l.e-index (elements_of l.s.situation)) (file_states l.s.situation)) l.table.pairs.rows

abbrev pub invariant-loop-f : goal.invariant-loop-f
invariant-loop-f l =
    Loses l.initial.table.pairs.rows (forbidden (take l.f-index (elements_of l.s.situation)) (file_states l.s.situation)) l.table.pairs.rows
