-- The kinds of the open elements so far are collected (`Making`).
use Rattle.std.proofs.Common.{length}
use Rattle.meaning.specs.Station.{elements_of}
use Rattle.setting_tables.proofs.Opening.{Making}
use Rattle.setting_tables.proofs.open_kinds.Given as goal

abbrev pub invariant-loop-i : goal.invariant-loop-i
invariant-loop-i l =
    (goal.iterator-loop-i).can_next l.i-iterator
    × (goal.iterator-loop-i).is_finite l.i-iterator
    × Making (elements_of l.q.s.now.situation) l.kinds (length l.yielded)
