-- The rows so far are there (`Tabled`).
use Rattle.std.proofs.Common.{◌-◌}
use Rattle.setting_safety.proofs.Gathering.{Among, Tabled}
use Rattle.setting_safety.proofs.Readying.{PlaneOf, OverlapOf, HarmOf}
use Rattle.setting_safety.proofs.Blocks.of.Given as goal

abbrev pub invariant-loop-e : goal.invariant-loop-e
invariant-loop-e l = record {
  among : Among l.tables.moves l.e-iterator.0;
  planes : Tabled (PlaneOf l.q.s.now.situation l.tables.masks (l.opens - l.last) l.last) 48 l.e-iterator.0 l.planes;
  overlaps : Tabled (OverlapOf l.tables) 48 l.e-iterator.0 l.overlaps;
}

abbrev pub invariant-loop-t : goal.invariant-loop-t
invariant-loop-t l = record {
  among : Among l.tables.trains.affected l.t-iterator.0;
  harms : Tabled (HarmOf l.tables) 64 l.t-iterator.0 l.harms;
}
