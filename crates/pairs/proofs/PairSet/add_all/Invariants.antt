-- The pairs of the moves passed are added.
use lib.ListN.{take}
use Rattle.pairs.specs.Pairs.{Gains}
use Rattle.pairs.proofs.PairSet.add_all.Given as goal

abbrev pub invariant-loop-m : goal.invariant-loop-m
invariant-loop-m g l = Gains (g.Self.PairSet.rows l.initial.self) (take l.m-index l.ms) (g.Self.PairSet.rows l.self)
