-- `report::gather` meets its contract. The invariant: what the records that are left give, from what was gathered so far, is what all of
-- them give from the start.
use Rattle.std.proofs.Common.{◌≡◌, drop}
use Rattle.report.specs.Gathering.{both, no_keys_of, with_all}
use Rattle.report.proofs.gather.Given as goal

abbrev pub invariant-loop-m : goal.invariant-loop-m
invariant-loop-m l = with_all (drop l.m-index l.marks) (both l.sums l.keys) ≡ with_all l.marks (both l.fn.start no_keys_of)
