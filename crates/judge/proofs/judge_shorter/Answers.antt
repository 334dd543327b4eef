-- `judge::judge_shorter` tells the list and the length of what `shorter` returns: a path shorter than the first is the second.
use Rattle.std.proofs.Common.{ap, arith, length, take}
use Rattle.c_layout.proofs.Part.{part_first, part_second}
use Rattle.demands.proofs.Others.{demand_shorter}
use Rattle.judge.proofs.judge_shorter.Goals as goal

pub returns-then-length-path : goal.returns-then-length-path
returns-then-length-path c =
    let count = ap length c.shorter-length.ensures in
    let first = ap length c.path.ensures in
    let part = part_second (take c.args.n c.args.first.now) (take c.args.m c.args.second.now) (omega arith) in record {
      answer = rw (count, part);
      demand_shorter = demand_shorter _ _ _ _ _ (rw (count, part));
    }

pub returns-else-length-path : goal.returns-else-length-path
returns-else-length-path c =
    let count = ap length c.shorter-length.ensures in
    let first = ap length c.path.ensures in
    let part = part_first (take c.args.n c.args.first.now) (take c.args.m c.args.second.now) (omega arith) in record {
      answer = rw (count, part);
      demand_shorter = demand_shorter _ _ _ _ _ (rw (count, part));
    }
