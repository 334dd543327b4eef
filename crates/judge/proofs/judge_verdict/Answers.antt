-- `judge::judge_verdict` gives the flat answer of the verdict, as demand 2 asks.
use Rattle.demands.proofs.Demand1.{demand_1_verdict}
use Rattle.demands.proofs.Demand2.{demand_2}
use Rattle.demands.proofs.Item02.{item_2_verdict}
use Rattle.demands.proofs.Item13.{item_13_verdict}
use Rattle.judge.proofs.judge_verdict.Goals as goal

pub returns : goal.returns
returns c =
    let w = c.verdict.ensures in
    let e = c.into.ensures in
    let one = demand_1_verdict _ _ _ _ _ _ _ w e in record {
      answer = (_, w, e);
      demand1 = one;
      demand2 = demand_2 _ _ _ _ _ _ _ w e;
      item2 = item_2_verdict _ _ _ _ _ _ one;
      item13 = item_13_verdict _ _ _ _ _ _ _ w e;
    }
