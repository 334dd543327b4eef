-- `judge::judge_key` gives the flat answer of the key, with the key as demand 1 and document 01 ask.
use Rattle.demands.proofs.Keys.{demand_1_key}
use Rattle.demands.proofs.Laws.{long_enough_for_key}
use Rattle.judge.proofs.judge_key.Goals as goal

pub returns : goal.returns
returns c =
    let w = c.answer_key.ensures in
    let e = c.into.ensures in
    let d = demand_1_key _ _ _ _ _ w e in record {
      answer = (_, w, e);
      demand1 = d;
      demand_key = long_enough_for_key _ _ _ _ d;
    }
