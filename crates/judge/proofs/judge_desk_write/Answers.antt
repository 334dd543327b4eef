-- `judge::judge_desk_write` gives the flat answer, as Item 10 asks.
use Rattle.std.proofs.Common.{ap, ◌∙◌}
use Rattle.c_layout.specs.Flat.{flat_outcome}
use Rattle.demands.proofs.Item10.{item_10_write}
use Rattle.judge.proofs.judge_desk_write.Goals as goal

pub returns : goal.returns
returns c =
    let q = c.into-refusal.ensures ∙ ap flat_outcome c.write.ensures.answer in record {
      answer = cc;
      item10 = item_10_write _ _ _ _ cc;
    }
