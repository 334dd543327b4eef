-- `judge::judge_desk_start` gives the flat answer, as Item 10 asks.
use mathlib.Core.Path.{ap, ◌∙◌}
use Rattle.c_layout.specs.Flat.{flat_start}
use Rattle.demands.proofs.Item10.{item_10_start}
use Rattle.judge.proofs.judge_desk_start.Goals as goal

pub returns : goal.returns
returns c =
    let answer = c.into.ensures ∙ ap flat_start c.start.ensures in record {
      answer = answer;
      item10 = item_10_start _ _ answer;
    }
