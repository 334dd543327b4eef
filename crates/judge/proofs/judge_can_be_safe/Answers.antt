-- `judge::judge_can_be_safe` gives the flat answer, as Item 6 asks.
use mathlib.Core.Path.{ap, ◌∙◌}
use Rattle.c_layout.specs.Flat.{flat_yes_no}
use Rattle.demands.proofs.Item06.{item_6}
use Rattle.judge.proofs.judge_can_be_safe.Goals as goal

pub returns : goal.returns
returns c =
    let answer = c.into.ensures ∙ ap flat_yes_no c.can_be_safe.ensures in record {
      answer = answer;
      item6 = item_6 _ _ answer;
    }
