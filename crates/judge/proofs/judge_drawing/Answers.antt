-- `judge::judge_drawing` gives the flat answer of the drawing, as Item 1 asks.
use mathlib.Core.Path.{ap, ◌∙◌}
use Rattle.c_layout.specs.Flat.{flat_yes_no}
use Rattle.demands.proofs.Item01.{item_1}
use Rattle.judge.proofs.judge_drawing.Goals as goal

pub returns : goal.returns
returns c =
    let answer = c.into.ensures ∙ ap flat_yes_no c.drawing.ensures in record {
      answer = answer;
      item1 = item_1 _ _ _ _ _ _ answer;
    }
