-- `judge::judge_desk_read` gives the flat answer, as Item 10 asks.
use mathlib.Core.Path.{ap, ◌∙◌}
use Rattle.c_layout.specs.Flat.{flat_desk_byte}
use Rattle.demands.proofs.Item10.{item_10_read}
use Rattle.judge.proofs.judge_desk_read.Goals as goal

pub returns : goal.returns
returns c =
    let answer = c.into.ensures ∙ ap flat_desk_byte c.read.ensures in record {
      answer = answer;
      item10 = item_10_read _ _ _ answer;
    }
