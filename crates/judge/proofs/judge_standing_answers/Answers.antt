-- `judge::judge_standing_answers` gives the flat answer of the operation.
use mathlib.Core.Path.{ap, ◌∙◌}
use Rattle.c_layout.specs.Flat.{flat_filled}
use Rattle.demands.proofs.Item08.{item_8}
use Rattle.judge.proofs.judge_standing_answers.Goals as goal

pub returns : goal.returns
returns c =
    let w = c.standing_answers.ensures in
    let answer = c.into.ensures ∙ ap flat_filled w.answer in record {
      answer = answer;
      after = w.after;
      item8 = item_8 _ _ _ _ answer w.after;
    }
