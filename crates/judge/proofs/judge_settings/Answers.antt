-- `judge::judge_settings` gives the flat answer to the settings question.
use mathlib.Core.Path.{ap, ◌∙◌}
use Rattle.c_layout.specs.Flat.{flat_reply}
use Rattle.demands.proofs.Demand1.{demand_1_settings}
use Rattle.demands.proofs.Demand3.{demand_3}
use Rattle.demands.proofs.Item02.{item_2_settings}
use Rattle.demands.proofs.Item13.{item_13_settings}
use Rattle.judge.proofs.judge_settings.Goals as goal

pub returns : goal.returns
returns c =
    let w = c.settings.ensures in
    let answer = c.into.ensures ∙ ap flat_reply w.answer in
    let one = demand_1_settings _ _ _ _ answer w.after in
    let replies = demand_3 _ _ _ _ answer w.after in record {
      answer = answer;
      after = w.after;
      demand1 = one;
      demand3 = replies;
      item2 = item_2_settings _ _ _ _ one;
      item13 = item_13_settings _ _ _ _ answer w.after;
    }
