-- `judge::judge_routes` gives the flat answer of the route table.
use mathlib.Core.Path.{ap, ◌∙◌}
use Rattle.c_layout.specs.Flat.{flat_filled}
use Rattle.demands.proofs.Item07.{item_7}
use Rattle.judge.proofs.judge_routes.Goals as goal

pub returns : goal.returns
returns c =
    let w = c.conflicts.ensures in
    let answer = c.into.ensures ∙ ap flat_filled w.answer in record {
      answer = answer;
      after = w.after;
      item7 = item_7 _ _ _ _ _ answer w.after;
    }
