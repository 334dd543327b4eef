-- `judge::judge_place` gives the flat answer of placing trains, as item 14 asks.
use mathlib.Core.Path.{ap, ◌∙◌}
use Rattle.c_layout.specs.Flat.{flat_placed}
use Rattle.demands.proofs.Item14.{item_14}
use Rattle.judge.proofs.judge_place.Goals as goal

pub returns : goal.returns
returns c =
    let w = c.place.ensures in
    let answer = c.into.ensures ∙ ap flat_placed w.answer in record {
      answer = answer;
      after = w.after;
      item14 = item_14 _ _ _ _ _ _ c.ranges.paper.fits answer w.after;
    }
