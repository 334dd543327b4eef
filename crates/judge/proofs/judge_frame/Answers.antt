-- `judge::judge_frame` gives the flat refusal of the frame operation.
use mathlib.Core.Path.{ap, ◌∙◌}
use Rattle.c_layout.specs.Flat.{flat_outcome}
use Rattle.c_layout.proofs.Outcomes.{asked_flat}
use Rattle.demands.proofs.Item11.{item_11}
use Rattle.judge.proofs.judge_frame.Goals as goal

pub returns : goal.returns
returns c =
    let w = c.frame.ensures in
    let answer = c.into.ensures ∙ ap flat_outcome w.refusal ∙ asked_flat _ _ in record {
      answer = answer;
      after = w.after;
      item11 = item_11 _ _ _ _ _ answer w.after;
    }
