-- `judge::judge_read` gives the flat reading of the file.
use mathlib.Core.Path.{ap, ◌∙◌}
use Rattle.c_layout.specs.Flat.{flat_reading_answer}
use Rattle.c_layout.proofs.Readings.{answer_flat}
use Rattle.demands.proofs.Demand1.{demand_1_read}
use Rattle.demands.proofs.Demand2.{demand_2_read}
use Rattle.demands.proofs.Item02.{item_2_read}
use Rattle.demands.proofs.Item03.{item_3_read}
use Rattle.judge.proofs.judge_read.Goals as goal

pub returns : goal.returns
returns c =
    let answer = c.from.ensures ∙ ap flat_reading_answer c.read.ensures ∙ answer_flat c.args.file.now in
    let one = demand_1_read _ _ answer in
    let two = demand_2_read _ _ answer in record {
      answer = answer;
      demand1 = one;
      demand2 = two;
      item2 = item_2_read _ _ two;
      item3 = item_3_read _ _ one;
    }
