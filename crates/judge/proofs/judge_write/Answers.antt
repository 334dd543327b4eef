-- `judge::judge_write` writes the situation that the flat values stand for.
use mathlib.Core.Path.{ap, ◌∙◌}
use Rattle.c_layout.specs.declared.FlatOutput.{FlatOutput}
use Rattle.c_layout.specs.Flat.{flat_output}
use Rattle.c_layout.proofs.Outcomes.{written_flat}
use Rattle.demands.proofs.Demand1.{demand_1_write}
use Rattle.demands.proofs.Demand2.{demand_2_write}
use Rattle.demands.proofs.Laws.{past_counts_ignored}
use Rattle.demands.proofs.Item02.{item_2_write}
use Rattle.judge.proofs.judge_write.Goals as goal

pub returns : goal.returns
returns c =
    let w = rw c.from.ensures at c.write.ensures in
    let answer = c.into.ensures ∙ ap flat_output w.answer in
    let refusal = ap (λ (r : FlatOutput). r.refusal) answer ∙ written_flat _ _ in
    let d = demand_1_write _ _ _ _ answer w.after in record {
      answer = answer;
      after = w.after;
      demand1 = d;
      demand2 = demand_2_write _ _ _ _ refusal w.after;
      demand_counts = λ other e. past_counts_ignored _ other _ _ _ e d;
      item2 = item_2_write _ _ _ _ answer w.after;
    }
