-- `judge::judge_report` meets its contract: that of `report::report`, and Item 9 from it.
use Rattle.std.proofs.Common.{ap, ◌∙◌}
use Rattle.c_layout.specs.Flat.{flat_filled}
use Rattle.demands.proofs.Item09.{item_9}
use Rattle.judge.proofs.judge_report.Goals as goal

pub returns : goal.returns
returns c =
    let r = c.report.ensures in
    let answer = c.into.ensures ∙ ap flat_filled r.answer in
    record { answer = answer; after = r.after; item9 = item_9 c.args.marks.now c.args.buffer.now _ _ answer r.after }
