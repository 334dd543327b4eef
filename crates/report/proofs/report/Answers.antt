-- What was gathered is all records added from the start, and `Walked` says what is made of that.
use Rattle.std.proofs.Common.{◌≡◌, length, ap, ◌∙◌}
use Rattle.report.specs.declared.Sums.{Sums}
use Rattle.report.specs.declared.Gathered.{Gathered}
use Rattle.report.specs.Gathering.{both, nothing, no_keys_of, with_all, answer_of, after_of}
use Rattle.report.proofs.Walked.{begun, answers, afters}
use Rattle.report.proofs.report.Goals as goal
use Rattle.report.proofs.report.Goals.{After-gather}

walked : (c : After-gather) → c.gather.result ≡ with_all c.args.marks.now (both nothing no_keys_of)
walked c = c.gather.ensures ∙ ap (λ (s : Sums). with_all c.args.marks.now (both s no_keys_of)) c.nothing.ensures

pub written-requires : goal.written-requires
written-requires c = rw (walked (goal.at.written-requires c).After-gather) (begun c.args.marks.now)

pub returns : goal.returns
returns c =
    let marks = c.args.marks.now in
    let old = c.args.buffer.now in
    let g = walked (goal.at.returns c).After-gather in
    let w = c.written.ensures in
    record {
      answer = w.answer ∙ ap (λ (k : Gathered). answer_of k (length old)) g ∙ answers marks (length old);
      after = w.after ∙ ap (λ (k : Gathered). after_of k old) g ∙ afters marks old;
    }
