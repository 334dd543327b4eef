-- `answers::standing_answers` meets its contract: each way out is a law of `Outcome` or `Ending`.
use mathlib.Core.Path.{sym}
use mathlib.Core.List.{[]}
use native.Mathlib.Omega.{arith}
use Rattle.std.proofs.lemmas.Result.{err_from_is_err_and}
use Rattle.answers.proofs.Refused.{settle_cut}
use Rattle.answers.proofs.Outcome.{out-refused}
use Rattle.answers.proofs.Ending.{Accepted, end_short, end_written}
use Rattle.answers.proofs.standing_answers.Goals as goal
use Rattle.answers.proofs.standing_answers.Goals.{After-keep-k}

pub returns-then-cut_or_long : goal.returns-then-cut_or_long
returns-then-cut_or_long c =
    let o = out-refused c.args.log.now c.args.buffer.now (sym (settle_cut c.args.log.now [] (sym c.if-cut_or_long.ensures)).answer) in
    record { answer = o.answer; after = o.after; within = tt }

pub returns-in_err-n : goal.returns-in_err-n
returns-in_err-n c =
    let p = err_from_is_err_and c.from_residual.result c.from_residual.ensures.1 in
    let o = out-refused c.args.log.now c.args.buffer.now (sym c.in_err-n.ensures.answer) in
    record { answer = rw (p.1, p.2) o.answer; after = o.after; within = rw p.1 tt }

-- The keys that stand were moved to the start.
accepted : (c : After-keep-k) → Accepted c.args.log.now c.settle.new.keys c.keep-k.new.keys c.in_ok-n.n c.keep-k.result
accepted c =
    record {
      settled = c.in_ok-n.ensures;
      count = c.keep-k.ensures.count;
      start = c.keep-k.ensures.start;
      same = c.keep-k.auto.keys;
    }

pub returns-then-buffer-k : goal.returns-then-buffer-k
returns-then-buffer-k c =
    let o = end_short (accepted (goal.at.returns-then-buffer-k c).After-keep-k) _ c.if-buffer-k.true in
    record { answer = o.answer; after = o.after; within = tt }

pub returns : goal.returns
returns c =
    let o = end_written (accepted (goal.at.returns c).After-keep-k) _ _ (omega arith) c.put_answers.ensures in
    record { answer = o.answer; after = o.after; within = omega arith }
