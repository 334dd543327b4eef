use native.Mathlib.Omega.{arith}
use Rattle.basics.proofs.Stored.{put_none, put_more}
use Rattle.answers.proofs.Written.{line_at, lines_of, lined}
use Rattle.answers.proofs.put_answers.Goals as goal

pub loop-i-init : goal.loop-i-init
loop-i-init c = put_none line_at lines_of lined c.args.keys.now c.args.buffer.now

pub loop-i-preserved : goal.loop-i-preserved
loop-i-preserved c =
    let o = c.loop-i in
    put_more line_at lines_of lined c.args.keys.now c.args.buffer.now o.buffer _ o.i o.invariant (omega arith) (omega arith)
    (rw c.sent_of-a.ensures at c.put_row_of.ensures.text)
