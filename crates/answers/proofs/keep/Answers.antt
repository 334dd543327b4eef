use mathlib.Core.Logic.{inl, inr}
use native.Mathlib.Omega.{arith}
use Rattle.answers.proofs.Scans.{kept_step}
use Rattle.answers.proofs.keep.Goals as goal
use Rattle.answers.proofs.keep.Goals.{then-last_at-has_answer, else-last_at-has_answer}

pub loop-i-preserved : goal.loop-i-preserved
loop-i-preserved c =
    let i = c.loop-i.invariant in
    kept_step i (omega arith) c.last_at.ensures c.has_answer.ensures
    (elim c.if-last_at-has_answer.branch [
      | then-last_at-has_answer w ↦ inl (w.if-last_at-has_answer.true, w.keys-is, w.k-is)
      | else-last_at-has_answer w ↦ inr (w.if-last_at-has_answer.false, w.keys-is, w.k-is)
    ])
