use mathlib.Core.Path.{sym, ◌∙◌}
use native.Mathlib.Omega.{arith}
use Rattle.answers.proofs.Scans.{scanned_more, scanned_skip}
use Rattle.answers.proofs.first_repeat.Goals as goal
use Rattle.answers.proofs.first_repeat.Goals.{in-Some, in_default}

pub loop-i-preserved : goal.loop-i-preserved
loop-i-preserved c =
    elim c.match-repeat_of.branch [
      | in-Some w ↦ rw (w.first-is, w.least-first.ensures, ← w.in-Some.is, c.repeat_of.ensures) (scanned_more c.loop-i.invariant (omega arith) (omega arith))
      | in_default w ↦ rw w.first-is (scanned_skip c.loop-i.invariant (omega arith) (omega arith) (sym c.repeat_of.ensures ∙ w.in_default.is))
    ]
