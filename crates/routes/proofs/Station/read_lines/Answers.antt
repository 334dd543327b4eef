-- Each way out is a law of `Reading`.
use mathlib.Core.Path.{sym, ◌∙◌}
use native.Mathlib.Omega.{arith}
use Rattle.routes.proofs.Reading.{is_r, going_refused, end_missing, end_read}
use Rattle.routes.proofs.Station.read_lines.Goals as goal

pub returns-in-Err-clause-refused : goal.returns-in-Err-clause-refused
returns-in-Err-clause-refused c = rw c.on_line.ensures (going_refused c.loop-i.invariant (omega arith) _ c.in-Err.ensures)

pub returns-in-R-clause-accepted : goal.returns-in-R-clause-accepted
returns-in-R-clause-accepted c = end_read c.loop-i.invariant (omega arith) (sym c.in-R.ensures)

pub returns-in_default : goal.returns-in_default
returns-in_default c = record {
  accepted = tt;
  refused =
      rw c.on_line-in_default.ensures
      (end_missing c.loop-i.invariant (omega arith) _ (omega arith) (λ z. c.in_default.not-R (is_r _ (c.next_line.ensures ∙ z))));
}
