-- `proceed_counts::signal_step` and `proceed_counts::turnout_step` meet their contracts. `filled` is the table for the elements left.
use Rattle.std.proofs.Common.{refl, arith, ℕ}
use Rattle.proceed_counts.specs.Proceed.{Counted}
use Rattle.proceed_counts.proofs.Counts.{few_after, counted_front, counted_empty, step_room, counted_more}
use Rattle.proceed_counts.proofs.+signal_step_turnout_step.Goals as goal
use Rattle.proceed_counts.proofs.+signal_step_turnout_step.Goals.{signal_step-Joined-rest-lt1, turnout_step-Joined-rest-lt1, signal_step-in-empty, signal_step-in-len1-up+in-Signal, signal_step-in-len1-up+in-Turnout, turnout_step-in-empty, turnout_step-in-len1-up+in-Signal, turnout_step-in-len1-up+in-Turnout}

module _ (t : ℕ) (c : signal_step-Joined-rest-lt1 t) where
  signal_step_filled : Counted c.args.rest.now c.args.counts.now c.if-rest-lt1.counts c.if-rest-lt1.places
  signal_step_filled = elim c.if-rest-lt1.branch [
    | signal_step-in-empty w ↦ rw (w.counts-is, w.places-is) (counted_empty _ (omega arith) _ (omega arith))
    | signal_step-in-len1-up+in-Signal w ↦ rw (w.counts-is, w.places-is) (counted_front _ _ (omega arith) _ w.in-Signal.is _ _ _ (w.signal_step.ensures _))
    | signal_step-in-len1-up+in-Turnout w ↦ rw (w.counts-is, w.places-is) (counted_front _ _ (omega arith) _ w.in-Turnout.is _ _ _ (w.turnout_step.ensures _))
  ]

pub signal_step-signal_step-requires : goal.signal_step-signal_step-requires
signal_step-signal_step-requires t c = (omega arith, few_after _ _ c.in-len1-up.len_at_least _ c.requires)

pub signal_step-turnout_step-requires : goal.signal_step-turnout_step-requires
signal_step-turnout_step-requires t c = (omega arith, few_after _ _ c.in-len1-up.len_at_least _ c.requires)

pub signal_step-opened-requires : goal.signal_step-opened-requires
signal_step-opened-requires t c =
    (omega arith, step_room _ _ _ _ (signal_step_filled t (goal.at.signal_step-opened-requires t c).Joined-rest-lt1) _ c.requires)

pub signal_step-returns : goal.signal_step-returns
signal_step-returns t c front =
    counted_more _ _ _ _ _ (signal_step_filled t (goal.at.signal_step-returns t c).Joined-rest-lt1) 1 refl _ _ c.opened.ensures

module _ (t : ℕ) (c : turnout_step-Joined-rest-lt1 t) where
  turnout_step_filled : Counted c.args.rest.now c.args.counts.now c.if-rest-lt1.counts c.if-rest-lt1.places
  turnout_step_filled = elim c.if-rest-lt1.branch [
    | turnout_step-in-empty w ↦ rw (w.counts-is, w.places-is) (counted_empty _ (omega arith) _ (omega arith))
    | turnout_step-in-len1-up+in-Signal w ↦ rw (w.counts-is, w.places-is) (counted_front _ _ (omega arith) _ w.in-Signal.is _ _ _ (w.signal_step.ensures _))
    | turnout_step-in-len1-up+in-Turnout w ↦ rw (w.counts-is, w.places-is) (counted_front _ _ (omega arith) _ w.in-Turnout.is _ _ _ (w.turnout_step.ensures _))
  ]

pub turnout_step-signal_step-requires : goal.turnout_step-signal_step-requires
turnout_step-signal_step-requires t c = (omega arith, few_after _ _ c.in-len1-up.len_at_least _ c.requires)

pub turnout_step-turnout_step-requires : goal.turnout_step-turnout_step-requires
turnout_step-turnout_step-requires t c = (omega arith, few_after _ _ c.in-len1-up.len_at_least _ c.requires)

pub turnout_step-opened-requires : goal.turnout_step-opened-requires
turnout_step-opened-requires t c =
    (omega arith, step_room _ _ _ _ (turnout_step_filled t (goal.at.turnout_step-opened-requires t c).Joined-rest-lt1) _ c.requires)

pub turnout_step-returns : goal.turnout_step-returns
turnout_step-returns t c front =
    counted_more _ _ _ _ _ (turnout_step_filled t (goal.at.turnout_step-returns t c).Joined-rest-lt1) 0 refl _ _ c.opened.ensures
