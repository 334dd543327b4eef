-- The measure of `proceed_counts::signal_step` and `proceed_counts::turnout_step`: the number of elements left.
use Rattle.std.proofs.Common.{length}
use Rattle.proceed_counts.proofs.+signal_step_turnout_step.Given as goal

abbrev pub decreases-signal_step : goal.decreases-signal_step
decreases-signal_step l = length l.rest.now

abbrev pub decreases-turnout_step : goal.decreases-turnout_step
decreases-turnout_step l = length l.rest.now
