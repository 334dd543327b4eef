-- `proceed_counts::counts_of` meets its contract: the step of the first element's kind fills the table.
use lib.ListN.{replicate}
use Rattle.std.proofs.Common.{arith}
use Rattle.proceed_counts.proofs.Counts.{counted_front, counted_empty, counts_all}
use Rattle.proceed_counts.proofs.counts_of.Goals as goal

pub returns-in-empty : goal.returns-in-empty
returns-in-empty c = λ s are. counts_all s are c.requires _ _ _ (counted_empty _ c.in-empty.len_below (replicate 4096 0) (omega arith))

pub returns-in-Signal : goal.returns-in-Signal
returns-in-Signal c = λ s are.
    counts_all s are c.requires _ _ _ (counted_front _ _ c.in-len1-up.len_at_least _ c.in-Signal.is _ _ _ (c.signal_step.ensures _))

pub returns-in-Turnout : goal.returns-in-Turnout
returns-in-Turnout c = λ s are.
    counts_all s are c.requires _ _ _ (counted_front _ _ c.in-len1-up.len_at_least _ c.in-Turnout.is _ _ _ (c.turnout_step.ensures _))
