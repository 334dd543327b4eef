use Rattle.std.proofs.Common.{refl}
use Rattle.element_states.proofs.States.{all_elements}
use Rattle.can_be_safe.proofs.Stopping.{stopping_next, stopping_end}
use Rattle.can_be_safe.proofs.Answers.{halted_sound}
use Rattle.can_be_safe.proofs.at_stop.Goals as goal

pub loop-k-preserved : goal.loop-k-preserved
loop-k-preserved c =
    let s = c.args.s.now in
    stopping_next s.situation c.loop-k.situation _ c.loop-k.k c.loop-k.invariant (rw c.from-k-end.ensures at c.loop-k-test.true) (all_elements s.collected s.sound.limits)
    refl refl refl (rw c.stop_state.ensures)

pub invariant_of-result : goal.invariant_of-result
invariant_of-result c =
    let s = c.args.s.now in
    record { sound = halted_sound s.sound (stopping_end s.situation _ _ c.loop-k.invariant (rw c.from-k-end.ensures at c.loop-k-test.false)); collected = c.file_states-states.ensures }

pub returns : goal.returns
returns c = stopping_end _ _ _ c.loop-k.invariant (rw c.from-k-end.ensures at c.loop-k-test.false)
