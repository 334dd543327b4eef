use Rattle.setting_safety.proofs.Gathering.{among_start, among_turn, gathered_start, gathered_turn}
use Rattle.setting_safety.proofs.Followed.any.Goals as goal

pub loop-f-init : goal.loop-f-init
loop-f-init c = rw c.into_iter-f-iterator.ensures.into_iter_gives (among_start _, gathered_start _)

pub bounds-self-f : goal.bounds-self-f
bounds-self-f c = c.requires _ (c.loop-f.invariant.0.in_all _ c.in-Some.ensures.steps.here)

pub loop-f-preserved : goal.loop-f-preserved
loop-f-preserved c =
    let l = c.in-Some.ensures.steps in
    (among_turn l c.loop-f.invariant.0, gathered_turn l _ c.loop-f.invariant.0 c.loop-f.invariant.1 (λ x h. h) (λ x h. h))

pub returns : goal.returns
returns c = rw c.in-None.ensures.steps.0 at c.loop-f.invariant.1
