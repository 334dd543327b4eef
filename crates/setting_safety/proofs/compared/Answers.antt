use Rattle.std.proofs.Common.{sym, ◌∙◌}
use Rattle.bits.proofs.Bits.{one_shl}
use Rattle.setting_safety.proofs.Gathering.{among_start, among_turn}
use Rattle.setting_safety.proofs.Meetings.{meeting_start, meeting_in, meeting_out, meeting_end}
use Rattle.setting_safety.proofs.compared.Goals as goal

pub loop-e-init : goal.loop-e-init
loop-e-init c = rw c.into_iter-e-iterator.ensures.into_iter_gives (among_start _, meeting_start _)

pub bounds-closures-e : goal.bounds-closures-e
bounds-closures-e c = c.requires _ (c.loop-e.invariant.0.in_all _ c.in-Some.ensures.steps.here)

pub loop-e-preserved-then-meets : goal.loop-e-preserved-then-meets
loop-e-preserved-then-meets c =
    let l = c.in-Some.ensures.steps in
    (among_turn l c.loop-e.invariant.0, meeting_in l c.loop-e.invariant.1 (sym c.meets.ensures ∙ c.if-meets.true) (one_shl _ l.within))

pub loop-e-preserved : goal.loop-e-preserved
loop-e-preserved c =
    let l = c.in-Some.ensures.steps in
    (among_turn l c.loop-e.invariant.0, meeting_out l c.loop-e.invariant.1 (sym c.meets.ensures ∙ c.if-meets.false))

pub returns : goal.returns
returns c = meeting_end c.in-None.ensures.steps.0 c.loop-e.invariant.1
