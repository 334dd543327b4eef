use Rattle.std.proofs.Common.{length, ◌≡◌, arith, rules}
use Rattle.bits.proofs.Bits.{bit_or_lem}
use Rattle.setting_safety.proofs.Gathering.{among_start, among_turn, joins_start, joins_turn}
use Rattle.setting_safety.proofs.Followed.join.Goals as goal

pub loop-e-init : goal.loop-e-init
loop-e-init c = rw c.into_iter-e-iterator.ensures.into_iter_gives (among_start _, joins_start c.requires (bit_or_lem _ _))

pub bounds-other-e : goal.bounds-other-e
bounds-other-e c = c.requires.below _ (c.loop-e.invariant.0.in_all _ c.in-Some.ensures.steps.here)

pub loop-e-preserved : goal.loop-e-preserved
loop-e-preserved c =
    let l = c.in-Some.ensures.steps in
    let size : length c.args.self.now.settings ≡ 48 = search rules in
    (among_turn l c.loop-e.invariant.0, joins_turn l (omega (arith, c.requires.below _ (c.loop-e.invariant.0.in_all _ l.here))) c.loop-e.invariant.1)

pub returns : goal.returns
returns c = rw c.in-None.ensures.steps.0 at c.loop-e.invariant.1
