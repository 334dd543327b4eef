use Rattle.std.proofs.Common.{refl, ◌^◌, ◌≤◌, arith}
use lib.Pow.{pow_mono}
use Rattle.setting_order.proofs.Order.{places_shifted}
use Rattle.setting_safety.proofs.Planes.{plane_start, plane_turn, plane_shifted, plane_end}
use Rattle.setting_safety.proofs.plane.Goals as goal

pub loop-i-init : goal.loop-i-init
loop-i-init c = plane_start

pub overflow_shl-plane : goal.overflow_shl-plane
overflow_shl-plane c =
    let few : 2 ^ c.loop-i.i ≤ 2 ^ 5 = pow_mono {j = 5} (omega arith) in
    rw (places_shifted c.loop-i.i (omega arith)) (omega (arith, few))

pub loop-i-preserved : goal.loop-i-preserved
loop-i-preserved c =
    plane_turn c.loop-i.invariant c.loop-i-test.true refl refl refl c.if_left-low.ensures (rw (plane_shifted c.loop-i.invariant (omega arith)) at c.if_left-high.ensures)

pub returns : goal.returns
returns c = plane_end c.loop-i.invariant (omega arith)
