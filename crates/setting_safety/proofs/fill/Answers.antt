-- `setting_safety::fill` meets its contract: each open element doubles the places that are filled.
use Rattle.std.proofs.Common.{refl, ◌^◌, ◌≤◌, arith, of_calls}
use lib.Pow.{pow_mono}
use Rattle.setting_order.proofs.Order.{places_shifted}
use Rattle.setting_safety.proofs.Filling.{filling_start, filling_turn}
use Rattle.setting_safety.proofs.fill.Goals as goal

pub loop-i-init : goal.loop-i-init
loop-i-init c = filling_start

pub double-requires : goal.double-requires
double-requires c =
    let few : 2 ^ c.loop-i.i ≤ 2 ^ 5 = pow_mono {j = 5} (omega arith) in
    rw (places_shifted c.loop-i.i (omega arith)) (omega arith, (omega (arith, few), λ x d l. (tt, tt)))

pub loop-i-preserved : goal.loop-i-preserved
loop-i-preserved c =
    filling_turn c.loop-i.invariant c.loop-i-test.true refl (places_shifted c.loop-i.i (omega arith)) (record {
      first = λ x d l. let h = c.double.ensures.first x d l in search of_calls;
      second = λ x d l. let h = c.double.ensures.second x d l in search of_calls;
      rest = c.double.ensures.rest;
    })
