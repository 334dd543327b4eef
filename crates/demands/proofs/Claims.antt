-- The sentences of specs/Claims follow from the statements.
use Prim.Native.Nat.{ℕ, ◌^◌, ◌≤◌}
use native.Mathlib.Omega.{arith}
use lib.Pow.{pow_mono}
use Rattle.meaning.specs.declared.Situation.{Situation}
use Rattle.meaning.specs.Station.{file_states}
use Rattle.meaning.specs.Settings.{open_count, settings}
use Rattle.meaning.proofs.Settings.{settings-length, settings_sound, settings_complete, settings-once}
use Rattle.demands.specs.Words.{situation, AtMostOpen, HowMany}
use Rattle.demands.specs.Reach.{SafeSetting}
use Rattle.demands.specs.Demand1.{requested, refused}
use Rattle.demands.specs.Claims.{PowerOfTwo, OneMore}
use Rattle.demands.proofs.Counting.{no_more}

pub power_of_two : PowerOfTwo
power_of_two s =
    let fs = file_states s in
    record {
      all = settings fs;
      once = settings-once fs;
      exactly = λ σ. (settings_sound fs σ, settings_complete fs σ);
      number = settings-length fs;
    }

-- No more settings are safe than there are.
at_most : (s : Situation) (n : ℕ) → AtMostOpen 12 s → HowMany (SafeSetting s) n → n ≤ 4096
at_most s n few h =
    let all = power_of_two s in
    let most : 2 ^ open_count (file_states s) ≤ 4096 = pow_mono {j = 12} few in
    omega (arith, most, all.number, h.number, no_more h.all all.all h.once (λ σ i. (all.exactly σ).1 ((h.exactly σ).0 i).0))

pub one_more : OneMore
one_more file buffer buffer' r (requested z w) e =
    let most = at_most (situation file) r.safe w.1 w.2.number in
    record { within = (omega arith, omega (arith, most)); exactly = λ a some. grind arith }
one_more file buffer buffer' r (refused n c u) e = grind arith
