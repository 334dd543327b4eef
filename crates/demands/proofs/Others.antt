-- The shorter path, for any operation with the contract of `judge_shorter`.
use mathlib.Core.Path.{◌≡◌}
use mathlib.Core.List.{List}
use Prim.Native.Nat.{ℕ}
use native.Mathlib.Omega.{arith}
use lib.ListN.{take}
use Rattle.meaning.specs.Shorter.{shorter_of}
use Rattle.c_layout.specs.declared.FlatPart.{FlatPart}
use Rattle.c_layout.specs.Flat.{flat_shorter}
use Rattle.demands.specs.Others.{DemandShorter, hands_first, hands_second}

pub demand_shorter : (first : List ℕ) (n : ℕ) (second : List ℕ) (m : ℕ) (r : FlatPart) → r ≡ flat_shorter (take n first) (take m second)
    → DemandShorter first n second m r
unfolding flat_shorter shorter_of
demand_shorter first n second m r e = grind (arith, hands_first, hands_second)
