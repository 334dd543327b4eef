-- The numbers of the bits passed are added.
use mathlib.Core.Path.{◌≡◌}
use Prim.Native.Nat.{ℕ, ◌+◌, ◌-◌, ◌*◌}
use lib.ListN.{get_or}
use Rattle.reach.proofs.Walk.{of_bits}
use Rattle.reach.proofs.Reach.word_total.Given as goal

abbrev pub invariant-loop-b : goal.invariant-loop-b
invariant-loop-b l =
    let w : ℕ → ℕ = λ k. get_or l.of (64 * l.i + k - 1) 0 in
    l.n + of_bits w l.b-iterator.0 ≡ of_bits w (get_or l.fn.self.words l.i 0)
