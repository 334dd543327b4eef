-- The bit of a section that is there is turned off; where it is not there, the set stays.
use mathlib.Core.Path.{◌≡◌, sym, ◌∙◌}
use Prim.Native.Nat.{◌-◌, ◌%◌, ◌≤◌}
use native.Mathlib.Omega.{arith}
use lib.ListN.{length}
use borrow.Author.Rules.{rules}
use Rattle.bits.proofs.Bits.{one_shl}
use Rattle.reach.proofs.Laws.{memb_inside, memb_taken}
use Rattle.reach.proofs.Reach.remove.Goals as goal
use Rattle.reach.proofs.Reach.remove.Goals.{Then-has}

inside : (c : Then-has) → (1 ≤ c.args.s.0) × (c.args.s.0 ≤ 512)
inside c =
    let len : length c.args.self.now.words ≡ 8 = search rules in
    memb_inside _ _ len (sym c.has.ensures ∙ c.if-has.true)

pub overflow_sub-k : goal.overflow_sub-k
overflow_sub-k c = omega (arith, inside (goal.at.overflow_sub-k c).Then-has)

pub bounds-self-i : goal.bounds-self-i
bounds-self-i c = omega (arith, inside (goal.at.bounds-self-i c).Then-has)

pub bounds-self-i-then-has : goal.bounds-self-i-then-has
bounds-self-i-then-has c = omega (arith, inside (goal.at.bounds-self-i-then-has c).Then-has)

pub returns-then-has : goal.returns-then-has
returns-then-has c =
    let len : length c.args.self.now.words ≡ 8 = search rules in
    rw (c.from-k.ensures, one_shl ((c.args.s.0 - 1) % 64) (omega arith))
    (memb_taken c.args.self.now.words c.args.s.0 len (sym c.has.ensures ∙ c.if-has.true))
