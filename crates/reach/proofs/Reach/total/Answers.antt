use Prim.Native.Nat.{ℕ, ◌≤◌}
use native.Mathlib.Omega.{arith}
use lib.ListN.{get_or}
use mir.Syntax.{w16}
use mir.Val.{Fits}
use borrow.Author.Rules.{rules}
use Rattle.std.specs.Prelude.{Some}
use Rattle.reach.proofs.Walk.{Walked, walked_start, walked_at, walked_turn, walked_on, walked_end, walked_small}
use Rattle.reach.proofs.Reach.total.Goals as goal
use Rattle.reach.proofs.Reach.total.Goals.{In-Some}

-- The walk stands at a section.
at_section : (c : In-Some) → Walked c.args.self.words c.args.of.now c.loop-next.n (Some c.in-Some.s)
at_section c = rw c.in-Some.is at c.loop-next.invariant

pub loop-next-init : goal.loop-next-init
loop-next-init c = walked_start _ _ _ c.lowest-next.ensures

pub word_total-n-requires : goal.word_total-n-requires
word_total-n-requires c = omega (arith, walked_at (at_section (goal.at.word_total-n-requires c).In-Some))

pub overflow_add-n : goal.overflow_add-n
overflow_add-n c =
    let of = c.args.of.now in
    let few = λ (k : ℕ). (let f : Fits w16 (get_or of k 0) = search rules in let l : get_or of k 0 ≤ 65535 = omega (arith, f.fits) in l) in
    omega (arith, walked_small (at_section (goal.at.overflow_add-n c).In-Some) (rw c.from.ensures at c.word_total-n.ensures) few)

pub overflow_cast-i : goal.overflow_cast-i
overflow_cast-i c = omega (arith, walked_at (at_section (goal.at.overflow_cast-i c).In-Some))

pub loop-next-smaller : goal.loop-next-smaller
loop-next-smaller c =
    rw c.in-Some.is
    (walked_on (at_section (goal.at.loop-next-smaller c).In-Some) (rw c.from.ensures at c.word_total-n.ensures) _ (rw c.from.ensures at c.next-next.ensures))

pub loop-next-preserved : goal.loop-next-preserved
loop-next-preserved c =
    walked_turn (at_section (goal.at.loop-next-preserved c).In-Some) (rw c.from.ensures at c.word_total-n.ensures) _
    (rw c.from.ensures at c.next-next.ensures)

pub returns : goal.returns
returns c = walked_end (rw c.in_default.is at c.loop-next.invariant)
