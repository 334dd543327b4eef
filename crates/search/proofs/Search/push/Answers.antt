use Prim.Native.Nat.{◌≤◌, ◌<◌}
use lib.ListN.{length}
use mathlib.Core.Path.{◌≡◌}
use native.Mathlib.Omega.{arith}
use borrow.Author.Rules.{rules}
use Rattle.search.proofs.Words.{section_of, pushing_start, pushing_room, pushing_turn, pushing_end}
use Rattle.search.proofs.Search.push.Goals as goal
use Rattle.search.proofs.Search.push.Goals.{In-Some}

-- In the loop: the section of the bit, and room for it.
room : (c : In-Some) → (section_of c.args.i c.in-Some.b ≤ 512) × (c.loop-b.m < 512)
room c = pushing_room _ _ _ _ _ _ c.requires.0 c.requires.1 _ _ _ _ _ _ c.loop-b.invariant c.in-Some.ensures.steps

pub loop-b-init : goal.loop-b-init
loop-b-init c = rw c.into_iter-b-iterator.ensures.into_iter_gives (pushing_start _ _ _ _ _ _)

pub offset_bounds-self-m : goal.offset_bounds-self-m
offset_bounds-self-m c = omega (arith, room (goal.at.offset_bounds-self-m c).In-Some)

pub bounds-self-m : goal.bounds-self-m
bounds-self-m c = omega (arith, room (goal.at.bounds-self-m c).In-Some)

pub overflow_add-m : goal.overflow_add-m
overflow_add-m c = omega (arith, room (goal.at.overflow_add-m c).In-Some)

pub loop-b-preserved : goal.loop-b-preserved
loop-b-preserved c =
    let queue : length c.args.self.now.queue ≡ 512 = search rules in
    let before : length c.args.self.now.before.of ≡ 513 = search rules in
    pushing_turn _ _ _ _ _ _ c.requires.0 c.requires.1 _ _ _ _ _ _ c.loop-b.invariant c.in-Some.ensures.steps queue before

pub returns : goal.returns
returns c = pushing_end _ _ _ _ _ _ _ _ _ _ c.loop-b.invariant c.in-None.ensures.steps.0
