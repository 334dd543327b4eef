use Prim.Native.Nat.{◌<◌}
use mathlib.Core.Path.{◌≡◌, sym, ◌∙◌}
use native.Mathlib.Omega.{arith}
use lib.ListN.{length}
use borrow.Author.Rules.{rules}
use Rattle.search.proofs.Start.{begun_start, begun_room, begun_old, begun_new}
use Rattle.search.proofs.Search.begin.Goals as goal
use Rattle.search.proofs.Search.begin.Goals.{Then-not-has, then-not-has, else-not-has}

-- Where the set does not have the start, there is room for it.
room : (c : Then-not-has) → c.loop-s.n < 512
room c =
    let s = c.args.starts.are_sections c.loop-s.s-index c.loop-s-test.true in
    begun_room _ _ _ _ _ _ c.loop-s.invariant c.loop-s-test.true s.0 s.1 (sym c.has.ensures ∙ c.if-not-has.true)

pub loop-s-init : goal.loop-s-init
loop-s-init c =
    let queue : length c.args.self.now.queue ≡ 512 = search rules in
    let before : length c.args.self.now.before.of ≡ 513 = search rules in
    begun_start _ _ _ _ queue before c.empty-reach.ensures

pub offset_bounds-self-n : goal.offset_bounds-self-n
offset_bounds-self-n c = omega (arith, room (goal.at.offset_bounds-self-n c).Then-not-has)

pub bounds-self-n : goal.bounds-self-n
bounds-self-n c = omega (arith, room (goal.at.bounds-self-n c).Then-not-has)

pub overflow_add-n : goal.overflow_add-n
overflow_add-n c = omega (arith, room (goal.at.overflow_add-n c).Then-not-has)

pub loop-s-preserved : goal.loop-s-preserved
loop-s-preserved c =
    let h = c.has in
    let s = c.args.starts.are_sections c.loop-s.s-index c.loop-s-test.true in
    elim c.if-not-has.branch [
      | then-not-has w ↦
          rw (w.self-is, w.reach-is, w.n-is, w.from.ensures)
          (begun_new _ _ _ _ _ _ c.loop-s.invariant c.loop-s-test.true _ s.0 s.1 (sym h.ensures ∙ w.if-not-has.true) w.with-reach.ensures.members)
      | else-not-has w ↦
          rw (w.self-is, w.reach-is, w.n-is)
          (begun_old _ _ _ _ _ _ c.loop-s.invariant c.loop-s-test.true (sym h.ensures ∙ w.if-not-has.false))
    ]
