use mathlib.Core.Path.{◌≡◌}
use Prim.Native.Nat.{ℕ, ◌-◌}
use lib.ListN.{length, get_or}
use mir.Syntax.{w64}
use mir.Val.{Fits}
use borrow.Author.Rules.{rules}
use Rattle.reach.specs.Reach.{words_at}
use Rattle.search.proofs.Row.{following_start, following_room, following_turn, following_skip}
use Rattle.search.proofs.Search.follow.Goals as goal
use Rattle.search.proofs.Search.follow.Goals.{then-fresh-ne0, else-fresh-ne0}

pub loop-i-init : goal.loop-i-init
loop-i-init c =
    let len : length c.args.found.reach.words ≡ 8 = search rules in
    let fit : (j : ℕ) → Fits w64 (get_or c.args.found.reach.words j 0) = λ j. search rules in
    following_start _ _ _ _ _ _ len (λ j. (fit j).fits) c.requires.0 c.requires.1 c.requires.2

pub push-n-requires : goal.push-n-requires
unfolding words_at
push-n-requires c =
    (rw c.from.ensures (following_room _ _ _ _ _ _ _ _ _ _ _ c.loop-i.invariant c.loop-i-test.true), c.loop-i-test.true)

pub loop-i-preserved : goal.loop-i-preserved
unfolding words_at
loop-i-preserved c =
    let e = c.from.ensures in
    let small : Fits w64 (get_or (words_at c.args.pairs.now.rows (c.from.result - 1)) c.loop-i.i 0) = search rules in
    elim c.if-fresh-ne0.branch [
      | then-fresh-ne0 w ↦
          rw (w.self-is, w.reach-is, w.n-is, e)
          (following_turn _ _ _ _ _ _ _ _ _ _ _ c.loop-i.invariant c.loop-i-test.true _ _ _ (rw e at small.fits) (rw e at w.push-n.ensures))
      | else-fresh-ne0 w ↦
          rw (w.self-is, w.reach-is, w.n-is)
          (following_skip _ _ _ _ _ _ _ _ _ _ _ c.loop-i.invariant c.loop-i-test.true (rw e at small.fits) (rw e at w.if-fresh-ne0.false))
    ]
