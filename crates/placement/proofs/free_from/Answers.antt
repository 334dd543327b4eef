use Rattle.std.proofs.Common.{sym, ◌∙◌, arith}
use Rattle.placement.proofs.Searching.{free_here, free_none}
use Rattle.placement.proofs.free_from.Goals as goal

pub returns-then-not-has : goal.returns-then-not-has
returns-then-not-has c =
    let at = c.loop-k in (
      sym (free_here _ _ c.args.sections at.k c.requires.0 c.loop-k-test.true at.invariant (sym c.has.ensures ∙ c.if-not-has.true)),
      omega (arith, at.invariant.0, c.requires.0),
    )

pub returns : goal.returns
returns c = free_none _ _ _ _ c.loop-k-test.false c.loop-k.invariant
