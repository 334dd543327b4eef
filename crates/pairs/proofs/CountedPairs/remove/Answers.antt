-- A pair that is there is counted no longer.
use mathlib.Core.Path.{sym, ◌∙◌}
use native.Mathlib.Omega.{arith}
use Rattle.pairs.proofs.Counts.{some_leaves, outdegree_less}
use Rattle.pairs.proofs.CountedPairs.remove.Goals as goal

pub overflow_sub-self : goal.overflow_sub-self
overflow_sub-self c =
    rw c.row.ensures (omega (arith, some_leaves c.args.p c.args.self.now.counted (sym c.has.ensures ∙ c.if-has.true) c.remove.ensures))

pub invariant_of-self : goal.invariant_of-self
invariant_of-self c =
    rw c.row.ensures (record { counted = outdegree_less c.args.p c.args.self.now.counted (sym c.has.ensures ∙ c.if-has.true) c.remove.ensures })
