-- A pair that is new is counted.
use mathlib.Core.Path.{sym, ◌∙◌}
use native.Mathlib.Omega.{arith}
use Rattle.pairs.proofs.Counts.{outdegree_low, outdegree_more}
use Rattle.pairs.proofs.CountedPairsPairSet.add.Goals as goal

pub overflow_add-self : goal.overflow_add-self
overflow_add-self c = omega (arith, outdegree_low c.args.self.now.counted c.row.result)

pub invariant_of-self : goal.invariant_of-self
invariant_of-self c =
    rw c.row.ensures (record { counted = outdegree_more c.args.p c.args.self.now.counted (sym c.has.ensures ∙ c.if-not-has.true) c.add.ensures })
