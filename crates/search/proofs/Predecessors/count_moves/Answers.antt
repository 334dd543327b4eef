use native.Mathlib.Omega.{arith}
use Rattle.search.proofs.Back.{up_turn, up_end}
use Rattle.search.proofs.Predecessors.count_moves.Goals as goal

pub loop-p-preserved : goal.loop-p-preserved
loop-p-preserved c =
    let p = c.in-Some.ensures in
    rw p.0 at (up_turn _ _ _ _ c.loop-p.invariant (λ z. omega (arith, z, p.0, p.1)))

pub returns : goal.returns
returns c = up_end _ _ _ _ c.loop-p.invariant c.in_default.ensures
