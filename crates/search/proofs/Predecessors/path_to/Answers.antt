-- The moves of the path are counted, and it is written; there is one such number (`back_unique`).
use mathlib.Core.Path.{◌≡◌, refl}
use native.Mathlib.Omega.{arith}
use Rattle.search.proofs.Back.{back_unique}
use Rattle.search.proofs.Predecessors.path_to.Goals as goal
use Rattle.search.proofs.Predecessors.path_to.Goals.{After-count_moves-n}

counted : (c : After-count_moves-n) → c.count_moves-n.result ≡ c.requires.0
counted c = back_unique c.args.self.now.of c.count_moves-n.result c.requires.0 c.args.k.0 c.count_moves-n.ensures c.requires.3

pub put_path-requires : goal.put_path-requires
put_path-requires c =
    let t = (goal.at.put_path-requires c).After-count_moves-n in
    (c.count_moves-n.ensures, omega (arith, counted t, c.requires.2), omega (arith, counted t, c.requires.1))

pub overflow_add-result : goal.overflow_add-result
overflow_add-result c = omega (arith, counted (goal.at.overflow_add-result c).After-count_moves-n, c.requires.1)

pub returns : goal.returns
returns c = λ m b.
    let e = back_unique c.args.self.now.of m c.count_moves-n.result c.args.k.0 b c.count_moves-n.ensures in
    rw e (refl, c.put_path.ensures)
