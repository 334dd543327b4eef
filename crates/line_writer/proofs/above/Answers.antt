-- What stands above five digits is found power by power; below 100000 there is nothing.
use native.Mathlib.Omega.{arith}
use Rattle.line_writer.proofs.Digits.{above_none, above_is}
use Rattle.line_writer.proofs.above.Goals as goal

pub returns-then-n-lt100000 : goal.returns-then-n-lt100000
returns-then-n-lt100000 c = above_none _ c.if-n-lt100000.true

pub returns : goal.returns
returns c =
    above_is _ _ _ _ _ _ (omega arith) c.subtract-a.ensures c.subtract-b.ensures c.subtract-c.ensures
    c.subtract-d.ensures c.subtract-e.ensures
