use Rattle.std.proofs.Common.{arith}
use Rattle.writer.proofs.Loops.{storing_more, storing_all}
use Rattle.writer.proofs.InRange.put_part.Goals as goal

pub loop-k-preserved : goal.loop-k-preserved
loop-k-preserved g c =
    storing_more _ _ (g.T.Entry.line _) _ c.loop-k.k (omega arith) c.index-part-k.is (omega arith) c.put-count.ensures.text c.put-count.ensures.count
    c.put-count.ensures.few c.loop-k.invariant

pub returns-clause-stored : goal.returns-clause-stored
returns-clause-stored g c = storing_all _ _ (g.T.Entry.line _) _ (omega arith) c.loop-k.invariant
