use Rattle.std.proofs.Common.{refl, arith}
use Rattle.meaning.proofs.Numbered.{some_number}
use Rattle.writer.proofs.Loops.{passing_more, passing_refused}
use Rattle.writer.proofs.InRange.check_part.Goals as goal

pub returns-in-Err : goal.returns-in-Err
returns-in-Err g c =
    passing_refused _ _ _ (g.T.Entry.line _) _ c.loop-k.k (omega arith) (omega arith) c.index-part-k.is c.in-Err.ensures c.loop-k.invariant
    (some_number c.in-Err.cause) (omega arith)

pub loop-k-preserved : goal.loop-k-preserved
loop-k-preserved g c =
    passing_more _ _ _ (g.T.Entry.line _) _ c.loop-k.k (omega arith) (omega arith) c.index-part-k.is c.in_default.ensures c.loop-k.invariant refl
