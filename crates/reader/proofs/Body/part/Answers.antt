-- A turn reads one line more, after those that have passed.
use mathlib.Core.Path.{refl}
use native.Mathlib.Omega.{arith}
use Rattle.meaning.proofs.Numbered.{some_number}
use Rattle.reader.proofs.Loop.{taken_none, taken_more, taken_refused}
use Rattle.reader.proofs.Body.part.Goals as goal

pub loop-k-init : goal.loop-k-init
loop-k-init g c = taken_none _ _ _ _ _ _ g.T.Entry.value c.requires.passed

pub returns-in-Err : goal.returns-in-Err
returns-in-Err g c =
    taken_refused _ _ _ _ _ _ g.T.Entry.value c.requires.within.0 c.loop-k.k (omega arith) (c.requires.lines _ (omega arith))
    c.in-Err.ensures.cause c.loop-k.invariant (some_number c.in-Err.cause)

pub loop-k-preserved : goal.loop-k-preserved
loop-k-preserved g c =
    taken_more _ _ _ _ _ _ g.T.Entry.value c.requires.within.0 c.loop-k.k (omega arith) (c.requires.lines _ (omega arith))
    c.in-Ok.ensures.cause c.loop-k.invariant c.requires.within.1 refl c.in-Ok.ensures.value
