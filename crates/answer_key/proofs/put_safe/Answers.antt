-- `answer_key::put_safe` meets its contract: it stores one line.
use mathlib.Core.Path.{refl}
use native.Mathlib.Omega.{arith}
use Rattle.answer_key.proofs.Texts.{put_line}
use Rattle.answer_key.proofs.put_safe.Goals as goal

pub returns : goal.returns
returns c =
    put_line _ _ _ _ _ _ _ _ refl (omega arith) c.requires.0 c.requires.1 (omega arith) c.put_row-subtractions.ensures.text c.put_row-subtractions.ensures.count
