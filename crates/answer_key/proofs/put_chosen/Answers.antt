-- `answer_key::put_chosen` meets its contract: the Q line, then the E lines.
use mathlib.Core.Path.{refl}
use native.Mathlib.Omega.{arith}
use Rattle.answer_key.proofs.Texts.{put-chosen}
use Rattle.answer_key.proofs.put_chosen.Goals as goal

pub returns : goal.returns
returns c =
    put-chosen _ _ _ _ _ _ _ refl c.requires (omega arith) (omega arith)
    (rw (c.from.ensures, c.from-2.ensures) at c.put_row-line.ensures.text) (rw (c.from.ensures, c.from-2.ensures) at c.put_row-line.ensures.count)
    c.put_elements-e_lines.ensures.text c.put_elements-e_lines.ensures.count
