-- `answer_key::put_danger` meets its contract: the V line, then the A lines, then the B lines.
use mathlib.Core.Path.{refl}
use native.Mathlib.Omega.{arith}
use Rattle.answer_key.proofs.Texts.{put_danger}
use Rattle.answer_key.proofs.put_danger.Goals as goal

pub returns : goal.returns
returns c =
    put_danger _ _ _ _ _ _ _ _ _ _ refl refl c.requires.paths.0 c.requires.paths.1 c.requires.counts (omega arith)
    (rw c.from-section.ensures at c.put_row-line.ensures.text) (rw c.from-section.ensures at c.put_row-line.ensures.count)
    c.put_path-a_lines.ensures.text c.put_path-a_lines.ensures.count
    c.put_path-b_lines.ensures.text c.put_path-b_lines.ensures.count
