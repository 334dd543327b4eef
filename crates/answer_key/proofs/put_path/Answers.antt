use mathlib.Core.Path.{ap, ◌∙◌}
use Prim.Native.Nat.{◌*◌}
use native.Mathlib.Omega.{arith}
use lib.Seq.{sets}
use Rattle.meaning.specs.Digits.{printed_sum}
use Rattle.meaning.proofs.Columns.{row-length}
use Rattle.answer_key.proofs.Rows.{path_lines_lem, stored_more, stored_all, two_summed}
use Rattle.answer_key.proofs.put_path.Goals as goal

pub loop-k-preserved : goal.loop-k-preserved
loop-k-preserved c =
    stored_more _ (λ e a. row-length _ 2 _ a 0 0) _ _ _ _ _ _ c.loop-k-test.true (rw c.from.ensures at c.put_row-count.ensures.text)
    (two_summed _ _ _ c.requires.letter (omega arith) (omega arith) (rw c.from.ensures at c.put_row-count.ensures.count)) c.put_row-count.ensures.few
    c.loop-k.invariant

pub returns : goal.returns
returns c =
    let a = c.args in
    let all = stored_all _ _ _ _ _ _ (omega arith) (rw c.from-t.ensures at c.loop-k.invariant) in
    let lines = path_lines_lem a.letter a.train.0 1 a.path.now in record {
      text = all.0 ∙ ap (sets a.key.now (a.i * 22)) lines;
      count = all.1 ∙ ap printed_sum lines;
      few = all.2;
    }
