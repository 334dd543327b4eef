use mathlib.Core.Path.{refl, ap, ◌∙◌}
use Prim.Native.Nat.{◌*◌}
use native.Mathlib.Omega.{arith}
use lib.Seq.{sets}
use Rattle.meaning.specs.Digits.{printed_sum}
use Rattle.meaning.proofs.Columns.{row-length}
use Rattle.answer_key.proofs.Rows.{element_lines_lem, element_row, stored_more, stored_all, two_summed}
use Rattle.answer_key.proofs.put_elements.Goals as goal

pub loop-k-preserved : goal.loop-k-preserved
loop-k-preserved c =
    stored_more element_row (λ e x. row-length 69 2 e x 0 0) c.args.setting.now c.args.key.now 1 _ _ _ c.loop-k-test.true
    (rw (c.from-number.ensures, c.from.ensures) at c.put_row-count.ensures.text)
    (two_summed 69 _ _ refl (omega arith) (omega arith) (rw (c.from-number.ensures, c.from.ensures) at c.put_row-count.ensures.count))
    c.put_row-count.ensures.few c.loop-k.invariant

pub returns : goal.returns
returns c =
    let a = c.args in
    let all = stored_all element_row _ _ 1 _ _ (omega arith) c.loop-k.invariant in
    let lines = element_lines_lem 1 a.setting.now in record {
      text = all.0 ∙ ap (sets a.key.now (1 * 22)) lines;
      count = all.1 ∙ ap printed_sum lines;
      few = all.2;
    }
