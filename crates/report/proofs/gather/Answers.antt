-- What the records from i on give: record i is added, and then those after it.
use Rattle.std.proofs.Common.{sym, ap, ◌∙◌, add-one, drop_of_length-le, drop-cons}
use Rattle.report.specs.Gathering.{both, with_all}
use Rattle.report.proofs.gather.Goals as goal

pub loop-m-preserved : goal.loop-m-preserved
unfolding with_all
loop-m-preserved c =
    let o = c.loop-m in
    let g = both o.sums o.keys in
    rw (c.with-sums.ensures, c.key_of.ensures, c.place-place.ensures, add-one o.m-index)
    (ap (λ l. with_all l g) (sym (drop-cons c.args.marks.now o.m-index _ c.loop-m-test.true)) ∙ o.invariant)

pub returns : goal.returns
unfolding with_all
returns c =
    let o = c.loop-m in
    let g = both o.sums o.keys in
    ap (λ l. with_all l g) (sym (drop_of_length-le c.args.marks.now {i = o.m-index} c.loop-m-test.false)) ∙ o.invariant
