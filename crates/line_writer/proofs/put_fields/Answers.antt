use Rattle.std.proofs.Common.{refl}
use Rattle.line_writer.proofs.Splice.{filled_none, filled_blank, filled_more, filled_all, short_asked, of_first, all_first}
use Rattle.line_writer.proofs.put_fields.Goals as goal
use Rattle.line_writer.proofs.put_fields.Goals.{then-n, else-n, After-loop-k}

pub loop-k-init : goal.loop-k-init
loop-k-init g c = filled_none _ _ c.requires.whole (c.fill.ensures.after (λ y e. e))

pub put_short-count-requires : goal.put_short-count-requires
put_short-count-requires g c =
    let n = of_first c.args.numbers.now c.min.result c.loop-k.k (rw c.told-numbers c.min.ensures) c.loop-k-test.true in
    (filled_blank c.loop-k.invariant n.0, rw n.2 (short_asked g.row.SHORT c.args.numbers.now c.loop-k.k n.1 c.requires.short (rw n.2 at c.if-n.true)))

pub loop-k-preserved : goal.loop-k-preserved
loop-k-preserved g c =
    let n = of_first c.args.numbers.now c.min.result c.loop-k.k (rw c.told-numbers c.min.ensures) c.loop-k-test.true in
    elim c.if-n.branch [
      | then-n w ↦ rw (w.line-is, w.count-is) (filled_more c.loop-k.invariant n.0 refl (rw n.2 at w.put_short-count.ensures.text) (rw n.2 at w.put_short-count.ensures.count))
      | else-n w ↦ rw (w.line-is, w.count-is) (filled_more c.loop-k.invariant n.0 refl (rw n.2 at w.put_long-count.ensures.text) (rw n.2 at w.put_long-count.ensures.count))
    ]

pub returns : goal.returns
returns g c =
    let t = (goal.at.returns g c).After-loop-k in
    let all = filled_all t.loop-k.invariant (all_first t.args.numbers.now t.min.result t.loop-k.k (rw t.told-numbers t.min.ensures) t.loop-k-test.false t.loop-k.auto.k-end) in
    record { text = all.0; count = all.1; few = all.2 }
