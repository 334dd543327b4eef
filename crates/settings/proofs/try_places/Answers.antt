use Rattle.std.proofs.Common.{ℕ, ◌<◌, ◌/◌, ◌^◌, ◌*◌, ◌%◌, sym, ap, ◌∙◌, arith}
use Rattle.meaning.specs.Station.{file_states}
use Rattle.meaning.specs.Settings.{open_count}
use borrow.Author.Tests.{eq-eqb, ne_eqb}
use Rattle.bits.proofs.Bits.{shift_mask}
use Rattle.setting_order.proofs.Order.{places_shifted}
use Rattle.setting_safety.specs.Table.{SafeIn}
use Rattle.settings.proofs.Loop.{in_tables, is_place, frame_inside, asked_start, asked_turn, bit_safe, bit_unsafe, loop_start, loop_unsafe, loop_first, loop_with, loop_end}
use Rattle.proceed_counts.proofs.Counts.{few_all}
use Rattle.settings.proofs.try_places.Goals as goal
use Rattle.settings.proofs.try_places.Goals.{After-gray_code-x, Joined-n-eq0, then-n-eq0, else-n-eq0, then-safe-x-eq1+in-None, then-safe-x-eq1+in-Some, else-safe-x-eq1}

-- Frame n is one of the settings', and its place is.
frame : (c : After-gray_code-x) → c.loop-n.n < 2 ^ open_count (file_states c.args.q.s.now.situation)
frame c = is_place c.args.q.few (rw c.open_count-places.ensures at c.loop-n-test.true)

here : (c : After-gray_code-x) → c.gray_code-x.result < 2 ^ open_count (file_states c.args.q.s.now.situation)
here c = frame_inside _ (frame c) c.gray_code-x.ensures

pub loop-n-init : goal.loop-n-init
loop-n-init c = record { looping = loop_start c.args.q.s.now.situation; asked = asked_start }

pub counts_of-counts-requires : goal.counts_of-counts-requires
counts_of-counts-requires c = few_all c.args.q.s.now.situation c.elements.ensures c.args.q.few

pub bounds-counts-x : goal.bounds-counts-x
bounds-counts-x c = in_tables c.args.q.few (here (goal.at.bounds-counts-x c).After-gray_code-x)

pub safe-safe-requires : goal.safe-safe-requires
safe-safe-requires c =
    let l = here (goal.at.safe-safe-requires c).After-gray_code-x in
    let r = c.of-blocks.ensures in
    (omega (arith, in_tables c.args.q.few l), λ e h. r.few _ e (r.counted _ l).0 h)

-- What is asked of the block holds for it.
asked : (c : Joined-n-eq0) → SafeIn c.args.q.s.now.situation (c.gray_code-x.result / 64) c.if-n-eq0.safe
asked c =
    let r = c.of-blocks.ensures in
    elim c.if-n-eq0.branch [
      | then-n-eq0 w ↦ rw w.safe-is (w.safe-safe.ensures _ r (r.counted _ (frame_inside _ (is_place c.args.q.few (rw c.open_count-places.ensures at c.loop-n-test.true)) c.gray_code-x.ensures)).0)
      | else-n-eq0 w ↦ rw (w.safe-is, c.gray_code-x.ensures) (c.loop-n.invariant.asked.safe_in w.if-n-eq0.false)
    ]

pub loop-n-preserved : goal.loop-n-preserved
loop-n-preserved c =
    let s = c.args.q.s.now.situation in
    let p = (goal.at.loop-n-preserved c).After-gray_code-x in
    let l = frame p in
    let x : ℕ = c.gray_code-x.result in
    let a = asked (goal.at.loop-n-preserved c).Joined-n-eq0 in
    let count = (c.counts_of-counts.ensures s c.elements.ensures).count _ (here p) in
    let i = c.loop-n.invariant.looping in
    let told = shift_mask c.if-n-eq0.safe (x % 64) in
    record {
      looping = elim c.if-safe-x-eq1.branch [
        | then-safe-x-eq1+in-None w ↦
            rw w.best-is (loop_first s l c.gray_code-x.ensures (bit_safe x a (sym told ∙ eq-eqb _ 1 w.if-safe-x-eq1.true)) (w.from-proceed.ensures ∙ count) (rw w.in-None.is at i))
        | then-safe-x-eq1+in-Some w ↦
            rw w.best-is
            (loop_with s l c.gray_code-x.ensures (bit_safe x a (sym told ∙ eq-eqb _ 1 w.if-safe-x-eq1.true)) (w.from-proceed.ensures ∙ count) (rw w.in-Some.is at i) _
            w.with.ensures.one_more w.with.ensures.better w.with.ensures.kept)
        | else-safe-x-eq1 w ↦
            rw w.best-is (loop_unsafe s l c.gray_code-x.ensures i (bit_unsafe x a (here p) (sym told ∙ ne_eqb _ 1 w.if-safe-x-eq1.false)))
      ];
      asked = asked_turn _ c.gray_code-x.ensures a;
    }

pub returns : goal.returns
returns c =
    loop_end c.args.q.s.now.situation c.loop-n.invariant.looping
    (let m = places_shifted _ c.args.q.few in omega (arith, m, ap (λ (k : ℕ). 1 * 2 ^ k % 2 ^ 64) c.open_count-places.ensures))
