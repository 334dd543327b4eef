use mathlib.Core.List.{List}
use Prim.Native.Nat.{ℕ, ◌<◌}
use native.Mathlib.Numerals.{add-one}
use lib.ListN.{length, take, get_or}
use lib.Seq.{take_all}
use Rattle.meaning.specs.declared.Element.{Element}
use Rattle.meaning.specs.Station.{elements_of, pairs_over, over_elements}
use Rattle.meaning.specs.File.{no_element}
use Rattle.pairs.proofs.Gains.{gains_both}
use Rattle.routes.proofs.StoodOver.{over_next, over_gained}
use Rattle.routes.proofs.put_over.Goals as goal

pub loop-e-preserved : goal.loop-e-preserved
loop-e-preserved c =
    let es : List Element = elements_of c.args.s.now.situation in
    let are = c.elements-e-items.ensures in
    let k : ℕ = c.loop-e.e-index in
    let l : k < length es = rw are at c.loop-e-test.true in
    rw (add-one k, over_next es k l)
    (gains_both _ _ _ (over_elements (take k es)) (pairs_over (get_or es k no_element).kind) c.loop-e.invariant
    (rw are at c.add_element.ensures))

pub returns : goal.returns
returns c =
    let es : List Element = elements_of c.args.s.now.situation in
    over_gained _ _ _ _ c.requires (rw c.plain_moves.ensures.are at c.add_all.ensures)
    (rw (take_all c.loop-e.e-index es (rw c.elements-e-items.ensures at c.loop-e-test.false)) at c.loop-e.invariant)
