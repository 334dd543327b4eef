-- The moves that each element permits are added, those that each forbids removed, and the P lines added.
use Prim.Native.Nat.{ℕ, ◌<◌}
use mathlib.Core.List.{List}
use mathlib.Core.Path.{sym}
use native.Mathlib.Numerals.{add-one}
use native.Mathlib.Omega.{arith}
use lib.ListN.{length, take, get_or}
use lib.Seq.{take_all}
use Rattle.meaning.specs.declared.Element.{Element}
use Rattle.meaning.specs.Station.{moves_of, element_moves, forbids, forbidden, elements_of, file_states}
use Rattle.meaning.specs.File.{no_element}
use Rattle.pairs.proofs.Gains.{gains_both}
use Rattle.moves.proofs.Loses.{loses_same, loses_both, filled-moves}
use Rattle.moves.proofs.Station.{element_moves_next, forbidden_next, state_at, states-length}
use Rattle.moves.proofs.fill.Goals as goal

pub loop-e-preserved : goal.loop-e-preserved
loop-e-preserved c =
    let s = c.args.s.now.situation in
    let are = c.elements-e-items.ensures in
    let es : List Element = elements_of s in
    let σ : List ℕ = file_states s in
    let k : ℕ = c.loop-e.e-index in
    let l : k < length es = rw are at c.loop-e-test.true in
    rw (add-one k, element_moves_next es σ no_element k l (omega (arith, l, states-length s)), state_at s k)
    (gains_both _ _ _ (element_moves (take k es) σ) (moves_of (get_or es k no_element).kind (get_or es k no_element).state) c.loop-e.invariant
    (rw are at c.add_element.ensures))

pub loop-f-preserved : goal.loop-f-preserved
loop-f-preserved c =
    let s = c.args.s.now.situation in
    let are = c.elements-f-items.ensures in
    let es : List Element = elements_of s in
    let σ : List ℕ = file_states s in
    let k : ℕ = c.loop-f.f-index in
    let l : k < length es = rw are at c.loop-f-test.true in
    rw (add-one k)
    (loses_same _ _ _ _ (λ a b. sym (forbidden_next es σ no_element k l (omega (arith, l, states-length s)) a b))
    (loses_both _ _ _ (forbidden (take k es) σ) (forbids (get_or es k no_element).kind (get_or σ k 0)) c.loop-f.invariant
    (rw (state_at s k) (rw are at c.drop_element.ensures))))

pub returns : goal.returns
returns c =
    let es : List Element = elements_of c.args.s.now.situation in
    filled-moves _ _ _ _ _ _ c.requires
    (rw (take_all c.loop-e.e-index es (rw c.elements-e-items.ensures at c.loop-e-test.false)) at c.loop-e.invariant)
    (rw (take_all c.loop-f.f-index es (rw c.elements-f-items.ensures at c.loop-f-test.false)) at c.loop-f.invariant)
    (rw c.plain_moves.ensures.are at c.add_all.ensures)
