use mathlib.Core.Path.{◌≡◌, refl}
use mathlib.Core.List.{List, []}
use Prim.Native.Nat.{ℕ, ◌+◌, ◌*◌, ◌^◌, ◌<◌}
use native.Mathlib.Nat.{lt_of_le_of_lt}
use native.Mathlib.Omega.{arith}
use mir.Syntax.{w64}
use mir.Val.{Fits}
use borrow.Author.Rules.{rules}
use lib.Bits.{bit_and, and_le_r}
use lib.Count.{count_trailing_zeros}
use lib.ListN.{get_or}
use Rattle.reach.specs.Reach.{words_at}
use Rattle.meeting.proofs.Shared.{apart_word, shared_here, none_met_more, met_none, met_here}
use Rattle.meeting.proofs.first_meeting.Goals as goal

pub loop-k-preserved : goal.loop-k-preserved
unfolding words_at
loop-k-preserved c =
    let at = c.loop-k in
    (at.invariant.0, apart_word _ c.args.r.words at.k _ refl at.invariant.1 c.if-both-ne0.false)

pub trains-preserved : goal.trains-preserved
trains-preserved c =
    let at = c.loop-k in
    let e : at.k ≡ 8 = omega arith in
    (at.invariant.0, none_met_more c.args.reaches.now c.args.r.words c.trains.i c.trains.invariant.1 (rw e at at.invariant.1))

pub returns-after-trains : goal.returns-after-trains
returns-after-trains c =
    let at = c.trains in
    rw at.invariant.0 (met_none c.args.reaches.now c.args.r.words _ at.i c.trains-test.false at.invariant.1)

pub returns-then-both-ne0 : goal.returns-then-both-ne0
unfolding words_at
returns-then-both-ne0 c =
    let reaches = c.args.reaches.now in
    let at = c.loop-k in
    let ws : List ℕ = c.args.r.words in
    let us : List ℕ = (get_or reaches c.trains.i (record { words = [] })).words in
    let word : ℕ = bit_and (get_or us at.k 0) (get_or ws at.k 0) in
    let fit : Fits w64 (get_or ws at.k 0) = search rules in
    let small : word < 2 ^ 64 = lt_of_le_of_lt (and_le_r (get_or us at.k 0) (get_or ws at.k 0)) fit.fits in
    let here = shared_here us ws at.k word refl (omega arith) at.invariant.1 small c.if-both-ne0.true in
    (omega arith, met_here reaches ws _ c.trains.i (at.k * 64 + count_trailing_zeros 64 word) c.trains-test.true c.trains.invariant.1 here.1)
