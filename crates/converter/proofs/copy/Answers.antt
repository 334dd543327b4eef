use mathlib.Core.Path.{◌≡◌, ◌∙◌}
use mathlib.Core.List.{append-nil}
use native.Mathlib.Omega.{arith}
use native.Mathlib.Nat.{zero-add}
use native.Mathlib.Numerals.{add-one}
use lib.ListN.{length, length-set}
use lib.Seq.{paste-suc, drop-length, take-length}
use Rattle.converter.proofs.copy.Goals as goal

pub loop-i-preserved : goal.loop-i-preserved
loop-i-preserved c =
    let o = c.loop-i in
    let a = c.args in
    let more = simp zero-add at (paste-suc a.to.now 0 a.from.now o.i 0 (omega arith) (omega arith)) in
    (simp length-set o.invariant.0, rw (o.invariant.1, add-one) more)

pub returns : goal.returns
returns c =
    let o = c.loop-i in
    let all : o.i ≡ length c.args.to.now = omega arith in
    o.invariant.1 ∙ rw (all, drop-length, append-nil, c.requires, take-length)
