-- Each byte of the five is one step.
use Rattle.std.proofs.Common.{◌≡◌, ◌<◌, arith}
use Rattle.meaning.specs.Columns.{field_at}
use Rattle.line_reader.proofs.Fields.{front_below_10000}
use Rattle.line_reader.proofs.field_of.Goals as goal

pub step-f-requires : goal.step-f-requires
step-f-requires c =
    let inside : c.loop-b.b-index < 5 = omega arith in
    rw c.loop-b.invariant (front_below_10000 _ _ _ _ inside)

pub returns : goal.returns
unfolding field_at
returns c =
    let all : c.loop-b.b-index ≡ 5 = omega arith in
    rw (c.loop-b.invariant, all)
