-- `line_writer::put_short` meets its contract: hundreds, if there are any, tens, if there are any, and ones.
use mathlib.Core.Path.{refl}
use Prim.Native.Nat.{◌≤◌}
use native.Mathlib.Omega.{arith}
use Rattle.line_writer.proofs.Digits.{Hundreds, Tens, hundreds_none, hundreds_some, hundreds_same, tens_none, tens_some, tens_same, short_stored}
use Rattle.line_writer.specs.declared.Subtracted.{Subtracted}
use Rattle.line_writer.specs.Digits.{Divides}
use Rattle.line_writer.proofs.put_short.Goals as goal
use Rattle.line_writer.proofs.put_short.Goals.{Joined-n-ge10, Joined-n-ge100, then-n-ge10, else-n-ge10, then-n-ge100, else-n-ge100}

-- After the hundreds.
module _ (t : Joined-n-ge100) where
  hundreds : Hundreds t.args.n t.if-n-ge100.times t.if-n-ge100.rest t.if-n-ge100.cell
  hundreds =
      elim t.if-n-ge100.branch [
        | then-n-ge100 u ↦ hundreds_same _ u.cell-is u.times-is u.rest-is
            (hundreds_some t.args.n u.subtract-a.result u.if-n-ge100.true t.requires.1 t.requires.0
            u.subtract-a.ensures u.figure.ensures refl)
        | else-n-ge100 u ↦ hundreds_same _ u.cell-is u.times-is u.rest-is
            (hundreds_none t.args.n u.if-n-ge100.false t.requires.0)
      ]

  -- A tens digit.
  few : (d : Subtracted) → Divides t.if-n-ge100.rest 10 d → d.times ≤ 9
  few d e = omega (arith, hundreds.left, e.whole, e.rest)

pub figure-requires-then-n-ge10 : goal.figure-requires-then-n-ge10
figure-requires-then-n-ge10 c = few (goal.at.figure-requires-then-n-ge10 c).Joined-n-ge100 _ c.subtract-b.ensures

pub overflow_add-times : goal.overflow_add-times
overflow_add-times c =
    let t = (goal.at.overflow_add-times c).Joined-n-ge100 in
    record { fits = omega (arith, (hundreds t).taken, few t _ c.subtract-b.ensures) }

-- After the tens.
module _ (t : Joined-n-ge10) where
  tens : Tens t.args.n t.if-n-ge10.times t.if-n-ge10.rest t.if-n-ge10.cell
  tens =
      elim t.if-n-ge10.branch [
        | then-n-ge10 w ↦
            let h : Hundreds t.args.n w.if-n-ge100.times w.if-n-ge100.rest w.if-n-ge100.cell =
            elim w.if-n-ge100.branch [
              | then-n-ge100 u ↦ hundreds_same _ u.cell-is u.times-is u.rest-is
                  (hundreds_some t.args.n u.subtract-a.result u.if-n-ge100.true t.requires.1 t.requires.0
                  u.subtract-a.ensures u.figure.ensures refl)
              | else-n-ge100 u ↦ hundreds_same _ u.cell-is u.times-is u.rest-is
                  (hundreds_none t.args.n u.if-n-ge100.false t.requires.0)
            ] in
            tens_same _ w.cell-is w.times-is w.rest-is
            (tens_some t.args.n w.subtract-b.result w.if-n-ge10.true h w.subtract-b.ensures
            w.figure-then-n-ge10.ensures refl)
        | else-n-ge10 w ↦ tens_same _ w.cell-is w.times-is w.rest-is
            (tens_none t.args.n w.if-n-ge10.false t.requires.0)
      ]

pub figure-requires-2 : goal.figure-requires-2
figure-requires-2 c =
    let d = c.subtract-c.ensures in
    omega (arith, (tens (goal.at.figure-requires-2 c).Joined-n-ge10).left, d.whole, d.rest)

pub returns : goal.returns
returns c =
    let s =
    short_stored c.args.n c.subtract-c.result c.requires.1 (tens (goal.at.returns c).Joined-n-ge10)
    c.subtract-c.ensures c.figure-2.ensures refl in
    record { text = s.0; count = s.1 }

pub overflow_add-result : goal.overflow_add-result
overflow_add-result c = record { fits = omega (arith, (returns c).count.1) }
