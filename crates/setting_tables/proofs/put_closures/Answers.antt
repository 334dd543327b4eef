use Rattle.std.proofs.Common.{◌≡◌, sym, ◌∙◌, arith}
use Rattle.bits.proofs.Bits.{one_shl}
use Rattle.reach.proofs.Laws.{memb_zeros}
use Rattle.setting_tables.proofs.Closing.{closing_start, closing_some, closing_none}
use Rattle.setting_tables.proofs.put_closures.Goals as goal
use Rattle.setting_tables.proofs.put_closures.Goals.{in-Some, in-None}

pub loop-e-init : goal.loop-e-init
loop-e-init c = closing_start (omega arith)

pub loop-e-preserved : goal.loop-e-preserved
loop-e-preserved c =
    elim c.match-at.branch [
      | in-Some w ↦
          rw (w.closures-is, w.moves-is)
          (closing_some c.loop-e.invariant c.loop-e-test.true (sym c.at.ensures ∙ w.in-Some.is) _ (one_shl c.loop-e.e (omega (arith, c.loop-e-test.true)))
          (λ s of k. w.reached.ensures _ of.represents k))
      | in-None w ↦
          rw (w.closures-is, w.moves-is) (closing_none c.loop-e.invariant c.loop-e-test.true (sym c.at.ensures ∙ w.in-None.is) _ (memb_zeros 8))
    ]

pub returns : goal.returns
returns c = λ s open_moves represents.
    let e : c.loop-e.e ≡ 48 = omega arith in
    rw e at (c.loop-e.invariant.put s (record { open_moves = open_moves; represents = represents }))
