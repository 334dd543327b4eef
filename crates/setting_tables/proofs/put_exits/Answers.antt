use Rattle.std.proofs.Common.{◌≡◌, refl, ◌<◌, length, arith, rules}
use Rattle.bits.proofs.Bits.{one_shl}
use Rattle.setting_tables.proofs.Exiting.{exiting_start, exiting_some, exiting_none}
use Rattle.setting_tables.proofs.put_exits.Goals as goal
use Rattle.setting_tables.proofs.put_exits.Goals.{then-exits-ne0, else-exits-ne0}

pub loop-t-init : goal.loop-t-init
loop-t-init g c = exiting_start

pub loop-t-preserved : goal.loop-t-preserved
loop-t-preserved g c =
    let e = c.loop-t.invariant in
    let size : length c.args.rows.now ≡ g.row.N = search rules in
    let room : c.loop-t.t < length c.args.rows.now = omega (arith, size, c.loop-t-test.true, c.requires) in
    elim c.if-exits-ne0.branch [
      | then-exits-ne0 w ↦
          rw w.some-is (exiting_some e room _ refl c.leaving-exits.ensures (one_shl c.loop-t.t (omega (arith, c.loop-t-test.true, c.requires))))
      | else-exits-ne0 w ↦ rw w.some-is (exiting_none e room _ refl c.leaving-exits.ensures w.if-exits-ne0.false)
    ]

pub returns : goal.returns
returns g c = λ f ix. let e : c.loop-t.t ≡ c.args.n = omega arith in rw e at (c.loop-t.invariant.put f ix)
