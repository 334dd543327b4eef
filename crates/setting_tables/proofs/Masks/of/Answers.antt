use Rattle.std.proofs.Common.{◌*◌, refl, arith}
use Rattle.bits.proofs.Bits.{one_shl}
use Rattle.meaning.specs.File.{no_element}
use Rattle.setting_tables.proofs.Opening.{element_named, kind_named}
use Rattle.setting_tables.proofs.Masking.{masking_open, masking_none, masking_end, blocking_start, blocking_open, blocking_fixed}
use Rattle.setting_tables.proofs.Masks.of.Goals as goal
use Rattle.setting_tables.proofs.Masks.of.Goals.{in-Some, in_default, then-e-ne0, else-e-ne0}

pub invariant_of-inside : goal.invariant_of-inside
invariant_of-inside c =
    let s = c.args.q.s.now in
    record { inside = kind_named s.sound s.collected _ c.open_kinds.ensures c.loop-i-test.true c.in-Some.is }

pub loop-i-preserved : goal.loop-i-preserved
loop-i-preserved c =
    let o = c.loop-i.invariant in
    elim c.match-kind.branch [
      | in-Some w ↦
          rw w.opens-is
          (masking_open o c.loop-i-test.true w.in-Some.is w.forbidden_by.type_inv w.forbidden_by-in-Some.type_inv w.forbidden_by.ensures w.forbidden_by-in-Some.ensures)
      | in_default w ↦ rw w.opens-is (masking_none o w.in_default.not-Some)
    ]

pub loop-e-init : goal.loop-e-init
loop-e-init c = blocking_start

pub invariant_of-forbidden_by : goal.invariant_of-forbidden_by
invariant_of-forbidden_by c =
    let s = c.args.q.s.now in
    let are = c.elements-e-items.ensures in
    record { inside = rw are (element_named s.sound s.collected c.loop-e.e-index (rw are at c.loop-e-test.true)) }

pub loop-e-preserved : goal.loop-e-preserved
loop-e-preserved c =
    let o = c.loop-e.invariant in
    let are = c.elements-e-items.ensures in
    let passed = rw are at c.loop-e-test.true in
    elim c.if-e-ne0.branch [
      | then-e-ne0 w ↦
          rw w.blocked-is (blocking_fixed no_element o passed (rw are at w.if-e-ne0.true) w.forbidden_by-blocked.type_inv (rw are at w.forbidden_by-blocked.ensures))
      | else-e-ne0 w ↦ rw w.blocked-is (blocking_open no_element o passed (rw are at w.if-e-ne0.false))
    ]

pub returns : goal.returns
returns c =
    masking_end c.args.q.s.now.situation c.args.open_moves.now.rows _ c.open_kinds.ensures c.args.q.few c.loop-i-test.false c.loop-i.invariant c.loop-e.invariant (rw c.elements-e-items.ensures at c.loop-e-test.false)
    c.requires.0 c.requires.1
    (rw (one_shl (c.open_count.result * 4) (omega (arith, c.open_count.ensures, c.args.q.few)), c.open_count.ensures) refl)
