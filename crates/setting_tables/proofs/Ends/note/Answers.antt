use Rattle.std.proofs.Common.{sym, ◌∙◌, arith, rules}
use Rattle.bits.proofs.Bits.{one_shl}
use Rattle.setting_tables.proofs.Opening.{no_move_none}
use Rattle.setting_tables.proofs.Noting.{noting_move, noting_absent}
use Rattle.setting_tables.proofs.Ends.note.Goals as goal
use Rattle.setting_tables.proofs.Ends.note.Goals.{in-Some, in_default}

pub loop-e-init : goal.loop-e-init
loop-e-init c = record { from_size = search rules; to_size = search rules; indexed = c.requires }

pub loop-e-preserved : goal.loop-e-preserved
loop-e-preserved c =
    let l = c.loop-e in
    elim c.match-at.branch [
      | in-Some w ↦
          let is = sym c.at.ensures ∙ w.in-Some.is in
          let inside = c.args.open_moves.now.inside l.e _ c.loop-e-test.true is in
          rw (w.self-is, w.from.ensures, w.from-in-Some.ensures) (noting_move l.invariant _ is (one_shl l.e (omega arith)) inside.0.1 inside.1.1 w.insert.ensures.members)
      | in_default w ↦ rw (w.self-is) (noting_absent l.invariant (sym c.at.ensures ∙ no_move_none _ w.in_default.not-Some))
    ]

pub insert-requires : goal.insert-requires
insert-requires c = (c.args.open_moves.now.inside _ _ c.loop-e-test.true (sym c.at.ensures ∙ c.in-Some.is)).0
