use Rattle.std.proofs.Common.{sym, refl, ◌∙◌, not, rules, arith}
use lib.Dec.{eqb}
use Rattle.basics.proofs.Tests.{and_both}
use Rattle.bits.specs.Bits.{bit}
use Rattle.bits.proofs.Bits.{one_shl}
use Rattle.setting_tables.proofs.Leaving.{adding_start, adding_word, adding_turn, adding_next, adding_end}
use Rattle.setting_tables.proofs.BySection.add.Goals as goal

pub loop-i-init : goal.loop-i-init
loop-i-init c = adding_start (search rules) c.union-self.ensures

pub loop-b-init : goal.loop-b-init
loop-b-init c = rw c.into_iter-b-iterator.ensures.into_iter_gives (record { part = λ k h. h; adding = adding_word _ c.loop-i.invariant })

pub loop-b-preserved : goal.loop-b-preserved
loop-b-preserved c =
    let l = c.in-Some.ensures.steps in
    let i = c.loop-b.invariant in
    record {
      part = λ k h. i.part k (and_both (bit c.loop-b.b-iterator.0 k) (not (eqb k c.in-Some.b)) (sym (l.rest k) ∙ h)).0;
      adding = adding_turn _ i.adding l c.loop-i-test.true (i.part _ l.here) refl (one_shl c.args.e c.requires);
    }

pub loop-i-preserved : goal.loop-i-preserved
loop-i-preserved c = adding_next _ c.in-None.ensures.steps.0 c.loop-b.invariant.adding

pub returns : goal.returns
returns c = adding_end _ (omega arith) (search rules) c.loop-i.invariant
