use Rattle.std.proofs.Common.{◌≡◌, sym, refl, ◌∙◌, not, length, rules, arith}
use lib.Dec.{eqb}
use Rattle.basics.proofs.Tests.{and_both}
use Rattle.bits.specs.Bits.{bit}
use Rattle.bits.proofs.Bits.{bit_and_lem}
use Rattle.setting_tables.proofs.Leaving.{joining_start, joining_word, joining_turn, joining_next, joining_end}
use Rattle.setting_tables.proofs.BySection.over.Goals as goal

pub loop-i-init : goal.loop-i-init
loop-i-init c = joining_start

pub loop-b-init : goal.loop-b-init
loop-b-init c =
    rw c.into_iter-b-iterator.ensures.into_iter_gives (record {
      part = λ k h. (and_both _ _ (sym (bit_and_lem _ _ k) ∙ h)).0;
      joining = joining_word _ c.loop-i.invariant;
    })

pub loop-b-preserved : goal.loop-b-preserved
loop-b-preserved c =
    let l = c.in-Some.ensures.steps in
    let i = c.loop-b.invariant in
    record {
      part = λ k h. i.part k (and_both (bit c.loop-b.b-iterator.0 k) (not (eqb k c.in-Some.b)) (sym (l.rest k) ∙ h)).0;
      joining = joining_turn _ i.joining l c.loop-i-test.true (i.part _ l.here) refl;
    }

pub loop-i-preserved : goal.loop-i-preserved
loop-i-preserved c = joining_next _ c.loop-b.invariant.joining c.in-None.ensures.steps.0

pub returns : goal.returns
returns c = let size : length c.args.set.words ≡ 8 = search rules in joining_end _ c.loop-i.invariant (omega arith) size
