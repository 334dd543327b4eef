use Rattle.std.proofs.Common.{◌≡◌, sym, ◌∙◌, false}
use borrow.Author.Tests.{eq-eqb, ne_eqb}
use Rattle.basics.proofs.Tests.{and_both}
use Rattle.bits.specs.Bits.{bit}
use Rattle.bits.proofs.Bits.{bit_and_lem, shift_mask}
use Rattle.setting_safety.proofs.Gathering.{among_start, among_turn, gathered_start, gathered_turn, harm_sound, met_sound, met_complete}
use Rattle.setting_safety.proofs.Followed.dangers.Goals as goal
use Rattle.setting_safety.proofs.Followed.dangers.Goals.{then-harms-e-eq1, else-harms-e-eq1}

pub loop-e-init : goal.loop-e-init
loop-e-init c = rw c.into_iter-e-iterator.ensures.into_iter_gives (among_start _, gathered_start _)

pub any-requires : goal.any-requires
any-requires c = λ f h. c.requires.1.below f (and_both _ (bit c.args.earlier.now.moves f) (sym (bit_and_lem _ c.args.earlier.now.moves f) ∙ h)).1

pub loop-e-preserved : goal.loop-e-preserved
loop-e-preserved c =
    let l = c.in-Some.ensures.steps in
    let i = c.loop-e.invariant in (
      among_turn l i.0,
      elim c.if-harms-e-eq1.branch [
        | then-harms-e-eq1 w ↦
            rw w.some-is (gathered_turn l _ i.0 i.1 (harm_sound c.args.self.now c.args.earlier.now c.args.harms c.args.overlaps.now c.in-Some.e (sym (shift_mask c.args.harms c.in-Some.e) ∙ eq-eqb _ 1 w.if-harms-e-eq1.true)) (λ x d. d.0))
        | else-harms-e-eq1 w ↦
            let none : bit c.args.harms c.in-Some.e ≡ false = sym (shift_mask c.args.harms c.in-Some.e) ∙ ne_eqb _ 1 w.if-harms-e-eq1.false in
            rw w.some-is (gathered_turn l _ i.0 i.1 (met_sound c.args.self.now c.args.earlier.now c.args.harms c.args.overlaps.now c.in-Some.e none c.requires.1 w.any.ensures) (met_complete c.args.self.now c.args.earlier.now c.args.harms c.args.overlaps.now c.in-Some.e none c.requires.1 w.any.ensures))
      ],
    )

pub returns : goal.returns
returns c = rw c.in-None.ensures.steps.0 at c.loop-e.invariant.1
