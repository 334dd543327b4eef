use Rattle.std.proofs.Common.{◌≡◌, sym, subst, true, ℕ, length, rules, refl, arith, get_or}
use Rattle.bits.specs.Bits.{bit}
use Rattle.bits.proofs.Bits.{bit_and_lem, one_shl}
use Rattle.setting_safety.proofs.Following.{part_start, part_turn, below_turn, sound_start, sound_add, sound_round, started_start, started_add, started_kept, full_start, full_kept, full_out, stepped_start, stepped_kept, stepped_add, stepped_round, stepped_turn, stepped_end, stepped_rounds, same_add, brought_start, brought_step, round_less, followed_end, harmful_dead, calm_leads, still_to_come}
use Rattle.setting_safety.specs.Followed.{leads_of}
use Rattle.setting_safety.proofs.Followed.follow.Goals as goal

pub loop-e-init : goal.loop-e-init
loop-e-init c =
    let size : length c.args.self.now.settings ≡ 48 = search rules in
    rw c.into_iter-e-iterator.ensures.into_iter_gives (record {
      part = part_start _ _;
      sound = sound_start size c.requires.none;
      started = started_start;
      stepped = stepped_start c.requires.none;
    })

pub loop-e-preserved : goal.loop-e-preserved
loop-e-preserved c =
    let l = c.in-Some.ensures.steps in
    let i = c.loop-e.invariant in
    let a = c.add.ensures.added in
    record {
      part = part_turn _ _ i.part l;
      sound = sound_add a i.sound (c.requires.few _ (i.part _ l.here).1) (λ x m h. brought_start _ _ _ _ i.part l _ x h);
      started = started_add a i.started l (bit_and_lem _ _);
      stepped = stepped_kept a i.stepped;
    }

pub loop-d-init : goal.loop-d-init
loop-d-init c =
    let i = c.loop-self.invariant in
    let r = c.loop-self.self in
    let a = c.args in
    let calm = calm_leads a.onward.now a.harms r.waiting c.ranges.harms.fits i.sound.fits in
    rw c.into_iter-d-iterator.ensures.into_iter_gives (record {
      low = λ e h. i.sound.waits e (calm e h).0;
      calm = λ e h. (calm e h).1;
      sound = sound_round r.settings r.moves r.waiting i.sound;
      started = record { from = i.started.from };
      stepped = stepped_round r.settings r.moves r.waiting (harmful_dead a.onward.now a.harms r.waiting c.ranges.harms.fits i.sound.fits) i.stepped;
      full = record { part = i.full.part; full = i.full.full };
      left = omega arith;
    })

pub loop-self-smaller : goal.loop-self-smaller
loop-self-smaller c =
    let r = c.loop-self.self in
    omega (arith, round_less r.settings r.moves r.waiting (omega (arith, c.loop-self-test.true)), c.loop-d.invariant.left)

pub loop-self-preserved : goal.loop-self-preserved
loop-self-preserved c =
    let i = c.loop-d.invariant in
    record { sound = i.sound; started = i.started; stepped = stepped_rounds i.stepped c.in-None-d.ensures.steps.0; full = i.full }

pub bounds-self-d : goal.bounds-self-d
bounds-self-d c = c.loop-d.invariant.low _ c.in-Some-d.ensures.steps.here

pub bounds-onward-d : goal.bounds-onward-d
bounds-onward-d c = c.loop-d.invariant.low _ c.in-Some-d.ensures.steps.here

pub loop-f-init : goal.loop-f-init
loop-f-init c =
    let l = c.in-Some-d.ensures.steps in
    let i = c.loop-d.invariant in
    let same : leads_of c.args.onward.now c.args.harms c.in-Some-d.d ≡ get_or c.args.onward.now c.in-Some-d.d 0 = rw (i.calm c.in-Some-d.d l.here) refl in
    rw c.into_iter-f-iterator.ensures.into_iter_gives (record {
      part = λ e h. let p = part_start _ _ e h in (subst (λ (v : ℕ). bit v e ≡ true) (sym same) p.0, i.full.part e p.1);
      sound = i.sound;
      started = i.started;
      stepped = stepped_turn l same i.full i.stepped;
      full = i.full;
      same = λ n. refl;
      left = omega arith;
    })

pub loop-d-preserved : goal.loop-d-preserved
loop-d-preserved c =
    let i = c.loop-f.invariant in
    record {
      low = below_turn c.loop-d.invariant.low c.in-Some-d.ensures.steps;
      calm = λ e h. c.loop-d.invariant.calm e (still_to_come c.in-Some-d.ensures.steps e h);
      sound = i.sound;
      started = i.started;
      stepped = stepped_end i.stepped c.in-None-f.ensures.steps.0;
      full = i.full;
      left = omega (arith, i.left, c.loop-d.invariant.left);
    }

pub loop-f-preserved : goal.loop-f-preserved
loop-f-preserved c =
    let l = c.in-Some-f.ensures.steps in
    let i = c.loop-f.invariant in
    let a = c.add-news.ensures.added in
    record {
      part = part_turn _ _ i.part l;
      sound = sound_add a i.sound (c.requires.few _ (i.part _ l.here).1)
          (λ x m h. brought_step _ _ _ _ _ i.part l _ x h (c.loop-d.invariant.sound.least x _ m));
      started = started_kept a i.started;
      stepped = stepped_add a i.stepped l i.same (bit_and_lem _ _);
      same = same_add a _ i.same;
      full = full_kept a i.full;
      left = omega (arith, c.add-news.ensures.left, i.left);
    }

pub loop-f-preserved-then-self-f : goal.loop-f-preserved-then-self-f
loop-f-preserved-then-self-f c =
    let l = c.in-Some-f.ensures.steps in
    let i = c.loop-f.invariant in
    let a = c.add-news.ensures.added in
    record {
      part = part_turn _ _ i.part l;
      sound = sound_add a i.sound (c.requires.few _ (i.part _ l.here).1)
          (λ x m h. brought_step _ _ _ _ _ i.part l _ x h (c.loop-d.invariant.sound.least x _ m));
      started = started_kept a i.started;
      stepped = stepped_add a i.stepped l i.same (bit_and_lem _ _);
      same = same_add a _ i.same;
      full = full_out c.loop-f.auto.open-fits.fits l.within (one_shl _ l.within) c.if-self-f.true (full_kept a i.full);
      left = omega (arith, c.add-news.ensures.left, i.left);
    }

pub returns : goal.returns
returns c = let i = c.loop-self.invariant in followed_end i.sound i.started i.stepped c.loop-self-test.false

pub loop-self-init : goal.loop-self-init
loop-self-init c =
    let i = c.loop-e.invariant in
    let started = rw c.in-None.ensures.steps.0 at i.started in
    record { sound = i.sound; started = started; stepped = i.stepped; full = full_start c.ranges.first.fits c.ranges.exits.fits started }
