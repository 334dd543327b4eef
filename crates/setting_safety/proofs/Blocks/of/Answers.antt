use Rattle.std.proofs.Common.{◌≡◌, ◌⊎◌, inl, inr, sym, ◌∙◌, ℕ, ◌+◌, ◌-◌, ◌≤◌, ◌^◌, arith}
use mathlib.Core.Bool.{false≢true}
use native.Mathlib.Decide.{dec_lt}
use lib.Pow.{pow_mono}
use Rattle.setting_order.proofs.Order.{places_shifted}
use Rattle.setting_safety.proofs.Gathering.{among_start, among_turn, tabled_start, tabled_turn}
use Rattle.setting_safety.proofs.Readying.{no_plane, no_overlap, harm_of, ready}
use Rattle.setting_safety.proofs.Blocks.of.Goals as goal

pub loop-e-init : goal.loop-e-init
loop-e-init c =
    let p = c.requires in
    rw c.into_iter-e-iterator.ensures.into_iter_gives (record {
      among = among_start _;
      planes = tabled_start 48 _ (no_plane _ _ p _ _ _);
      overlaps = tabled_start 48 _ (no_overlap _ _ p);
    })

pub bounds-planes-e : goal.bounds-planes-e
bounds-planes-e c = c.requires.closures.below _ (c.loop-e.invariant.among.in_all _ c.in-Some.ensures.steps.here)

pub loop-e-preserved : goal.loop-e-preserved
loop-e-preserved c =
    let l = c.in-Some.ensures.steps in
    let i = c.loop-e.invariant in
    record {
      among = among_turn l i.among;
      planes = tabled_turn l i.planes (λ m at. c.plane.ensures);
      overlaps = tabled_turn l i.overlaps c.meeting.ensures;
    }

pub loop-t-init : goal.loop-t-init
loop-t-init c =
    rw c.into_iter-t-iterator.ensures.into_iter_gives (record { among = among_start _; harms = tabled_start 64 _ (λ t l h a. absurd (false≢true (sym h ∙ a))) })

pub loop-t-preserved : goal.loop-t-preserved
loop-t-preserved c =
    let l = c.in-Some-t.ensures.steps in
    let i = c.loop-t.invariant in
    record { among = among_turn l i.among; harms = tabled_turn l i.harms (harm_of _ _ c.requires _ c.without-others.ensures c.meeting-in-loop-t.ensures) }

pub overflow_sub-result-2 : goal.overflow_sub-result-2
overflow_sub-result-2 c =
    let n : ℕ = c.min-last.result in
    let low : n ≤ 6 = omega (arith, c.min-last.ensures) in
    let few : 2 ^ n ≤ 2 ^ 6 = pow_mono low in
    rw (places_shifted n (omega arith)) (omega (arith, few))

pub returns : goal.returns
returns c =
    let opens : ℕ = c.open_count-opens.result in
    let n : ℕ = c.min-last.result in
    let least = c.min-last.ensures in
    let m : ℕ = opens - n in
    let all : m + n ≡ opens = omega (arith, least) in
    let six : (n ≡ 6) ⊎ ((m ≡ 0) × (n ≤ 6)) = elim (dec_lt opens 6) [ yes b ↦ inr (omega (arith, least), omega (arith, least)) | no b ↦ inl (omega (arith, least)) ] in
    let most : m + n ≤ 12 = omega (arith, all, c.open_count-opens.ensures, c.args.q.few) in
    rw (places_shifted m (omega arith), places_shifted n (omega arith))
    (ready m n six (all ∙ c.open_count-opens.ensures) most c.requires.masks c.requires c.args.q.s.now.sound c.fill.ensures
    (rw c.in-None.ensures.steps.0 at c.loop-e.invariant.planes) (rw c.in-None.ensures.steps.0 at c.loop-e.invariant.overlaps)
    (rw c.in-None-t.ensures.steps.0 at c.loop-t.invariant.harms))
