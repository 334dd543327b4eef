-- The sections that two sets share, word by word: section 64 i + k + 1 is bit k of the words i joined by `&`. `apart_word` passes a word,
-- `shared_here` finds the lowest in one; `met_none` and `met_here` are the two ends of the search over trains.
use mathlib.Core.Path.{◌≡◌, refl, sym, ap, ap₂, ◌∙◌}
use mathlib.Core.Bool.{Bool, false, ◌&&◌, cond}
use mathlib.Core.List.{List, []}
use Prim.Native.Nat.{ℕ, zero, suc, ◌+◌, ◌-◌, ◌*◌, ◌^◌, ◌≤◌, ◌<◌}
use native.Mathlib.Decide.{dec_lt}
use native.Mathlib.Numerals.{add-one}
use native.Mathlib.Omega.{arith}
use lib.Bits.{bit_and}
use lib.Count.{count_trailing_zeros}
use lib.ListN.{length, get_or, take}
use lib.Seq.{get_or-take, length-take-le}
use Rattle.basics.specs.Numbers.{found, lowest}
use Rattle.basics.proofs.Numbers.{None, each_more, lowest_ext, lowest_unique, lowest_within, none_lowest}
use Rattle.bits.specs.Bits.{bit}
use Rattle.bits.proofs.Bits.{bit-zero, bit_and_lem, tz_below, tz_at}
use Rattle.reach.specs.declared.Reach.{Reach}
use Rattle.reach.specs.Reach.{memb, words_at}
use Rattle.reach.proofs.Laws.{memb_word}
use Rattle.meeting.specs.Meeting.{shared, reach_of, Meets}

-- Section t is in both sets.
abbrev pub both : List ℕ → List ℕ → ℕ → Bool
both us vs t = memb us t && memb vs t

-- No section of the words below word i is in both.
abbrev pub Apart : List ℕ → List ℕ → ℕ → Type 0
Apart us vs i = None (64 * i) (both us vs)

module _ (us vs : List ℕ) (i word : ℕ) (is : word ≡ bit_and (get_or us i 0) (get_or vs i 0)) where
  both_word : (k t : ℕ) → k < 64 → t ≡ 64 * i + k + 1 → both us vs t ≡ bit word k
  both_word k t l e =
      ap₂ ◌&&◌ (memb_word us i k t l e) (memb_word vs i k t l e) ∙ sym (bit_and_lem (get_or us i 0) (get_or vs i 0) k)
      ∙ ap (λ (w : ℕ). bit w k) (sym is)

  -- Where the joined word is 0, it has no shared section.
  pub apart_word : Apart us vs i → word ≡ 0 → Apart us vs (i + 1)
  apart_word apart e t low high = go (dec_lt (64 * i) t)
    where
      k : ℕ
      k = t - 64 * i - 1

      go : Dec (64 * i < t) → both us vs t ≡ false
      go (yes l) = both_word k t (omega arith) (omega arith) ∙ ap (λ (w : ℕ). bit w k) e ∙ bit-zero k
      go (no l) = apart t low (omega arith)

  -- Where the joined word is not 0, its lowest bit is the lowest shared section.
  pub shared_here : i < 8 → Apart us vs i → word < 2 ^ 64 → (word ≡ 0 → ⊥)
      → (count_trailing_zeros 64 word < 64) × (shared us vs ≡ i * 64 + count_trailing_zeros 64 word + 1)
  unfolding shared
  shared_here l apart fit some =
      let z : ℕ = count_trailing_zeros 64 word in
      let at = tz_at 64 word (omega (arith, some)) fit in
      let e : suc (64 * i + z) ≡ i * 64 + z + 1 = omega arith in (
        at.0,
        lowest_unique 512 (both us vs) (suc (64 * i + z))
            (omega (arith, at.0), both_word z (suc (64 * i + z)) at.0 (omega arith) ∙ at.1, λ t low high. go t low high (dec_lt (64 * i) t)) ∙ e,
      )
    where
      top : count_trailing_zeros 64 word < 64
      top = (tz_at 64 word (omega (arith, some)) fit).0

      go : (t : ℕ) → 1 ≤ t → t ≤ 64 * i + count_trailing_zeros 64 word → Dec (64 * i < t) → both us vs t ≡ false
      go t low high (yes h) =
          both_word (t - 64 * i - 1) t (omega (arith, top)) (omega arith) ∙ tz_below 64 word (t - 64 * i - 1) (omega arith)
      go t low high (no h) = apart t low (omega arith)

-- No section is in both sets.
shared_none : (us vs : List ℕ) → Apart us vs 8 → shared us vs ≡ 0
unfolding shared
shared_none us vs apart = none_lowest 512 (both us vs) apart

-- ---- the search over trains
-- None of trains 1 to i shares a section with ws.
abbrev pub NoneMet : List Reach → List ℕ → ℕ → Type 0
NoneMet reaches ws i = None i (λ t. found (shared (reach_of reaches t) ws))

-- One more train has no section of ws.
pub none_met_more : (reaches : List Reach) (ws : List ℕ) (i : ℕ) → NoneMet reaches ws i → Apart (words_at reaches i) ws 8 → NoneMet reaches ws (i + 1)
none_met_more reaches ws i none apart =
    rw add-one
    (each_more i (λ t. found (shared (reach_of reaches t) ws) ≡ false) none
    (ap (λ (k : ℕ). found (shared (words_at reaches k) ws)) (omega arith) ∙ ap found (shared_none (words_at reaches i) ws apart)))

-- No train is left.
pub met_none : (reaches : List Reach) (ws : List ℕ) (earlier i : ℕ) → earlier ≤ i → NoneMet reaches ws i → Meets reaches earlier ws 0 0
met_none reaches ws earlier i l none = record {
  first = sym (none_lowest earlier (λ t. found (shared (reach_of reaches t) ws)) (λ t low high. none t low (omega arith)));
  meets = refl;
}

-- Train i + 1 is the first, and k the lowest section shared with it.
pub met_here : (reaches : List Reach) (ws : List ℕ) (earlier i k : ℕ) → i < earlier → NoneMet reaches ws i → shared (words_at reaches i) ws ≡ k + 1
    → Meets reaches earlier ws (i + 1) (k + 1)
met_here reaches ws earlier i k l none e =
    let r : shared (reach_of reaches (suc i)) ws ≡ k + 1 = ap (λ (t : ℕ). shared (words_at reaches t) ws) (omega arith) ∙ e in
    rw add-one
    (record {
      first = sym (lowest_unique earlier (λ t. found (shared (reach_of reaches t) ws)) (suc i) (l, ap found (r ∙ add-one k), none));
      meets = sym r;
    })

-- A meeting found among the first j trains, as a list of their own, is one among all of them.
pub meets_part : (reaches : List Reach) (ws : List ℕ) (j train section : ℕ) → j ≤ length reaches
    → Meets (take j reaches) (length (take j reaches)) ws train section → Meets reaches j ws train section
unfolding words_at
meets_part reaches ws j train section l m =
    record { first = m.first ∙ first_same; meets = m.meets ∙ go train refl }
  where
    part : List Reach
    part = take j reaches

    few : length part ≡ j
    few = length-take-le j reaches l

    same : (i : ℕ) → 1 ≤ i → i ≤ j → reach_of part i ≡ reach_of reaches i
    same i low high = ap (λ (r : Reach). r.words) (get_or-take j reaches (i - 1) (record { words = [] }) (omega arith))

    first_same : lowest (length part) (λ i. found (shared (reach_of part i) ws)) ≡ lowest j (λ i. found (shared (reach_of reaches i) ws))
    first_same =
        ap (λ (n : ℕ). lowest n (λ i. found (shared (reach_of part i) ws))) few
        ∙ lowest_ext j (λ i. found (shared (reach_of part i) ws)) (λ i. found (shared (reach_of reaches i) ws))
        (λ i low high. ap (λ (us : List ℕ). found (shared us ws)) (same i low high))

    within : train ≤ j
    within = rw (m.first ∙ first_same) (lowest_within j (λ i. found (shared (reach_of reaches i) ws)))

    go : (t : ℕ) → train ≡ t → cond (found t) (shared (reach_of part t) ws) 0 ≡ cond (found t) (shared (reach_of reaches t) ws) 0
    go zero e = refl
    go (suc t) e = ap (λ (us : List ℕ). shared us ws) (same (suc t) (omega arith) (omega (arith, within, e)))
