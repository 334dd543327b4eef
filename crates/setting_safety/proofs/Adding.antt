-- Open move e is followed in the settings w too (`Added`).
use Rattle.std.proofs.Common.{◌≡◌, refl, sym, ap, ◌∙◌, ◌⊎◌, inl, inr, Bool, true, false, not, ◌&&◌, ◌||◌, ℕ, ◌+◌, ◌-◌, ◌*◌, ◌^◌, ◌≤◌, ◌<◌, bit_and, bit_or, length, get_or, arith}
use Rattle.std.proofs.lemmas.Nat.{le_or_l}
use Rattle.std.proofs.lemmas.List.Sums.{sum_by-set}
use Rattle.std.specs.List.{sum_by}
use native.Mathlib.Nat.{mul-le-mul_right}
use mathlib.Core.Logic.{⊎_elim}
use mathlib.Core.Bool.{false≢true}
use mathlib.Mathlib.Data.Bool.Basic.{or_inl, or_inr}
use native.Mathlib.Decide.{ℕ_discrete}
use lib.Bits.{or_lt, and_le_r}
use lib.Count.{count_trailing_zeros}
use lib.Dec.{eqb}
use lib.ListN.{set, length-set}
use lib.Pow.{pow-lt}
use lib.Seq.{get_or-set_same, get_or-set_other}
use borrow.Author.Tests.{eqb-true, eq-eqb, ne_eqb}
use Rattle.basics.proofs.Tests.{or_cases, and_both}
use Rattle.bits.specs.Bits.{bit}
use Rattle.bits.proofs.Bits.{bit-zero, bit_and_lem, bit_or_lem, bit_or_pow, bit_not, tz_at}
use Rattle.setting_safety.specs.declared.Followed.{Followed}
use Rattle.setting_safety.specs.Followed.{in_setting, Added, left_over}
use Rattle.setting_safety.proofs.Gathering.{bit_without}

module _ (r : Followed) (e w : ℕ) (old : get_or r.settings e 0 < 2 ^ 64) where
  abbrev before : ℕ
  before = get_or r.settings e 0

  abbrev more : ℕ
  more = bit_and w ((2 ^ 64 - 1) - before)

  more_bit : w < 2 ^ 64 → (x : ℕ) → bit more x ≡ (bit w x && not (bit before x))
  more_bit fits = bit_without w before fits old

  -- There is no news.
  pub added_same : w < 2 ^ 64 → r.waiting < 2 ^ 64 → more ≡ 0 → Added r e w r
  added_same fits under z = record {
    settings = λ d x. within (in_setting r.settings x d) (eqb d e && bit w x) (λ h.
        let b = and_both (eqb d e) (bit w x) h in
        rw (eqb-true d e b.0) (there (bit before x) (bit w x) (sym (more_bit fits x) ∙ rw z (bit-zero x)) b.1));
    size = refl;
    listed = λ d h. inr h;
    kept = λ d h. h;
    fits = under;
    waits = λ d h. inr h;
    same = λ d h. (h, refl);
    news = λ d. inl refl;
  }
    where
      there : (p q : Bool) → (q && not p) ≡ false → q ≡ true → p ≡ true
      there true q h k = refl
      there false true h k = sym h
      there false false h k = k

      within : (p q : Bool) → (q ≡ true → p ≡ true) → p ≡ (p || q)
      within true q h = refl
      within false true h = h refl
      within false false h = refl

  module _ (some : more ≡ 0 → ⊥) (low : e < length r.settings) where
    abbrev now : ℕ
    now = bit_or before more

    abbrev r' : Followed
    r' = record { settings = set r.settings e now; moves = bit_or r.moves (2 ^ e); waiting = bit_or r.waiting (2 ^ e) }

    here : get_or (set r.settings e now) e 0 ≡ now
    here = get_or-set_same r.settings e now 0 low

    elsewhere : (d : ℕ) → (d ≡ e → ⊥) → get_or (set r.settings e now) d 0 ≡ get_or r.settings d 0
    elsewhere d n = get_or-set_other r.settings e d now 0 n

    with_e : (v d : ℕ) → bit (bit_or v (2 ^ e)) d ≡ true → (d ≡ e) ⊎ (bit v d ≡ true)
    with_e v d h = ⊎_elim (λ z. inl (eqb-true d e z)) (λ z. inr z) (or_cases (eqb d e) (bit v d) (sym (bit_or_pow v e d) ∙ h))

    pub added_news : w < 2 ^ 64 → r.waiting < 2 ^ 64 → e < 64 → Added r e w r'
    added_news fits under l = record {
      settings = λ d x. go d x (ℕ_discrete d e);
      size = length-set r.settings e now;
      listed = with_e r.moves;
      kept = λ d h. bit_or_pow r.moves e d ∙ or_inr (eqb d e) (bit r.moves d) h;
      fits = or_lt 64 r.waiting (2 ^ e) under (pow-lt l);
      waits = with_e r.waiting;
      same = λ d h.
          let n = neither (eqb d e) (bit r.waiting d) (sym (bit_or_pow r.waiting e d) ∙ h) in
          (n.1, elsewhere d (λ z. false≢true (sym n.0 ∙ eq-eqb d e z)));
      news = λ d. new d (ℕ_discrete d e);
    }
      where
        neither : (p q : Bool) → (p || q) ≡ false → (p ≡ false) × (q ≡ false)
        neither true q h = absurd (false≢true (sym h))
        neither false q h = (refl, h)

        both : (p q : Bool) → (p || (q && not p)) ≡ (p || q)
        both true q = refl
        both false true = refl
        both false false = refl

        plain : (p : Bool) → p ≡ (p || false)
        plain true = refl
        plain false = refl

        go : (d x : ℕ) → Dec (d ≡ e) → in_setting (set r.settings e now) x d ≡ (in_setting r.settings x d || (eqb d e && bit w x))
        go d x (yes z) =
            rw (z, here, eq-eqb e e refl)
            (bit_or_lem before more x ∙ ap (λ (t : Bool). bit before x || t) (more_bit fits x) ∙ both (bit before x) (bit w x))
        go d x (no n) = rw (elsewhere d n, ne_eqb d e n) (plain (in_setting r.settings x d))

        new : (d : ℕ) → Dec (d ≡ e) → (get_or (set r.settings e now) d 0 ≡ get_or r.settings d 0) ⊎ (bit (bit_or r.moves (2 ^ e)) d ≡ true)
        new d (yes z) = inr (bit_or_pow r.moves e d ∙ or_inl (eqb d e) (bit r.moves d) (eq-eqb d e z))
        new d (no n) = inl (elsewhere d n)

    pub left_less : r.waiting < 2 ^ 64 → e < 64 → left_over r' ≤ left_over r
    unfolding left_over
    left_less fits l = weigh (sum_by over (set r.settings e now)) (sum_by over r.settings) (2 ^ 64) (bit_or r.waiting (2 ^ e)) r.waiting fewer (or_lt 64 r.waiting (2 ^ e) fits (pow-lt l))
      where
        over : ℕ → ℕ
        over w = 2 ^ 64 - w

        weigh : (a b k v w : ℕ) → a + 1 ≤ b → v < k → a * k + v ≤ b * k + w
        weigh a b k v w h l = let m : (a + 1) * k ≤ b * k = mul-le-mul_right k h in omega arith

        more_fits : more < 2 ^ 64
        more_fits = let b : more ≤ (2 ^ 64 - 1) - before = and_le_r w ((2 ^ 64 - 1) - before) in omega arith

        differs : before ≡ now → ⊥
        differs z =
            let at = tz_at 64 more (omega (arith, some)) more_fits in
            let j : ℕ = count_trailing_zeros 64 more in
            let b = and_both (bit w j) (bit ((2 ^ 64 - 1) - before) j) (sym (bit_and_lem w ((2 ^ 64 - 1) - before) j) ∙ at.1) in
            let n : not (bit before j) ≡ true = sym (bit_not 64 before j old at.0) ∙ b.1 in
            let y : bit before j ≡ true = ap (λ (v : ℕ). bit v j) z ∙ bit_or_lem before more j ∙ or_inr (bit before j) (bit more j) at.1 in
            false≢true (rw y at n)

        fewer : sum_by over (set r.settings e now) + 1 ≤ sum_by over r.settings
        fewer =
            let sums : sum_by over (set r.settings e now) + over before ≡ sum_by over r.settings + over now = sum_by-set over r.settings e now 0 low in
            let up : before ≤ now = le_or_l before more in
            let top : now < 2 ^ 64 = or_lt 64 before more old more_fits in
            let less : over now + 1 ≤ over before = omega (arith, differs) in
            omega arith
