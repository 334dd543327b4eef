-- What some open elements leave of one open move, a bit for each of their places: `Plane` is the loop of `plane`.
use Rattle.std.proofs.Common.{◌≡◌, refl, sym, ap, ap₂, ◌∙◌, Bool, true, false, ◌&&◌, ◌||◌, cond, ℕ, suc, ◌+◌, ◌-◌, ◌*◌, ◌/◌, ◌%◌, ◌^◌, ◌≤◌, ◌<◌, bit_and, bit_or, arith, add-one}
use native.Mathlib.Nat.{two-pow-succ, lt_of_lt_of_le, mul-div_cancel, pow-suc, add-zero, mul-le-mul_right}
use Rattle.std.proofs.lemmas.Nat.{pow-add}
use mathlib.Core.Bool.{and-true, and-false, or-false}
use lib.Dec.{eqb}
use Rattle.setting_order.proofs.Order.{places_shifted}
use native.Mathlib.Decide.{dec_lt}
use lib.Bits.{and_le_r, or_lt}
use lib.Pow.{pow_mono, pow_pos, shl_exact}
use borrow.Author.Tests.{lt-ltb, le-ltb}
use Rattle.bits.specs.Bits.{bit}
use Rattle.bits.proofs.Bits.{bit-low, bit_above, bit-shr, bit_or_lem, bit_and_lem, bit-zero, shift_mask}
use Rattle.setting_tables.specs.declared.Masks.{Masks}
use Rattle.setting_tables.specs.Masks.{mask}
use Rattle.setting_safety.specs.Table.{enabled_from}

-- The places of the last i of n open elements, of which the q-th is the first.
pub record Plane (masks : Masks) (q n e plane i : ℕ) : Type 0 where
  pub here : (x : ℕ) → x < 2 ^ i → bit plane x ≡ bit (enabled_from masks (q + (n - i)) i x) e
  pub fits : plane < 2 ^ 2 ^ i

-- A word moved up by k bits.
bit_up : (w k x : ℕ) → bit (w * 2 ^ k) (k + x) ≡ bit w x
bit_up w k x = sym (bit-shr (w * 2 ^ k) k x) ∙ ap (λ (v : ℕ). bit v x) (mul-div_cancel w (pow_pos k))

bit_under : (w k x : ℕ) → x < k → bit (w * 2 ^ k) x ≡ false
bit_under w k x l =
    let j : ℕ = k - 1 - x in
    let power : 2 ^ k ≡ 2 ^ j * 2 * 2 ^ x = let z : k ≡ suc j + x = omega arith in ap (λ (v : ℕ). 2 ^ v) z ∙ pow-add 2 (suc j) x ∙ ap (λ (v : ℕ). v * 2 ^ x) (pow-suc 2 j) in
    let u : ℕ = w * 2 ^ j in
    let same : w * 2 ^ k ≡ u * 2 * 2 ^ x = rw power (omega arith) in
    let even : u * 2 % 2 ≡ 0 = omega arith in
    ap (λ (v : ℕ). bit v x) same ∙ ap (bit (u * 2 * 2 ^ x)) (sym (add-zero x)) ∙ bit_up (u * 2) x 0 ∙ bit-low (u * 2) ∙ ap (λ (v : ℕ). eqb v 1) even

module _ {masks : Masks} {q n e : ℕ} where
  pub plane_start : Plane masks q n e (bit_and (masks.fixed / 2 ^ e) 1) 0
  unfolding enabled_from
  plane_start =
      let one : bit_and (masks.fixed / 2 ^ e) 1 ≤ 1 = and_le_r (masks.fixed / 2 ^ e) 1 in
      let v : ℕ = bit_and (masks.fixed / 2 ^ e) 1 in
      record {
        here = λ x l. let z : x ≡ 0 = omega arith in
            let small : v % 2 ≡ v = omega arith in
            rw z (bit-low v ∙ ap (λ (d : ℕ). eqb d 1) small ∙ shift_mask masks.fixed e);
        fits = omega arith;
      }

  module _ {plane i : ℕ} (p : Plane masks q n e plane i) where
    pub plane_turn : {k one two low high : ℕ} → i < n → k ≡ q + (n - 1 - i) → one ≡ mask masks k 0 → two ≡ mask masks k 1
        → low ≡ cond (bit one e) plane 0 → high ≡ cond (bit two e) (plane * 2 ^ 2 ^ i) 0 → Plane masks q n e (bit_or low high) (i + 1)
    unfolding enabled_from
    plane_turn {k} {one} {two} {low} {high} l is a b c d = rw (c, d) (record {
      here = λ x m. bit_or_lem lower upper x ∙ go x (omega (arith, twice)) (dec_lt x (2 ^ i));
      fits = or_lt (2 ^ (i + 1)) lower upper (at_most (bit one e) plane (omega (arith, p.fits, more))) (at_most (bit two e) (plane * 2 ^ 2 ^ i) (omega (arith, product)));
    })
      where
        lower : ℕ
        lower = cond (bit one e) plane 0

        upper : ℕ
        upper = cond (bit two e) (plane * 2 ^ 2 ^ i) 0

        twice : 2 ^ (i + 1) ≡ 2 ^ i + 2 ^ i
        twice = rw add-one (omega (arith, two-pow-succ i))

        power : 2 ^ 2 ^ (i + 1) ≡ 2 ^ 2 ^ i * 2 ^ 2 ^ i
        power = rw twice (pow-add 2 (2 ^ i) (2 ^ i))

        more : 2 ^ 2 ^ i ≤ 2 ^ 2 ^ (i + 1)
        more = pow_mono (omega (arith, twice))

        product : plane * 2 ^ 2 ^ i < 2 ^ 2 ^ (i + 1)
        product = let m : (plane + 1) * 2 ^ 2 ^ i ≤ 2 ^ 2 ^ i * 2 ^ 2 ^ i = mul-le-mul_right (2 ^ 2 ^ i) (omega (arith, p.fits)) in let pos : 0 < 2 ^ 2 ^ i = pow_pos (2 ^ i) in rw power (omega (arith, m, pos))

        at_most : (t : Bool) (v : ℕ) → v < 2 ^ 2 ^ (i + 1) → cond t v 0 < 2 ^ 2 ^ (i + 1)
        at_most true v h = h
        at_most false v h = pow_pos (2 ^ (i + 1))

        from : q + (n - i) ≡ suc k
        from = omega arith

        to : q + (n - (i + 1)) ≡ k
        to = omega arith

        masked : (t : Bool) (v x : ℕ) → bit (cond t v 0) x ≡ (bit v x && t)
        masked true v x = sym (and-true (bit v x))
        masked false v x = bit-zero x ∙ sym (and-false (bit v x))

        go : (x : ℕ) → x < 2 ^ i + 2 ^ i → Dec (x < 2 ^ i) → (bit lower x || bit upper x) ≡ bit (enabled_from masks (q + (n - (i + 1))) (i + 1) x) e
        go x m (yes h) =
            let none : bit upper x ≡ false = masked (bit two e) (plane * 2 ^ 2 ^ i) x ∙ rw (bit_under plane (2 ^ i) x h) refl in
            rw (to, add-one, lt-ltb x (2 ^ i) h)
            (rw none (or-false (bit lower x)) ∙ masked (bit one e) plane x ∙ ap₂ ◌&&◌ (rw from at (p.here x h)) (ap (λ (v : ℕ). bit v e) a)
            ∙ sym (bit_and_lem (enabled_from masks (suc k) i x) (mask masks k 0) e))
        go x m (no h) =
            let y : ℕ = x - 2 ^ i in
            let z : 2 ^ i + y ≡ x = omega arith in
            let low : y < 2 ^ i = omega arith in
            let none : bit lower x ≡ false = masked (bit one e) plane x ∙ rw (bit_above plane x (lt_of_lt_of_le p.fits (pow_mono (omega arith)))) refl in
            let up : bit upper x ≡ (bit plane y && bit two e) = masked (bit two e) (plane * 2 ^ 2 ^ i) x ∙ ap (λ (t : Bool). t && bit two e) (ap (bit (plane * 2 ^ 2 ^ i)) (sym z) ∙ bit_up plane (2 ^ i) y) in
            rw (to, add-one, le-ltb x (2 ^ i) (omega arith))
            (rw none up ∙ ap₂ ◌&&◌ (rw from at (p.here y low)) (ap (λ (v : ℕ). bit v e) b)
            ∙ sym (bit_and_lem (enabled_from masks (suc k) i y) (mask masks k 1) e))

    -- Nothing is shifted out.
    pub plane_shifted : i < 6 → plane * 2 ^ (1 * 2 ^ i % 2 ^ 64) % 2 ^ 64 ≡ plane * 2 ^ 2 ^ i
    plane_shifted l =
        let few : 2 ^ i ≤ 2 ^ 5 = pow_mono {j = 5} (omega arith) in
        rw (places_shifted i (omega arith)) (shl_exact (2 ^ i) (2 ^ i) 64 p.fits (omega (arith, few)))

    pub plane_end : i ≡ n → (x : ℕ) → x < 2 ^ n → bit plane x ≡ bit (enabled_from masks q n x) e
    plane_end is x l = let z : q + (n - n) ≡ q = omega arith in rw z at ((rw is at p.here) x l)
