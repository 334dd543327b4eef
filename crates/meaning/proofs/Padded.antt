-- The padded form in the words of the request: a field holds a number exactly where it is "spaces, then one or more digits, leading zeros
-- allowed" (`padded_exactly`). The step by step definition goes through the field from the left; so do the laws here.
use mathlib.Core.Path.{◌≡◌, refl, sym}
use mathlib.Core.Logic.{◌↔◌, ⊎_elim}
use mathlib.Core.Bool.{Bool, true, false, cond, false≢true}
use mathlib.Core.List.{List}
use Prim.Native.Nat.{ℕ, zero, suc, ◌+◌, ◌*◌, ◌-◌, ◌≤◌, ◌<◌}
use native.Mathlib.Omega.{arith}
use native.Mathlib.Nat.{eq-or-lt_of_le, le_of_suc-le-suc}
use lib.Dec.{eqb}
use lib.ListN.{get_or}
use borrow.Author.Tests.{lt-ltb, le-ltb, ne_eqb}
use Rattle.meaning.specs.declared.Field.{Field}
use Rattle.meaning.specs.declared.Field.TheVariants.{Blank, Number, Malformed}
use Rattle.meaning.specs.Columns.{padded, digit, step, front, field_at, fits}
use Rattle.meaning.specs.Accepted.{IsDigit, SpacesThenDigits}
use Rattle.meaning.proofs.Columns.{digit_taken, blank_before, number_not_malformed, blank_not_number}

module _ (file : List ℕ) (at : ℕ) where
  blank_spaces : (m : ℕ) → front padded file at m ≡ Blank → (j : ℕ) → j < m → get_or file (at + j) 0 ≡ 32
  blank_spaces zero e j l = absurd (omega arith)
  blank_spaces (suc m) e j l =
      let h = blank_before padded (front padded file at m) (get_or file (at + m) 0) e in
      ⊎_elim (λ (q : j ≡ m). rw q h.1) (λ (q : j < m). blank_spaces m h.0 j q) (eq-or-lt_of_le (le_of_suc-le-suc l))

  number_digits : (m n : ℕ) → front padded file at m ≡ Number n → SpacesThenDigits file at m
  number_digits zero n e = absurd (blank_not_number n e)
  number_digits (suc m) n e = go (front padded file at m) refl e (number_digits m)
    where
      b : ℕ
      b = get_or file (at + m) 0

      go : (f : Field) → front padded file at m ≡ f → step padded f b ≡ Number n
          → ((p : ℕ) → front padded file at m ≡ Number p → SpacesThenDigits file at m) → SpacesThenDigits file at (suc m)
      go Blank ef r before = first (eqb b 32) r
        where
          first : (p : Bool) → cond p Blank (digit b (Number (b - 48))) ≡ Number n → SpacesThenDigits file at (suc m)
          first true r = absurd (blank_not_number n r)
          first false r =
              let d = digit_taken b (Number (b - 48)) (Number n) (number_not_malformed n) r in
              record {
                spaces = m;
                some-digit = omega arith;
                blank = blank_spaces m ef;
                digits = λ j low high. let q : j ≡ m = omega arith in rw q (d.0, d.1);
              }
      go (Number p) ef r before =
          let d = digit_taken b (Number (p * 10 + (b - 48))) (Number n) (number_not_malformed n) r in
          let s = before p ef in
          record {
            spaces = s.spaces;
            some-digit = omega arith;
            blank = s.blank;
            digits = λ j low high.
                ⊎_elim (λ (q : j ≡ m). rw q (d.0, d.1)) (λ (q : j < m). s.digits j low q) (eq-or-lt_of_le (le_of_suc-le-suc high));
          }
      go Malformed ef r before = absurd (number_not_malformed n (sym r))

  spaces_blank : (m : ℕ) → ((j : ℕ) → j < m → get_or file (at + j) 0 ≡ 32) → front padded file at m ≡ Blank
  spaces_blank zero h = refl
  spaces_blank (suc m) h = rw (spaces_blank m (λ j l. h j (omega arith)), h m (omega arith))

  digit_passes : (b : ℕ) (f : Field) → IsDigit b → digit b f ≡ f
  digit_passes b f d = rw (le-ltb b 48 d.0, lt-ltb b 58 d.1)

  digits_number : (m k : ℕ) → k < m → ((j : ℕ) → j < k → get_or file (at + j) 0 ≡ 32)
      → ((j : ℕ) → k ≤ j → j < m → IsDigit (get_or file (at + j) 0)) → fits true (front padded file at m) ≡ true
  digits_number zero k l s d = absurd (omega arith)
  digits_number (suc m) k l s d =
      ⊎_elim
      (λ (q : k ≡ m).
      let e = spaces_blank m (λ j w. s j (omega arith)) in
      rw (e, ne_eqb b 32 (λ z. omega (arith, here.0)), digit_passes b (Number (b - 48)) here))
      (λ (q : k < m). more (front padded file at m) (digits_number m k q s (λ j low high. d j low (omega arith))))
      (eq-or-lt_of_le (le_of_suc-le-suc l))
    where
      b : ℕ
      b = get_or file (at + m) 0

      here : IsDigit b
      here = d m (omega arith) (omega arith)

      more : (f : Field) → fits true f ≡ true → fits true (step padded f b) ≡ true
      more Blank e = absurd (false≢true e)
      more (Number n) e = rw (digit_passes b (Number (n * 10 + (b - 48))) here)
      more Malformed e = absurd (false≢true e)

  -- A field of five bytes holds a number exactly where it is spaces and then one or more digits.
  pub padded_exactly : (fits true (field_at padded file at) ≡ true) ↔ SpacesThenDigits file at 5
  unfolding field_at
  padded_exactly = (
    λ h. go (front padded file at 5) refl h,
    λ s. digits_number 5 s.spaces s.some-digit s.blank s.digits,
  )
    where
      go : (f : Field) → front padded file at 5 ≡ f → fits true f ≡ true → SpacesThenDigits file at 5
      go Blank e h = absurd (false≢true h)
      go (Number n) e h = number_digits 5 n e
      go Malformed e h = absurd (false≢true h)
