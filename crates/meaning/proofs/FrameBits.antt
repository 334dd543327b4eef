-- A number exclusive-or its half, and the setting by the bits of a number. `halved_mirror` is what makes the walk go back: below a top bit
-- the bits are those of the mirrored number. `by_bits_one` and `by_bits_two` split the setting at its first open element.
use mathlib.Core.Path.{◌≡◌, refl, sym, ap, ap₂, ◌∙◌}
use mathlib.Core.Bool.{true}
use mathlib.Core.List.{List, [], ◌∷◌}
use mathlib.Mathlib.Data.Bool.Basic.{and_intro}
use Prim.Native.Nat.{ℕ, zero, suc, ◌+◌, ◌-◌, ◌*◌, ◌/◌, ◌%◌, ◌^◌, ◌≤◌, ◌<◌}
use native.Mathlib.Nat.{div-eq_of_lt, div-one, one-mul}
use native.Mathlib.Numerals.{one-add}
use native.Mathlib.Omega.{arith}
use lib.Bits.{differ, xor_step, xor_lt, block_half, block_odd}
use lib.Pow.{high, shr-shr}
use borrow.Author.Tests.{eq-eqb}
use Rattle.meaning.specs.Settings.{open_count, is_setting}
use Rattle.meaning.specs.Frames.{halved_xor, by_bits}

-- ---- n exclusive-or n halved
-- n exclusive-or n halved has no more bits than n.
pub halved_lt : (k n : ℕ) → n < 2 ^ k → halved_xor n < 2 ^ k
unfolding halved_xor
halved_lt k n h = xor_lt k n (n / 2) h (omega arith)

-- n exclusive-or n halved, by its lowest bit and the rest.
halved_step : (n : ℕ) → halved_xor n ≡ halved_xor (n / 2) * 2 + differ (n % 2) (n / 2 % 2)
unfolding halved_xor
halved_step n = xor_step n (n / 2)

-- Digits that are both exchanged differ as before.
differ_both : (x y : ℕ) → x < 2 → y < 2 → differ (1 - x) (1 - y) ≡ differ x y
differ_both x y h h2 = grind arith

-- Of two numbers with an odd sum, one is odd.
odd_sum : (u v w : ℕ) → u + v ≡ w * 2 + 1 → u % 2 ≡ 1 - v % 2
odd_sum u v w e = grind arith

-- Of a number with bit k on top, the lower bits are those of its mirror below 2 ^ k.
pub halved_mirror : (k j : ℕ) → j < 2 ^ k → halved_xor (2 ^ k + j) ≡ 2 ^ k + halved_xor (2 ^ k - 1 - j)
unfolding halved_xor
halved_mirror zero zero h = refl
halved_mirror zero (suc j) h = absurd (omega arith)
halved_mirror (suc k) j h =
    let a : ℕ = 2 ^ suc k + j in
    let b : ℕ = 2 ^ suc k - 1 - j in
    let l : j / 2 < 2 ^ k = omega arith in
    let a₂ : a / 2 ≡ 2 ^ k + j / 2 = omega arith in
    let b₂ : b / 2 ≡ 2 ^ k - 1 - j / 2 = omega arith in
    let r : halved_xor (a / 2) ≡ 2 ^ k + halved_xor (b / 2) = ap halved_xor a₂ ∙ halved_mirror k (j / 2) l ∙ ap (λ (x : ℕ). 2 ^ k + halved_xor x) (sym b₂) in
    let low : b % 2 ≡ 1 - a % 2 = omega arith in
    let next : b / 2 % 2 ≡ 1 - a / 2 % 2 = odd_sum (b / 2) (a / 2) (2 ^ k - 1) (omega arith) in
    let d : differ (b % 2) (b / 2 % 2) ≡ differ (a % 2) (a / 2 % 2) =
    ap₂ differ low next ∙ differ_both (a % 2) (a / 2 % 2) (omega arith) (omega arith) in
    omega (arith, halved_step a, halved_step b, r, d)

-- ---- the setting by the bits of a number
-- Bits at j and above it do not change those below.
bit_below : (i j c x : ℕ) → i < j → (c * 2 ^ j + x) / 2 ^ i % 2 ≡ x / 2 ^ i % 2
bit_below i zero c x h = absurd (omega arith)
bit_below zero (suc j) c x h = ap (λ (y : ℕ). y % 2) (div-one (c * 2 ^ suc j + x)) ∙ block_odd c j x ∙ ap (λ (y : ℕ). y % 2) (sym (div-one x))
bit_below (suc i) (suc j) c x h =
    ap (λ (y : ℕ). y % 2) (half (c * 2 ^ suc j + x) ∙ ap (λ (y : ℕ). y / 2 ^ i) (block_half c j x))
    ∙ bit_below i j c (x / 2) (omega arith)
    ∙ ap (λ (y : ℕ). y % 2) (sym (half x))
  where
    half : (y : ℕ) → y / 2 ^ suc i ≡ y / 2 / 2 ^ i
    half y = sym (shr-shr y 1 i ∙ ap (λ (k : ℕ). y / 2 ^ k) (one-add i))

by_low_bits : (fs : List ℕ) (j c x : ℕ) → open_count fs ≤ j → by_bits fs (c * 2 ^ j + x) ≡ by_bits fs x
unfolding by_bits open_count
by_low_bits [] j c x h = refl
by_low_bits (zero ∷ fs) j c x h = grind (arith, bit_below, by_low_bits fs j c x (omega arith))
by_low_bits (suc f ∷ fs) j c x h = ap (λ (σ : List ℕ). suc f ∷ σ) (by_low_bits fs j c x h)

-- An open element is at 1 where the number is below 2 to the power of the open ones behind it.
pub by_bits_one : (fs : List ℕ) (x : ℕ) → x < 2 ^ open_count fs → by_bits (0 ∷ fs) x ≡ 1 ∷ by_bits fs x
unfolding by_bits
by_bits_one fs x h = rw (div-eq_of_lt h)

-- An open element is at 2 where the number is that power or more, and the elements behind it go by the rest.
pub by_bits_two : (fs : List ℕ) (x : ℕ) → x < 2 ^ open_count fs → by_bits (0 ∷ fs) (2 ^ open_count fs + x) ≡ 2 ∷ by_bits fs x
unfolding by_bits
by_bits_two fs x h =
    let k = open_count fs in
    let e : 2 ^ k + x ≡ 1 * 2 ^ k + x = ap (λ (y : ℕ). y + x) (sym (one-mul (2 ^ k))) in
    ap (by_bits (0 ∷ fs)) e
    ∙ ap₂ (λ (b : ℕ) (σ : List ℕ). (b % 2 + 1) ∷ σ) (high 1 k h) (by_low_bits fs k 1 x (omega arith))

-- `by_bits` is a setting, whatever the number.
pub by_bits_setting : (fs : List ℕ) (x : ℕ) → is_setting fs (by_bits fs x) ≡ true
unfolding by_bits is_setting
by_bits_setting [] x = refl
by_bits_setting (zero ∷ fs) x = grind (arith, by_bits_setting fs x)
by_bits_setting (suc f ∷ fs) x = and_intro (eq-eqb (suc f) (suc f) refl) (by_bits_setting fs x)
