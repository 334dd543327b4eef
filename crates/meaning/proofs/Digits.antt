-- The digits that are summed are those that are printed: `printed_five`, for any number; up to 99999 these are all its digits
-- (`printed_all`), above it the others are counted too (`digits_split`). A text has at most nine for each of its bytes (`printed_few`).
use mathlib.Core.Path.{◌≡◌, refl, ap}
use mathlib.Core.Bool.{Bool}
use mathlib.Core.List.{List, [], ◌∷◌, ◌++◌}
use Prim.Native.Nat.{ℕ, zero, suc, ◌+◌, ◌*◌, ◌/◌, ◌%◌, ◌≤◌, ◌<◌}
use native.Mathlib.Omega.{arith}
use lib.ListN.{length}
use Rattle.meaning.specs.Columns.{place, field_text, cell_text, row_text}
use Rattle.meaning.specs.Digits.{low_sum, digit_sum, cell_sum, row_sum, byte_sum, printed_sum}

-- One digit more.
pub low_more : (k q d n : ℕ) → d < 10 → n ≡ q * 10 + d → low_sum (suc k) n ≡ d + low_sum k q
unfolding low_sum
low_more k q d n h e = grind arith

-- No digit, and no digit but zeros.
pub low_none : (n : ℕ) → low_sum 0 n ≡ 0
unfolding low_sum
low_none n = refl

pub low-zero : (k : ℕ) → low_sum k 0 ≡ 0
unfolding low_sum
low-zero zero = refl
low-zero (suc k) = ap (λ (x : ℕ). 0 + x) (low-zero k)

-- Five digits more.
pub low_five : (k q a b c d e n : ℕ) → a < 10 → b < 10 → c < 10 → d < 10 → e < 10
    → n ≡ q * 100000 + a * 10000 + b * 1000 + c * 100 + d * 10 + e
    → low_sum (suc (suc (suc (suc (suc k))))) n ≡ e + d + c + b + a + low_sum k q
low_five k q a b c d e n ha hb hc hd he h =
    omega (
      arith,
      low_more (suc (suc (suc (suc k)))) (q * 10000 + a * 1000 + b * 100 + c * 10 + d) e n he (omega arith),
      low_more (suc (suc (suc k))) (q * 1000 + a * 100 + b * 10 + c) d (q * 10000 + a * 1000 + b * 100 + c * 10 + d) hd (omega arith),
      low_more (suc (suc k)) (q * 100 + a * 10 + b) c (q * 1000 + a * 100 + b * 10 + c) hc (omega arith),
      low_more (suc k) (q * 10 + a) b (q * 100 + a * 10 + b) hb (omega arith),
      low_more k q a (q * 10 + a) ha refl,
    )

module _ (n : ℕ) where
  -- The sum of five digits, said by the digits of n.
  by_digits : (k : ℕ)
      → low_sum (suc (suc (suc (suc (suc k))))) n
      ≡ n % 10 + n / 10 % 10 + n / 100 % 10 + n / 1000 % 10 + n / 10000 % 10 + low_sum k (n / 100000)
  by_digits k =
      let h : n / 10 / 10 ≡ n / 100 = omega arith in
      let t : n / 100 / 10 ≡ n / 1000 = omega arith in
      let u : n / 1000 / 10 ≡ n / 10000 = omega arith in
      let v : n / 10000 / 10 ≡ n / 100000 = omega arith in
      low_five k (n / 100000) (n / 10000 % 10) (n / 1000 % 10) (n / 100 % 10) (n / 10 % 10) (n % 10) n
      (omega arith) (omega arith) (omega arith) (omega arith) (omega arith) (omega arith)

  -- The five lowest digits, and those above them.
  pub digits_split : digit_sum n ≡ low_sum 5 n + low_sum 5 (n / 100000)
  unfolding digit_sum
  digits_split = omega (arith, by_digits 5, by_digits 0, low_none (n / 100000))

  -- The sum of the digits of a number below 1000.
  pub digits_short : n < 1000 → digit_sum n ≡ n % 10 + n / 10 % 10 + n / 100 % 10
  digits_short l =
      let z : n / 100000 ≡ 0 = omega arith in
      let none : low_sum 5 (n / 100000) ≡ 0 = rw z (low-zero 5) in
      let u : n / 10000 ≡ 0 = omega arith in
      omega (arith, digits_split, by_digits 0, low_none (n / 100000))

-- A byte that is printed for a number's last digit.
place-digit : (q : ℕ) (l : List ℕ) → printed_sum (place q ∷ l) ≡ q % 10 + printed_sum l
unfolding printed_sum
place-digit q l = grind arith

ones_digit : (n : ℕ) → printed_sum ((n % 10 + 48) ∷ []) ≡ n % 10
unfolding printed_sum
ones_digit n = grind arith

-- The printed digits of any number are its five lowest.
pub printed_five : (n : ℕ) → printed_sum (field_text n) ≡ low_sum 5 n
unfolding field_text
printed_five n =
    omega (
      arith,
      place-digit (n / 10000) (place (n / 1000) ∷ place (n / 100) ∷ place (n / 10) ∷ (n % 10 + 48) ∷ []),
      place-digit (n / 1000) (place (n / 100) ∷ place (n / 10) ∷ (n % 10 + 48) ∷ []),
      place-digit (n / 100) (place (n / 10) ∷ (n % 10 + 48) ∷ []),
      place-digit (n / 10) ((n % 10 + 48) ∷ []),
      ones_digit n,
      by_digits n 0,
      low_none (n / 100000),
    )

-- Up to 99999 they are all its digits.
pub printed_all : (n : ℕ) → n ≤ 99999 → printed_sum (field_text n) ≡ digit_sum n
printed_all n h =
    let z : n / 100000 ≡ 0 = omega arith in
    let none : low_sum 5 (n / 100000) ≡ 0 = rw z (low-zero 5) in
    omega (arith, printed_five n, digits_split n)

-- ---- a text
pub printed_few : (l : List ℕ) → printed_sum l ≤ 9 * length l
unfolding printed_sum
printed_few [] = omega arith
printed_few (b ∷ l) = grind (arith, printed_few l)

pub printed_append : (xs ys : List ℕ) → printed_sum (xs ++ ys) ≡ printed_sum xs + printed_sum ys
unfolding printed_sum
printed_append [] ys = omega arith
printed_append (x ∷ xs) ys = omega (arith, printed_append xs ys)

cell_printed : (filled : Bool) (n : ℕ) → n ≤ 99999 → printed_sum (cell_text filled n) ≡ cell_sum filled n
unfolding printed_sum
cell_printed filled n h = grind (arith, printed_all)

line_feed : printed_sum (10 ∷ []) ≡ 0
unfolding printed_sum
line_feed = refl

-- A byte in front.
printed_cons : (b : ℕ) (l : List ℕ) → printed_sum (b ∷ l) ≡ byte_sum b + printed_sum l
unfolding printed_sum
printed_cons b l = refl

-- The digits that a row prints are those that are summed, where its letter is no digit.
pub row_printed : (letter filled a b c d : ℕ) → byte_sum letter ≡ 0 → a ≤ 99999 → b ≤ 99999 → c ≤ 99999 → d ≤ 99999
    → printed_sum (row_text letter filled a b c d) ≡ row_sum filled a b c d
unfolding row_text row_sum
row_printed letter filled a b c d hl ha hb hc hd = grind (arith, cell_printed, line_feed, printed_append, printed_cons)

-- 0 has count 0; above 99999 all digits are summed.
pub examples : (digit_sum 0 ≡ 0) × (digit_sum 99999 ≡ 45) × (digit_sum 100000 ≡ 1) × (digit_sum 4294967295 ≡ 57)
unfolding digit_sum low_sum
examples = (refl, refl, refl, refl)
