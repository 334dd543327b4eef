-- A number taken apart by subtracting powers of ten: what stands above five digits (`above_is`), the five digits and the count (`figured_is`),
-- and the bytes that they are stored as (`field_stored`, `short_stored`).
use mathlib.Core.Path.{◌≡◌, refl, sym, ◌∙◌}
use mathlib.Core.Bool.{Bool, true, false, cond}
use mathlib.Core.List.{List, [], ◌∷◌}
use Prim.Native.Nat.{ℕ, ◌+◌, ◌*◌, ◌/◌, ◌%◌, ◌≤◌, ◌<◌}
use native.Mathlib.Omega.{arith}
use native.Mathlib.Nat.{div-eq_of_lt}
use lib.Dec.{ltb}
use lib.ListN.{set, length}
use lib.Seq.{sets}
use borrow.Author.Tests.{le-ltb, ltb-true, ltb-false, eq-eqb, ne_eqb}
use Rattle.meaning.specs.Columns.{place, field_text, spaces}
use Rattle.meaning.specs.Digits.{digit_sum}
use Rattle.meaning.proofs.Digits.{low_none, low-zero, low_five, digits_split, digits_short}
use Rattle.line_writer.specs.declared.Subtracted.{Subtracted}
use Rattle.line_writer.specs.declared.Figures.{Figures}
use Rattle.line_writer.specs.Digits.{Divides, Above, Figured}
use Rattle.std.proofs.lemmas.List.{append-nil, drop_all}
use Rattle.std.proofs.lemmas.List.Edits.{sets-eq}

-- ---- above five digits
-- A number below 100000 has nothing above five digits.
pub above_none : (n : ℕ) → n < 100000 → Above n (record { times = 0; rest = n })
above_none n l =
    let z : n / 100000 ≡ 0 = omega arith in
    record { rest = omega arith; times = rw z (sym (low-zero 5)); few = omega arith }

pub above_is : (n : ℕ) (a b c d e : Subtracted) → n < 4294967296 → Divides n 1000000000 a → Divides a.rest 100000000 b
    → Divides b.rest 10000000 c → Divides c.rest 1000000 d → Divides d.rest 100000 e
    → Above n (record { times = a.times + b.times + c.times + d.times + e.times; rest = e.rest })
above_is n a b c d e l da db dc dd de =
    let ha : a.times < 10 = omega (arith, da.whole) in
    let hb : b.times < 10 = omega (arith, db.whole, da.rest) in
    let hc : c.times < 10 = omega (arith, dc.whole, db.rest) in
    let hd : d.times < 10 = omega (arith, dd.whole, dc.rest) in
    let he : e.times < 10 = omega (arith, de.whole, dd.rest) in
    let w : n ≡ (a.times * 10000 + b.times * 1000 + c.times * 100 + d.times * 10 + e.times) * 100000 + e.rest = omega arith in
    let q : n / 100000 ≡ a.times * 10000 + b.times * 1000 + c.times * 100 + d.times * 10 + e.times = omega (arith, w, de.rest) in
    let sum = low_five 0 0 a.times b.times c.times d.times e.times (n / 100000) ha hb hc hd he (omega (arith, q)) in
    record { rest = omega (arith, w, de.rest); times = omega (arith, sum, low_none 0); few = omega arith }

-- ---- five digits
-- There are at most nine subtractions for each digit, those above included.
few_in_all : (h a b c d e : ℕ) → h ≤ 45 → a < 10 → b < 10 → c < 10 → d < 10 → e < 10 → h + a + b + c + d + e ≤ 90
few_in_all h a b c d e lh la lb lc ld le = omega arith

pub figured_is : (n : ℕ) (h a b c d e : Subtracted) → Above n h → Divides h.rest 10000 a → Divides a.rest 1000 b
    → Divides b.rest 100 c → Divides c.rest 10 d → Divides d.rest 1 e
    → Figured n
    (record {
      first = a.times;
      second = b.times;
      third = c.times;
      fourth = d.times;
      fifth = e.times;
      count = h.times + a.times + b.times + c.times + d.times + e.times;
    })
figured_is n h a b c d e dh da db dc dd de =
    let ha : a.times < 10 = omega (arith, da.whole, dh.rest) in
    let hb : b.times < 10 = omega (arith, db.whole, da.rest) in
    let hc : c.times < 10 = omega (arith, dc.whole, db.rest) in
    let hd : d.times < 10 = omega (arith, dd.whole, dc.rest) in
    let he : e.times < 10 = omega (arith, de.whole, dd.rest) in
    let q : ℕ = n / 100000 in
    let w : n ≡ q * 100000 + a.times * 10000 + b.times * 1000 + c.times * 100 + d.times * 10 + e.times = omega arith in
    let x1 : n / 10000 ≡ q * 10 + a.times = omega (arith, w) in
    let x2 : n / 1000 ≡ q * 100 + a.times * 10 + b.times = omega (arith, w) in
    let x3 : n / 100 ≡ q * 1000 + a.times * 100 + b.times * 10 + c.times = omega (arith, w) in
    let x4 : n / 10 ≡ q * 10000 + a.times * 1000 + b.times * 100 + c.times * 10 + d.times = omega (arith, w) in
    let five = low_five 0 q a.times b.times c.times d.times e.times n ha hb hc hd he w in
    record {
      first = omega (arith, x1);
      second = omega (arith, x2);
      third = omega (arith, x3);
      fourth = omega (arith, x4);
      fifth = omega (arith, w);
      count = omega (arith, five, low_none q, digits_split n, dh.times);
      few = few_in_all h.times a.times b.times c.times d.times e.times dh.few ha hb hc hd he;
    }

-- ---- the bytes
-- The byte stored for a digit is the one printed at its place.
place_byte : (n power d q : ℕ) → q ≡ n / power → d ≡ q % 10 → (n < power → q ≡ 0) → (power ≤ n → q ≡ 0 → ⊥)
    → cond (ltb n power) 32 (d + 48) ≡ place q
place_byte n power d q eq ed below at_least_lem = go (ltb n power) refl
  where
    go : (t : Bool) → ltb n power ≡ t → cond t 32 (d + 48) ≡ place q
    go true e = rw (eq-eqb q 0 (below (ltb-true n power e)))
    go false e = rw (ne_eqb q 0 (at_least_lem (ltb-false n power e)), ed)

-- Stored over the whole of a list.
sets_all : (xs l : List ℕ) → length l ≡ length xs → sets l 0 xs ≡ xs
sets_all xs l h = sets-eq xs l 0 (omega arith) ∙ rw (drop_all (0 + length xs) l (omega arith), append-nil xs)

module _ (n : ℕ) (f : Figures) (is : Figured n f) (b0 : List ℕ) (long : length b0 ≡ 5) where
  pub field_stored : {w x y z v : ℕ} {b1 b2 b3 b4 b5 : List ℕ}
      → w ≡ cond (ltb n 10000) 32 (f.first + 48) → b1 ≡ set b0 0 w
      → x ≡ cond (ltb n 1000) 32 (f.second + 48) → b2 ≡ set b1 1 x
      → y ≡ cond (ltb n 100) 32 (f.third + 48) → b3 ≡ set b2 2 y
      → z ≡ cond (ltb n 10) 32 (f.fourth + 48) → b4 ≡ set b3 3 z
      → v ≡ cond (ltb n 0) 32 (f.fifth + 48) → b5 ≡ set b4 4 v
      → b5 ≡ field_text n
  unfolding field_text
  field_stored ew e1 ex e2 ey e3 ez e4 ev e5 =
      rw (
        e5,
        e4,
        e3,
        e2,
        e1,
        ew,
        ex,
        ey,
        ez,
        ev,
        place_byte n 10000 f.first (n / 10000) refl is.first (λ l. omega arith) (λ l z. omega arith),
        place_byte n 1000 f.second (n / 1000) refl is.second (λ l. omega arith) (λ l z. omega arith),
        place_byte n 100 f.third (n / 100) refl is.third (λ l. omega arith) (λ l z. omega arith),
        place_byte n 10 f.fourth (n / 10) refl is.fourth (λ l. omega arith) (λ l z. omega arith),
        le-ltb n 0 (omega arith),
        is.fifth,
      )
      (sets_all (field_text n) b0 long)

-- ---- a number below 1000, in five bytes that are spaces
-- After its hundreds, if it has any, and after its tens: how many subtractions there were, what is left, and the bytes.
pub record Hundreds (n times rest : ℕ) (b : List ℕ) : Type 0 where
  pub taken : times ≡ n / 100
  pub left : rest ≡ n % 100
  pub stands : b ≡ 32 ∷ 32 ∷ place (n / 100) ∷ 32 ∷ 32 ∷ []

pub record Tens (n times rest : ℕ) (b : List ℕ) : Type 0 where
  pub taken : times ≡ n / 100 + n / 10 % 10
  pub left : rest ≡ n % 10
  pub stands : b ≡ 32 ∷ 32 ∷ place (n / 100) ∷ place (n / 10) ∷ 32 ∷ []

-- A space before the number, and a digit in it.
space : (n k : ℕ) → n < k → place (n / k) ≡ 32
space n k h = rw (div-eq_of_lt h)

printed : (q d : ℕ) → 0 < q → d ≡ q % 10 → d + 48 ≡ place q
printed q d h e = rw (ne_eqb q 0 (omega arith), e)

module _ (n : ℕ) where
  pub hundreds_none : {b0 : List ℕ} → n < 100 → b0 ≡ spaces → Hundreds n 0 n b0
  hundreds_none l blank = record { taken = omega arith; left = omega arith; stands = rw (space n 100 l) blank }

  pub hundreds_some : (a : Subtracted) {x : ℕ} {b0 b : List ℕ} → 100 ≤ n → n < 1000 → b0 ≡ spaces → Divides n 100 a
      → x ≡ a.times + 48 → b ≡ set b0 2 x → Hundreds n a.times a.rest b
  hundreds_some a g l blank d ex e =
      let t : a.times ≡ n / 100 = omega (arith, d.whole, d.rest) in
      record {
        taken = t;
        left = omega (arith, d.whole, d.rest);
        stands = rw (e, blank, ex, printed (n / 100) a.times (omega arith) (omega arith));
      }

  pub tens_none : {b0 : List ℕ} → n < 10 → b0 ≡ spaces → Tens n 0 n b0
  tens_none l blank =
      record { taken = omega arith; left = omega arith; stands = rw (space n 100 (omega arith), space n 10 l) blank }

  pub tens_some : (t : Subtracted) {times rest y : ℕ} {b c : List ℕ} → 10 ≤ n → Hundreds n times rest b → Divides rest 10 t
      → y ≡ t.times + 48 → c ≡ set b 3 y → Tens n (times + t.times) t.rest c
  tens_some t {b = b} g h d ey e =
      let is : t.times ≡ n / 10 % 10 = omega (arith, d.whole, d.rest, h.left) in
      record {
        taken = omega (arith, is, h.taken);
        left = omega (arith, d.whole, d.rest, h.left);
        stands = rw (e, h.stands, ey, printed (n / 10) t.times (omega arith) is);
      }

  -- Known of equal numbers and bytes.
  pub hundreds_same : {times times' rest rest' : ℕ} {b b' : List ℕ} → b' ≡ b → times' ≡ times → rest' ≡ rest
      → Hundreds n times rest b → Hundreds n times' rest' b'
  hundreds_same e f g h = rw (e, f, g) h

  pub tens_same : {times times' rest rest' : ℕ} {b b' : List ℕ} → b' ≡ b → times' ≡ times → rest' ≡ rest
      → Tens n times rest b → Tens n times' rest' b'
  tens_same e f g h = rw (e, f, g) h

  -- With its ones it is stored, and the subtractions are counted.
  pub short_stored : (o : Subtracted) {times rest z : ℕ} {b c : List ℕ} → n < 1000 → Tens n times rest b → Divides rest 1 o
      → z ≡ o.times + 48 → c ≡ set b 4 z
      → (c ≡ field_text n) × ((times + o.times ≡ digit_sum n) × (times + o.times ≤ 90))
  unfolding field_text
  short_stored o l t d ez e =
      let is : o.times ≡ n % 10 = omega (arith, d.whole, d.rest, t.left) in (
        rw (space n 10000 (omega arith), space n 1000 l, e, t.stands, ez, is),
        (omega (arith, is, t.taken, digits_short n l), omega (arith, is, t.taken)),
      )
