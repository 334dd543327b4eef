-- Laws of `lowest`, `found`, `total` and `count`, which test or add up the numbers from 1 to n, by induction on n. Those of `lowest`
-- follow from `lowest_is`, which says what `lowest` gives, and `lowest_unique`: nothing else has that property.
use mathlib.Core.Path.{◌≡◌, refl, sym, ap, ap₂, subst, ◌∙◌}
use mathlib.Core.Bool.{Bool, true, false, not, cond, ◌&&◌, ◌||◌, false≢true}
use mathlib.Core.Logic.{⊎_elim}
use Prim.Native.Nat.{ℕ, zero, suc, ◌+◌, ◌*◌, ◌≤◌, ◌<◌}
use native.Mathlib.Nat.{eq-or-lt_of_le, add-le-add, add-zero, zero-add, add-suc, zero-mul, mul-zero, suc-mul}
use native.Mathlib.Numerals.{one-add}
use native.Mathlib.Omega.{arith}
use lib.Dec.{eqb}
use borrow.Author.Tests.{eqb-true, eq-eqb, ne_eqb}
use Rattle.basics.specs.Numbers.{found, lowest, total, count}

-- Each number from 1 to n has P.
abbrev pub Each : ℕ → (ℕ → Type 0) → Type 0
Each n P = (k : ℕ) → 1 ≤ k → k ≤ n → P k

-- What holds from 1 to n and at n + 1 holds from 1 to n + 1.
pub each_more : (n : ℕ) (P : ℕ → Type 0) → Each n P → P (suc n) → Each (suc n) P
each_more n P all last k low high = ⊎_elim (λ e. subst P (sym e) last) (λ l. all k low (omega arith)) (eq-or-lt_of_le high)

-- What holds from 1 to n + 1 holds from 1 to n.
each_less : (n : ℕ) (P : ℕ → Type 0) → Each (suc n) P → Each n P
each_less n P all k low high = all k low (omega arith)

-- No number from 1 to n passes the test.
abbrev pub None : ℕ → (ℕ → Bool) → Type 0
None n f = Each n (λ k. f k ≡ false)

-- ---- the lowest number that passes
-- l is the lowest number from 1 to n that passes the test f, or 0 where none does.
abbrev pub IsLowest : ℕ → (ℕ → Bool) → ℕ → Type 0
IsLowest n f zero = None n f
IsLowest n f (suc k) = (suc k ≤ n) × (f (suc k) ≡ true) × None k f

-- What `lowest` gives is the lowest.
pub lowest_is : (n : ℕ) (f : ℕ → Bool) → IsLowest n f (lowest n f)
unfolding lowest
lowest_is zero f = λ k low high. absurd (omega arith)
lowest_is (suc n) f = grind (arith, lowest_is n f)

-- Two lowest numbers of one test are equal.
one_lowest : (n : ℕ) (f : ℕ → Bool) (l m : ℕ) → IsLowest n f l → IsLowest n f m → l ≡ m
one_lowest n f l m h h2 = grind arith

-- What is the lowest is what `lowest` gives.
pub lowest_unique : (n : ℕ) (f : ℕ → Bool) (l : ℕ) → IsLowest n f l → lowest n f ≡ l
lowest_unique n f l h = one_lowest n f (lowest n f) l (lowest_is n f) h

-- Where `lowest` gives 0, none passes.
pub lowest_none : (n : ℕ) (f : ℕ → Bool) → lowest n f ≡ 0 → None n f
lowest_none n f e = subst (IsLowest n f) e (lowest_is n f)

-- Where none passes, `lowest` gives 0.
pub none_lowest : (n : ℕ) (f : ℕ → Bool) → None n f → lowest n f ≡ 0
none_lowest n f none = lowest_unique n f 0 none

-- No number below what `lowest` gives passes.
pub lowest_least : (n : ℕ) (f : ℕ → Bool) (k : ℕ) → lowest n f ≡ suc k → None k f
lowest_least n f k e = (subst (IsLowest n f) e (lowest_is n f)).2

-- What `lowest` gives is at most n.
pub lowest_within : (n : ℕ) (f : ℕ → Bool) → lowest n f ≤ n
lowest_within n f = grind (arith, lowest_is)

-- Tests that agree from 1 to n have the same lowest number.
pub lowest_ext : (n : ℕ) (f g : ℕ → Bool) → Each n (λ k. f k ≡ g k) → lowest n f ≡ lowest n g
unfolding lowest
lowest_ext zero f g same = refl
lowest_ext (suc n) f g same =
    ap₂ (λ (l : ℕ) (b : Bool). elim l as (λ x. ℕ) [ zero ↦ cond b (suc n) 0 | suc k ↦ suc k ])
    (lowest_ext n f g (each_less n (λ k. f k ≡ g k) same))
    (same (suc n) (omega arith) (omega arith))

-- ---- whether there is one
-- Only 0 is not found.
pub not-found-zero : (l : ℕ) → found l ≡ false → l ≡ 0
not-found-zero l h = grind arith

-- A number is found where it is not 0.
pub found_test : (l : ℕ) → found l ≡ not (eqb l 0)
found_test l = grind arith

-- Where one passes, the lowest is found.
pub found-lowest : (n : ℕ) (f : ℕ → Bool) (k : ℕ) → 1 ≤ k → k ≤ n → f k ≡ true → found (lowest n f) ≡ true
found-lowest n f k low high e = grind (arith, lowest_is)

-- Where the lowest is not found, none passes.
pub not-found_none : (n : ℕ) (f : ℕ → Bool) → found (lowest n f) ≡ false → None n f
not-found_none n f e = lowest_none n f (not-found-zero (lowest n f) e)

-- Where the lowest is found, it passes and none below it does.
pub found_passes : (n : ℕ) (f : ℕ → Bool) → found (lowest n f) ≡ true
    → (1 ≤ lowest n f) × (lowest n f ≤ n) × (f (lowest n f) ≡ true) × ((j : ℕ) → 1 ≤ j → j < lowest n f → f j ≡ false)
found_passes n f = grind (arith, lowest_is)

-- The lowest number up to which one passes is the lowest that passes.
pub lowest_first : (n : ℕ) (f : ℕ → Bool) → lowest n (λ m. found (lowest m f)) ≡ lowest n f
lowest_first n f = grind (arith, lowest_is)

-- ---- sums
-- Functions that agree from 1 to n have the same total.
pub total_ext : (n : ℕ) (f g : ℕ → ℕ) → Each n (λ k. f k ≡ g k) → total n f ≡ total n g
unfolding total
total_ext zero f g same = refl
total_ext (suc n) f g same =
    ap₂ ◌+◌ (total_ext n f g (each_less n (λ k. f k ≡ g k) same)) (same (suc n) (omega arith) (omega arith))

-- A function that is at most another from 1 to n has at most its total.
pub total_mono : (n : ℕ) (f g : ℕ → ℕ) → Each n (λ k. f k ≤ g k) → total n f ≤ total n g
unfolding total
total_mono zero f g below = omega arith
total_mono (suc n) f g below =
    add-le-add (total_mono n f g (each_less n (λ k. f k ≤ g k) below)) (below (suc n) (omega arith) (omega arith))

-- The total of a constant.
pub total_const : (n c : ℕ) → total n (λ k. c) ≡ n * c
unfolding total
total_const zero c = sym (zero-mul c)
total_const (suc n) c = rw (total_const n c, suc-mul)

-- The total of sums is the sum of the totals.
pub total-add : (n : ℕ) (f g : ℕ → ℕ) → total n (λ k. f k + g k) ≡ total n f + total n g
unfolding total
total-add zero f g = refl
total-add (suc n) f g = omega (arith, total-add n f g)

-- The sum to m + n is the sum to m and the sum over the n numbers after m.
pub total-after : (m n : ℕ) (f : ℕ → ℕ) → total (m + n) f ≡ total m f + total n (λ k. f (m + k))
unfolding total
total-after m zero f = ap (λ (x : ℕ). total x f) (add-zero m) ∙ sym (add-zero (total m f))
total-after m (suc n) f = ap (λ (x : ℕ). total x f) (add-suc m n) ∙ omega (arith, total-after m n f, ap f (add-suc m n))

-- Two totals may be taken in either order.
pub total_swap : (m n : ℕ) (f : ℕ → ℕ → ℕ) → total m (λ t. total n (f t)) ≡ total n (λ a. total m (λ t. f t a))
unfolding total
total_swap zero n f = sym (total_const n 0 ∙ mul-zero n)
total_swap (suc m) n f =
    rw (total_swap m n f) (sym (total-add n (λ a. total m (λ t. f t a)) (f (suc m))))

-- The numbers that pass a test add up to at most the whole total.
pub total-part-le : (n : ℕ) (f : ℕ → Bool) (w : ℕ → ℕ) → total n (λ k. cond (f k) (w k) 0) ≤ total n w
total-part-le n f w = grind (arith, total_mono)

-- Where at most one of m numbers passes, c is counted at most once.
pub total-once-le :
    (m : ℕ) (f : ℕ → Bool) (c : ℕ)
    → ((t u : ℕ) → 1 ≤ t → t < u → u ≤ m → (f t && f u) ≡ false)
    → total m (λ t. cond (f t) c 0) ≤ c
unfolding total
total-once-le zero f c alone = omega arith
total-once-le (suc m) f c alone = last (f (suc m)) refl (total-once-le m f c (λ t u low less high. alone t u low less (omega arith)))
  where
    other : (a b : Bool) → (a && b) ≡ false → b ≡ true → cond a c 0 ≡ 0
    other true b e h = absurd (false≢true (sym e ∙ h))
    other false b e h = refl

    last : (b : Bool) → f (suc m) ≡ b → total m (λ t. cond (f t) c 0) ≤ c → total m (λ t. cond (f t) c 0) + cond b c 0 ≤ c
    last true e h =
        omega (
          arith,
          total_ext m (λ t. cond (f t) c 0) (λ t. 0)
              (λ t low high. other (f t) (f (suc m)) (alone t (suc m) low (omega arith) (omega arith)) e),
          total_const m 0,
        )
    last false e h = omega arith

-- The total of one number's value.
total_single : (n : ℕ) (w : ℕ → ℕ) (j : ℕ) → 1 ≤ j → j ≤ n → total n (λ k. cond (eqb k j) (w k) 0) ≡ w j
unfolding total
total_single zero w j low high = absurd (omega arith)
total_single (suc n) w j low high = ⊎_elim here (λ l. before l (total_single n w j low (omega arith))) (eq-or-lt_of_le high)
  where
    value : (k : ℕ) {b : Bool} → eqb k j ≡ b → cond (eqb k j) (w k) 0 ≡ cond b (w k) 0
    value k = ap (λ (b : Bool). cond b (w k) 0)

    here : j ≡ suc n → total n (λ k. cond (eqb k j) (w k) 0) + cond (eqb (suc n) j) (w (suc n)) 0 ≡ w j
    here e =
        omega (
          arith,
          total_ext n (λ k. cond (eqb k j) (w k) 0) (λ k. 0) (λ k x y. value k (ne_eqb k j (λ q. omega arith))),
          total_const n 0,
          value (suc n) (eq-eqb (suc n) j (sym e)),
          ap w e,
        )

    before : j < suc n → total n (λ k. cond (eqb k j) (w k) 0) ≡ w j
        → total n (λ k. cond (eqb k j) (w k) 0) + cond (eqb (suc n) j) (w (suc n)) 0 ≡ w j
    before l r = omega (arith, r, value (suc n) (ne_eqb (suc n) j (λ q. omega arith)))

-- Two tests that no number passes together add up.
pub total_or : (n : ℕ) (f g : ℕ → Bool) (w : ℕ → ℕ) → ((k : ℕ) → f k ≡ true → g k ≡ false)
    → total n (λ k. cond (f k || g k) (w k) 0) ≡ total n (λ k. cond (f k) (w k) 0) + total n (λ k. cond (g k) (w k) 0)
total_or n f g w apart =
    total_ext n (λ k. cond (f k || g k) (w k) 0) (λ k. cond (f k) (w k) 0 + cond (g k) (w k) 0)
    (λ k low high. either (f k) (g k) (w k) (apart k))
    ∙ total-add n (λ k. cond (f k) (w k) 0) (λ k. cond (g k) (w k) 0)
  where
    either : (a b : Bool) (x : ℕ) → (a ≡ true → b ≡ false) → cond (a || b) x 0 ≡ cond a x 0 + cond b x 0
    either true b x h = rw (h refl) (sym (add-zero x))
    either false b x h = sym (zero-add (cond b x 0))

-- One new number adds its value.
pub total_more : (n : ℕ) (f g : ℕ → Bool) (w : ℕ → ℕ) (j : ℕ) → 1 ≤ j → j ≤ n → f j ≡ false
    → Each n (λ k. g k ≡ (eqb k j || f k))
    → total n (λ k. cond (g k) (w k) 0) ≡ total n (λ k. cond (f k) (w k) 0) + w j
total_more n f g w j low high new plus =
    omega (
      arith,
      total_ext n (λ k. cond (g k) (w k) 0) (λ k. cond (eqb k j || f k) (w k) 0) (λ k x y. ap (λ (b : Bool). cond b (w k) 0) (plus k x y)),
      total_or n (λ k. eqb k j) f w (λ k e. ap f (eqb-true k j e) ∙ new),
      total_single n w j low high,
    )

-- ---- counts
-- What a number adds to the count: 1 where it passes.
abbrev one : Bool → ℕ
one b = cond b 1 0

-- At most n of n numbers pass.
pub count-le : (n : ℕ) (f : ℕ → Bool) → count n f ≤ n
unfolding count
count-le n f = omega (arith, total-part-le n f (λ k. 1), total_const n 1)

-- Tests that agree from 1 to n have the same count.
pub count_ext : (n : ℕ) (f g : ℕ → Bool) → Each n (λ k. f k ≡ g k) → count n f ≡ count n g
unfolding count
count_ext n f g same = grind (arith, total_ext)

-- The count to m + n is the count to m and the count of the n numbers after m.
pub count_add : (m n : ℕ) (f : ℕ → Bool) → count (m + n) f ≡ count m f + count n (λ k. f (m + k))
unfolding count
count_add m n f = total-after m n (λ k. cond (f k) 1 0)

-- The count to n + 1 is 1 where number 1 passes, and the count of the n numbers after it.
pub count_first : (n : ℕ) (f : ℕ → Bool) → count (suc n) f ≡ cond (f 1) 1 0 + count n (λ k. f (suc k))
unfolding count total
count_first n f =
    ap (λ (x : ℕ). count x f) (sym (one-add n)) ∙ count_add 1 n f
    ∙ ap₂ ◌+◌ (zero-add (one (f 1))) (count_ext n (λ k. f (1 + k)) (λ k. f (suc k)) (λ k low high. ap f (one-add k)))

-- One new number raises the count by one.
pub count_more : (n : ℕ) (f g : ℕ → Bool) (j : ℕ) → 1 ≤ j → j ≤ n → f j ≡ false → Each n (λ k. g k ≡ (eqb k j || f k))
    → count n g ≡ count n f + 1
unfolding count
count_more n f g j = total_more n f g (λ k. 1) j

-- No number passes the test that nothing passes.
pub count_none : (n : ℕ) → count n (λ k. false) ≡ 0
unfolding count
count_none n = omega (arith, total_const n 0)

-- A test that passes no more counts no more.
pub count_mono : (n : ℕ) (f g : ℕ → Bool) → ((k : ℕ) → f k ≡ true → g k ≡ true) → count n f ≤ count n g
unfolding count
count_mono n f g more = grind (arith, total_mono)

-- Two tests that no number passes together add up.
pub count_or : (n : ℕ) (f g : ℕ → Bool) → ((k : ℕ) → f k ≡ true → g k ≡ false) → count n (λ k. f k || g k) ≡ count n f + count n g
unfolding count
count_or n f g = total_or n f g (λ k. 1)

-- Either of two tests is passed by at most as many as pass the one and the other.
pub count_either : (n : ℕ) (f g : ℕ → Bool) → count n (λ k. f k || g k) ≤ count n f + count n g
unfolding count
count_either n f g =
    let more = total_mono n (λ k. one (f k || g k)) (λ k. one (f k) + one (g k)) (λ k low high. at (f k) (g k)) in
    omega (arith, more, total-add n (λ k. one (f k)) (λ k. one (g k)))
  where
    at : (a b : Bool) → one (a || b) ≤ one a + one b
    at true b = omega arith
    at false b = omega arith

-- At most one number is a.
pub count_one : (n a : ℕ) → count n (λ k. eqb k a) ≤ 1
unfolding count
count_one n a = total-once-le n (λ k. eqb k a) 1 (λ t u low less high. go (eqb t a) refl u less)
  where
    go : {t : ℕ} (b : Bool) → eqb t a ≡ b → (u : ℕ) → t < u → (b && eqb u a) ≡ false
    go {t} true e u less = let q = eqb-true t a e in ne_eqb u a (λ z. omega arith)
    go false e u less = refl
