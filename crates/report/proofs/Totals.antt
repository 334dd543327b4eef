-- Keys of right records in order, joined, are the totals of the records.
use Rattle.std.proofs.Common.{◌≡◌, ℕ, suc, ◌+◌, ◌*◌, ◌/◌, ◌%◌, ◌^◌, ◌<◌, ◌≤◌, Bool, true, false, cond, eqb, List, [], ◌∷◌, map, length, sym, refl, ap, ◌∙◌, ap₂, ⊎_elim, eq-or-lt_of_le, arith, le-ltb, lt-ltb, eq-eqb, ne_eqb, eqb-true}
use native.Mathlib.Decide.{ℕ_discrete, dec_lt}
use lib.ListN.{length-map}
use borrow.Author.Tests.{eqb-false}
use Rattle.session_meaning.specs.declared.Mark.{Mark}
use Rattle.session_meaning.specs.Report.{right_mark, Total, total_of, plus, enter_total, totals}
use Rattle.session_meaning.proofs.Marks.{AllRight, right_ranges}
use Rattle.sorting.specs.Sorted.{insert, sorted, All, RisingBy, Rising}
use Rattle.sorting.specs.Digits.{low}
use Rattle.sorting.proofs.Sorting.{by_order, all_insert, all_map, rising_sorted, sorted-length}
use Rattle.report.specs.Gathering.{key_of, candidate_of, total_at, joined_one, joined}

-- ---- totals
abbrev total : ℕ → ℕ → ℕ → Total
total c g p = record { candidate = c; gained = g; possible = p }

same_total : {c g p c' g' p' : ℕ} → c ≡ c' → g ≡ g' → p ≡ p' → total c g p ≡ total c' g' p'
same_total e f h = cc

plus_comm : (t u : Total) → t.candidate ≡ u.candidate → plus u t ≡ plus t u
plus_comm t u e = same_total (sym e) (omega arith) (omega arith)

plus_swap : (w u t : Total) → plus (plus w u) t ≡ plus (plus w t) u
plus_swap w u t = same_total refl (omega arith) (omega arith)

enter_none : (t : Total) → enter_total t [] ≡ t ∷ []
unfolding enter_total
enter_none t = refl

enter-before : (t u : Total) (l : List Total) → t.candidate < u.candidate → enter_total t (u ∷ l) ≡ t ∷ u ∷ l
unfolding enter_total
enter-before t u l h = rw (lt-ltb t.candidate u.candidate h)

enter_same : (t u : Total) (l : List Total) → t.candidate ≡ u.candidate → enter_total t (u ∷ l) ≡ plus u t ∷ l
unfolding enter_total
enter_same t u l h = rw (le-ltb t.candidate u.candidate (omega arith), eq-eqb t.candidate u.candidate h)

enter-after : (t u : Total) (l : List Total) → u.candidate < t.candidate → enter_total t (u ∷ l) ≡ u ∷ enter_total t l
unfolding enter_total
enter-after t u l h =
    rw (le-ltb t.candidate u.candidate (omega arith), ne_eqb t.candidate u.candidate (λ e. absurd (omega (arith, e))))

by_order_of : {P : Type 0} (a b : ℕ) → (a < b → P) → (a ≡ b → P) → (b < a → P) → P
by_order_of a b f g h = elim (ℕ_discrete a b) [
  | yes e ↦ g e
  | no e ↦ elim (dec_lt a b) [
    | yes l ↦ f l
    | no l ↦ h (omega arith)
  ]
]

-- Which of two enters first does not matter.
enter_comm : (t u : Total) → t.candidate ≤ u.candidate → (l : List Total) → enter_total t (enter_total u l) ≡ enter_total u (enter_total t l)
enter_comm t u h [] =
    ⊎_elim
    (λ e. rw (enter_none u, enter_none t, enter_same t u [] e, enter_same u t [] (sym e), plus_comm t u e))
    (λ e. rw (enter_none u, enter_none t, enter-before t u [] e, enter-after u t [] e, enter_none u))
    (eq-or-lt_of_le h)
enter_comm t u h (w ∷ l) =
    by_order_of t.candidate w.candidate
    (λ a.
    by_order_of u.candidate w.candidate
    (λ b.
    ⊎_elim
    (λ e. rw (enter-before u w l b, enter-before t w l a, enter_same t u (w ∷ l) e, enter_same u t (w ∷ l) (sym e), plus_comm t u e))
    (λ e. rw (enter-before u w l b, enter-before t w l a, enter-before t u (w ∷ l) e, enter-after u t (w ∷ l) e, enter-before u w l b))
    (eq-or-lt_of_le h))
    (λ b. rw (enter_same u w l b, enter-before t (plus w u) l a, enter-before t w l a, enter-after u t (w ∷ l) (omega arith), enter_same u w l b))
    (λ b. rw (enter-after u w l b, enter-before t w (enter_total u l) a, enter-before t w l a, enter-after u t (w ∷ l) (omega arith), enter-after u w l b)))
    (λ a.
    by_order_of u.candidate w.candidate
    (λ b. absurd (omega arith))
    (λ b. rw (enter_same u w l b, enter_same t (plus w u) l a, enter_same t w l a, enter_same u (plus w t) l b, plus_swap w u t))
    (λ b. rw (enter-after u w l b, enter_same t w (enter_total u l) a, enter_same t w l a, enter-after u (plus w t) l b)))
    (λ a.
    let b : w.candidate < u.candidate = omega arith in
    rw (enter-after u w l b, enter-after t w (enter_total u l) a, enter-after t w l a, enter-after u w (enter_total t l) b, enter_comm t u h l))

-- The totals of keys, and of keys in order.
unfoldable enters : List ℕ → List Total
enters [] = []
enters (x ∷ l) = enter_total (total_at x) (enters l)

enters_insert : (x : ℕ) (l : List ℕ) → enters (insert x l) ≡ enter_total (total_at x) (enters l)
unfolding insert enters
enters_insert x [] = refl
enters_insert x (y ∷ l) =
    by_order (λ w. enters w ≡ enter_total (total_at x) (enters (y ∷ l))) x y (x ∷ y ∷ l) (y ∷ insert x l)
    (λ e. refl)
    (λ e. ap (enter_total (total_at y)) (enters_insert x l) ∙ enter_comm (total_at y) (total_at x) (omega arith) (enters l))

-- ---- keys that hold small numbers
-- Gained and possible are at most n.
abbrev Holds : ℕ → ℕ → Type 0
Holds n x = (candidate_of x ≤ 9999) × (x / 131072 % 131072 ≤ n) × (x % 131072 ≤ n)

-- The first key's candidate, if there is one, is c or higher.
abbrev From : ℕ → List ℕ → Type 0
From c [] = Unit {0}
From c (x ∷ l) = c ≤ candidate_of x

least_from : (x : ℕ) (l : List ℕ) → All (λ y. x ≤ y) l → From (candidate_of x) l
least_from x [] h = tt
least_from x (y ∷ l) h = omega (arith, h.0)

-- A key before others, by whether the first of them has its candidate.
by_joined : (P : List ℕ → Type 0) (x y : ℕ) (l : List ℕ) → (candidate_of y ≡ candidate_of x → P ((y + x % 17179869184) % 2 ^ 64 ∷ l))
    → ((candidate_of y ≡ candidate_of x → ⊥) → P (x ∷ y ∷ l)) → P (joined_one x (y ∷ l))
unfolding joined_one
by_joined P x y l f g = go (eqb (candidate_of y) (candidate_of x)) refl
  where
    go : (b : Bool) → eqb (candidate_of y) (candidate_of x) ≡ b → P (cond b ((y + x % 17179869184) % 2 ^ 64 ∷ l) (x ∷ y ∷ l))
    go true e = f (eqb-true _ _ e)
    go false e = g (eqb-false _ _ e)

-- The sums of two keys do not run into each other.
low_part : (x y : ℕ) → y % 131072 + x % 131072 < 131072 → (y + x % 17179869184) % 2 ^ 64 % 131072 ≡ y % 131072 + x % 131072
low_part x y h = omega arith

module _ (n x y : ℕ) (low : n ≤ 99800) (hx : Holds 100 x) (hy : Holds n y) where
  abbrev both : ℕ
  both = (y + x % 17179869184) % 2 ^ 64

  both_possible : both % 131072 ≡ y % 131072 + x % 131072
  both_possible = low_part x y (omega (arith, hx.2, hy.2))

  both_gained : both / 131072 % 131072 ≡ y / 131072 % 131072 + x / 131072 % 131072
  both_gained = omega (arith, hx, hy)

  both_candidate : candidate_of both ≡ candidate_of y
  both_candidate = omega (arith, hx, hy)

  both_holds : Holds (n + 100) both
  both_holds = (omega (arith, both_candidate, hy), omega (arith, both_gained, hx, hy), omega (arith, both_possible, hx, hy))

holds_more : (n k : ℕ) → n ≤ k → (x : ℕ) → Holds n x → Holds k x
holds_more n k h x w = (w.0, omega (arith, w.1), omega (arith, w.2))

-- One key before others.
one_holds : (n x : ℕ) (l : List ℕ) → n ≤ 99800 → Holds 100 x → All (Holds n) l → All (Holds (n + 100)) (joined_one x l)
unfolding joined_one
one_holds n x [] low hx h = (holds_more 100 (n + 100) (omega arith) x hx, tt)
one_holds n x (y ∷ l) low hx h =
    let w = all_map (Holds n) (Holds (n + 100)) (holds_more n (n + 100) (omega arith)) (y ∷ l) h in
    by_joined (All (Holds (n + 100))) x y l
    (λ e. (both_holds n x y low hx h.0, w.1))
    (λ e. (holds_more 100 (n + 100) (omega arith) x hx, w))

one_from : (n c x : ℕ) (l : List ℕ) → n ≤ 99800 → Holds 100 x → All (Holds n) l → c ≤ candidate_of x → From c (joined_one x l)
unfolding joined_one
one_from n c x [] low hx h f = f
one_from n c x (y ∷ l) low hx h f = by_joined (From c) x y l (λ e. omega (arith, both_candidate n x y low hx h.0, e)) (λ e. f)

one_total : (n x : ℕ) (l : List ℕ) → n ≤ 99800 → Holds 100 x → All (Holds n) l → From (candidate_of x) l
    → map total_at (joined_one x l) ≡ enter_total (total_at x) (map total_at l)
unfolding joined_one
one_total n x [] low hx h f = sym (enter_none (total_at x))
one_total n x (y ∷ l) low hx h f =
    by_joined (λ w. map total_at w ≡ enter_total (total_at x) (map total_at (y ∷ l))) x y l
    (λ e. rw (enter_same (total_at x) (total_at y) (map total_at l) (sym e))
    (ap (λ (t : Total). t ∷ map total_at l)
    (same_total (both_candidate n x y low hx h.0) (both_gained n x y low hx h.0) (both_possible n x y low hx h.0))))
    (λ e. sym (enter-before (total_at x) (total_at y) (map total_at l) (omega (arith, e, f))))

-- All keys.
joined_holds : (l : List ℕ) → length l ≤ 999 → All (Holds 100) l → All (Holds (length l * 100)) (joined l)
unfolding joined
joined_holds [] low h = tt
joined_holds (x ∷ l) low h =
    let w = one_holds (length l * 100) x (joined l) (omega (arith, low)) h.0 (joined_holds l (omega (arith, low)) h.1) in
    all_map (Holds (length l * 100 + 100)) (Holds (suc (length l) * 100)) (holds_more (length l * 100 + 100) (suc (length l) * 100) (omega arith))
    (joined_one x (joined l)) w

joined_from : (c : ℕ) (l : List ℕ) → length l ≤ 999 → All (Holds 100) l → From c l → From c (joined l)
unfolding joined
joined_from c [] low h f = tt
joined_from c (x ∷ l) low h f =
    one_from (length l * 100) c x (joined l) (omega (arith, low)) h.0 (joined_holds l (omega (arith, low)) h.1) f

joined-totals : (l : List ℕ) → length l ≤ 999 → All (Holds 100) l → Rising l → map total_at (joined l) ≡ enters l
unfolding joined enters
joined-totals [] low h r = refl
joined-totals (x ∷ l) low h r =
    let less : length l ≤ 999 = omega (arith, low) in
    one_total (length l * 100) x (joined l) (omega (arith, low)) h.0 (joined_holds l less h.1)
    (joined_from (candidate_of x) l less h.1 (least_from x l r.0))
    ∙ ap (enter_total (total_at x)) (joined-totals l less h.1 r.1)

-- ---- the keys of right records
key_parts : (c n g p : ℕ) → n < 1024 → g ≤ 100 → p ≤ 100
    → (let x = ((c * 1024 + n) * 131072 + g) * 131072 + p in
    (candidate_of x ≡ c) × (x / 131072 % 131072 ≡ g) × (x % 131072 ≡ p) × (n * 17179869184 ≤ low 44 x) × (low 44 x < (n + 1) * 17179869184))
key_parts c n g p hn hg hp = (omega arith, omega arith, omega arith, omega arith, omega arith)

module _ (n : ℕ) (m : Mark) (few : n < 1024) (r : right_mark m ≡ true) where
  parts : (candidate_of (key_of n m) ≡ m.candidate) × (key_of n m / 131072 % 131072 ≡ m.gained) × (key_of n m % 131072 ≡ m.possible)
      × (n * 17179869184 ≤ low 44 (key_of n m)) × (low 44 (key_of n m) < (n + 1) * 17179869184)
  parts = let w = right_ranges m r in key_parts m.candidate n m.gained m.possible few (omega (arith, w.gained, w.possible)) w.possible

  key_total : total_at (key_of n m) ≡ total_of m
  key_total = same_total parts.0 parts.1 parts.2

  key_holds : Holds 100 (key_of n m)
  key_holds =
      let w = right_ranges m r in
      (omega (arith, parts.0, w.candidate.1), omega (arith, parts.1, w.gained, w.possible), omega (arith, parts.2, w.possible))

-- The keys of records of which the first has place n, from 0.
abbrev pub keyed : ℕ → List Mark → List ℕ
keyed n [] = []
keyed n (m ∷ l) = key_of n m ∷ keyed (n + 1) l

keyed-length : (n : ℕ) (l : List Mark) → length (keyed n l) ≡ length l
keyed-length n [] = refl
keyed-length n (m ∷ l) = ap suc (keyed-length (n + 1) l)

-- They are in order by their places.
keyed_above : (k n : ℕ) (l : List Mark) → n + length l ≤ 999 → AllRight l → k ≤ n * 17179869184 → All (λ x. k ≤ low 44 x) (keyed n l)
keyed_above k n [] few a h = tt
keyed_above k n (m ∷ l) few a h =
    let p = parts n m (omega (arith, few)) a.0 in
    (omega (arith, p.3, h), keyed_above k (n + 1) l (omega (arith, few)) a.1 (omega (arith, h)))

pub keyed_begun : (n : ℕ) (l : List Mark) → n + length l ≤ 999 → AllRight l → RisingBy (low 44) (keyed n l)
keyed_begun n [] few a = tt
keyed_begun n (m ∷ l) few a =
    let p = parts n m (omega (arith, few)) a.0 in (
      keyed_above (low 44 (key_of n m)) (n + 1) l (omega (arith, few)) a.1 (omega (arith, p.4)),
      keyed_begun (n + 1) l (omega (arith, few)) a.1,
    )

sorted_holds : (n : ℕ) (l : List Mark) → n + length l ≤ 999 → AllRight l → All (Holds 100) (sorted (keyed n l))
unfolding sorted
sorted_holds n [] few a = tt
sorted_holds n (m ∷ l) few a =
    all_insert (Holds 100) (key_of n m) (sorted (keyed (n + 1) l)) (key_holds n m (omega (arith, few)) a.0) (sorted_holds (n + 1) l (omega (arith, few)) a.1)

sorted-totals : (n : ℕ) (l : List Mark) → n + length l ≤ 999 → AllRight l → enters (sorted (keyed n l)) ≡ totals l
unfolding sorted enters totals
sorted-totals n [] few a = refl
sorted-totals n (m ∷ l) few a =
    enters_insert (key_of n m) (sorted (keyed (n + 1) l))
    ∙ ap₂ enter_total (key_total n m (omega (arith, few)) a.0) (sorted-totals (n + 1) l (omega (arith, few)) a.1)

pub keys_totals : (l : List Mark) → AllRight l → length l ≤ 999 → map total_at (joined (sorted (keyed 0 l))) ≡ totals l
keys_totals l a low =
    let n : length (sorted (keyed 0 l)) ≡ length l = sorted-length (keyed 0 l) ∙ keyed-length 0 l in
    let few : 0 + length l ≤ 999 = omega (arith, low) in
    joined-totals (sorted (keyed 0 l)) (omega (arith, n, low)) (sorted_holds 0 l few a) (rising_sorted (keyed 0 l)) ∙ sorted-totals 0 l few a

pub keys_length : (l : List Mark) → AllRight l → length l ≤ 999 → length (joined (sorted (keyed 0 l))) ≡ length (totals l)
keys_length l a low = sym (length-map (joined (sorted (keyed 0 l))) total_at) ∙ ap length (keys_totals l a low)
