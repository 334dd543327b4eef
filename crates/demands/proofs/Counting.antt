-- How many there are, each counted once: of the numbers from 1 to n that pass a test (`count_is`), and of pairs, counted by their first
-- number (`total_is`).
use mathlib.Core.Path.{◌≡◌, refl, sym, ap, subst, ◌∙◌}
use mathlib.Core.Logic.{◌⊎◌, inl, inr, ⊎_elim, ◌↔◌}
use mathlib.Core.Bool.{Bool, true, false, cond, false≢true}
use mathlib.Core.List.{List, [], ◌∷◌, ◌++◌, map}
use Prim.Native.Nat.{ℕ, zero, suc, ◌+◌, ◌≤◌}
use native.Mathlib.Omega.{arith}
use lib.ListN.{length, length-append, length-map}
use Rattle.basics.specs.Numbers.{total, count}
use Rattle.basics.proofs.Members.{in_left, in_right, in_append}
use Rattle.basics.specs.Lists.{In, Once}
use Rattle.demands.specs.Words.{HowMany}

-- Number k is from 1 to n.
abbrev pub From1 : ℕ → ℕ → Type 0
From1 n k = (1 ≤ k) × (k ≤ n)

-- As many things have Q as have P, where P and Q hold of the same things.
pub how_many_same : {A : Type 0} (P Q : A → Type 0) (n : ℕ) → ((x : A) → P x ↔ Q x) → HowMany P n → HowMany Q n
how_many_same P Q n same h = grind arith

-- As many things with Q as things with P, where f makes each of the first one of the second, and each of the second comes from just one.
module _ {A B : Type 0} (P : A → Type 0) (Q : B → Type 0) (f : B → A) where
  abbrev From : A → Type 0
  From x = (y : B) × Q y × (f y ≡ x) × ((z : B) → Q z → f z ≡ x → z ≡ y)

  across : ((x : A) → P x → From x) → (l : List A) → Once l → ((x : A) → In x l → P x)
      → (m : List B) × Once m × ((y : B) → In y m ↔ (Q y × In (f y) l)) × (length m ≡ length l)
  across from [] o p = ([], o, λ y. (λ i. absurd i, λ w. absurd w.1), refl)
  across from (x ∷ l) o p =
      let y : From x = from x (p x (inl refl)) in
      let r = across from l o.1 (λ z i. p z (inr i)) in (
        y.0 ∷ r.0,
        (λ i. o.0 (subst (λ z. In z l) y.2 ((r.2 y.0).0 i).1), r.1),
        λ z. (
          λ i. ⊎_elim (λ e. (subst Q (sym e) y.1, inl (ap f e ∙ y.2))) (λ j. let k = (r.2 z).0 j in (k.0, inr k.1)) i,
          λ w. ⊎_elim (λ e. inl (y.3 z w.0 e)) (λ j. inr ((r.2 z).1 (w.0, j))) w.1,
        ),
        ap suc r.3,
      )

  pub how_many_across : (n : ℕ) → ((y : B) → Q y → P (f y)) → ((x : A) → P x → From x) → HowMany P n → HowMany Q n
  how_many_across n to from h = grind (arith, across)

-- ---- the number is one
-- A list without an entry.
without : {A : Type 0} (x : A) (l : List A) → In x l
    → (m : List A) × (suc (length m) ≡ length l) × ((y : A) → In y l → (y ≡ x → ⊥) → In y m)
without x [] i = absurd i
without x (z ∷ l) (inl e) = (l, refl, λ y j n. ⊎_elim (λ q. absurd (n (q ∙ sym e))) (λ k. k) j)
without x (z ∷ l) (inr i) =
    let w = without x l i in
    (z ∷ w.0, ap suc w.1, λ y j n. ⊎_elim (λ q. inl q) (λ k. inr (w.2 y k n)) j)

pub no_more : {A : Type 0} (l m : List A) → Once l → ((x : A) → In x l → In x m) → length l ≤ length m
no_more [] m o h = omega arith
no_more (x ∷ l) m o h =
    let w = without x m (h x (inl refl)) in
    let r = no_more l w.0 o.1 (λ y i. w.2 y (h y (inr i)) (λ e. o.0 (subst (λ z. In z l) e i))) in
    omega arith

-- There is one number of things with a property.
pub how_many_unique : {A : Type 0} (P : A → Type 0) (m n : ℕ) → HowMany P m → HowMany P n → m ≡ n
how_many_unique P m n g h =
    omega (
      arith,
      g.number,
      h.number,
      no_more g.all h.all g.once (λ x i. (h.exactly x).1 ((g.exactly x).0 i)),
      no_more h.all g.all h.once (λ x i. (g.exactly x).1 ((h.exactly x).0 i)),
    )

-- ---- lists
once-append : {A : Type 0} (l m : List A) → Once l → Once m → ((x : A) → In x l → In x m → ⊥) → Once (l ++ m)
once-append [] m o p apart = p
once-append (y ∷ l) m o p apart = (
  λ i. ⊎_elim o.0 (apart y (inl refl)) (in_append y l m i),
  once-append l m o.1 p (λ x i j. apart x (inr i) j),
)

-- Where R is P or Q, and nothing is both, there are as many as of the two.
pub how_many_either : {A : Type 0} (P Q R : A → Type 0) (m n : ℕ) → ((x : A) → R x ↔ (P x ⊎ Q x)) → ((x : A) → P x → Q x → ⊥)
    → HowMany P m → HowMany Q n → HowMany R (m + n)
how_many_either P Q R m n either apart g h = record {
  all = g.all ++ h.all;
  once = once-append g.all h.all g.once h.once (λ x i j. apart x ((g.exactly x).0 i) ((h.exactly x).0 j));
  exactly = λ x. (
    λ i. (either x).1 (⊎_elim (λ j. inl ((g.exactly x).0 j)) (λ j. inr ((h.exactly x).0 j)) (in_append x g.all h.all i)),
    λ q.
        ⊎_elim
        (λ p. in_left x g.all h.all ((g.exactly x).1 p))
        (λ p. in_right x g.all h.all ((h.exactly x).1 p))
        ((either x).0 q),
  );
  number = length-append g.all h.all ∙ omega arith;
}

-- From 1 to n, and at n + 1.
how_many_more : {A : Type 0} (key : A → ℕ) (P : A → Type 0) (n i j : ℕ) → HowMany (λ x. From1 n (key x) × P x) i
    → HowMany (λ x. (key x ≡ suc n) × P x) j → HowMany (λ x. From1 (suc n) (key x) × P x) (i + j)
how_many_more key P n i j = grind (arith, how_many_either)

-- ---- sums
-- As many pairs of a and a thing as things.
module _ {B : Type 0} (a : ℕ) where
  abbrev pairs : List B → List (ℕ × B)
  pairs l = map (λ (b : B). (a, b)) l

  in_pairs : (l : List B) (x : ℕ × B) → In x (pairs l) ↔ ((x.0 ≡ a) × In x.1 l)
  in_pairs [] x = (λ i. absurd i, λ i. i.1)
  in_pairs (b ∷ l) x = grind (arith, in_pairs l x)

  once_pairs : (l : List B) → Once l → Once (pairs l)
  once_pairs [] o = o
  once_pairs (b ∷ l) o = (λ i. o.0 ((in_pairs l (a, b)).0 i).1, once_pairs l o.1)

  how_many_pairs : (Q : ℕ → B → Type 0) (n : ℕ) → HowMany (Q a) n → HowMany {A = ℕ × B} (λ (k, b). (k ≡ a) × Q k b) n
  how_many_pairs Q n h = record {
    all = pairs h.all;
    once = once_pairs h.all h.once;
    exactly = λ x. (
      λ i. let p = (in_pairs h.all x).0 i in (p.0, subst (λ (k : ℕ). Q k x.1) (sym p.0) ((h.exactly x.1).0 p.1)),
      λ q. (in_pairs h.all x).1 (q.0, (h.exactly x.1).1 (subst (λ (k : ℕ). Q k x.1) q.0 q.1)),
    );
    number = length-map {B = ℕ × B} h.all (λ (b : B). (a, b)) ∙ h.number;
  }

-- Where g a things have the property Q a, the pairs of an a from 1 to n and such a thing are as many as the sum of g.
pub total_is : {B : Type 0} (n : ℕ) (g : ℕ → ℕ) (Q : ℕ → B → Type 0) → ((a : ℕ) → HowMany (Q a) (g a))
    → HowMany {A = ℕ × B} (λ (a, b). From1 n a × Q a b) (total n g)
unfolding total
total_is zero g Q h = record { all = []; once = tt; exactly = λ x. (λ i. absurd i, λ q. absurd (omega arith)); number = refl }
total_is {B} (suc n) g Q h =
    how_many_more {A = ℕ × B} (λ (a, b). a) (λ (a, b). Q a b) n (total n g) (g (suc n)) (total_is n g Q h) (how_many_pairs (suc n) Q (g (suc n)) (h (suc n)))

-- ---- tests
-- The numbers from 1 to n that pass a test.
pub count_is : (n : ℕ) (f : ℕ → Bool) → HowMany (λ k. From1 n k × (f k ≡ true)) (count n f)
unfolding count total
count_is zero f = record { all = []; once = tt; exactly = λ x. (λ i. absurd i, λ q. absurd (omega arith)); number = refl }
count_is (suc n) f = how_many_more (λ k. k) (λ k. f k ≡ true) n (count n f) (cond (f (suc n)) 1 0) (count_is n f) (last (f (suc n)) refl)
  where
    last : (b : Bool) → f (suc n) ≡ b → HowMany (λ k. (k ≡ suc n) × (f k ≡ true)) (cond b 1 0)
    last true e = record {
      all = suc n ∷ [];
      once = (λ i. i, tt);
      exactly = λ x. (λ i. ⊎_elim (λ (q : x ≡ suc n). (q, ap f q ∙ e)) (λ j. absurd j) i, λ q. inl q.0);
      number = refl;
    }
    last false e = record {
      all = [];
      once = tt;
      exactly = λ x. (λ i. absurd i, λ q. absurd (false≢true (sym e ∙ ap f (sym q.0) ∙ q.1)));
      number = refl;
    }
