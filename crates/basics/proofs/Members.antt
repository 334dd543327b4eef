-- Membership of a list, and what holds of each two of its entries.
use mathlib.Core.Path.{◌≡◌, refl, ap, ◌∙◌}
use mathlib.Core.List.Permᴰ
use mathlib.Core.List.{List, [], ◌∷◌, ◌++◌, map, Permᴰ}
use lib.ListN.{length, get_or}
use mathlib.Core.Logic.{◌⊎◌, inl, inr, ⊎_elim}
use Prim.Native.Nat.{ℕ, zero, suc, ◌<◌}
use native.Mathlib.Nat.{eq-or-lt_of_le, le_of_suc-le-suc}
use native.Mathlib.Omega.{arith}
use Rattle.basics.specs.Lists.{list_of, In, Once, Pairwise}

-- Two lists have the same members.
pub record Same {A : Type 0} (l m : List A) : Type 0 where
  pub to : (a : A) → In a l → In a m
  pub back : (a : A) → In a m → In a l

module _ {A : Type 0} where
  pub in_left : (a : A) (l m : List A) → In a l → In a (l ++ m)
  in_left a [] m h = absurd h
  in_left a (b ∷ l) m (inl e) = inl e
  in_left a (b ∷ l) m (inr h) = inr (in_left a l m h)

  pub in_right : (a : A) (l m : List A) → In a m → In a (l ++ m)
  in_right a [] m h = h
  in_right a (b ∷ l) m h = inr (in_right a l m h)

  pub in_append : (a : A) (l m : List A) → In a (l ++ m) → In a l ⊎ In a m
  in_append a [] m h = inr h
  in_append a (b ∷ l) m (inl e) = inl (inl e)
  in_append a (b ∷ l) m (inr h) = ⊎_elim (λ k. inl (inr k)) (λ k. inr k) (in_append a l m h)

  -- Entry i of a list is in it.
  pub in_get : (l : List A) (i : ℕ) (d : A) → i < length l → In (get_or l i d) l
  in_get [] i d h = absurd (omega arith)
  in_get (a ∷ l) zero d h = inl refl
  in_get (a ∷ l) (suc i) d h = inr (in_get l i d (omega arith))

  -- A member of the list of the first n values of f is the value at some i below n, and each such value is a member.
  pub in_list_of : (n : ℕ) (f : ℕ → A) (a : A) → In a (list_of n f) → (i : ℕ) × (i < n) × (a ≡ f i)
  unfolding list_of
  in_list_of zero f a h = absurd h
  in_list_of (suc n) f a h =
      ⊎_elim
      (λ k. let r = in_list_of n f a k in (r.0, omega arith, r.2))
      (λ k. ⊎_elim (λ (e : a ≡ f n). (n, omega arith, e)) (λ x. absurd x) k)
      (in_append a (list_of n f) (f n ∷ []) h)

  pub list_of_in : (n : ℕ) (f : ℕ → A) (i : ℕ) → i < n → In (f i) (list_of n f)
  unfolding list_of
  list_of_in zero f i h = absurd (omega arith)
  list_of_in (suc n) f i h =
      ⊎_elim
      (λ (e : i ≡ n). in_right (f i) (list_of n f) (f n ∷ []) (inl (ap f e)))
      (λ (l : i < n). in_left (f i) (list_of n f) (f n ∷ []) (list_of_in n f i l))
      (eq-or-lt_of_le (le_of_suc-le-suc h))

  module _ (R : A → A → Type 0) where
    -- Two lists in order with the same entries are one.
    pub pairwise_one : ((a b : A) → R a b → R b a → ⊥) → (l m : List A) → Pairwise R l → Pairwise R m → Same l m → l ≡ m
    pairwise_one asymmetric [] [] o p s = refl
    pairwise_one asymmetric [] (b ∷ m) o p s = absurd (s.back b (inl refl))
    pairwise_one asymmetric (a ∷ l) [] o p s = absurd (s.to a (inl refl))
    pairwise_one asymmetric (a ∷ l) (b ∷ m) o p s =
        let e : a ≡ b = grind (arith, s.to a (inl refl), s.back b (inl refl), asymmetric a b) in
        let rest : Same l m = record {
          to = λ x i. grind (arith, e, s.to x (inr i), asymmetric x x);
          back = λ x i. grind (arith, e, s.back x (inr i), asymmetric x x);
        } in
        let t : l ≡ m = pairwise_one asymmetric l m o.1 p.1 rest in
        λ i. e i ∷ t i

    pub pairwise_append : (l m : List A) → Pairwise R l → Pairwise R m → ((a b : A) → In a l → In b m → R a b) → Pairwise R (l ++ m)
    pairwise_append [] m p q h = q
    pairwise_append (a ∷ l) m p q h =
        (λ b i. ⊎_elim (p.0 b) (h a b (inl refl)) (in_append b l m i), pairwise_append l m p.1 q (λ b c i. h b c (inr i)))

    -- What holds of the values at i and j, where i is below j, holds of the list's entries.
    pub pairwise_list_of : (n : ℕ) (f : ℕ → A) → ((i j : ℕ) → i < j → j < n → R (f i) (f j)) → Pairwise R (list_of n f)
    unfolding list_of
    pairwise_list_of zero f h = tt
    pairwise_list_of (suc n) f h =
        pairwise_append (list_of n f) (f n ∷ []) (pairwise_list_of n f (λ i j l k. h i j l (omega arith))) (λ b i. absurd i, tt)
        λ a b i j.
        let r = in_list_of n f a i in
        ⊎_elim (λ (e : b ≡ f n). rw (r.2, e) (h r.0 n r.1 (omega arith))) (λ x. absurd x) j

    pairwise_less : (l : List A) (a : A) → Pairwise R (l ++ (a ∷ [])) → Pairwise R l × ((b : A) → In b l → R b a)
    pairwise_less [] a p = (tt, λ b i. absurd i)
    pairwise_less (c ∷ l) a p =
        let r = pairwise_less l a p.1 in (
          (λ b i. p.0 b (in_left b l (a ∷ []) i), r.0),
          λ b i. ⊎_elim (λ (e : b ≡ c). rw e (p.0 a (in_right a l (a ∷ []) (inl refl)))) (λ k. r.1 b k) i,
        )

    -- What holds of each two of the list's entries holds of the values at i and j.
    pub list_of_pairwise : (n : ℕ) (f : ℕ → A) → Pairwise R (list_of n f) → (i j : ℕ) → i < j → j < n → R (f i) (f j)
    unfolding list_of
    list_of_pairwise zero f p i j l h = absurd (omega arith)
    list_of_pairwise (suc n) f p i j l h =
        let r = pairwise_less (list_of n f) (f n) p in
        ⊎_elim (λ (e : j ≡ n). rw e (r.1 (f i) (list_of_in n f i (omega arith)))) (λ (k : j < n). list_of_pairwise n f r.0 i j l k)
        (eq-or-lt_of_le (le_of_suc-le-suc h))

-- A member of a mapped list is the value of a member.
pub in_map : {A B : Type 0} (f : A → B) (l : List A) (b : B) → In b (map f l) → (a : A) × In a l × (b ≡ f a)
in_map f [] b h = absurd h
in_map f (c ∷ l) b (inl e) = (c, inl refl, e)
in_map f (c ∷ l) b (inr h) = let r = in_map f l b h in (r.0, inr r.1, r.2)

pub map_in : {A B : Type 0} (f : A → B) (l : List A) (a : A) → In a l → In (f a) (map f l)
map_in f [] a h = absurd h
map_in f (c ∷ l) a (inl e) = inl (ap f e)
map_in f (c ∷ l) a (inr h) = inr (map_in f l a h)

-- What holds of each two entries holds of their values.
pub pairwise_map : {A B : Type 0} (R : A → A → Type 0) (S : B → B → Type 0) (f : A → B) → ((a b : A) → R a b → S (f a) (f b))
    → (l : List A) → Pairwise R l → Pairwise S (map f l)
pairwise_map R S f h [] p = tt
pairwise_map R S f h (a ∷ l) p =
    (λ b i. let r = in_map f l b i in rw r.2 (h a r.0 (p.0 r.0 r.1)), pairwise_map R S f h l p.1)

-- ---- a list in another order
pub in_perm : {A : Type 0} {l m : List A} → Permᴰ l m → (a : A) → In a l → In a m
in_perm Permᴰ.nil a i = i
in_perm (Permᴰ.cons e p) a (inl f) = inl (f ∙ e)
in_perm (Permᴰ.cons e p) a (inr i) = inr (in_perm p a i)
in_perm (Permᴰ.swap e f) a (inl g) = inr (inl (g ∙ e))
in_perm (Permᴰ.swap e f) a (inr (inl g)) = inl (g ∙ f)
in_perm (Permᴰ.swap e f) a (inr (inr i)) = inr (inr i)
in_perm (Permᴰ.trans p q) a i = in_perm q a (in_perm p a i)

pub perm_in : {A : Type 0} {l m : List A} → Permᴰ l m → (a : A) → In a m → In a l
perm_in p = in_perm (Permᴰ.symm p)

pub perm_length : {A : Type 0} {l m : List A} → Permᴰ l m → length l ≡ length m
perm_length Permᴰ.nil = refl
perm_length (Permᴰ.cons e p) = ap suc (perm_length p)
perm_length (Permᴰ.swap e f) = refl
perm_length (Permᴰ.trans p q) = perm_length p ∙ perm_length q

-- What holds both ways of each two entries does not look at their order.
pub perm_pairwise : {A : Type 0} (R : A → A → Type 0) → ((a b : A) → R a b → R b a) → {l m : List A} → Permᴰ l m → Pairwise R l → Pairwise R m
perm_pairwise R s Permᴰ.nil h = tt
perm_pairwise R s (Permᴰ.cons e p) h = (λ b i. rw (← e) (h.0 b (perm_in p b i)), perm_pairwise R s p h.1)
perm_pairwise R s (Permᴰ.swap {a} {b} {a'} {b'} e f) h = grind arith
perm_pairwise R s (Permᴰ.trans p q) h = perm_pairwise R s q (perm_pairwise R s p h)
