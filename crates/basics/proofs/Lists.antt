-- Laws of mapped lists, of `list_of`, the first values of a function in a list, and of `pad_to`, a list filled up to a length: by induction on the length.
use mathlib.Core.Path.{◌≡◌, refl, sym, ap, ap₂, ◌∙◌}
use mathlib.Core.List.{List, [], ◌∷◌, ◌++◌, map, map-append, append_assoc, append-nil, reverse, reverse-append}
use Prim.Native.Nat.{ℕ, zero, suc, ◌+◌, ◌-◌, ◌≤◌, ◌<◌}
use native.Mathlib.Omega.{arith}
use native.Mathlib.Numerals.{add-one}
use native.Mathlib.Nat.{eq-or-lt_of_le, le_of_suc-le-suc, add-zero, add-suc}
use mathlib.Core.Logic.{⊎_elim}
use lib.ListN.{length, get_or, set, take, replicate, length-append, length-map, length-replicate, get_or-append, get_or-map}
use lib.Seq.{set-append_seam, take_at, take-suc, take-suc-set, get_or_at, get_or-append-add}
use Rattle.basics.specs.Lists.{list_of, pad_to}

-- A list is as long as the list of what a function makes of its entries.
pub length_mapped : (X Y : Type 0) (f : X → Y) (l : List X) (n : ℕ) → length (map f l) ≡ n → length l ≡ n
length_mapped X Y f l n e = sym (length-map l f) ∙ e

module _ {X Y : Type 0} (f : X → Y) where
  -- The first entries of a mapped list are the first entries, mapped.
  pub mapped_take : (n : ℕ) (l : List X) → take n (map f l) ≡ map f (take n l)
  mapped_take zero l = refl
  mapped_take (suc n) [] = refl
  mapped_take (suc n) (a ∷ l) = ap (λ (k : List Y). f a ∷ k) (mapped_take n l)

  -- One more value, set behind the first i, makes the first i + 1.
  pub mapped_next : (l : List X) (k : List Y) (i : ℕ) (d : X) → i < length l → i < length k → take i k ≡ take i (map f l)
      → take (i + 1) (set k i (f (get_or l i d))) ≡ take (i + 1) (map f l)
  mapped_next l k i d h room same =
      let count : length (map f l) ≡ length l = length-map l f in
      rw (add-one i, take-suc-set k i (f (get_or l i d)) room, take-suc (map f l) i (f d) (omega arith), same, get_or-map f l i d)

module _ {ℓ} {A : Type ℓ} where
  -- Every entry of n times a is a, and so is what stands past them.
  pub replicate_get : (n i : ℕ) (a : A) → get_or (replicate n a) i a ≡ a
  replicate_get zero i a = refl
  replicate_get (suc n) zero a = refl
  replicate_get (suc n) (suc i) a = replicate_get n i a

  -- ---- the first n values of a function
  -- The list of the first n values has length n.
  pub list_of-length : (n : ℕ) (f : ℕ → A) → length (list_of n f) ≡ n
  unfolding list_of
  list_of-length zero f = refl
  list_of-length (suc n) f = length-append (list_of n f) (f n ∷ []) ∙ omega (arith, list_of-length n f)

  -- Entry i of the list is the value at i.
  pub list_of_get : (n : ℕ) (f : ℕ → A) (d : A) (i : ℕ) → i < n → get_or (list_of n f) i d ≡ f i
  unfolding list_of
  list_of_get zero f d i h = absurd (omega arith)
  list_of_get (suc n) f d i h =
      ⊎_elim
      (λ (e : i ≡ n). rw e (get_or_at (list_of n f) (f n) [] d n (list_of-length n f)))
      (λ (l : i < n). get_or-append (list_of n f) (f n ∷ []) d i (rw (list_of-length n f) l) ∙ list_of_get n f d i l)
      (eq-or-lt_of_le (le_of_suc-le-suc h))

  -- In front of another list, entry i is the value at i; past the n values stand the entries of the other list.
  pub list_of-front : (n : ℕ) (f : ℕ → A) (k : List A) (d : A) (i : ℕ) → i < n → get_or (list_of n f ++ k) i d ≡ f i
  list_of-front n f k d i h = get_or-append (list_of n f) k d i (rw (list_of-length n f) h) ∙ list_of_get n f d i h

  pub list_of_past : (n : ℕ) (f : ℕ → A) (k : List A) (d : A) (j : ℕ) → get_or (list_of n f ++ k) (n + j) d ≡ get_or k j d
  list_of_past n f k d j = ap (λ m. get_or (list_of n f ++ k) (m + j) d) (sym (list_of-length n f)) ∙ get_or-append-add (list_of n f) k j d

  -- Functions that agree below n have the same first n values.
  pub list_of_ext : (n : ℕ) (f g : ℕ → A) → ((i : ℕ) → i < n → f i ≡ g i) → list_of n f ≡ list_of n g
  unfolding list_of
  list_of_ext zero f g same = refl
  list_of_ext (suc n) f g same =
      ap₂ (λ (l : List A) (x : A). l ++ (x ∷ [])) (list_of_ext n f g (λ i h. same i (omega arith))) (same n (omega arith))

  -- The first n + 1 values are the value at 0 and the n after it.
  list_of_first : (n : ℕ) (f : ℕ → A) → list_of (suc n) f ≡ f 0 ∷ list_of n (λ i. f (suc i))
  unfolding list_of
  list_of_first zero f = refl
  list_of_first (suc n) f = ap (λ (l : List A). l ++ (f (suc n) ∷ [])) (list_of_first n f)

  -- The first n + m values are the first n and the m after them.
  pub list_of-append : (n m : ℕ) (f : ℕ → A) → list_of (n + m) f ≡ list_of n f ++ list_of m (λ j. f (n + j))
  unfolding list_of
  list_of-append n zero f = ap (λ (k : ℕ). list_of k f) (add-zero n) ∙ sym (append-nil (list_of n f))
  list_of-append n (suc m) f =
      ap (λ (k : ℕ). list_of k f) (add-suc n m)
      ∙ ap (λ (l : List A). l ++ (f (n + m) ∷ [])) (list_of-append n m f)
      ∙ append_assoc (list_of n f) (list_of m (λ j. f (n + j))) (f (n + m) ∷ [])

  -- The first n values from the last to the first are the list reversed.
  pub list_of-reverse : (n : ℕ) (f : ℕ → A) → list_of n (λ j. f (n - 1 - j)) ≡ reverse (list_of n f)
  unfolding list_of
  list_of-reverse zero f = refl
  list_of-reverse (suc n) f =
      list_of_first n (λ j. f (suc n - 1 - j))
      ∙ ap₂ (λ (x : A) (l : List A). x ∷ l)
      (ap f (omega arith))
      (list_of_ext n (λ i. f (suc n - 1 - suc i)) (λ i. f (n - 1 - i)) (λ i h. ap f (omega arith)) ∙ list_of-reverse n f)
      ∙ sym (reverse-append (list_of n f) (f n ∷ []))

  -- The first n entries of a list are its values below n.
  pub list_of-take : (l : List A) (d : A) (n : ℕ) → n ≤ length l → list_of n (λ i. get_or l i d) ≡ take n l
  unfolding list_of
  list_of-take l d zero h = refl
  list_of-take l d (suc n) h = rw (list_of-take l d n (omega arith)) (sym (take-suc l n d h))

  -- ---- a list filled up to a length
  -- A filled list has the length asked for, where the list is not longer.
  pub pad_length : (n : ℕ) (z : A) (l : List A) → length l ≤ n → length (pad_to n z l) ≡ n
  unfolding pad_to
  pad_length n z l h = simp (length-append, length-replicate) (omega arith)

  -- Filling a list up keeps its entries.
  pub pad_get : (n : ℕ) (z d : A) (l : List A) (i : ℕ) → i < length l → get_or (pad_to n z l) i d ≡ get_or l i d
  unfolding pad_to
  pad_get n z d l i h = get_or-append l (replicate (n - length l) z) d i h

  -- A filled list begins with the list.
  pub pad_take : (n : ℕ) (z : A) (l : List A) → take (length l) (pad_to n z l) ≡ l
  unfolding pad_to
  pad_take n z l = take_at l (replicate (n - length l) z) (length l) refl

  -- The first filled entry, set to a value, is one more entry of the list.
  pad_set : (n : ℕ) (z v : A) (l : List A) → length l < n → set (pad_to n z l) (length l) v ≡ pad_to n z (l ++ (v ∷ []))
  unfolding pad_to
  pad_set n z v l h = grind (arith, append_assoc, length-append, set-append_seam)

  -- The next value of a function, set behind its first n, makes its first n + 1.
  pub pad_list_of-set : (m n : ℕ) (z : A) (f : ℕ → A) → n < m → set (pad_to m z (list_of n f)) n (f n) ≡ pad_to m z (list_of (suc n) f)
  unfolding list_of
  pad_list_of-set m n z f h =
      let e : length (list_of n f) ≡ n = list_of-length n f in
      ap (λ (k : ℕ). set (pad_to m z (list_of n f)) k (f n)) (sym e) ∙ pad_set m z (f n) (list_of n f) (rw e h)

  -- Entry i of the first n values of a function, filled up, is the value at i.
  pub pad_list_of_get : (m n : ℕ) (z d : A) (f : ℕ → A) (i : ℕ) → i < n → get_or (pad_to m z (list_of n f)) i d ≡ f i
  pad_list_of_get m n z d f i h = pad_get m z d (list_of n f) i (rw (list_of-length n f) h) ∙ list_of_get n f d i h

-- The first n values of f, each mapped by g, are the list of them mapped.
pub list_of-map : {A B : Type 0} (g : A → B) (n : ℕ) (f : ℕ → A) → list_of n (λ i. g (f i)) ≡ map g (list_of n f)
unfolding list_of
list_of-map g zero f = refl
list_of-map g (suc n) f = ap (λ l. l ++ (g (f n) ∷ [])) (list_of-map g n f) ∙ sym (map-append g (list_of n f) (f n ∷ []))
