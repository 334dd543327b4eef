-- The values of a function in a list, a list filled up to a length, and what is in a list.
use Rattle.std.specs.Prelude.{◌≡◌, ◌⊎◌, List, [], ◌∷◌, ◌++◌, ℕ, zero, suc, ◌-◌, length, replicate}

-- The first n values of f, in a list.
unfoldable pub list_of {ℓ} : {A : Type ℓ} → ℕ → (ℕ → A) → List A
list_of zero f = []
list_of (suc n) f = list_of n f ++ (f n ∷ [])

-- The list l, filled up with z to the length n.
unfoldable pub pad_to {ℓ} : {A : Type ℓ} → ℕ → A → List A → List A
pad_to n z l = l ++ replicate (n - length l) z

-- x is an entry of the list.
abbrev pub In : {A : Type 0} → A → List A → Type 0
In x [] = ⊥
In x (y ∷ l) = (x ≡ y) ⊎ In x l

-- No entry comes twice.
abbrev pub Once : {A : Type 0} → List A → Type 0
Once [] = Unit {0}
Once (x ∷ l) = (In x l → ⊥) × Once l

-- R holds of each entry and each one after it.
abbrev pub Pairwise : {A : Type 0} → (A → A → Type 0) → List A → Type 0
Pairwise R [] = Unit {0}
Pairwise R (x ∷ l) = ((y : _) → In y l → R x y) × Pairwise R l
