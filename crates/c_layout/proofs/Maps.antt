-- What `array::from_fn` makes by a closure that keeps nothing between its calls: the values of a function at the places. Where those are
-- the values at the entries of a list, it is the list's map.
use Rattle.std.proofs.Common.{ℕ, zero, suc, ◌+◌, ◌≤◌, List, [], ◌∷◌, ◌++◌, map, length, take, get_or, ◌≡◌, refl, sym, ap, ap₂, ◌∙◌, subst, arith, add-one, add-zero, take_all, take-suc}
use denote.Param.Members.{Mut, Called}
use Rattle.std.specs.Array.{IsFromFnResult, IsFromFnResultFrom}
use Rattle.basics.specs.Lists.{list_of}
use Rattle.basics.proofs.Lists.{list_of-take, list_of-map}

module _ {F B : Type 0} where
  -- Called at place j, the closure stays as it is and gives the value at j.
  abbrev Gives : Mut F (ℕ × Unit {0}) B → F → (ℕ → B) → Type 0
  Gives g f h = (j : ℕ) (y : B) (q : F) → Called g f (j, tt) y q → (q ≡ f) × (y ≡ h j)

  module _ {g : Mut F (ℕ × Unit {0}) B} {f : F} where
    -- The calls at n places from i on, after the calls before.
    rest : (ys : List B) (h : ℕ → B) → Gives g f h → (i n : ℕ) (q : F) → q ≡ f → i + n ≤ length ys → take i ys ≡ list_of i h → IsFromFnResultFrom g q ys i n
        → take (i + n) ys ≡ list_of (i + n) h
    unfolding list_of
    rest ys h gives i zero q e room same w = rw add-zero same
    rest ys h gives i (suc n) q e room same (p, y, at, call, more) =
        let told = gives i y p (subst (λ (s : F). Called g s (i, tt) y p) e call) in
        let next : take (i + 1) ys ≡ list_of (i + 1) h =
        rw (add-one i, take-suc ys i y (omega arith)) (ap₂ (λ (l : List B) (x : B). l ++ (x ∷ [])) same (at.0 ∙ told.1)) in
        let k : i + 1 + n ≡ i + suc n = omega arith in
        rw k at (rest ys h gives (i + 1) n p told.0 (omega arith) next more)

    pub made : {ys : List B} {n : ℕ} (h : ℕ → B) → IsFromFnResult g f ys n → Gives g f h → ys ≡ list_of n h
    unfolding list_of
    made {ys} {n} h w gives =
        let all : take (0 + n) ys ≡ list_of (0 + n) h = rest ys h gives 0 n f refl (omega arith) refl w.each in
        let k : 0 + n ≡ n = omega arith in
        sym (take_all n ys (omega arith)) ∙ rw k at all

    pub made-map : {X : Type 0} {ys : List B} {n : ℕ} (u : X → B) (d : X) (l : List X) → length l ≡ n → IsFromFnResult g f ys n → Gives g f (λ j. u (get_or l j d))
        → ys ≡ map u l
    made-map {X} {ys} {n} u d l size w gives =
        made (λ j. u (get_or l j d)) w gives
        ∙ list_of-map u n (λ j. get_or l j d)
        ∙ ap (map u) (list_of-take l d n (omega arith) ∙ take_all n l (omega arith))
