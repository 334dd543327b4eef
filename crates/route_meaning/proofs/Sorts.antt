-- The sort of element e of a station: that of its kind, or 0 where the station has no such element.
use mathlib.Core.Path.{◌≡◌, refl, sym, ap, ◌∙◌}
use mathlib.Core.Logic.{◌↔◌}
use mathlib.Core.List.{List, [], ◌∷◌, map}
use Prim.Native.Nat.{ℕ, zero, suc, ◌-◌, ◌≤◌, ◌<◌}
use native.Mathlib.Decide.{dec_lt}
use native.Mathlib.Omega.{arith}
use lib.ListN.{length, get_or, length-map, length-take, get_or-eq_default}
use Rattle.std.proofs.lemmas.List.{get_or-map}
use Rattle.meaning.specs.declared.Move.{Move}
use Rattle.meaning.specs.declared.Turnout.{Turnout}
use Rattle.meaning.specs.declared.Kind.{Kind}
use Rattle.meaning.specs.declared.Kind.TheVariants as kind
use Rattle.meaning.specs.declared.Element.{Element}
use Rattle.meaning.specs.declared.Situation.{Situation}
use Rattle.meaning.specs.Station.{elements_of}
use Rattle.meaning.specs.File.{no_element}
use Rattle.meaning.specs.Parts.{kind_of_element}
use Rattle.route_meaning.specs.Routes.{IsSignal, IsTurnout, sort_of, sort_at}

module _ (s : Situation) where
  pub sort_none : (e : ℕ) → (1 ≤ e → ⊥) → sort_at s e ≡ 0
  unfolding sort_at
  sort_none zero n = refl
  sort_none (suc k) n = absurd (n (omega arith))

  -- Element k + 1.
  module _ {e : ℕ} (k : ℕ) (is : e ≡ suc k) {es : List Element} (are : es ≡ elements_of s) where
    abbrev sort : Element → ℕ
    sort x = sort_of x.kind

    pub sort_past : length es ≤ k → sort_at s e ≡ 0
    unfolding sort_at
    sort_past h = rw (is, ← are) (get_or-eq_default (map sort es) 0 (rw length-map h))

    pub sort_here : k < length es → (x : Element) → x ≡ get_or es k x → sort_at s e ≡ sort_of x.kind
    unfolding sort_at
    sort_here h x here = rw (is, ← are) (get_or-map sort es k x 0 h ∙ ap sort (sym here))

  -- An element of the station has a number from 1 to the number of elements.
  pub sort_inside : (e : ℕ) → (sort_at s e ≡ 0 → ⊥) → (1 ≤ e) × (e ≤ s.header.elements)
  unfolding elements_of
  sort_inside zero some = absurd (some (sort_none 0 (λ h. omega (arith, h))))
  sort_inside (suc k) some = (omega arith, go (dec_lt k s.header.elements))
    where
      go : Dec (k < s.header.elements) → suc k ≤ s.header.elements
      go (yes l) = l
      go (no l) = absurd (some (sort_past k refl refl (omega (arith, l, length-take s.header.elements s.elements))))

-- ---- in words
signal_kind : (k : Kind) → (sort_of k ≡ 1) ↔ ((m : Move) × (k ≡ kind.Signal m))
signal_kind (kind.Signal m) = (λ e. (m, refl), λ w. refl)
signal_kind (kind.Turnout t) = (λ e. absurd (omega arith), λ w. absurd (omega (arith, ap sort_of w.1)))

turnout_kind : (k : Kind) → (sort_of k ≡ 2) ↔ ((t : Turnout) × (k ≡ kind.Turnout t))
turnout_kind (kind.Signal m) = (λ e. absurd (omega arith), λ w. absurd (omega (arith, ap sort_of w.1)))
turnout_kind (kind.Turnout t) = (λ e. (t, refl), λ w. refl)

same_default : {A : Type 0} (l : List A) (k : ℕ) (x y : A) → k < length l → get_or l k x ≡ get_or l k y
same_default [] k x y h = absurd (omega arith)
same_default (a ∷ l) zero x y h = refl
same_default (a ∷ l) (suc k) x y h = same_default l k x y (omega arith)

module _ (s : Situation) where
  -- Element e has the sort k, which is none for a number that no element has.
  sort_kind : (e k : ℕ) → 1 ≤ k → (sort_at s e ≡ k) ↔ ((1 ≤ e) × (e ≤ length (elements_of s)) × (sort_of (kind_of_element s e) ≡ k))
  sort_kind zero k some = (λ h. absurd (omega (arith, h, sort_none s 0 (λ l. omega (arith, l)))), λ w. absurd (omega (arith, w.0)))
  sort_kind (suc i) k some = go (dec_lt i (length (elements_of s)))
    where
      x : Element
      x = get_or (elements_of s) (suc i - 1) no_element

      go : Dec (i < length (elements_of s))
          → (sort_at s (suc i) ≡ k) ↔ ((1 ≤ suc i) × (suc i ≤ length (elements_of s)) × (sort_of (kind_of_element s (suc i)) ≡ k))
      go (yes l) =
          let back : suc i - 1 ≡ i = omega arith in
          let here : x ≡ get_or (elements_of s) i x = rw back (same_default (elements_of s) i _ _ l) in
          let e = sort_here s i refl refl l x here in
          (λ h. (omega arith, omega (arith, l), sym e ∙ h), λ w. e ∙ w.2)
      go (no l) = (λ h. absurd (omega (arith, h, sort_past s i refl refl (omega (arith, l)))), λ w. absurd (omega (arith, w.1, l)))

  pub is_signal : (e : ℕ) → (sort_at s e ≡ 1) ↔ IsSignal s e
  is_signal e =
      let a = sort_kind e 1 (omega arith) in
      let b = signal_kind (kind_of_element s e) in
      (λ h. let w = a.0 h in (w.0, w.1, b.0 w.2), λ w. a.1 (w.0, w.1, b.1 w.2))

  pub is_turnout : (e : ℕ) → (sort_at s e ≡ 2) ↔ IsTurnout s e
  is_turnout e =
      let a = sort_kind e 2 (omega arith) in
      let b = turnout_kind (kind_of_element s e) in
      (λ h. let w = a.0 h in (w.0, w.1, b.0 w.2), λ w. a.1 (w.0, w.1, b.1 w.2))
