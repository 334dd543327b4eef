-- A question split into two by fixing one open element. The parts' settings are the whole's with that element at 1 and at 2
-- (`part_setting`), and a setting's proceed count is the part's, with one more where a signal is fixed at 1 (`first_proceeds`,
-- `second_proceeds`). But for one state a part is the whole (`part_same`).
use mathlib.Core.Path.{◌≡◌, refl, ap, ◌∙◌}
use mathlib.Core.Logic.{◌⊎◌, ◌↔◌}
use mathlib.Core.Bool.{true, false≢true}
use mathlib.Core.List.{List, [], ◌∷◌, map}
use Prim.Native.Nat.{ℕ, zero, suc, ◌+◌, ◌-◌, ◌<◌}
use native.Mathlib.Omega.{arith}
use lib.ListN.{length, get_or, take, set, length-map}
use Rattle.meaning.specs.declared.Kind.{Kind}
use Rattle.meaning.specs.declared.Element.{Element}
use Rattle.meaning.specs.declared.Situation.{Situation}
use Rattle.meaning.specs.Station.{plain_moves, elements_of, file_states, trains_of}
use Rattle.meaning.specs.Settings.{open_count, keeps, is_setting, proceeds, proceeds_in, proceed_count}
use Rattle.meaning.specs.File.{no_element}
use Rattle.meaning.specs.Parts.{IsOpen, fixed, part, kind_of_element, gain_of, gain}
use Rattle.meaning.proofs.SameKinds.{kinds, SameButStates}
use Rattle.meaning.proofs.Settings.{setting_length, gives_open}

-- ---- lists of states
-- The settings with one open state fixed at x are the settings that have x there.
set_setting : (fs σ : List ℕ) (i y : ℕ) → i < length fs → get_or fs i 0 ≡ 0 → keeps 0 (suc y) ≡ true
    → (is_setting (set fs i (suc y)) σ ≡ true) ↔ ((is_setting fs σ ≡ true) × (get_or σ i 0 ≡ suc y))
unfolding is_setting
set_setting [] σ i y b z k = absurd (omega arith)
set_setting (f ∷ fs) [] zero y b z k = (λ h. absurd (false≢true h), λ w. absurd (false≢true w.0))
set_setting (f ∷ fs) [] (suc i) y b z k = (λ h. absurd (false≢true h), λ w. absurd (false≢true w.0))
set_setting (zero ∷ fs) (x ∷ σ) zero y b z k = grind arith
set_setting (suc f ∷ fs) (x ∷ σ) zero y b z k = absurd (omega arith)
set_setting (f ∷ fs) (x ∷ σ) (suc i) y b z k = grind (arith, set_setting fs σ i y (omega arith) z k)

-- ---- the elements of a part
abbrev states : List Element → List ℕ
states es = map (λ (e : Element). e.state) es

fixed-take : (n i x : ℕ) (es : List Element) → take n (fixed i x es) ≡ fixed i x (take n es)
unfolding fixed
fixed-take zero i x es = refl
fixed-take (suc n) i x [] = refl
fixed-take (suc n) zero x (e ∷ es) = refl
fixed-take (suc n) (suc i) x (e ∷ es) = ap (λ (l : List Element). e ∷ l) (fixed-take n i x es)

fixed_states : (i x : ℕ) (es : List Element) → states (fixed i x es) ≡ set (states es) i x
unfolding fixed
fixed_states i x [] = refl
fixed_states zero x (e ∷ es) = refl
fixed_states (suc i) x (e ∷ es) = ap (λ (l : List ℕ). e.state ∷ l) (fixed_states i x es)

fixed-kinds : (i x : ℕ) (es : List Element) → kinds (fixed i x es) ≡ kinds es
unfolding fixed
fixed-kinds i x [] = refl
fixed-kinds zero x (e ∷ es) = refl
fixed-kinds (suc i) x (e ∷ es) = ap (λ (l : List Kind). e.kind ∷ l) (fixed-kinds i x es)

-- The element that is fixed no longer adds to the proceed count.
fixed-proceeds : (i y : ℕ) (es : List Element) (σ : List ℕ) → i < length es → i < length σ → get_or (states es) i 0 ≡ 0
    → proceeds_in es σ ≡ proceeds_in (fixed i (suc y) es) σ + proceeds (get_or es i no_element).kind 0 (get_or σ i 0)
unfolding fixed proceeds_in
fixed-proceeds i y [] σ b c z = absurd (omega arith)
fixed-proceeds i y (e ∷ es) [] b c z = absurd (omega arith)
fixed-proceeds zero y (e ∷ es) (x ∷ σ) b c z = grind arith
fixed-proceeds (suc i) y (e ∷ es) (x ∷ σ) b c z = omega (arith, fixed-proceeds i y es σ (omega arith) (omega arith) z)

-- ---- the part of a situation
module _ (s : Situation) (e : ℕ) where
  pub part_elements : (x : ℕ) → elements_of (part s e x) ≡ fixed (e - 1) x (elements_of s)
  unfolding elements_of part
  part_elements x = fixed-take s.header.elements (e - 1) x s.elements

  -- The part's states are the file's but one.
  part_states : (x : ℕ) → file_states (part s e x) ≡ set (file_states s) (e - 1) x
  unfolding file_states
  part_states x = ap states (part_elements x) ∙ fixed_states (e - 1) x (elements_of s)

  -- The part differs from the whole in the states of its elements alone.
  pub part_same : (x : ℕ) → SameButStates (part s e x) s
  unfolding plain_moves trains_of part
  part_same x = grind (arith, fixed-kinds, part_elements)

  pub same_part : (x : ℕ) → SameButStates s (part s e x)
  same_part x = grind (arith, part_same)

-- ---- the two parts at an open element
first_gain : (k : Kind) → proceeds k 0 1 ≡ gain_of k
first_gain k = grind arith

no_gain : (k : Kind) → proceeds k 0 2 ≡ 0
no_gain k = grind arith

-- With one open state set to 1 or 2, one state fewer is open.
set_open : (fs : List ℕ) (i y : ℕ) → i < length fs → get_or fs i 0 ≡ 0 → suc (open_count (set fs i (suc y))) ≡ open_count fs
unfolding open_count
set_open [] i y b z = absurd (omega arith)
set_open (zero ∷ fs) zero y b z = refl
set_open (suc f ∷ fs) zero y b z = absurd (omega arith)
set_open (zero ∷ fs) (suc i) y b z = ap suc (set_open fs i y (omega arith) z)
set_open (suc f ∷ fs) (suc i) y b z = set_open fs i y (omega arith) z

module _ (s : Situation) (e : ℕ) (is_open : IsOpen s e) where
  place : e - 1 < length (file_states s)
  place = omega arith

  -- A part has one open element fewer.
  pub part_open : (y : ℕ) → suc (open_count (file_states (part s e (suc y)))) ≡ open_count (file_states s)
  part_open y = grind (arith, part_states, set_open)

  -- The part's settings are the whole's that have the element at its state.
  pub part_setting : (y : ℕ) (σ : List ℕ) → keeps 0 (suc y) ≡ true
      → (is_setting (file_states (part s e (suc y))) σ ≡ true) ↔ ((is_setting (file_states s) σ ≡ true) × (get_or σ (e - 1) 0 ≡ suc y))
  part_setting y σ k = rw (part_states s e (suc y)) (set_setting (file_states s) σ (e - 1) y place is_open.at_0 k)

  -- Each setting has the element at 1 or at 2.
  pub one_or_two : (σ : List ℕ) → is_setting (file_states s) σ ≡ true → (get_or σ (e - 1) 0 ≡ 1) ⊎ (get_or σ (e - 1) 0 ≡ 2)
  one_or_two σ h = gives_open (file_states s) σ h (e - 1) place is_open.at_0

  proceeds_more : (y : ℕ) (σ : List ℕ) → keeps 0 (suc y) ≡ true → is_setting (file_states (part s e (suc y))) σ ≡ true
      → proceed_count s σ ≡ proceed_count (part s e (suc y)) σ + proceeds (kind_of_element s e) 0 (suc y)
  unfolding proceed_count file_states
  proceeds_more y σ k h = grind (arith, fixed-proceeds, length-map, part_elements, part_setting, setting_length)

  -- "Add one to the first part's proceed count if the element is a signal."
  pub first_proceeds : (σ : List ℕ) → is_setting (file_states (part s e 1)) σ ≡ true → proceed_count s σ ≡ proceed_count (part s e 1) σ + gain s e
  unfolding gain
  first_proceeds σ h = omega (arith, proceeds_more 0 σ refl h, first_gain (kind_of_element s e))

  -- The second part's count is the whole's.
  pub second_proceeds : (σ : List ℕ) → is_setting (file_states (part s e 2)) σ ≡ true → proceed_count s σ ≡ proceed_count (part s e 2) σ
  second_proceeds σ h = omega (arith, proceeds_more 1 σ refl h, no_gain (kind_of_element s e))
