-- The words of the demands and the definitions that the operations' contracts cite: an accepted file's situation is the one that is read,
-- the count of open elements decides the search for one, and the answer to a test is yes or no.
use mathlib.Core.Path.{◌≡◌, refl, sym, ap, subst, ◌∙◌}
use mathlib.Core.Logic.{◌↔◌, inl, inr}
use mathlib.Core.Bool.{Bool, true, false, cond, false≢true}
use mathlib.Core.List.{List, [], ◌∷◌, ◌++◌}
use Prim.Native.Nat.{ℕ, zero, suc, ◌≤◌, ◌<◌}
use native.Mathlib.Omega.{arith}
use lib.ListN.{length, length-map, length-take, take, drop, take-append-drop}
use lib.Seq.{length-take-le}
use Rattle.meaning.specs.declared.Element.{Element}
use Rattle.meaning.specs.declared.Situation.{Situation}
use Rattle.meaning.specs.Station.{elements_of, file_states}
use Rattle.meaning.specs.File.{Reading}
use Rattle.meaning.specs.Settings.{open_count}
use Rattle.meaning.specs.File.{refusal, reading}
use Rattle.meaning.specs.Accepted.{Accepted}
use Rattle.meaning.specs.Operations.{open_element, call_refusal, verdict_refusal, settings_refusal}
use Rattle.meaning.proofs.Accepted.{accepted_exactly, accepted_situation}
use Rattle.basics.proofs.Numbers.{none_lowest}
use Rattle.std.specs.Prelude.{Err}
use Rattle.meaning.specs.declared.Refusal.{Refusal}
use Rattle.meaning.specs.Digits.{printed_sum}
use Rattle.c_layout.specs.declared.FlatOutput.{FlatOutput}
use Rattle.c_layout.specs.Flat.{flat_output}
use Rattle.basics.specs.Lists.{In}
use Rattle.demands.specs.Words.{situation, AtMostOpen, Filled, Says}
use Rattle.demands.specs.Item04.{HandsBack}

-- What holds of the situation that is read from an accepted file holds of the situation of its lines.
pub of_lines : (file : List ℕ) → Accepted file → (P : Situation → Type 0) → P (reading file).situation → P (situation file)
unfolding situation
of_lines file a P = subst P (ap (λ (r : Reading). r.situation) (accepted_situation file ((accepted_exactly file).1 a)))

-- ---- open elements
fewer_first : (e : ℕ) (fs : List ℕ) → open_count (take e fs) ≤ open_count fs
unfolding open_count
fewer_first zero fs = omega arith
fewer_first (suc e) [] = omega arith
fewer_first (suc e) (zero ∷ fs) = omega (arith, fewer_first e fs)
fewer_first (suc e) (suc f ∷ fs) = fewer_first e fs

pub few_elements : (s : Situation) → length (elements_of s) ≤ s.header.elements
unfolding elements_of
few_elements s = omega (arith, length-take s.header.elements s.elements)

pub few_states : (s : Situation) → length (file_states s) ≤ s.header.elements
unfolding file_states
few_states s = omega (arith, length-map (elements_of s) (λ (e : Element). e.state), few_elements s)

-- Where fewer than m elements are open, the search for the m-th finds none.
pub none_open : (m : ℕ) (fs : List ℕ) → open_count fs < m → open_element m fs ≡ 0
unfolding open_element
none_open m fs h = grind (arith, none_lowest, fewer_first)

-- ---- calls that are not refused
-- A verdict is not refused.
pub verdict_passes : (file : List ℕ) (room₁ room₂ : ℕ) → Accepted file → AtMostOpen 0 (reading file).situation
    → (reading file).situation.header.sections ≤ room₁ → (reading file).situation.header.sections ≤ room₂
    → verdict_refusal file room₁ room₂ ≡ refusal 0 0
unfolding verdict_refusal call_refusal
verdict_passes file room₁ room₂ a o h₁ h₂ = grind (arith, accepted_exactly, none_open)

-- A settings question is not refused.
pub settings_passes : (file : List ℕ) (room : ℕ) → Accepted file → AtMostOpen 12 (reading file).situation
    → (reading file).situation.header.elements ≤ room → settings_refusal file room ≡ refusal 0 0
unfolding settings_refusal call_refusal
settings_passes file room a o h = grind (arith, accepted_exactly, none_open)

-- ---- what is returned of a text of no bytes
pub nothing : (q : Refusal) → HandsBack [] (flat_output (Err q))
unfolding printed_sum
nothing q = (refl, omega arith)

pub nothing_said : (r : FlatOutput) → HandsBack [] r → (r.length ≡ 0) × (r.subtractions ≡ 0)
unfolding printed_sum
nothing_said r h = (h.0, omega (arith, h.1))

-- ---- lists
pub some_entry : {A : Type 0} (x : A) (l : List A) → In x l → length l ≡ 0 → ⊥
some_entry x [] i e = i
some_entry x (y ∷ l) i e = omega arith

-- ---- lent memory
-- A list that holds a text and then what it held before.
pub filled_of : (text list list' : List ℕ) (n : ℕ) → length text ≡ n → n ≤ length list → list' ≡ text ++ drop n list → Filled text list list'
filled_of text list list' n size room is = grind arith

-- What stands in the first n places, where the rest is as it was.
pub filled_first : (n : ℕ) (list list' : List ℕ) → length list' ≡ length list → n ≤ length list → drop n list' ≡ drop n list → Filled (take n list') list list'
filled_first n list list' same room rest = grind (arith, take-append-drop n list', length-take-le n list')

pub filled_one : (text list left left' : List ℕ) → Filled text list left → Filled text list left' → left ≡ left'
filled_one text list left left' w v = w.is ∙ sym v.is

-- ---- yes and no
-- The answer to a test that says P.
pub says : {P : Type 0} (b : Bool) → (b ≡ true) ↔ P → Says (cond b 1 0) P
says true e = inl (refl, e.0 refl)
says false e = inr (refl, λ p. false≢true (e.1 p))

pub says_yes : {P : Type 0} (n : ℕ) → Says n P → (n ≡ 1) ↔ P
says_yes n (inl w) = (λ e. w.1, λ p. w.0)
says_yes n (inr w) = (λ e. absurd (omega (arith, e, w.0)), λ p. absurd (w.1 p))

pub says_one : {P : Type 0} (m n : ℕ) → Says m P → Says n P → m ≡ n
says_one m n (inl w) (inl v) = w.0 ∙ sym v.0
says_one m n (inl w) (inr v) = absurd (v.1 w.1)
says_one m n (inr w) (inl v) = absurd (w.1 v.1)
says_one m n (inr w) (inr v) = w.0 ∙ sym v.0
