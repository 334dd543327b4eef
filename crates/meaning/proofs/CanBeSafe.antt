-- Can it be saved at all? `yes_exactly` says what the answer is, and `saved_at_stop` that it is the answer for the situation with every open
-- signal at stop, whose open elements are the open turnouts (`turnouts_left`). `some_at` and `none_at` are for a loop that tries place after place.
use mathlib.Core.Path.{◌≡◌, refl, sym, ap, ◌∙◌}
use mathlib.Core.Logic.{inl, inr, ⊎_elim, ◌↔◌}
use mathlib.Core.Bool.{Bool, true, false, false≢true}
use mathlib.Core.List.{List, [], ◌∷◌, map}
use mathlib.Mathlib.Data.Bool.Basic.{or_inl, or_inr}
use Prim.Native.Nat.{ℕ, zero, suc, ◌≤◌, ◌<◌}
use native.Mathlib.Omega.{arith}
use lib.ListN.{length, get_or, length-map}
use Rattle.meaning.specs.declared.Kind.TheVariants.{Turnout}
use Rattle.meaning.specs.declared.Turnout.{Turnout as Points}
use Rattle.meaning.specs.declared.Element.{Element}
use Rattle.meaning.specs.declared.Situation.{Situation}
use Rattle.meaning.specs.Station.{elements_of, file_states}
use Rattle.meaning.specs.Verdict.{safe}
use Rattle.meaning.specs.Settings.{open_count, is_setting}
use Rattle.meaning.specs.File.{no_element}
use Rattle.meaning.specs.Operations.{open_element}
use Rattle.meaning.specs.CanBeSafe.{some, can_be_safe, open_turnouts, turnout_element}
use Rattle.basics.proofs.Tests.{or_cases, same_test}
use Rattle.basics.proofs.Lists.{mapped_take}
use Rattle.basics.specs.Lists.{In}
use Rattle.meaning.proofs.Settings.{settings_sound, settings_complete}
use Rattle.meaning.specs.Stopped.{stop_state, AtStop}
use Rattle.meaning.proofs.Stopped.{stopped, stopped-safe, at_stop_states, at_stop-safe, at_stop_tried, at_stop_setting}

-- ---- one of a list
-- Where `some` says yes, an entry passes.
some_in : (f : List ℕ → Bool) (l : List (List ℕ)) → some f l ≡ true → (σ : List ℕ) × In σ l × (f σ ≡ true)
unfolding some
some_in f [] h = absurd (false≢true h)
some_in f (τ ∷ l) h =
    ⊎_elim (λ e. (τ, inl refl, e)) (λ e. let r = some_in f l e in (r.0, inr r.1, r.2)) (or_cases (f τ) (some f l) h)

in_some : (f : List ℕ → Bool) (l : List (List ℕ)) (σ : List ℕ) → In σ l → f σ ≡ true → some f l ≡ true
unfolding some
in_some f [] σ i h = absurd i
in_some f (τ ∷ l) σ (inl e) h = or_inl (f τ) (some f l) (ap f (sym e) ∙ h)
in_some f (τ ∷ l) σ (inr i) h = or_inr (f τ) (some f l) (in_some f l σ i h)

-- Where the entry at a place passes, some entry does.
pub some_at : (f : List ℕ → Bool) (l : List (List ℕ)) (k : ℕ) → k < length l → f (get_or l k []) ≡ true → some f l ≡ true
unfolding some
some_at f [] k b h = absurd (omega arith)
some_at f (σ ∷ l) zero b h = or_inl (f σ) (some f l) h
some_at f (σ ∷ l) (suc k) b h = or_inr (f σ) (some f l) (some_at f l k (omega arith) h)

-- Where no entry passes at any place, `some` says no.
pub none_at : (f : List ℕ → Bool) (l : List (List ℕ)) → ((k : ℕ) → k < length l → f (get_or l k []) ≡ false) → some f l ≡ false
unfolding some
none_at f [] h = refl
none_at f (σ ∷ l) h = rw (h 0 (omega arith)) (none_at f l (λ k b. h (suc k) (omega arith)))

-- ---- the answer
-- Some setting of all the open elements is safe.
abbrev SomeSafe : Situation → Type 0
SomeSafe s = (σ : List ℕ) × (is_setting (file_states s) σ ≡ true) × (safe s σ ≡ true)

pub yes_exactly : (s : Situation) → (can_be_safe s ≡ true) ↔ SomeSafe s
unfolding can_be_safe
yes_exactly s = grind (arith, in_some, settings_complete, settings_sound, some_in)

-- "This operation tries turnouts alone, with all open signals at stop": the answer is the same.
pub saved_at_stop : (s t : Situation) → AtStop s t → can_be_safe t ≡ can_be_safe s
saved_at_stop s t w =
    same_test (can_be_safe t) (can_be_safe s)
    (λ h.
    let v = (yes_exactly t).0 h in
    (yes_exactly s).1 (v.0, at_stop_setting w v.0 v.1, sym (at_stop-safe w v.0) ∙ v.2))
    (λ h.
    let v = (yes_exactly s).0 h in
    let τ = stopped s v.0 in
    (yes_exactly t).1 (τ, at_stop_tried w v.0 v.1, at_stop-safe w τ ∙ stopped-safe s v.0 v.2))

-- ---- open turnouts
-- With the open signals at stop there are as many open elements as open turnouts.
pub count_left : (es : List Element) → open_count (map stop_state es) ≡ open_turnouts es
unfolding open_count open_turnouts
count_left [] = refl
count_left (e ∷ es) = grind (arith, count_left es)

-- The m-th open element is then the m-th open turnout.
pub turnout_left : (m : ℕ) (es : List Element) → open_element m (map stop_state es) ≡ turnout_element m es
unfolding open_element turnout_element
turnout_left m es = grind (arith, count_left, length-map, mapped_take)

pub turnouts_left : (s t : Situation) → AtStop s t → (m : ℕ) → open_element m (file_states t) ≡ turnout_element m (elements_of s)
turnouts_left s t w m = ap (open_element m) (at_stop_states w) ∙ turnout_left m (elements_of s)

-- An element that is then open is an open turnout.
pub open_turnout_lem : (es : List Element) (i : ℕ) → i < length es → get_or (map stop_state es) i 0 ≡ 0
    → (get_or (map (λ (e : Element). e.state) es) i 0 ≡ 0) × (t : Points) × ((get_or es i no_element).kind ≡ Turnout t)
open_turnout_lem [] i b h = absurd (omega arith)
open_turnout_lem (e ∷ es) zero b h = grind arith
open_turnout_lem (e ∷ es) (suc i) b h = open_turnout_lem es i (omega arith) h

fewer_in : (es : List Element) → open_turnouts es ≤ open_count (map (λ (e : Element). e.state) es)
unfolding open_count open_turnouts
fewer_in [] = omega arith
fewer_in (e ∷ es) = grind (arith, fewer_in es)

-- There are no more open turnouts than open elements.
pub fewer_turnouts : (s : Situation) → open_turnouts (elements_of s) ≤ open_count (file_states s)
unfolding file_states
fewer_turnouts s = fewer_in (elements_of s)
