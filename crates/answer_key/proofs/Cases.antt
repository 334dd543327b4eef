-- Which kind of key a file has, by what the verdict answers with two lists of 512 numbers: no list is too short for an accepted file,
-- so a refusal other than 10 is the key's, 10 leads to the settings question, and no refusal to the verdict's lines.
use mathlib.Core.Path.{◌≡◌, refl, sym, ap, ◌∙◌}
use mathlib.Core.Bool.{Bool, true, false, cond, false≢true}
use mathlib.Core.List.{List, [], ◌∷◌}
use Prim.Native.Nat.{ℕ, zero, suc, ◌≤◌}
use native.Mathlib.Omega.{arith}
use lib.Dec.{eqb}
use lib.ListN.{length, take}
use borrow.Author.Tests.{eqb-true, eqb-false, eq-eqb, ne_eqb, le-ltb}
use Rattle.meaning.specs.declared.Situation.{Situation}
use Rattle.meaning.specs.declared.Refusal.{Refusal}
use Rattle.meaning.specs.Station.{file_states}
use Rattle.meaning.specs.Settings.{open_count}
use Rattle.meaning.specs.File.{refusal, reading}
use Rattle.meaning.specs.Operations.{open_element, call_refusal, verdict_refusal, settings_refusal}
use Rattle.meaning.specs.Key.{key_refusal}
use Rattle.basics.proofs.Numbers.{None, lowest_none, none_lowest}
use Rattle.meaning.proofs.Accepted.{refusal_listed}
use Rattle.meaning.proofs.AcceptedSituation.{accepted_counts}

-- A call is refused with q at the m-th open element, or not at all.
call_cases : (P : Refusal → Type 0) (s : Situation) (q m : ℕ)
    → (eqb (open_element m (file_states s)) 0 ≡ true → P (refusal 0 0))
    → ((line : ℕ) → eqb (open_element m (file_states s)) 0 ≡ false → P (refusal q line)) → P (call_refusal s q m false)
unfolding call_refusal
call_cases P s q m none some = go (eqb (open_element m (file_states s)) 0) refl _
  where
    go : (b : Bool) → eqb (open_element m (file_states s)) 0 ≡ b → (line : ℕ) → P (cond b (refusal 0 0) (refusal q line))
    go true e line = none e
    go false e line = some line e

-- ---- open elements
-- One element more is at most one open element more.
opens_one_more : (fs : List ℕ) (e : ℕ) → open_count (take (suc e) fs) ≤ suc (open_count (take e fs))
unfolding open_count
opens_one_more [] e = omega arith
opens_one_more (zero ∷ fs) zero = omega arith
opens_one_more (suc f ∷ fs) zero = omega arith
opens_one_more (zero ∷ fs) (suc e) = omega (arith, opens_one_more fs e)
opens_one_more (suc f ∷ fs) (suc e) = opens_one_more fs e

-- Where there is no first open element, there is no thirteenth.
none_open : (fs : List ℕ) → open_element 1 fs ≡ 0 → open_element 13 fs ≡ 0
unfolding open_element open_count
none_open fs h =
    none_lowest (length fs) (λ e. eqb (open_count (take e fs)) 13)
    (λ e low high. ne_eqb (open_count (take e fs)) 13 (λ z. omega (arith, zeros e high)))
  where
    not_one : None (length fs) (λ e. eqb (open_count (take e fs)) 1)
    not_one = lowest_none (length fs) (λ e. eqb (open_count (take e fs)) 1) h

    zeros : (e : ℕ) → e ≤ length fs → open_count (take e fs) ≡ 0
    zeros zero high = refl
    zeros (suc e) high =
        let z = eqb-false (open_count (take (suc e) fs)) 1 (not_one (suc e) (omega arith) high) in
        omega (arith, opens_one_more fs e, zeros e (omega arith), z)

-- ---- the refusals of a file
module _ (file : List ℕ) where
  -- The situation of the file, whether its reading is accepted, whether it has no open element, and what the verdict's refusal is.
  abbrev s : Situation
  s = (reading file).situation

  abbrev Accepts : Bool → Type 0
  Accepts b = eqb (reading file).refusal.number 0 ≡ b

  abbrev NoneOpen : Bool → Type 0
  NoneOpen b = eqb (open_element 1 (file_states s)) 0 ≡ b

  abbrev pub given : Refusal
  given = verdict_refusal file 512 512

  -- What holds of a file that is accepted and of one that is not.
  by_accepted : {P : Type 0} → (Accepts true → P) → (Accepts false → P) → P
  by_accepted {P} accepted refused = go (eqb (reading file).refusal.number 0) refl
    where
      go : (b : Bool) → Accepts b → P
      go true a = accepted a
      go false a = refused a

  -- Lists of 512 numbers are long enough for an accepted file.
  verdict_accepted : Accepts true → given ≡ call_refusal s 10 1 false
  unfolding verdict_refusal
  verdict_accepted a =
      let c = accepted_counts file (eqb-true (reading file).refusal.number 0 a) in
      rw (a, le-ltb 512 s.header.sections c.limits.sections)

  verdict-refused : Accepts false → given ≡ (reading file).refusal
  unfolding verdict_refusal
  verdict-refused a = rw a

  key_accepted : Accepts true → key_refusal file ≡ call_refusal s 11 13 false
  unfolding key_refusal
  key_accepted a = rw a

  pub key_refused : Accepts false → key_refusal file ≡ (reading file).refusal
  unfolding key_refusal
  key_refused a = rw a

  -- A buffer of 256 bytes is long enough: the settings question has the key's refusals.
  pub settings_refusal_lem : settings_refusal file 256 ≡ key_refusal file
  unfolding settings_refusal key_refusal
  settings_refusal_lem =
      by_accepted
      (λ a.
      let c = accepted_counts file (eqb-true (reading file).refusal.number 0 a) in
      rw (a, le-ltb 256 s.header.elements c.limits.elements))
      (λ a. rw a)

  -- Where the settings question is not refused, the file is accepted.
  pub settings_accepted : eqb (settings_refusal file 256).number 0 ≡ true → (reading file).refusal.number ≡ 0
  settings_accepted h =
      by_accepted (eqb-true (reading file).refusal.number 0)
      (λ a. absurd (false≢true (sym a ∙ ap (λ (q : Refusal). eqb q.number 0) (sym (settings_refusal_lem ∙ key_refused a)) ∙ h)))

  -- The verdict is refused for an open element, of an accepted file.
  pub open_refused : given.number ≡ 10 → Accepts true × NoneOpen false
  open_refused h =
      by_accepted
      (λ a. (
        a,
        call_cases (λ q. q.number ≡ 10 → NoneOpen false) s 10 1 (λ n z. absurd (omega arith)) (λ l o z. o)
            (rw (verdict_accepted a) at h),
      ))
      (λ a. absurd (omega (arith, (refusal_listed file).number, rw (verdict-refused a) at h)))

  -- For another cause: the key has the same refusal.
  pub other_refused : eqb given.number 0 ≡ false → (given.number ≡ 10 → ⊥)
      → given ≡ key_refusal file
  other_refused h d =
      by_accepted
      (λ a.
      call_cases (λ q. eqb q.number 0 ≡ false → (q.number ≡ 10 → ⊥) → given ≡ key_refusal file) s 10 1
      (λ n z e. absurd (eqb-false 0 0 z refl))
      (λ l o z e. absurd (e refl))
      (rw (verdict_accepted a) at h) (rw (verdict_accepted a) at d))
      (λ a. verdict-refused a ∙ sym (key_refused a))

  -- The verdict is not refused: no element is open, and the key is no refusal either.
  pub not-refused : eqb given.number 0 ≡ true → (eqb (key_refusal file).number 0 ≡ true) × NoneOpen true
  not-refused h =
      by_accepted
      (λ a.
      let n : NoneOpen true = call_cases (λ q. eqb q.number 0 ≡ true → NoneOpen true) s 10 1 (λ n z. n)
      (λ l o z. absurd (omega (arith, eqb-true 10 0 z))) (rw (verdict_accepted a) at h) in
      let t : eqb (open_element 13 (file_states s)) 0 ≡ true = eq-eqb _ 0 (none_open (file_states s) (eqb-true (open_element 1 (file_states s)) 0 n)) in
      (rw (key_accepted a) (call_cases (λ q. eqb q.number 0 ≡ true) s 11 13 (λ y. refl) (λ l o. absurd (false≢true (sym o ∙ t)))), n))
      (λ a. absurd (false≢true (sym a ∙ ap (λ (q : Refusal). eqb q.number 0) (sym (verdict-refused a)) ∙ h)))
