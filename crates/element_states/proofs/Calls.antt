-- The refusal of a call: that of its open elements, or 9. `call_open`, `call_short` and `call_fixed` are the ways through a call; `not_called` and
-- `first_none` say what holds where nothing is refused.
use mathlib.Core.Path.{◌≡◌, refl, sym, ap, ◌∙◌}
use mathlib.Core.Bool.{Bool, true, false, cond}
use mathlib.Core.List.{List}
use Prim.Native.Nat.{ℕ, ◌+◌, ◌≤◌}
use native.Mathlib.Omega.{arith}
use lib.Dec.{eqb}
use lib.ListN.{length, take}
use borrow.Author.Tests.{eqb-true, eqb-false, eq-eqb, ne_eqb}
use Rattle.meaning.specs.declared.Header.{Header}
use Rattle.meaning.specs.declared.Situation.{Situation}
use Rattle.meaning.specs.declared.Refusal.{Refusal}
use Rattle.meaning.specs.Station.{file_states}
use Rattle.meaning.specs.Settings.{open_count}
use Rattle.std.specs.Prelude.{Result, Ok, Err, ⊤}
use Rattle.meaning.specs.File.{refusal, unless_refused}
use Rattle.meaning.proofs.Refused.{refused_with}
use Rattle.meaning.specs.Operations.{open_element, call_refusal, first_of}
use Rattle.basics.proofs.Numbers.{lowest_within}

-- The m-th open element is one of the elements.
pub open_within : (states : List ℕ) (m : ℕ) → open_element m states ≤ length states
unfolding open_element
open_within states m = omega (arith, lowest_within (length states) (λ e. eqb (open_count (take e states)) m))

-- The states at the start of a list are those of the file.
pub from_start : (s : Situation) (h : Header) (states : List ℕ) (n : ℕ) → n ≡ h.elements → s.header ≡ h → take s.header.elements states ≡ file_states s
    → take n states ≡ file_states s
from_start s h states n e k is = ap (λ (m : ℕ). take m states) (e ∙ sym (ap (λ (x : Header). x.elements) k)) ∙ is

-- ---- the call
module _ (s : Situation) (q m : ℕ) (short : Bool) where
  abbrev answer : Result ⊤ Refusal
  answer = unless_refused (call_refusal s q m short) tt

  -- Each says what the refusal is, whatever the number q, and what is answered by it.
  pub call_open : (e : ℕ) → e ≡ open_element m (file_states s) → 1 ≤ e
      → (refusal q (1 + s.header.plain + e) ≡ call_refusal s q m short) × (1 ≤ q → Err (refusal q (1 + s.header.plain + e)) ≡ answer)
  unfolding call_refusal
  call_open e is low = (same, λ some. rw (← same) (refused_with (refusal q (1 + s.header.plain + e)) tt (λ z. omega arith)))
    where
      same : refusal q (1 + s.header.plain + e) ≡ call_refusal s q m short
      same = rw (← is, ne_eqb e 0 (λ z. omega arith)) refl

  pub call_short : open_element m (file_states s) ≡ 0 → short ≡ true → (refusal 9 0 ≡ call_refusal s q m short) × (Err (refusal 9 0) ≡ answer)
  unfolding call_refusal
  call_short z t = rw (z, t) (refl, refl)

  pub call_fixed : open_element m (file_states s) ≡ 0 → short ≡ false → (refusal 0 0 ≡ call_refusal s q m short) × (Ok tt ≡ answer)
  unfolding call_refusal
  call_fixed z t = rw (z, t) (refl, refl)

-- Where a call is not refused, there is no m-th open element, and the lent memory is long enough.
pub not_called : (s : Situation) (q m : ℕ) (short : Bool) → (q ≡ 0 → ⊥) → (call_refusal s q m short).number ≡ 0
    → (open_element m (file_states s) ≡ 0) × (short ≡ false)
unfolding call_refusal
not_called s q m short some = go (eqb (open_element m (file_states s)) 0) refl short
  where
    go : (b : Bool) → eqb (open_element m (file_states s)) 0 ≡ b → (t : Bool)
        → (cond b (cond t (refusal 9 0) (refusal 0 0)) (refusal q (1 + s.header.plain + open_element m (file_states s)))).number ≡ 0
        → (open_element m (file_states s) ≡ 0) × (t ≡ false)
    go true e true z = absurd (omega arith)
    go true e false z = (eqb-true (open_element m (file_states s)) 0 e, refl)
    go false e t z = absurd (some z)

-- ---- the file's refusal and the call's
module _ (file call : Refusal) where
  pub first_file : (file.number ≡ 0 → ⊥) → file ≡ first_of file call
  first_file n = sym (ap (λ (b : Bool). cond b call file) (ne_eqb file.number 0 n))

  pub first_call : file.number ≡ 0 → call ≡ first_of file call
  first_call z = sym (ap (λ (b : Bool). cond b call file) (eq-eqb file.number 0 z))

  -- Where neither the file nor the call is refused, there is no first refusal.
  pub first_none : (first_of file call).number ≡ 0 → (file.number ≡ 0) × (call.number ≡ 0)
  first_none = go (eqb file.number 0) refl
    where
      go : (b : Bool) → eqb file.number 0 ≡ b → (cond b call file).number ≡ 0 → (file.number ≡ 0) × (call.number ≡ 0)
      go true e z = (eqb-true file.number 0 e, z)
      go false e z = absurd (eqb-false file.number 0 e z)
