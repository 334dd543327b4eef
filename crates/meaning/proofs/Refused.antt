-- What `unless_refused` answers, from the number of the refusal; and what an answer says of the refusal.
use native.Mathlib.Omega.{arith}
use Rattle.std.specs.Prelude.{Ok, Err, ◌≡◌, ℕ, List}
use mathlib.Core.Path.{refl}
use borrow.Author.Tests.{eq-eqb, ne_eqb}
use Rattle.meaning.specs.declared.Situation.{Situation}
use Rattle.meaning.specs.declared.Refusal.{Refusal}
use Rattle.meaning.specs.File.{unless_refused, answered, refused, read_with, reading, reading_answer}

module _ {T : Type 0} (q : Refusal) (x : T) where
  pub refused_with : (q.number ≡ 0 → ⊥) → Err q ≡ unless_refused q x
  refused_with n = rw (ne_eqb q.number 0 n) refl

  pub answered_with : q.number ≡ 0 → Ok x ≡ unless_refused q x
  answered_with z = rw (eq-eqb q.number 0 z) refl

  -- An answer with a value: nothing is refused, and the value is x.
  pub ok_of : {y : T} → unless_refused q x ≡ Ok y → (q.number ≡ 0) × (x ≡ y)
  ok_of {y = y} = grind arith

  -- An answer that refuses: the refusal is q, and q is one.
  pub err_of : {r : Refusal} → unless_refused q x ≡ Err r → (q.number ≡ 0 → ⊥) × (q ≡ r)
  err_of {r = r} = grind arith

-- ---- reading
-- What `read_with` reads is answered alike.
pub answered_read : (q : Refusal) (s : Situation) → unless_refused q s ≡ answered (read_with q s)
unfolding refused
answered_read q s = grind arith

module _ (file : List ℕ) where
  -- The file is accepted and gives s.
  pub accepted_as : {s : Situation} → reading_answer file ≡ Ok s → ((reading file).refusal.number ≡ 0) × ((reading file).situation ≡ s)
  accepted_as h = ok_of (reading file).refusal (reading file).situation h

  -- The file is refused with q.
  pub refused_as : {q : Refusal} → reading_answer file ≡ Err q → ((reading file).refusal.number ≡ 0 → ⊥) × ((reading file).refusal ≡ q)
  refused_as h = err_of (reading file).refusal (reading file).situation h
