-- Item 12 of 02, splitting a question: "Our question writers break a hard question into two by fixing one open element, at 1 in the first part
-- and at 2 in the second. They rely on the number of safe settings being the sum of the two parts' numbers."
-- `file` is handed to the settings question with `buffer`; it answers r and leaves buffer'. The parts are files of their own, each handed to
-- it with a buffer of its own: r₁ and r₂ are any answers that demand 3 allows for them.
use Rattle.std.specs.Prelude.{◌≡◌, ◌⊎◌, ◌↔◌, true, List, ℕ, suc, ◌+◌, ◌≤◌, ◌<◌, length, take}
use Rattle.meaning.specs.Station.{file_states}
use Rattle.meaning.specs.Settings.{open_count, before}
use Rattle.meaning.specs.Accepted.{Accepted}
use Rattle.meaning.specs.Parts.{IsOpen, part, gain}
use Rattle.file_meaning.specs.PartFile.{part_file}
use Rattle.c_layout.specs.declared.FlatReply.{FlatReply}
use Rattle.c_layout.specs.Flat.{no_refusal}
use Rattle.demands.specs.Words.{situation, AtMostOpen}
use Rattle.demands.specs.OfSettings.{SaysNone, Demand3}

-- The file with the state of element e written as x is a part of the question: it is accepted, it describes the situation with that element
-- fixed, and one open element fewer is left, perhaps none.
pub record IsPart (file : List ℕ) (e x : ℕ) : Type 0 where
  pub accepted : Accepted (part_file file e x)
  pub same : situation (part_file file e x) ≡ part (situation file) e x
  pub fewer : suc (open_count (file_states (situation (part_file file e x)))) ≡ open_count (file_states (situation file))

-- "The higher count": p of p₁ and p₂, and the setting σ shown with it, of σ₁ and σ₂. Where both counts are highest, σ is the one of the two that
-- comes first in 01's order, which may be either.
pub data Higher (p₁ p₂ p : ℕ) (σ₁ σ₂ σ : List ℕ) : Type 0 where
  first : p₂ < p₁ → p ≡ p₁ → σ ≡ σ₁ → Higher p₁ p₂ p σ₁ σ₂ σ
  second : p₁ < p₂ → p ≡ p₂ → σ ≡ σ₂ → Higher p₁ p₂ p σ₁ σ₂ σ
  equal_first : p₁ ≡ p₂ → p ≡ p₁ → before σ₁ σ₂ ≡ true → σ ≡ σ₁ → Higher p₁ p₂ p σ₁ σ₂ σ
  equal_second : p₁ ≡ p₂ → p ≡ p₂ → before σ₂ σ₁ ≡ true → σ ≡ σ₂ → Higher p₁ p₂ p σ₁ σ₂ σ

-- The answers to the whole and to its parts, with the settings σ, σ₁ and σ₂ shown; g is what the first part's count gains.
pub record AddUp (g : ℕ) (r r₁ r₂ : FlatReply) (σ σ₁ σ₂ : List ℕ) : Type 0 where
  -- All three are replies.
  pub replies : (r.refusal ≡ no_refusal) × (r₁.refusal ≡ no_refusal) × (r₂.refusal ≡ no_refusal)
  -- "The number of safe settings being the sum of the two parts' numbers."
  pub number : r.safe ≡ r₁.safe + r₂.safe
  -- "The whole has none exactly when neither part has."
  pub none : SaysNone r ↔ (SaysNone r₁ × SaysNone r₂)
  -- "Add one to the first part's proceed count if the element is a signal; the higher count among the parts that have a safe setting is then the
  -- whole's." And the setting shown for the whole is the one shown for that part.
  pub only_first : (SaysNone r₁ → ⊥) → SaysNone r₂ → (r.proceed ≡ r₁.proceed + g) × (σ ≡ σ₁)
  pub only_second : SaysNone r₁ → (SaysNone r₂ → ⊥) → (r.proceed ≡ r₂.proceed) × (σ ≡ σ₂)
  pub both : (SaysNone r₁ → ⊥) → (SaysNone r₂ → ⊥) → Higher (r₁.proceed + g) r₂.proceed r.proceed σ₁ σ₂ σ

-- "The settings buffer a byte for each element": the setting shown is in its first bytes.
abbrev pub room : List ℕ → ℕ
room file = (situation file).header.elements

-- "We want this shown for every accepted file with one to twelve open elements and each open element of it."
pub record Item12 (file buffer buffer' : List ℕ) (r : FlatReply) : Type 0 where
  pub parts : Accepted file → (e : ℕ) → IsOpen (situation file) e → (x : ℕ) → (x ≡ 1) ⊎ (x ≡ 2) → IsPart file e x
  pub met : Accepted file → AtMostOpen 12 (situation file) → (e : ℕ) → IsOpen (situation file) e
      → (first first' second second' : List ℕ) (r₁ r₂ : FlatReply)
      → room file ≤ length buffer → room file ≤ length first → room file ≤ length second
      → Demand3 (part_file file e 1) first first' r₁ → Demand3 (part_file file e 2) second second' r₂
      → AddUp (gain (situation file) e) r r₁ r₂ (take (room file) buffer') (take (room file) first') (take (room file) second')
