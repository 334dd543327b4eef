-- A word for each section, in a table: what is added to the words of a set of sections, and what they have together.
use Rattle.std.specs.Prelude.{◌≡◌, Bool, true, ◌||◌, ◌⊎◌, ℕ, List, ◌≤◌, get_or}
use Rattle.bits.specs.Bits.{bit}
use Rattle.reach.specs.Reach.{memb}
use Rattle.setting_tables.specs.declared.BySection.{BySection}

-- Bit d of the word of section c.
abbrev pub word_bit : BySection → ℕ → ℕ → Bool
word_bit table c d = bit (get_or table.words c 0) d

-- Bit e is set in the words of a set, and else what was there is kept.
pub record Adds (set : List ℕ) (e : ℕ) (old new : BySection) : Type 0 where
  pub only : (c d : ℕ) → word_bit new c d ≡ true → (word_bit old c d ≡ true) ⊎ ((d ≡ e) × (memb set c ≡ true))
  pub kept : (c d : ℕ) → word_bit old c d ≡ true → word_bit new c d ≡ true
  pub put : (c : ℕ) → memb set c ≡ true → word_bit new c e ≡ true
  pub some : (c : ℕ) → memb new.some.words c ≡ (memb old.some.words c || memb set c)

-- The bits of w are those of the words of a set.
pub record Over (table : BySection) (set : List ℕ) (w : ℕ) : Type 0 where
  pub from : (e : ℕ) → bit w e ≡ true → (c : ℕ) × (c ≤ 512) × (memb set c ≡ true) × (word_bit table c e ≡ true)
  pub all : (c e : ℕ) → memb set c ≡ true → memb table.some.words c ≡ true → word_bit table c e ≡ true → bit w e ≡ true
