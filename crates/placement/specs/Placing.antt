-- What placing m trains in n sections, in a list of so many places, asks; and a section that may be none, by its number.
use Rattle.std.specs.Prelude.{◌≡◌, ℕ, ◌≤◌, Option, Some, None}
use Rattle.meaning.specs.declared.Section.{Section}

pub record Asked (n m room : ℕ) : Type 0 where
  pub sections : n ≤ 512
  pub free : m ≤ n
  pub places : m ≤ room

-- The section of number k, which is 0 for none.
abbrev pub IsNumbered : Option Section → ℕ → Type 0
IsNumbered (Some s) k = (s.0 ≡ k) × (1 ≤ s.0)
IsNumbered None k = k ≡ 0
