-- Some of the trains, from 0, as a property P, with the sections R t that train t reaches: the union, and whether no two share a section.
use Rattle.std.specs.Prelude.{◌≡◌, Bool, true, ℕ, suc, ◌<◌}
use Rattle.meaning.specs.declared.Situation.{Situation}
use Rattle.meaning.specs.Station.{file_states}
use Rattle.meaning.specs.Verdict.{in_reach}

-- The sections that some of the trains reach.
pub record Union (R : ℕ → ℕ → Bool) (P : ℕ → Type 0) (U : ℕ → Bool) : Type 0 where
  pub covers : (t c : ℕ) → P t → R t c ≡ true → U c ≡ true
  pub from : (c : ℕ) → U c ≡ true → (t : ℕ) × P t × (R t c ≡ true)

-- No two of them share a section.
abbrev pub Apart : (ℕ → ℕ → Bool) → (ℕ → Type 0) → Type 0
Apart R P = (t u c : ℕ) → P t → P u → R t c ≡ true → R u c ≡ true → t ≡ u

-- Two of them do.
pub record Shared (R : ℕ → ℕ → Bool) (P : ℕ → Type 0) : Type 0 where
  pub first : ℕ
  pub second : ℕ
  pub section : ℕ
  pub first_is : P first
  pub second_is : P second
  pub first_reaches : R first section ≡ true
  pub second_reaches : R second section ≡ true
  pub different : first ≡ second → ⊥

-- ---- the fixed moves alone
-- What train t reaches by them.
abbrev pub by_fixed : Situation → ℕ → ℕ → Bool
by_fixed s t = in_reach s (file_states s) (suc t)

-- Two trains meet by them.
abbrev pub FixedShared : Situation → Type 0
FixedShared s = Shared (by_fixed s) (λ t. t < s.header.trains)
