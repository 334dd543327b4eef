-- A set of ordered pairs of sections, row by row.
use Rattle.std.specs.Prelude.{◌≡◌, Bool, false, not, ◌&&◌, ◌||◌, cond, List, ◌++◌, ℕ, ◌-◌, ◌≤◌, ◌<◌, eqb, ltb, length, get_or}
use Rattle.meaning.specs.declared.Move.{Move}
use Rattle.meaning.specs.Sections.{IsSection}
use Rattle.meaning.specs.Station.{permitted}
use Rattle.basics.specs.Numbers.{count}
use Rattle.reach.specs.declared.Reach.{Reach}
use Rattle.reach.specs.Reach.{memb, words_at}

-- For each of 512 sections the set of those to which a pair leads from it: that of section a stands at place a - 1.
abbrev pub Rows : Type 0
Rows = List Reach

-- One of the two is no section number from 1 to 512.
abbrev pub outside : ℕ → ℕ → Bool
outside a b = eqb a 0 || ltb 512 a || eqb b 0 || ltb 512 b

-- The rows have the pair (a, b): section b is in row a - 1.
unfoldable pub edge : Rows → ℕ → ℕ → Bool
edge t a b = cond (outside a b) false (memb (words_at t (a - 1)) b)

-- The rows hold exactly the pairs ms.
abbrev pub Represents : Rows → List Move → Type 0
Represents t ms = (a b : ℕ) → edge t a b ≡ permitted ms a b

-- The rows u are t with the pair (a, b) added.
pub record Adds (t : Rows) (a b : ℕ) (u : Rows) : Type 0 where
  pub same_length : length u ≡ length t
  pub pairs : (x y : ℕ) → edge u x y ≡ ((eqb x a && eqb y b) || edge t x y)

-- The rows u are t without the pair (a, b).
pub record Removes (t : Rows) (a b : ℕ) (u : Rows) : Type 0 where
  pub same_length : length u ≡ length t
  pub pairs : (x y : ℕ) → edge u x y ≡ (edge t x y && not (eqb x a && eqb y b))

-- The rows u are t with the moves ms added, whatever pairs t holds.
pub record Gains (t : Rows) (ms : List Move) (u : Rows) : Type 0 where
  pub same_length : length u ≡ length t
  pub represents : (ns : List Move) → Represents t ns → Represents u (ms ++ ns)

-- The moves lead between sections of the largest station.
abbrev pub AreSections : List Move → Type 0
AreSections ms = (i : ℕ) (d : Move) → i < length ms → IsSection (get_or ms i d).from × IsSection (get_or ms i d).to

-- The number at place a - 1 is how many pairs of the rows leave section a.
pub record Outdegrees (t : Rows) (outdegree : List ℕ) : Type 0 where
  pub size : length outdegree ≡ 512
  pub each : (a : ℕ) → 1 ≤ a → a ≤ 512 → get_or outdegree (a - 1) 0 ≡ count 512 (edge t a)
