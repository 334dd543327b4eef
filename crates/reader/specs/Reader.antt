-- What the loop of the reader gives: a refusal, or the values of its lines with the pairs seen so far. The reader's own contract
-- names `reading_answer` alone.
use Rattle.std.specs.Prelude.{Result, ◌≡◌, cond, List, ℕ, ◌+◌, ◌-◌, ◌*◌, ◌≤◌, eqb, get_or}
use Rattle.meaning.specs.declared.Header.{Header}
use Rattle.meaning.specs.declared.Line.{Line}
use Rattle.meaning.specs.declared.Refusal.{Refusal}
use Rattle.meaning.specs.Columns.{padded, line_at}
use Rattle.basics.specs.Lists.{list_of, pad_to}
use Rattle.line_checks.specs.declared.Seen.{Seen}
use Rattle.line_checks.specs.Causes.{Passed, Outcome}

-- Numbers that fit where the values of an element line go.
pub record ElementFits (l : Line) : Type 0 where
  pub first : l.first ≤ 512
  pub second : l.second ≤ 512
  pub third : l.third ≤ 512
  pub signal : (l.kind ≡ 3 → ⊥) → l.third ≤ 2
  pub turnout : l.kind ≡ 3 → l.fourth ≤ 2

-- The same for a T line.
pub record TrainFits (l : Line) : Type 0 where
  pub low : 4 ≤ l.kind
  pub first : l.first ≤ 512
  pub second : l.second ≤ 512
  pub third : l.third ≤ 512
  pub fourth : l.fourth ≤ 512

-- ---- a part of the file: its P lines, its elements, or its trains
-- Element line i: a signal where its letter is L, else a turnout.
abbrev pub element_line_at : List ℕ → ℕ → Line
element_line_at file i = line_at padded file i (cond (eqb (get_or file (i * 22) 0) 76) 2 3)

-- Lines `first` to first + n - 1 are among those after the first line.
pub record IsPart (h : Header) (first n : ℕ) : Type 0 where
  pub low : 1 ≤ first
  pub within : first - 1 + n ≤ h.plain + h.elements + h.trains

-- The values of the lines of a part, and what stands past them; or the first refusal in all lines.
abbrev pub PartRead : {T : Type 0} → Header → (ℕ → Line) → (first n room : ℕ) → T → (Line → T) → Seen → Result (List T) Refusal → Type 0
PartRead h lines first n room none value seen r =
    Outcome h lines r
    (λ xs. Passed h lines (first - 1 + n) seen × (xs ≡ pad_to room none (list_of n (λ j. value (lines (first + j))))))
