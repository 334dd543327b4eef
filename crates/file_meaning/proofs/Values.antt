-- A line and the value that it gives, both ways; and a line with no cause of refusal can be written, since its numbers are small.
use mathlib.Core.Path.{◌≡◌}
use mathlib.Core.Bool.{Bool, false, cond}
use mathlib.Core.List.{[], ◌∷◌}
use Prim.Native.Nat.{ℕ, zero, suc, ◌+◌, ◌≤◌}
use native.Mathlib.Omega.{arith}
use lib.Dec.{eqb}
use borrow.Author.Tests.{le-ltb}
use Rattle.meaning.specs.declared.Section.{Section}
use Rattle.meaning.specs.declared.Move.{Move}
use Rattle.meaning.specs.declared.Kind.{Kind}
use Rattle.meaning.specs.declared.Kind.TheVariants as kind
use Rattle.meaning.specs.declared.Element.{Element}
use Rattle.meaning.specs.declared.Letter.{Letter}
use Rattle.meaning.specs.declared.Train.{Train}
use Rattle.meaning.specs.declared.Header.{Header}
use Rattle.meaning.specs.declared.Line.{Line}
use Rattle.meaning.specs.Columns.{record_kind_at, having, no_kind}
use Rattle.meaning.specs.File.{move_of, element_of, train_of, header_of}
use Rattle.meaning.specs.File.{line_of_move, line_of_kind, most_under, counted, line_of_train, line_of_header, train_up_to_count}
use Rattle.meaning.specs.Inside.{Inside}
use Rattle.meaning.proofs.Columns.{Writable, used, unused}
use Rattle.meaning.proofs.Causes.{every, in_range_lem, Clear}
use Rattle.meaning.proofs.Places.{OfTrain, train_filled}
use Rattle.meaning.proofs.Accepted.{InRange}

-- ---- a line, its value, and the line of that value
-- The first line is the line of the header that it gives.
pub header_line : (l : Line) (u : Bool) → l.kind ≡ cond u 8 0 → line_of_header (header_of l) ≡ l
header_line l u e = grind arith

-- A header is what its line gives.
pub line_header : (h : Header) → header_of (line_of_header h) ≡ h
line_header h = grind arith

-- A P line is the line of the move that it gives.
pub move_line : (l : Line) → l.kind ≡ 1 → Writable l → line_of_move (move_of l) ≡ l
unfolding record_kind_at
move_line l e w = grind arith

-- An L or D line is the line of the element that it gives.
pub element_line : (l : Line) (signal : Bool) → l.kind ≡ cond signal 2 3 → Writable l
    → line_of_kind (element_of l).kind (element_of l).state ≡ l
unfolding record_kind_at
element_line l signal h h2 = grind arith

pub train_line : (x : Letter) (l : Line) → OfTrain x l.kind → Writable l → line_of_train x (train_of l) ≡ l
train_line x l o w = grind (arith, le-ltb, train_filled)

-- A train that has a line has as many sections as its letter allows.
pub train_formed : (x : Letter) (t : Train) → eqb (line_of_train x t).kind no_kind ≡ false → Inside (most_under x) t.count
train_formed x t e = grind arith

-- The line of a train, written out.
abbrev row_of : ℕ → Section → Section → Section → Section → Line
row_of n a b c d = record { kind = n + 3; first = counted n 0 a; second = counted n 1 b; third = counted n 2 c; fourth = counted n 3 d }

train_row : (x : Letter) (t : Train) → Inside (most_under x) t.count
    → line_of_train x t ≡ row_of t.count t.first t.second t.third t.fourth
train_row x t w = rw ((in_range_lem (most_under x) t.count).1 w)

-- The kind of a train's line is one that the letter allows.
pub train_line_kind : (x : Letter) (t : Train) → Inside (most_under x) t.count → OfTrain x (line_of_train x t).kind
train_line_kind x t w = rw (train_row x t w) (omega arith, omega arith)

-- A train is what its line gives, up to its count.
pub line_train : (x : Letter) (t : Train) → Inside (most_under x) t.count → train_of (line_of_train x t) ≡ train_up_to_count t
line_train x t w = grind arith

-- An element is what its line gives.
pub line_element : (e : Element) → element_of (line_of_kind e.kind e.state) ≡ e
line_element e = grind arith

-- ---- a line with no cause
-- The first line can be written where its numbers are in their ranges.
pub header_writable : (h : Header) → InRange h → Writable (line_of_header h)
unfolding record_kind_at
header_writable h r = grind arith

module _ (n : ℕ) (few : n ≤ 512) where
  -- A P line with no cause can be written.
  pub move_writable : (m : Move) → Clear n (line_of_move m) → Writable (line_of_move m)
  unfolding record_kind_at having
  move_writable m c =
      let a = every (Inside n) (m.from.0 ∷ m.to.0 ∷ []) c.inside in
      record { first = used (omega arith); second = used (omega arith); third = unused; fourth = unused }

  -- An element with no cause can be written.
  pub element_writable : (k : Kind) (x : ℕ) → Clear n (line_of_kind k x) → Writable (line_of_kind k x)
  unfolding record_kind_at having
  element_writable (kind.Signal m) x c =
      let a = every (Inside n) (m.from.0 ∷ m.to.0 ∷ []) c.inside in
      let b = every (λ y. y ≤ 2) (x ∷ []) c.states in
      record { first = used (omega arith); second = used (omega arith); third = used (omega arith); fourth = unused }
  element_writable (kind.Turnout t) x c =
      let a = every (Inside n) (t.stem.0 ∷ t.straight.0 ∷ t.diverted.0 ∷ []) c.inside in
      let b = every (λ y. y ≤ 2) (x ∷ []) c.states in
      record { first = used (omega arith); second = used (omega arith); third = used (omega arith); fourth = used (omega arith) }

  row_writable : (m : ℕ) (a b c d : Section) → 1 ≤ m → m ≤ 4 → Clear n (row_of m a b c d) → Writable (row_of m a b c d)
  unfolding record_kind_at having
  row_writable zero a b c d low high clear = absurd (omega arith)
  row_writable (suc zero) a b c d low high clear =
      let w = every (Inside n) (a.0 ∷ []) clear.inside in
      record { first = used (omega arith); second = unused; third = unused; fourth = unused }
  row_writable (suc (suc zero)) a b c d low high clear =
      let w = every (Inside n) (a.0 ∷ b.0 ∷ []) clear.inside in
      record { first = used (omega arith); second = used (omega arith); third = unused; fourth = unused }
  row_writable (suc (suc (suc zero))) a b c d low high clear =
      let w = every (Inside n) (a.0 ∷ b.0 ∷ c.0 ∷ []) clear.inside in
      record { first = used (omega arith); second = used (omega arith); third = used (omega arith); fourth = unused }
  row_writable (suc (suc (suc (suc zero)))) a b c d low high clear =
      let w = every (Inside n) (a.0 ∷ b.0 ∷ c.0 ∷ d.0 ∷ []) clear.inside in
      record { first = used (omega arith); second = used (omega arith); third = used (omega arith); fourth = used (omega arith) }
  row_writable (suc (suc (suc (suc (suc m))))) a b c d low high clear = absurd (omega arith)

  -- A train with no cause can be written.
  pub train_writable : (x : Letter) (t : Train) → Clear n (line_of_train x t) → Writable (line_of_train x t)
  train_writable x t clear = grind (arith, row_writable, train_formed, train_row)
