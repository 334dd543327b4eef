-- A line of a log is right exactly when its 22 bytes are the C line of numbers in their ranges, and it then says these numbers
-- (`right_line`, `line_right`).
use mathlib.Core.Path.{◌≡◌}
use mathlib.Core.Bool.{true}
use mathlib.Core.List.{List}
use Prim.Native.Nat.{ℕ, ◌+◌, ◌*◌, ◌≤◌}
use native.Mathlib.Omega.{arith}
use lib.ListN.{length, take, drop}
use Rattle.session_meaning.specs.declared.Sent.{Sent}
use Rattle.meaning.specs.Columns.{old}
use Rattle.session_meaning.specs.Answers.{answer_text, is_c, sent_at, Ranges, in_range, right}
use Rattle.basics.proofs.Tests.{and_both}
use Rattle.basics.proofs.Holds.{holds_part, part_holds}
use Rattle.meaning.proofs.Columns.{used, row-length, form_of, row_holds, holds_row}

-- ---- the ranges
pub in_range_lem : (x : Sent) → in_range x ≡ true → Ranges x
unfolding in_range
in_range_lem x e = grind arith

range_in : (x : Sent) → Ranges x → in_range x ≡ true
unfolding in_range
range_in x r = grind arith

-- ---- the line
module _ (log : List ℕ) (i : ℕ) where
  -- A right line is the C line of what it says, which is in its ranges.
  pub right_line : right log i ≡ true → i * 22 + 22 ≤ length log → (take 22 (drop (i * 22) log) ≡ answer_text (sent_at log i)) × Ranges (sent_at log i)
  unfolding right is_c sent_at
  right_line e h =
      let p = and_both (is_c log i) (in_range (sent_at log i)) e in
      let x = sent_at log i in
      let n : length (answer_text x) ≡ 22 = row-length 67 4 x.candidate x.question x.sequence x.answer in
      (rw n at (holds_part log (i * 22) (answer_text x) (row_holds log i 67 4 (form_of old log i 67 4 p.0)) (omega arith)), in_range_lem x p.1)

  -- The C line of numbers in their ranges is right, and says these.
  pub line_right : (x : Sent) → Ranges x → take 22 (drop (i * 22) log) ≡ answer_text x → (right log i ≡ true) × (sent_at log i ≡ x)
  unfolding right is_c sent_at
  line_right x r e =
      let n : length (answer_text x) ≡ 22 = row-length 67 4 x.candidate x.question x.sequence x.answer in
      let w = holds_row old log i 67 4 x.candidate x.question x.sequence x.answer (used (omega (arith, r.candidate)))
      (used (omega (arith, r.question))) (used (omega (arith, r.sequence))) (used (omega (arith, r.answer)))
      (part_holds log (i * 22) (answer_text x) (rw n e)) in
      let same : sent_at log i ≡ x = rw (w.1, w.2, w.3, w.4) in
      (rw (w.0, same) (range_in x r), same)
