-- What one line more, stored behind others, makes of a buffer.
use mathlib.Core.Path.{◌≡◌, refl, ap, ◌∙◌}
use mathlib.Core.List.{List}
use Prim.Native.Nat.{ℕ, ◌+◌, ◌*◌, ◌≤◌}
use native.Mathlib.Omega.{arith}
use native.Mathlib.Nat.{zero-add}
use native.Mathlib.Numerals.{add-one}
use lib.ListN.{length}
use lib.Seq.{sets, length-sets}
use Rattle.meaning.specs.declared.Line.{Line}
use Rattle.meaning.specs.Columns.{line_text}
use Rattle.meaning.specs.Digits.{printed_sum}
use Rattle.meaning.specs.File.{text_of}
use Rattle.meaning.proofs.Columns.{line_length}
use Rattle.meaning.proofs.Digits.{printed_append}
use Rattle.file_meaning.proofs.Text.{text_length}
use Rattle.basics.proofs.Stored.{splice}
use Rattle.writer.specs.Text.{Begun}

module _ (lines : ℕ → Line) where
  -- No line changes nothing.
  begun_none : (b : List ℕ) → Begun lines 0 b b 0
  unfolding text_of printed_sum
  begun_none b = record { same_length = refl; text = refl; counted = refl }

  module _ (n : ℕ) (b d : List ℕ) {x : ℕ} (begun : Begun lines n b d x) where
    -- The next line, stored behind n lines, makes n + 1 lines.
    pub begun_more : (l : Line) (f : List ℕ) {y : ℕ} → n * 22 + 22 ≤ length b → l ≡ lines n → f ≡ sets d (n * 22) (line_text l)
        → y ≡ printed_sum (line_text l) → Begun lines (n + 1) b f (x + y)
    unfolding text_of
    begun_more l f room is e count =
        let step : (n + 1) * 22 ≡ n * 22 + 22 = omega arith in
        record {
          same_length = ap length e ∙ length-sets d (n * 22) (line_text l) ∙ begun.same_length;
          text =
              e ∙ rw (begun.text, is)
              (splice (text_of lines n) (line_text (lines n)) b (n * 22) 22 (text_length lines n) (line_length (lines n)) room
              ∙ rw (step, add-one n));
          counted = rw (add-one n, printed_append (text_of lines n) (line_text (lines n)), begun.counted, count, is) refl;
        }

  -- The first line.
  pub begun_first : (b : List ℕ) (l : Line) (f : List ℕ) {y : ℕ} → 22 ≤ length b → l ≡ lines 0 → f ≡ sets b 0 (line_text l)
      → y ≡ printed_sum (line_text l) → Begun lines 1 b f y
  begun_first b l f {y} room is e count = rw (zero-add y) at (begun_more 0 b b (begun_none b) l f room is e count)
