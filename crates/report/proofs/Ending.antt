-- What is answered and stored, of a key for each candidate.
use Rattle.std.proofs.Common.{◌≡◌, ℕ, ◌+◌, ◌*◌, ◌<◌, ◌≤◌, List, ◌++◌, map, length, take, drop, ap, ◌∙◌, arith, le-ltb, lt-ltb}
use lib.Seq.{sets}
use Rattle.std.specs.Prelude.{Some, None, Result, Ok, Err}
use Rattle.meaning.specs.declared.Refusal.{Refusal}
use Rattle.meaning.specs.Columns.{row_text}
use Rattle.meaning.specs.File.{refusal}
use Rattle.session_meaning.specs.Report.{totals_text}
use Rattle.meaning.proofs.Columns.{row-length}
use Rattle.basics.proofs.Stored.{splice, lined_length}
use Rattle.sorting.specs.Sorted.{sorted}
use Rattle.report.specs.declared.Gathered.{Gathered}
use Rattle.report.specs.Gathering.{total_at, joined, answer_by, text_by, after_by, total_keys, answer_of, after_of}
use Rattle.report.proofs.Lines.{line_at, lines_of, lined}

module _ (keys b : List ℕ) (k gained possible : ℕ) (n : length keys ≡ k) where
  pub end_short : length b < (k + 1) * 22 → (Err (refusal 9 0) ≡ answer_by keys (length b)) × (b ≡ after_by keys gained possible b)
  unfolding answer_by after_by
  end_short h = let t = lt-ltb (length b) ((length keys + 1) * 22) (omega (arith, n, h)) in (rw t, rw t)

  pub end_written : (k + 1) * 22 ≤ length b → (part d f : List ℕ) → part ≡ keys → d ≡ totals_text (map total_at part) ++ drop (length part * 22) b
      → f ≡ sets d (k * 22) (row_text 90 2 gained possible 0 0)
      → (Ok ((k + 1) * 22) ≡ answer_by keys (length b)) × (f ≡ after_by keys gained possible b)
  unfolding answer_by after_by text_by
  end_written h part d f p e g =
      let t = le-ltb (length b) ((length keys + 1) * 22) (omega (arith, n, h)) in
      let text = totals_text (map total_at keys) in
      let z = row_text 90 2 gained possible 0 0 in
      let w : length text ≡ k * 22 = lined_length line_at lines_of lined keys ∙ ap (λ (j : ℕ). j * 22) n in
      let step : k * 22 + 22 ≡ (k + 1) * 22 = omega arith in
      let all : f ≡ (text ++ z) ++ drop ((k + 1) * 22) b =
      g ∙ ap (λ (v : List ℕ). sets v (k * 22) z) (e ∙ rw (p, n))
      ∙ splice text z b (k * 22) 22 w (row-length 90 2 gained possible 0 0) (omega (arith, h))
      ∙ ap (λ (j : ℕ). (text ++ z) ++ drop j b) step in
      (rw (t, n), rw (t, n) all)

-- ---- what the walk has
module _ (g : Gathered) (b : List ℕ) where
  pub many : 999 < g.sums.seen → (Err (refusal 19 0) ≡ answer_of g (length b)) × (b ≡ after_of g b)
  unfolding answer_of after_of
  many h = let t = lt-ltb 999 g.sums.seen h in (rw t, rw t)

  module _ (few : g.sums.seen ≤ 999) where
    pub one_wrong : (k : ℕ) → g.sums.wrong ≡ Some k → (Err (refusal 18 k) ≡ answer_of g (length b)) × (b ≡ after_of g b)
    unfolding answer_of after_of
    one_wrong k h = let t = le-ltb 999 g.sums.seen few in (rw (t, h), rw (t, h))

    pub all_right : g.sums.wrong ≡ None → (r : Result ℕ Refusal) (f : List ℕ)
        → r ≡ answer_by (joined (sorted (take g.sums.seen g.keys))) (length b)
        → f ≡ after_by (joined (sorted (take g.sums.seen g.keys))) g.sums.gained g.sums.possible b
        → (r ≡ answer_of g (length b)) × (f ≡ after_of g b)
    unfolding answer_of after_of total_keys
    all_right h r f a z = let t = le-ltb 999 g.sums.seen few in (rw (t, h) a, rw (t, h) z)
