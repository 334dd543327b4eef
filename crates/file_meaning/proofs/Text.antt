-- Laws of `text_of`, the bytes of the first n lines: by induction on n.
use mathlib.Core.Path.{◌≡◌, refl, ap₂, ◌∙◌}
use mathlib.Core.List.{List, ◌++◌}
use mathlib.Core.Logic.{⊎_elim}
use Prim.Native.Nat.{ℕ, zero, suc, ◌+◌, ◌*◌, ◌≤◌, ◌<◌}
use native.Mathlib.Omega.{arith}
use native.Mathlib.Nat.{eq-or-lt_of_le, le_of_suc-le-suc}
use lib.ListN.{length, take, length-append}
use lib.Seq.{take-add, take_all}
use Rattle.meaning.specs.declared.Line.{Line}
use Rattle.meaning.specs.Columns.{line_text}
use Rattle.meaning.specs.File.{text_of}
use Rattle.basics.proofs.Holds.{Holds, holds_longer, holds_behind, holds_part}
use Rattle.meaning.proofs.Columns.{line_length}

-- Each line has 22 bytes.
pub text_length : (lines : ℕ → Line) (n : ℕ) → length (text_of lines n) ≡ n * 22
unfolding text_of
text_length lines zero = refl
text_length lines (suc n) = grind (arith, length-append, line_length, text_length lines n)

-- Lines that agree below n have the same text.
pub text_ext : (n : ℕ) (f g : ℕ → Line) → ((i : ℕ) → i < n → f i ≡ g i) → text_of f n ≡ text_of g n
unfolding text_of
text_ext zero f g same = refl
text_ext (suc n) f g same =
    ap₂ (λ (t : List ℕ) (l : Line). t ++ line_text l) (text_ext n f g (λ i h. same i (omega arith))) (same n (omega arith))

-- A text holds each of its lines.
pub text_holds : (lines : ℕ → Line) (n i : ℕ) → i < n → Holds (text_of lines n) (i * 22) (line_text (lines i))
unfolding text_of
text_holds lines zero i h = absurd (omega arith)
text_holds lines (suc n) i h =
    ⊎_elim
    (λ (e : i ≡ n). rw (e, ← text_length lines n) (holds_behind (text_of lines n) (line_text (lines n))))
    (λ (l : i < n).
    holds_longer (text_of lines n) (line_text (lines n)) (i * 22) (line_text (lines i))
    (omega (arith, text_length lines n, line_length (lines i)))
    (text_holds lines n i l))
    (eq-or-lt_of_le (le_of_suc-le-suc h))

-- Lines that a file holds, one after the other from its start, are its first bytes.
holds_text :
    (file : List ℕ) (lines : ℕ → Line) (n : ℕ)
    → ((i : ℕ) → i < n → Holds file (i * 22) (line_text (lines i)))
    → n * 22 ≤ length file
    → text_of lines n ≡ take (n * 22) file
unfolding text_of
holds_text file lines zero h l = refl
holds_text file lines (suc n) h l =
    let next : suc n * 22 ≡ n * 22 + 22 = omega arith in
    let e : length (line_text (lines n)) ≡ 22 = line_length (lines n) in
    let part = rw e at (holds_part file (n * 22) (line_text (lines n)) (h n (omega arith)) (omega arith)) in
    rw (holds_text file lines n (λ i k. h i (omega arith)) (omega arith), next, take-add, part)

-- Lines that a file holds from its start, with no byte behind them, are the file.
pub holds_whole :
    (file : List ℕ) (lines : ℕ → Line) (n : ℕ)
    → ((i : ℕ) → i < n → Holds file (i * 22) (line_text (lines i)))
    → length file ≡ n * 22
    → text_of lines n ≡ file
holds_whole file lines n h e = holds_text file lines n h (omega arith) ∙ take_all (n * 22) file (omega arith)
