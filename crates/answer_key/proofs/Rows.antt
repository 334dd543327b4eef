-- Lines of a list's entries, stored one after the other: what is stored and what is still to come always give the same buffer.
-- A path's lines and a setting's lines are both such lines.
use mathlib.Core.Path.{◌≡◌, refl, sym, ap, ◌∙◌}
use mathlib.Core.List.{List, [], ◌∷◌, ◌++◌}
use Prim.Native.Nat.{ℕ, suc, ◌+◌, ◌*◌, ◌≤◌, ◌<◌}
use native.Mathlib.Omega.{arith}
use native.Mathlib.Nat.{add-zero, zero-add}
use native.Mathlib.Numerals.{add-one}
use lib.ListN.{length, get_or, drop, length-append}
use lib.Seq.{sets, drop-cons, drop-length}
use Rattle.meaning.specs.Columns.{row_text}
use Rattle.meaning.specs.Digits.{byte_sum, row_sum, printed_sum}
use Rattle.meaning.specs.Key.{path_lines, element_lines}
use Rattle.meaning.proofs.Digits.{printed_append, row_printed}
use Rattle.line_writer.proofs.Splice.{sets_append}

-- A line for each entry of a list, the first with number e.
unfoldable pub lines_of : (ℕ → ℕ → List ℕ) → ℕ → List ℕ → List ℕ
lines_of row e [] = []
lines_of row e (x ∷ xs) = row e x ++ lines_of row (e + 1) xs

abbrev pub path_row : ℕ → ℕ → ℕ → ℕ → List ℕ
path_row letter t e a = row_text letter 2 t a 0 0

abbrev pub element_row : ℕ → ℕ → List ℕ
element_row e x = row_text 69 2 e x 0 0

-- The subtractions of a line of two numbers are the digits that it prints.
pub two_summed : (letter a b : ℕ) {n : ℕ} → byte_sum letter ≡ 0 → a ≤ 99999 → b ≤ 99999 → n ≡ row_sum 2 a b 0 0
    → n ≡ printed_sum (row_text letter 2 a b 0 0)
two_summed letter a b hl ha hb e = e ∙ sym (row_printed letter 2 a b 0 0 hl ha hb (omega arith) (omega arith))

-- The lines of a path.
pub path_lines_lem : (letter t e : ℕ) (p : List ℕ) → lines_of (path_row letter t) e p ≡ path_lines letter t p
unfolding lines_of path_lines
path_lines_lem letter t e [] = refl
path_lines_lem letter t e (a ∷ p) = ap (λ (r : List ℕ). row_text letter 2 t a 0 0 ++ r) (path_lines_lem letter t (e + 1) p)

-- The lines of a setting.
pub element_lines_lem : (e : ℕ) (σ : List ℕ) → lines_of element_row e σ ≡ element_lines e σ
unfolding lines_of element_lines
element_lines_lem e [] = refl
element_lines_lem e (x ∷ σ) = ap (λ (r : List ℕ). row_text 69 2 e x 0 0 ++ r) (element_lines_lem (e + 1) σ)

-- k entries of a list are stored as lines in the buffer b, from line i of the buffer `start` on, with c subtractions: the other lines, stored behind
-- them, make the whole, and so does their sum.
pub record Stored (row : ℕ → ℕ → List ℕ) (list start : List ℕ) (i : ℕ) (b : List ℕ) (c k : ℕ) : Type 0 where
  pub text : sets b ((i + k) * 22) (lines_of row (1 + k) (drop k list)) ≡ sets start (i * 22) (lines_of row 1 list)
  pub count : c + printed_sum (lines_of row (1 + k) (drop k list)) ≡ printed_sum (lines_of row 1 list)
  pub few : c ≤ 360 * k

module _ (row : ℕ → ℕ → List ℕ) (list start : List ℕ) (i : ℕ) where
  -- At the start nothing is stored.
  pub stored_none : Stored row list start i start 0 0
  stored_none = record { text = rw (add-zero i); count = zero-add _; few = omega arith }

  -- When all are stored, the buffer is the whole.
  pub stored_all : (b : List ℕ) {c : ℕ} (k : ℕ) → k ≡ length list → Stored row list start i b c k
      → (b ≡ sets start (i * 22) (lines_of row 1 list)) × (c ≡ printed_sum (lines_of row 1 list)) × (c ≤ 360 * length list)
  unfolding lines_of printed_sum
  stored_all b {c} k e s =
      let none : drop k list ≡ [] = rw e (drop-length list) in (
        ap (λ (l : List ℕ). sets b ((i + k) * 22) (lines_of row (1 + k) l)) (sym none) ∙ s.text,
        sym (add-zero c) ∙ ap (λ (l : List ℕ). c + printed_sum (lines_of row (1 + k) l)) (sym none) ∙ s.count,
        omega (arith, s.few, e),
      )

-- Where each line has 22 bytes.
module _ (row : ℕ → ℕ → List ℕ) (sized : (e x : ℕ) → length (row e x) ≡ 22) where
  -- All lines together have 22 bytes for each entry.
  pub lines_length : (e : ℕ) (xs : List ℕ) → length (lines_of row e xs) ≡ length xs * 22
  unfolding lines_of
  lines_length e [] = refl
  lines_length e (x ∷ xs) = length-append (row e x) (lines_of row (e + 1) xs) ∙ omega (arith, sized e x, lines_length (e + 1) xs)

  -- One line more.
  pub stored_more : (list start : List ℕ) (i : ℕ) (b b' : List ℕ) {c y : ℕ} (k : ℕ) → k < length list
      → b' ≡ sets b ((i + k) * 22) (row (1 + k) (get_or list k 0)) → y ≡ printed_sum (row (1 + k) (get_or list k 0)) → y ≤ 360
      → Stored row list start i b c k → Stored row list start i b' (c + y) (k + 1)
  unfolding lines_of
  stored_more list start i b b' {c} {y} k less e sum small s =
      let line = row (1 + k) (get_or list k 0) in
      let rest = drop (suc k) list in
      let split : drop k list ≡ get_or list k 0 ∷ rest = drop-cons list k 0 less in
      let next : (i + (k + 1)) * 22 ≡ (i + k) * 22 + length line = omega (arith, sized (1 + k) (get_or list k 0)) in
      let number : 1 + (k + 1) ≡ 1 + k + 1 = omega arith in
      let behind = lines_of row (1 + k + 1) rest in
      let whole : printed_sum (line ++ behind) ≡ printed_sum (lines_of row (1 + k) (drop k list)) =
      ap (λ (l : List ℕ). printed_sum (lines_of row (1 + k) l)) (sym split) in
      record {
        text =
            rw (e, next, number, add-one k)
            (sym (sets_append line behind b ((i + k) * 22))
            ∙ ap (λ (l : List ℕ). sets b ((i + k) * 22) (lines_of row (1 + k) l)) (sym split)
            ∙ s.text);
        count = rw (number, add-one k) (omega (arith, s.count, sum, whole, printed_append line behind));
        few = omega (arith, s.few);
      }
