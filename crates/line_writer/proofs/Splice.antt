-- Lists stored one after the other are one list stored; how `put_fields` makes a row of blank fields; a line's row is the line.
use mathlib.Core.Path.{◌≡◌, refl, sym, ◌∙◌}
use mathlib.Core.Logic.{⊎_elim}
use mathlib.Core.Bool.{true, not, ◌||◌}
use mathlib.Core.List.{List, [], ◌∷◌, ◌++◌}
use Prim.Native.Nat.{ℕ, zero, suc, ◌+◌, ◌*◌, ◌-◌, ◌≤◌, ◌<◌}
use native.Mathlib.Omega.{arith}
use native.Mathlib.Nat.{add-zero}
use lib.Dec.{eqb, ltb}
use borrow.Author.Tests.{ltb-true, lt-ltb}
use lib.ListN.{get_or, set, length, take, drop, replicate}
use lib.Seq.{sets}
use Rattle.std.specs.Prelude.{Option, All, min}
use Rattle.std.proofs.lemmas.List.{append_assoc, drop-drop, get_or-take, length-take}
use Rattle.std.proofs.lemmas.Bool.{cases_lt}
use Rattle.std.proofs.lemmas.List.Edits.{sets-eq}
use Rattle.meaning.specs.declared.StationField.{StationField}
use Rattle.meaning.specs.declared.RecordKind.{RecordKind}
use Rattle.meaning.specs.declared.Line.{Line}
use borrow.Rule.Slice.PartMut.{put_mid}
use Rattle.meaning.specs.Columns.{record_kind_at, spaces, field_text, row_text, line_text}
use Rattle.meaning.specs.Digits.{digit_sum, row_sum, byte_sum, printed_sum, output_of}
use Rattle.meaning.proofs.Digits.{row_printed}
use Rattle.basics.proofs.Tests.{or_cases}
use Rattle.meaning.proofs.Columns.{row-length}
use Rattle.line_writer.specs.Rows.{text_of, sum_of, Printable}

-- Two lists stored one after the other are the joined list stored.
pub sets_append : (xs ys l : List ℕ) (i : ℕ) → sets l i (xs ++ ys) ≡ sets (sets l i xs) (i + length xs) ys
sets_append [] ys l i = rw add-zero
sets_append (x ∷ xs) ys l i =
    let e : i + suc (length xs) ≡ suc i + length xs = omega arith in
    rw e (sets_append xs ys (set l i x) (suc i))

-- ---- a row
-- A part of a slice that was written over is a list stored.
pub part_stored : (vs l : List ℕ) (at : ℕ) → at + 22 ≤ length l → length vs ≡ 22 → put_mid at (at + 22 - at) l vs ≡ sets l at vs
part_stored vs l at h e =
    let n : at + 22 - at ≡ 22 = omega arith in
    rw (sets-eq vs l at (omega arith), append_assoc, n, drop-drop 22 at l, e)

-- The row of a letter whose first k fields are filled by the numbers of a list.
module _ (letter : ℕ) (ns : List ℕ) where
  abbrev row : ℕ → List ℕ
  row k = row_text letter k (get_or ns 0 0) (get_or ns 1 0) (get_or ns 2 0) (get_or ns 3 0)

  -- No field is filled: spaces, then the letter and the line feed.
  row_none : {n : ℕ} {ys : List ℕ} → n ≡ 22 → ys ≡ replicate n 32 → set (set ys 0 letter) 21 10 ≡ row 0
  unfolding row_text
  row_none en e = rw (e, en)

  -- Field k is blank, and then k + 1 fields are filled.
  row_blank : (k : ℕ) → k < 4 → take (5 * k + 6 - (5 * k + 1)) (drop (5 * k + 1) (row k)) ≡ spaces
  unfolding row_text field_text
  row_blank zero h = refl
  row_blank (suc zero) h = refl
  row_blank (suc (suc zero)) h = refl
  row_blank (suc (suc (suc zero))) h = refl
  row_blank (suc (suc (suc (suc k)))) h = absurd (omega arith)

  row_more : (k : ℕ) → k < 4 → put_mid (5 * k + 1) (5 * k + 6 - (5 * k + 1)) (row k) (field_text (get_or ns k 0)) ≡ row (k + 1)
  unfolding row_text field_text
  row_more zero h = refl
  row_more (suc zero) h = refl
  row_more (suc (suc zero)) h = refl
  row_more (suc (suc (suc zero))) h = refl
  row_more (suc (suc (suc (suc k)))) h = absurd (omega arith)

  -- The subtractions of a row with k filled fields.
  abbrev sum : ℕ → ℕ
  sum k = row_sum k (get_or ns 0 0) (get_or ns 1 0) (get_or ns 2 0) (get_or ns 3 0)

  sum_none : 0 ≡ sum 0
  unfolding row_sum
  sum_none = refl

  sum_more : (k : ℕ) → k < 4 → sum k + digit_sum (get_or ns k 0) ≡ sum (k + 1)
  unfolding row_sum
  sum_more zero h = omega arith
  sum_more (suc zero) h = omega arith
  sum_more (suc (suc zero)) h = omega arith
  sum_more (suc (suc (suc zero))) h = omega arith
  sum_more (suc (suc (suc (suc k)))) h = absurd (omega arith)

  -- A row has no more than four fields.
  row_full : (n : ℕ) → (row (min n 4) ≡ row n) × (sum (min n 4) ≡ sum n)
  unfolding row_text row_sum
  row_full n = ⊎_elim few many (cases_lt n 4)
    where
      few : n < 4 → (row (min n 4) ≡ row n) × (sum (min n 4) ≡ sum n)
      few h = let e : min n 4 ≡ n = omega arith in (rw e, rw e)

      many : 4 ≤ n → (row (min n 4) ≡ row n) × (sum (min n 4) ≡ sum n)
      many h =
          let e : min n 4 ≡ 4 = omega arith in
          let a = lt-ltb 0 n (omega arith) in
          let b = lt-ltb 1 n (omega arith) in
          let c = lt-ltb 2 n (omega arith) in
          let d = lt-ltb 3 n (omega arith) in
          (rw (e, a, b, c, d), rw (e, a, b, c, d))

-- A number among the first four of a list.
pub of_first : (ns : List ℕ) (m k : ℕ) → m ≡ min (length ns) 4 → k < length (take m ns) → (k < 4) × (k < length ns) × (get_or (take m ns) k 0 ≡ get_or ns k 0)
of_first ns m k e h =
    let n = length-take m ns in
    let inside : k < m = omega (arith, n, e, h) in
    (omega arith, omega arith, rw get_or-take)

pub all_first : (ns : List ℕ) (m k : ℕ) → m ≡ min (length ns) 4 → length (take m ns) ≤ k → k ≤ length (take m ns) → k ≡ min (length ns) 4
all_first ns m k e h l = let n = length-take m ns in omega (arith, n, e, h, l)

-- Of the row of a letter and numbers k fields are stored and counted, and the others are blank.
pub record Filled (letter : ℕ) (ns b : List ℕ) (count k : ℕ) : Type 0 where
  stored : b ≡ row letter ns k
  counted : count ≡ sum letter ns k
  pub few : count ≤ 90 * k

pub filled_none : (letter : ℕ) (ns : List ℕ) {n : ℕ} {ys : List ℕ} → n ≡ 22 → ys ≡ replicate n 32 → Filled letter ns (set (set ys 0 letter) 21 10) 0 0
filled_none letter ns en e = record { stored = row_none letter ns en e; counted = sum_none letter ns; few = omega arith }

module _ {letter : ℕ} {ns b : List ℕ} {count k : ℕ} (f : Filled letter ns b count k) where
  pub filled_long : length b ≡ 22
  filled_long = rw f.stored (row-length letter k _ _ _ _)

  -- The next field is blank.
  pub filled_blank : k < 4 → take (5 * k + 6 - (5 * k + 1)) (drop (5 * k + 1) b) ≡ spaces
  filled_blank h = rw f.stored (row_blank letter ns k h)

  pub filled_more : {c t : List ℕ} {n : ℕ} → k < 4 → c ≡ put_mid (5 * k + 1) (5 * k + 6 - (5 * k + 1)) b t → t ≡ field_text (get_or ns k 0)
      → (n ≡ digit_sum (get_or ns k 0)) × (n ≤ 90) → Filled letter ns c (count + n) (k + 1)
  filled_more h e et d =
      record {
        stored = e ∙ rw (et, f.stored) (row_more letter ns k h);
        counted = rw (f.counted, d.0) (sum_more letter ns k h);
        few = omega (arith, f.few, d.1);
      }

  pub filled_all : k ≡ min (length ns) 4 → (b ≡ text_of letter ns) × (count ≡ sum_of ns) × (count ≤ 360)
  filled_all h = let full = row_full letter ns (length ns) in (f.stored ∙ rw h full.0, f.counted ∙ rw h full.1, omega (arith, f.few))

-- A number of a list is short where SHORT says so, or it was asked.
pub short_asked : (short : ℕ) (ns : List ℕ) (k : ℕ) → k < length ns → (not (eqb short 0) ≡ true → All (λ n. n < 1000) ns)
    → (not (eqb short 0) || ltb (get_or ns k 0) 1000) ≡ true → get_or ns k 0 < 1000
short_asked short ns k h all e =
    ⊎_elim (λ s. all s k 0 h) (λ l. ltb-true (get_or ns k 0) 1000 l) (or_cases (not (eqb short 0)) (ltb (get_or ns k 0) 1000) e)

-- ---- a line
-- Only the filled fields of a row are printed.
row_filled : (letter f a b c d : ℕ) → f ≤ 4 → text_of letter (take f (a ∷ b ∷ c ∷ d ∷ [])) ≡ row_text letter f a b c d
unfolding row_text
row_filled letter zero a b c d h = refl
row_filled letter (suc zero) a b c d h = refl
row_filled letter (suc (suc zero)) a b c d h = refl
row_filled letter (suc (suc (suc zero))) a b c d h = refl
row_filled letter (suc (suc (suc (suc zero)))) a b c d h = refl
row_filled letter (suc (suc (suc (suc (suc f))))) a b c d h = absurd (omega arith)

row_summed : (f a b c d : ℕ) → f ≤ 4 → sum_of (take f (a ∷ b ∷ c ∷ d ∷ [])) ≡ row_sum f a b c d
unfolding row_sum
row_summed zero a b c d h = refl
row_summed (suc zero) a b c d h = refl
row_summed (suc (suc zero)) a b c d h = refl
row_summed (suc (suc (suc zero))) a b c d h = refl
row_summed (suc (suc (suc (suc zero)))) a b c d h = refl
row_summed (suc (suc (suc (suc (suc f))))) a b c d h = absurd (omega arith)

-- A kind fills at most four fields.
filled_few : (k : ℕ) → (record_kind_at k).filled ≤ 4
unfolding record_kind_at
filled_few zero = omega arith
filled_few (suc zero) = omega arith
filled_few (suc (suc zero)) = omega arith
filled_few (suc (suc (suc zero))) = omega arith
filled_few (suc (suc (suc (suc zero)))) = omega arith
filled_few (suc (suc (suc (suc (suc zero))))) = omega arith
filled_few (suc (suc (suc (suc (suc (suc zero)))))) = omega arith
filled_few (suc (suc (suc (suc (suc (suc (suc zero))))))) = omega arith
filled_few (suc (suc (suc (suc (suc (suc (suc (suc zero)))))))) = omega arith
filled_few (suc (suc (suc (suc (suc (suc (suc (suc (suc k))))))))) = omega arith

-- The letter of a kind is no digit.
no_digit : (k : ℕ) → byte_sum (record_kind_at k).letter ≡ 0
unfolding record_kind_at
no_digit zero = refl
no_digit (suc zero) = refl
no_digit (suc (suc zero)) = refl
no_digit (suc (suc (suc zero))) = refl
no_digit (suc (suc (suc (suc zero)))) = refl
no_digit (suc (suc (suc (suc (suc zero))))) = refl
no_digit (suc (suc (suc (suc (suc (suc zero)))))) = refl
no_digit (suc (suc (suc (suc (suc (suc (suc zero))))))) = refl
no_digit (suc (suc (suc (suc (suc (suc (suc (suc zero)))))))) = refl
no_digit (suc (suc (suc (suc (suc (suc (suc (suc (suc k))))))))) = refl

pub few_filled : (k : ℕ) {e : RecordKind (Option StationField)} {n : ℕ} → e ≡ record_kind_at k → n ≡ e.filled → n ≤ 4
few_filled k e f = rw (f, e) (filled_few k)

-- A line's row is the line.
pub line_stored : (l : Line) {e : RecordKind (Option StationField)} {n : ℕ} → e ≡ record_kind_at l.kind → n ≡ e.filled
    → text_of e.letter (take n (l.first ∷ l.second ∷ l.third ∷ l.fourth ∷ [])) ≡ line_text l
unfolding line_text
line_stored l e f = rw (f, e) (row_filled _ _ _ _ _ _ (filled_few l.kind))

-- A P line's row is the line; its last two fields are unused.
pub plain_stored : (l : Line) → l.kind ≡ 1 → text_of 80 (l.first ∷ l.second ∷ []) ≡ line_text l
unfolding line_text row_text record_kind_at
plain_stored l e = rw e

-- The digits that a line prints are its subtractions, and so are a P line's.
line_printed : (l : Line) → Printable l → printed_sum (line_text l) ≡ row_sum (record_kind_at l.kind).filled l.first l.second l.third l.fourth
unfolding line_text
line_printed l h = row_printed _ _ _ _ _ _ (no_digit l.kind) h.0 h.1 h.2 h.3

pub line_summed : (l : Line) {e : RecordKind (Option StationField)} {n : ℕ} → e ≡ record_kind_at l.kind → n ≡ e.filled → Printable l
    → sum_of (take n (l.first ∷ l.second ∷ l.third ∷ l.fourth ∷ [])) ≡ printed_sum (line_text l)
line_summed l e f h = rw (f, e) (row_summed _ _ _ _ _ (filled_few l.kind) ∙ sym (line_printed l h))

pub plain_summed : (l : Line) → l.kind ≡ 1 → Printable l → sum_of (l.first ∷ l.second ∷ []) ≡ printed_sum (line_text l)
unfolding record_kind_at row_sum
plain_summed l e h = sym (line_printed l h ∙ rw e)

-- What one row is: 22 bytes, and the digits of its fields.
pub row_output : (letter filled a b c d : ℕ) {n : ℕ} → byte_sum letter ≡ 0 → a ≤ 99999 → b ≤ 99999 → c ≤ 99999 → d ≤ 99999 → n ≡ row_sum filled a b c d
    → record { length = 22; subtractions = n } ≡ output_of (row_text letter filled a b c d)
row_output letter filled a b c d hl ha hb hc hd e =
    rw (row-length letter filled a b c d, row_printed letter filled a b c d hl ha hb hc hd, e) refl
