-- A line read field by field: its key, where it is of the right form and range.
use mathlib.Core.Path.{◌≡◌, sym, ap, ◌∙◌}
use mathlib.Core.Bool.{Bool, true, false, false≢true, not, ◌||◌, and-false}
use mathlib.Core.List.{List}
use mathlib.Core.Logic.{⊎_elim}
use mathlib.Mathlib.Data.Bool.Basic.{eq-false_of_not-eq-true, or-eq-false-eq-eq-false-and-eq-false as neither}
use Prim.Native.Nat.{ℕ, ◌+◌, ◌*◌, ◌<◌}
use native.Mathlib.Nat.{add-zero}
use native.Mathlib.Numerals.{add-one}
use lib.Dec.{eqb}
use borrow.Author.Tests.{not-true, not-false}
use lib.ListN.{length, take, drop, get_or, set}
use Rattle.std.proofs.lemmas.List.{get_or-take, get_or-drop}
use Rattle.meaning.proofs.Columns.{field_same}
use native.Mathlib.Omega.{arith}
use lib.Seq.{take-suc-set}
use Rattle.std.specs.Prelude.{IfSome, Option, Some, None, is_some}
use Rattle.std.proofs.lemmas.Option.{cond_some}
use Rattle.meaning.specs.declared.Field.{Field}
use Rattle.meaning.specs.declared.Field.TheVariants.{Blank, Number}
use Rattle.meaning.specs.Columns.{old, field_at, field_in, fits, step, value_of}
use Rattle.basics.specs.Lists.{list_of}
use Rattle.session_meaning.specs.Answers.{Ranges, is_c, sent_at, in_range, right}
use Rattle.session_meaning.proofs.AnswerLines.{in_range_lem}
use Rattle.basics.proofs.Tests.{and_both, or_cases}
use Rattle.line_reader.specs.Cells.{cell_value}
use Rattle.answers.specs.Keys.{sent, key_of, line_key, key_as}
use Rattle.answers.proofs.Keys.{same_sent}

-- A number that five bytes give is that of the field that they are.
pub long_is : (log : List ℕ) (at : ℕ) {n : Option ℕ}
    → IfSome n (λ x. step old (step old (step old (step old (step old Blank (get_or log at 0)) (get_or log (at + 1) 0)) (get_or log (at + 2) 0)) (get_or log (at + 3) 0)) (get_or log (at + 4) 0) ≡ Number x)
    → is_some n ≡ true → n ≡ cell_value true (field_at old log at)
unfolding field_at
long_is log at {n = Some x} h t = rw (add-zero at) (sym (ap (cell_value true) h))
long_is log at {n = None} h t = absurd (false≢true t)

module _ (n : ℕ) (log : List ℕ) (i : ℕ) where
  abbrev field : ℕ → Field
  field j = field_in old log i j

  -- A line with another letter or no line feed is of the wrong form.
  wrong_letter : eqb (get_or log (i * 22) 0) 67 ≡ false → right log i ≡ false
  unfolding right is_c
  wrong_letter e = rw e

  wrong_end : eqb (get_or log (i * 22 + 21) 0) 10 ≡ false → right log i ≡ false
  unfolding right is_c
  wrong_end e = rw (e, and-false)

  -- The four fields of a right line are filled.
  pub right_fields : right log i ≡ true → (fits true (field 0) ≡ true) × (fits true (field 1) ≡ true) × (fits true (field 2) ≡ true) × (fits true (field 3) ≡ true)
  unfolding right is_c
  right_fields e =
      let p = and_both (is_c log i) (in_range (sent_at log i)) e in
      let a = and_both (eqb (get_or log (i * 22) 0) 67) _ p.0 in
      let b = and_both (eqb (get_or log (i * 22 + 21) 0) 10) _ a.1 in
      let f0 = and_both (fits true (field 0)) _ b.1 in
      let f1 = and_both (fits true (field 1)) _ f0.1 in
      let f2 = and_both (fits true (field 2)) (fits true (field 3)) f1.1 in
      (f0.0, f1.0, f2.0, f2.1)

  pub key_wrong : right log i ≡ false → None ≡ key_as n log i
  unfolding key_as
  key_wrong e = rw e

  -- A field that a right line has filled has no number.
  pub key_unread : (f : Field) → (right log i ≡ true → fits true f ≡ true) → None ≡ cell_value true f → None ≡ key_as n log i
  key_unread f h e =
      key_wrong (eq-false_of_not-eq-true (λ r. let k : None ≡ Some (value_of f) = rw (h r) at e in cc))

  -- The key says whether the line is right.
  pub key_none : key_as n log i ≡ None → right log i ≡ false
  unfolding key_as
  key_none e = eq-false_of_not-eq-true (λ f. let h : Some (key_of n (sent_at log i)) ≡ None = rw f at e in cc)

  pub key_some : (k : ℕ) → key_as n log i ≡ Some k → (right log i ≡ true) × (key_of n (sent_at log i) ≡ k)
  unfolding key_as
  key_some k e = cond_some (right log i) (key_of n (sent_at log i)) k e

-- ---- the tests of the code
-- The test of letter and line feed.
pub form_wrong : (n : ℕ) (log : List ℕ) (i : ℕ) → (not (eqb (get_or log (i * 22) 0) 67) || not (eqb (get_or log (i * 22 + 21) 0) 10)) ≡ true
    → None ≡ key_as n log i
form_wrong n log i e =
    key_wrong n log i
    (⊎_elim (λ f. wrong_letter n log i (not-true _ f)) (λ f. wrong_end n log i (not-true _ f))
    (or_cases (not (eqb (get_or log (i * 22) 0) 67)) (not (eqb (get_or log (i * 22 + 21) 0) 10)) e))

-- Letter and line feed stand, the fields have these numbers, and r says whether they are in their ranges.
pub record Asked (n : ℕ) (log : List ℕ) (i c q s a : ℕ) (r : Bool) : Type 0 where
  pub form : (not (eqb (get_or log (i * 22) 0) 67) || not (eqb (get_or log (i * 22 + 21) 0) 10)) ≡ false
  pub candidate : Some c ≡ cell_value true (field_in old log i 0)
  pub question : Some q ≡ cell_value true (field_in old log i 1)
  pub sequence : Some s ≡ cell_value true (field_in old log i 2)
  pub answer : Some a ≡ cell_value true (field_in old log i 3)
  pub range : r ≡ in_range (sent c q s a)

module _ {n : ℕ} {log : List ℕ} {i c q s a : ℕ} {r : Bool} (w : Asked n log i c q s a r) where
  filled : (f : Field) {v : ℕ} → Some v ≡ cell_value true f → (fits true f ≡ true) × (value_of f ≡ v)
  filled f {v} e = cond_some (fits true f) (value_of f) v (sym e)

  read_is : sent_at log i ≡ sent c q s a
  unfolding sent_at
  read_is =
      same_sent (filled (field n log i 0) w.candidate).1 (filled (field n log i 1) w.question).1 (filled (field n log i 2) w.sequence).1
      (filled (field n log i 3) w.answer).1

  right_is : right log i ≡ r
  unfolding right is_c
  right_is =
      let f = (neither (not (eqb (get_or log (i * 22) 0) 67)) (not (eqb (get_or log (i * 22 + 21) 0) 10))).0 w.form in
      rw (
        not-false _ f.0,
        not-false _ f.1,
        (filled (field n log i 0) w.candidate).0,
        (filled (field n log i 1) w.question).0,
        (filled (field n log i 2) w.sequence).0,
        (filled (field n log i 3) w.answer).0,
        read_is,
      )
      (sym w.range)

  pub range_wrong : r ≡ false → None ≡ key_as n log i
  range_wrong e = key_wrong n log i (right_is ∙ e)

  pub range_right : r ≡ true → Ranges (sent c q s a)
  range_right e = in_range_lem (sent c q s a) (sym w.range ∙ e)

  pub range_key : r ≡ true → Some (key_of n (sent c q s a)) ≡ key_as n log i
  unfolding key_as
  range_key e = rw (right_is, e, read_is)

-- A line read by itself is what it is in the log.
module _ (n : ℕ) (log line : List ℕ) (i : ℕ) (e : line ≡ take 22 (drop (i * 22) log)) where
  byte : (t : ℕ) → t < 22 → get_or line t 0 ≡ get_or log (i * 22 + t) 0
  byte t h = rw (e, get_or-take, get_or-drop)

  field_there : (j : ℕ) → j < 4 → field_in old line 0 j ≡ field_in old log i j
  field_there j l =
      let z : 0 * 22 + (j * 5 + 1) ≡ j * 5 + 1 = omega arith in
      rw z (field_same old line log (j * 5 + 1) (i * 22 + (j * 5 + 1))
      (λ m b. let f : i * 22 + (j * 5 + 1) + m ≡ i * 22 + (j * 5 + 1 + m) = omega arith in rw f (byte (j * 5 + 1 + m) (omega arith))))

  pub key_there : key_as n line 0 ≡ key_as n log i
  unfolding key_as right is_c sent_at
  key_there =
      rw (
        rw add-zero at (byte 0 (omega arith)),
        byte 21 (omega arith),
        field_there 0 (omega arith),
        field_there 1 (omega arith),
        field_there 2 (omega arith),
        field_there 3 (omega arith),
      )

-- One key more is stored.
pub stored_more : (log keys : List ℕ) (i k : ℕ) → i < length keys → take i keys ≡ list_of i (line_key log) → k ≡ line_key log i
    → take (i + 1) (set keys i k) ≡ list_of (i + 1) (line_key log)
unfolding list_of
stored_more log keys i k h e f = rw (add-one, take-suc-set keys i k h, e, f)
