-- The two forms of a station file: a file is of the old form exactly where it was accepted before, if it is accepted (`before_exactly`);
-- and then it is read as it was (`old_same`). So no file that was accepted is refused, or read otherwise.
use mathlib.Core.Path.{◌≡◌, refl, sym, ap, ◌∙◌}
use mathlib.Core.Logic.{◌↔◌}
use mathlib.Core.Bool.{not, ◌||◌}
use mathlib.Core.List.{List}
use Prim.Native.Nat.{ℕ, ◌/◌, ◌%◌, ◌≤◌, ◌<◌}
use native.Mathlib.Omega.{arith}
use lib.Dec.{eqb, ltb}
use lib.ListN.{length}
use Rattle.meaning.specs.declared.FieldForm.{FieldForm}
use Rattle.meaning.specs.declared.Header.{Header}
use Rattle.meaning.specs.File.{Reading}
use Rattle.meaning.specs.declared.Line.{Line}
use Rattle.meaning.specs.Columns.{old, padded, no_kind, line_at}
use Rattle.meaning.specs.File.{out_of_range, refusal, line_count, refusal_of, header_of}
use Rattle.meaning.specs.File.{situation_of, first_kind_of, kind_at, file_line_in, refused, reading_under_in, reading_in, reading}
use Rattle.meaning.specs.Accepted.{file_header, OldForm}
use Rattle.basics.proofs.Lists.{list_of_ext}
use Rattle.meaning.proofs.Columns.{line_formed, old_line}
use Rattle.meaning.proofs.Causes.{test_zero, then_zero}
use Rattle.meaning.proofs.Places.{first_known}
use Rattle.meaning.proofs.Accepted.{kind_known}
use Rattle.meaning.proofs.FirstRefusal.{refusal_ext}
use Rattle.file_meaning.proofs.RoundTrip.{lines_clear}

-- Lines after the first that agree give the same situation.
pub situation_ext : (h : Header) (f g : ℕ → Line) → ((i : ℕ) → 1 ≤ i → i < line_count h → f i ≡ g i) → situation_of h f ≡ situation_of h g
unfolding situation_of
situation_ext h f g same = grind (arith, list_of_ext)

-- Two files whose lines are the same, each read in one of the forms, are read alike.
pub reading_same : (z w : FieldForm) (f g : List ℕ) → length f ≡ length g → line_at z f 0 (first_kind_of f) ≡ line_at w g 0 (first_kind_of g)
    → ((i : ℕ) → 1 ≤ i → i < line_count (header_of (line_at w g 0 (first_kind_of g)))
    → file_line_in z f (header_of (line_at w g 0 (first_kind_of g))) i ≡ file_line_in w g (header_of (line_at w g 0 (first_kind_of g))) i)
    → reading_in z f ≡ reading_in w g
unfolding reading_in reading_under_in
reading_same z w f g as_long first same = grind (arith, refusal_ext, situation_ext)

-- A file of the old form is read as it was before.
old_same : (file : List ℕ) → OldForm file → reading file ≡ reading_in old file
unfolding file_line_in file_header
old_same file o =
    let l = line_at old file 0 (first_kind_of file) in
    let first : line_at padded file 0 (first_kind_of file) ≡ l = (old_line padded file 0 (first_kind_of file) o.first_form).1 in
    reading_same padded old file file refl first
    (λ i low high. (old_line padded file i (kind_at file (header_of l) i) (rw first at (o.form i (low, rw first high)))).1)

-- A file that was accepted before is of the old form.
before-old : (file : List ℕ) → (reading_in old file).refusal.number ≡ 0 → OldForm file
unfolding reading_in reading_under_in refused file_line_in file_header
before-old file e =
    let l = line_at old file 0 (first_kind_of file) in
    let h = header_of l in
    let q = refusal_of h (file_line_in old file h) in
    let number : Reading → ℕ = λ r. r.refusal.number in
    let t1 =
    (test_zero number (eqb (length file) 0 || not (eqb (length file % 22) 0) || ltb 29590 (length file)) (refused (refusal 1 0)) _ (λ z. omega arith)).0 e in
    let t2 = (test_zero number (eqb l.kind no_kind) (refused (refusal 2 1)) _ (λ z. omega arith)).0 t1.1 in
    let t3 =
    (test_zero number (out_of_range l.first l.second l.third l.fourth) (refused (refusal 3 1)) _ (λ z. omega arith)).0 t2.1 in
    let t4 = (test_zero number (not (eqb (length file / 22) (line_count h))) (refused (refusal 4 1)) _ (λ z. omega arith)).0 t3.1 in
    let none = ((then_zero number q.number _ (refused q) refl).0 t4.1).0 in
    let formed = (line_formed old file 0 (first_kind_of file) (first_known file)).0 t2.0 in
    let first : line_at padded file 0 (first_kind_of file) ≡ l = (old_line padded file 0 (first_kind_of file) formed).1 in
    record {
      first_form = formed;
      form = rw first (λ i b. (line_formed old file i (kind_at file h i) (kind_known file h i)).0
          (lines_clear h (file_line_in old file h) none i b.0 b.1).formed);
    }

-- The files that were accepted before are the accepted ones of the old form, and are read as they were.
pub before_exactly : (file : List ℕ)
    → ((reading_in old file).refusal.number ≡ 0) ↔ (((reading file).refusal.number ≡ 0) × OldForm file)
before_exactly file =
    let number : Reading → ℕ = λ r. r.refusal.number in (
      λ e. let o = before-old file e in (ap number (old_same file o) ∙ e, o),
      λ w. ap number (sym (old_same file w.1)) ∙ w.0,
    )

pub read_as_before : (file : List ℕ) → (reading_in old file).refusal.number ≡ 0 → reading file ≡ reading_in old file
read_as_before file e = old_same file (before-old file e)
