-- Reading accepts exactly the files where causes 1 to 8 are all absent: `accepted_exactly`. What an accepted and a refused reading
-- give, and which refusals there are, follow from one walk through the tests of `reading`.
use mathlib.Core.Path.{◌≡◌, refl, ap}
use mathlib.Core.Logic.{◌↔◌}
use mathlib.Core.Bool.{Bool, false, not, ◌||◌, cond, false≢true}
use mathlib.Core.List.{List, []}
use Prim.Native.Nat.{ℕ, ◌+◌, ◌-◌, ◌/◌, ◌%◌, ◌≤◌}
use native.Mathlib.Omega.{arith}
use lib.Dec.{eqb, ltb}
use lib.ListN.{length}
use borrow.Author.Tests.{eqb-true, eqb-false, eq-eqb, not-false}
use Rattle.meaning.specs.declared.Header.{Header}
use Rattle.meaning.specs.declared.Refusal.{Refusal}
use Rattle.meaning.specs.File.{Reading}
use Rattle.meaning.specs.Columns.{padded, no_kind, line_at}
use Rattle.meaning.specs.declared.Line.{Line}
use Rattle.meaning.specs.File.{out_of_range, Limits, closed_to, refusal, line_count, refusal_of, situation_of, header_of, first_kind_of, kind_at}
use Rattle.meaning.specs.File.{file_line_in, file_line, no_situation, refused, read_with, reading_under_in, reading_in, reading}
use Rattle.meaning.specs.Accepted.{file_header, body_line, InBody, Accepted}
use Rattle.meaning.proofs.Columns.{line_formed}
use Rattle.meaning.proofs.Places.{first_known}
use Rattle.meaning.proofs.Causes.{Free, Clear, all_clear, Listed, first_listed}

-- The kind of a line below the first is never past the table.
pub kind_known : (file : List ℕ) (h : Header) (i : ℕ) → kind_at file h i ≡ no_kind → ⊥
unfolding kind_at
kind_known file h i = grind arith

-- ---- the tests of a whole file
-- Cause 1 is absent.
pub size_exactly : (n : ℕ) → ((eqb n 0 || not (eqb (n % 22) 0) || ltb 29590 n) ≡ false) ↔ ((1 ≤ n) × (n % 22 ≡ 0) × (n ≤ 29590))
size_exactly n = grind arith

-- The numbers of a header are in their ranges: cause 3 is absent.
abbrev pub InRange : Header → Type 0
InRange h = out_of_range h.sections h.plain h.elements h.trains ≡ false

-- The test of cause 3, number by number.
pub ranges : (h : Header) → InRange h → Limits h
ranges h e = grind arith

-- Numbers in their ranges pass that test.
pub ranges_in : (h : Header) → Limits h → InRange h
ranges_in h r = grind arith

-- No test of `reading` gives a refusal.
pub record Passed (file : List ℕ) : Type 0 where
  pub size : (eqb (length file) 0 || not (eqb (length file % 22) 0) || ltb 29590 (length file)) ≡ false
  pub first : eqb (line_at padded file 0 (first_kind_of file)).kind no_kind ≡ false
  pub ranges : InRange (file_header file)
  pub count : not (eqb (length file / 22) (line_count (file_header file))) ≡ false
  pub body : (refusal_of (file_header file) (file_line file (file_header file))).number ≡ 0

-- ---- one walk through the tests
-- What a reading of a file is, refused or not.
record Proper (file : List ℕ) (r : Reading) : Type 0 where
  listed : Listed (length file / 22) r.refusal
  nothing : (r.refusal.number ≡ 0 → ⊥) → r.situation ≡ no_situation
  all : r.refusal.number ≡ 0 → r.situation ≡ situation_of (file_header file) (file_line file (file_header file))
  passed : r.refusal.number ≡ 0 → Passed file

refused_proper : (file : List ℕ) (q : Refusal) → Listed (length file / 22) q → (q.number ≡ 0 → ⊥) → Proper file (refused q)
unfolding refused
refused_proper file q l z = record { listed = l; nothing = λ y. refl; all = λ e. absurd (z e); passed = λ e. absurd (z e) }

test_proper : (file : List ℕ) (b : Bool) (q : Refusal) (y : Reading) → Listed (length file / 22) q → (q.number ≡ 0 → ⊥)
    → (b ≡ false → Proper file y) → Proper file (cond b (refused q) y)
test_proper file b q y h h2 h3 = grind (arith, refused_proper)

last_proper : (file : List ℕ) (q : Refusal) → Listed (length file / 22) q → (q.number ≡ 0 → Passed file)
    → Proper file (read_with q (situation_of (file_header file) (file_line file (file_header file))))
last_proper file q l p = grind (arith, eqb-false, eqb-true, refused_proper)

reading_proper : (file : List ℕ) → Proper file (reading file)
unfolding reading_in reading_under_in refusal_of file_header
reading_proper file =
    let l = line_at padded file 0 (first_kind_of file) in
    let h = header_of l in
    test_proper file (eqb (length file) 0 || not (eqb (length file % 22) 0) || ltb 29590 (length file)) (refusal 1 0) _
    (omega arith) (λ z. omega arith)
    λ size.
    let c = (size_exactly (length file)).0 size in
    test_proper file (eqb l.kind no_kind) (refusal 2 1) _ (omega arith) (λ z. omega arith)
    λ first.
    test_proper file (out_of_range l.first l.second l.third l.fourth) (refusal 3 1) _ (omega arith) (λ z. omega arith)
    λ ranges.
    test_proper file (not (eqb (length file / 22) (line_count h))) (refusal 4 1) _ (omega arith) (λ z. omega arith)
    λ count.
    let n : length file / 22 ≡ 1 + (line_count h - 1) =
    omega (arith, eqb-true (length file / 22) (line_count h) (not-false (eqb (length file / 22) (line_count h)) count)) in
    last_proper file (refusal_of h (file_line file h))
    (rw n (first_listed h.sections (file_line file h) (line_count h - 1) 1 [] (omega arith)))
    (λ body. record { size = size; first = first; ranges = ranges; count = count; body = body })

-- All tests pass exactly where reading gives no refusal.
pub passed_exactly : (file : List ℕ) → ((reading file).refusal.number ≡ 0) ↔ Passed file
unfolding reading_in reading_under_in file_header
passed_exactly file = ((reading_proper file).passed, λ p. rw (p.size, p.first, p.ranges, p.count, p.body))

-- Before the first line nothing is closed.
none_closed : (l : Line) → Free [] l
unfolding closed_to
none_closed l a b h = absurd (false≢true h)

-- The tests pass exactly where the causes are absent.
module _ (file : List ℕ) where
  passed_accepted : Passed file → Accepted file
  unfolding refusal_of body_line file_line_in
  passed_accepted p =
      let h = file_header file in
      let size = (size_exactly (length file)).0 p.size in
      let clear = (all_clear h.sections (file_line file h) (line_count h - 1) 1 []).0 p.body in
      let line : (i : ℕ) → InBody file i → Clear h.sections (file_line file h i) = λ i b. clear.alone i b.0 (omega arith) in
      record {
        size = size;
        first_form = (line_formed padded file 0 (first_kind_of file) (first_known file)).0 p.first;
        form = λ i b. (line_formed padded file i (kind_at file h i) (kind_known file h i)).0 (line i b).formed;
        limits = ranges h p.ranges;
        lines = eqb-true (length file / 22) (line_count h) (not-false _ p.count);
        inside = λ i b. (line i b).inside;
        states = λ i b. (line i b).states;
        different = λ i b. (line i b).different;
        apart = λ i j b d less. clear.apart i j b.0 less (omega arith);
      }

  accepted_passed : Accepted file → Passed file
  unfolding refusal_of body_line file_line_in
  accepted_passed c =
      let h = file_header file in
      record {
        size = (size_exactly (length file)).1 c.size;
        first = (line_formed padded file 0 (first_kind_of file) (first_known file)).1 c.first_form;
        ranges = ranges_in h c.limits;
        count = ap not (eq-eqb (length file / 22) (line_count h) c.lines);
        body =
            (all_clear h.sections (file_line file h) (line_count h - 1) 1 []).1
            (record {
              alone = λ i low high.
                  record {
                    formed = (line_formed padded file i (kind_at file h i) (kind_known file h i)).1 (c.form i (low, omega arith));
                    inside = c.inside i (low, omega arith);
                    different = c.different i (low, omega arith);
                    states = c.states i (low, omega arith);
                  };
              new = λ i low high. none_closed (file_line file h i);
              apart = λ i j low less high. c.apart i j (low, omega arith) (omega arith, omega arith) less;
            });
      }

-- Reading accepts a file exactly where causes 1 to 8 are all absent.
pub accepted_exactly : (file : List ℕ) → ((reading file).refusal.number ≡ 0) ↔ Accepted file
accepted_exactly file = grind (arith, accepted_passed, passed_accepted, passed_exactly)

-- ---- what reading gives
-- The refusals that reading gives.
pub refusal_listed : (file : List ℕ) → Listed (length file / 22) (reading file).refusal
refusal_listed file = (reading_proper file).listed

-- A refused reading holds no situation.
pub refused-situation : (file : List ℕ) → ((reading file).refusal.number ≡ 0 → ⊥) → (reading file).situation ≡ no_situation
refused-situation file = (reading_proper file).nothing

-- An accepted reading holds what the lines give.
pub accepted_situation : (file : List ℕ) → (reading file).refusal.number ≡ 0
    → reading file ≡ record { refusal = refusal 0 0; situation = situation_of (file_header file) (file_line file (file_header file)) }
accepted_situation file e = grind (arith, reading_proper)
