-- The causes of refusal in the lines below the first: each test of specs/File against the statement that its cause is absent.
-- `all_clear`: the search line by line finds no cause exactly where each line is clear by itself and no two stand over one pair.
use Rattle.std.proofs.lemmas.Bool.Decides.{nat_tests}
use mathlib.Core.Path.{◌≡◌, refl, subst}
use mathlib.Core.Logic.{⊎_elim, ◌↔◌, inl, inr}
use mathlib.Core.Bool.{Bool, true, false, not, ◌||◌, cond, false≢true}
use mathlib.Core.List.{List, [], ◌∷◌, ◌++◌}
use Prim.Native.Nat.{ℕ, zero, suc, ◌+◌, ◌≤◌, ◌<◌}
use native.Mathlib.Nat.{eq-or-lt_of_le}
use native.Mathlib.Omega.{arith}
use lib.Dec.{eqb, ltb}
use borrow.Author.Tests.{ltb-false, le-ltb}
use Rattle.meaning.specs.declared.Move.{Move}
use Rattle.meaning.specs.declared.Refusal.{Refusal}
use Rattle.meaning.specs.declared.Line.{Line}
use Rattle.meaning.specs.Station.{permitted}
use Rattle.basics.specs.Lists.{In, Once}
use Rattle.meaning.specs.Paths.{once}
use Rattle.meaning.specs.Columns.{having, no_kind, section_field, state_field}
use Rattle.meaning.specs.File.{some_outside, some_above2, pairs_of, excludes, closed_to, clashes, line_cause, cause_after, refusal, first_refusal}
use Rattle.meaning.specs.Inside.{Inside}
use Rattle.meaning.proofs.Reach.{once_same, permitted-append}

-- ---- the tests of one line
-- A test of a list, entry by entry, with one entry more.
some_more : (t u : Bool) (x : ℕ) (xs : List ℕ) (P : ℕ → Type 0)
    → (t ≡ false) ↔ P x → (u ≡ false) ↔ ((a : ℕ) → In a xs → P a)
    → ((t || u) ≡ false) ↔ ((a : ℕ) → In a (x ∷ xs) → P a)
some_more t u x xs P here rest = grind arith

-- A number from 1 to n.
pub in_range_lem : (n x : ℕ) → ((eqb x 0 || ltb n x) ≡ false) ↔ Inside n x
in_range_lem n x = grind arith

-- Cause 5 is absent.
pub none_outside : (n : ℕ) (xs : List ℕ) → (some_outside n xs ≡ false) ↔ ((a : ℕ) → In a xs → Inside n a)
none_outside n [] = (λ e a h. absurd h, λ f. refl)
none_outside n (x ∷ xs) = some_more (eqb x 0 || ltb n x) (some_outside n xs) x xs (Inside n) (in_range_lem n x) (none_outside n xs)

-- Cause 6 is absent.
pub none_above2 : (xs : List ℕ) → (some_above2 xs ≡ false) ↔ ((x : ℕ) → In x xs → x ≤ 2)
none_above2 [] = (λ e a h. absurd h, λ f. refl)
none_above2 (x ∷ xs) = some_more (ltb 2 x) (some_above2 xs) x xs (λ a. a ≤ 2) (ltb-false 2 x, le-ltb 2 x) (none_above2 xs)

-- Each number of a list has P, one by one.
abbrev pub Every : (ℕ → Type 0) → List ℕ → Type 0
Every P [] = Unit {0}
Every P (x ∷ xs) = P x × Every P xs

-- What holds of the members of a list holds of its numbers one by one.
pub every : (P : ℕ → Type 0) (xs : List ℕ) → ((a : ℕ) → In a xs → P a) → Every P xs
every P [] f = tt
every P (x ∷ xs) f = (f x (inl refl), every P xs (λ a h. f a (inr h)))

-- A refusal that one test gives, or what the tests after it give: `number` reads the refusal's number.
pub test_zero : {A : Type 0} (number : A → ℕ) (b : Bool) (x y : A) → (number x ≡ 0 → ⊥)
    → (number (cond b x y) ≡ 0) ↔ ((b ≡ false) × (number y ≡ 0))
test_zero number b x y h = grind arith

-- A refusal whose number is not 0, or what comes after it.
pub then_zero : {A : Type 0} (number : A → ℕ) (q : ℕ) (x y : A) → number y ≡ q
    → (number (cond (eqb q 0) x y) ≡ 0) ↔ ((q ≡ 0) × (number x ≡ 0))
then_zero number q x y h = grind arith

-- Causes 2, 5, 7 and 6 are absent in a line.
pub record Clear (n : ℕ) (l : Line) : Type 0 where
  pub formed : eqb l.kind no_kind ≡ false
  pub inside : (a : ℕ) → In a (having section_field l) → Inside n a
  pub different : Once (having section_field l)
  pub states : (x : ℕ) → In x (having state_field l) → x ≤ 2

no_test : (a b c d : Bool) → (◌≡◌ {A = ℕ} (cond a 2 (cond b 5 (cond (not c) 7 (cond d 6 0)))) 0) ↔ ((a ≡ false) × (b ≡ false) × (c ≡ true) × (d ≡ false))
no_test a b c d = grind arith

-- A line by itself has no cause exactly where those are absent.
pub line_clear : (n : ℕ) (l : Line) → (line_cause n l ≡ 0) ↔ Clear n l
unfolding line_cause
line_clear n l =
    let sections = having section_field l in
    let inside = none_outside n sections in
    let states = none_above2 (having state_field l) in
    let tests = no_test (eqb l.kind no_kind) (some_outside n sections) (once sections) (some_above2 (having state_field l)) in (
      λ e. let w = tests.0 e in record { formed = w.0; inside = inside.0 w.1; different = (once_same sections).0 w.2; states = states.0 w.3 },
      λ c. tests.1 (c.formed, inside.1 c.inside, (once_same sections).1 c.different, states.1 c.states),
    )

-- ---- ordered pairs
-- No pair is in both lists.
abbrev pub Apart : List Move → List Move → Type 0
Apart ms ns = (a b : ℕ) → permitted ms a b ≡ true → permitted ns a b ≡ false

-- Cause 8 is absent.
none_clashes : (ms ns : List Move) → (clashes ms ns ≡ false) ↔ Apart ms ns
unfolding clashes
none_clashes ms [] = (λ e a b h. refl, λ f. refl)
none_clashes ms (m ∷ ns) = grind (arith, none_clashes ms ns)

-- What is apart from two lists is apart from them joined.
apart_append : (ms ns l : List Move) → Apart (ms ++ ns) l ↔ (Apart ms l × Apart ns l)
apart_append ms ns l = grind (arith, permitted-append)

-- What a test leaves out is apart from everything.
apart_cond : (b : Bool) (ms l : List Move) → Apart (cond b ms []) l ↔ (b ≡ true → Apart ms l)
apart_cond b ms l = grind arith

-- Line l stands over no pair that the earlier lines close to its kind.
abbrev pub Free : List Line → Line → Type 0
Free earlier l = Apart (closed_to l.kind earlier) (pairs_of l)

-- The line l may stand together with line e.
abbrev pub Beside : Line → Line → Type 0
Beside e l = excludes e.kind l.kind ≡ true → Apart (pairs_of e) (pairs_of l)

-- Line l is free of the earlier lines with one more exactly where it is free of them and may stand beside that one.
free_more : (e : Line) (earlier : List Line) (l : Line) → Free (e ∷ earlier) l ↔ (Beside e l × Free earlier l)
unfolding closed_to
free_more e earlier l =
    let one = cond (excludes e.kind l.kind) (pairs_of e) [] in
    let both = apart_append one (closed_to l.kind earlier) (pairs_of l) in
    let here = apart_cond (excludes e.kind l.kind) (pairs_of e) (pairs_of l) in
    (λ f. let w = both.0 f in (here.0 w.0, w.1), λ w. both.1 (here.1 w.0, w.1))

-- A line after others has no cause exactly where it is clear by itself and free of them.
cause_none : (n : ℕ) (earlier : List Line) (l : Line) → (cause_after n earlier l ≡ 0) ↔ (Clear n l × Free earlier l)
unfolding cause_after
cause_none n earlier l = grind (arith, line_clear, none_clashes)

-- ---- line by line
-- Each of the m numbers from i on has P.
abbrev From : ℕ → ℕ → (ℕ → Type 0) → Type 0
From i m P = (j : ℕ) → i ≤ j → j < i + m → P j

from_more : (i m : ℕ) (P : ℕ → Type 0) → P i → From (i + 1) m P → From i (suc m) P
from_more i m P here rest j low high = ⊎_elim (λ e. subst P e here) (λ l. rest j (omega arith) (omega arith)) (eq-or-lt_of_le low)

-- The m lines from line i on have no cause, after the lines `earlier`.
pub record AllClear (n : ℕ) (lines : ℕ → Line) (m i : ℕ) (earlier : List Line) : Type 0 where
  pub alone : (j : ℕ) → i ≤ j → j < i + m → Clear n (lines j)
  pub new : (j : ℕ) → i ≤ j → j < i + m → Free earlier (lines j)
  pub apart : (j k : ℕ) → i ≤ j → j < k → k < i + m → Beside (lines j) (lines k)

module _ (n : ℕ) (lines : ℕ → Line) where
  -- One line more, in front.
  clear_more : (m i : ℕ) (earlier : List Line)
      → AllClear n lines (suc m) i earlier ↔ ((Clear n (lines i) × Free earlier (lines i)) × AllClear n lines m (i + 1) (lines i ∷ earlier))
  clear_more m i earlier = (
    λ c. (
      (c.alone i (omega arith) (omega arith), c.new i (omega arith) (omega arith)),
      record {
        alone = λ j low high. c.alone j (omega arith) (omega arith);
        new = λ j low high.
            (free_more (lines i) earlier (lines j)).1
            (c.apart i j (omega arith) (omega arith) (omega arith), c.new j (omega arith) (omega arith));
        apart = λ j k low less high. c.apart j k (omega arith) less (omega arith);
      },
    ),
    λ w.
        let both : From (i + 1) m (λ j. Beside (lines i) (lines j) × Free earlier (lines j)) =
        λ j low high. (free_more (lines i) earlier (lines j)).0 (w.1.new j low high) in
        record {
          alone = from_more i m (λ j. Clear n (lines j)) w.0.0 w.1.alone;
          new = from_more i m (λ j. Free earlier (lines j)) w.0.1 (λ j low high. (both j low high).1);
          apart = λ j k low less high.
              from_more i m (λ j. j < k → Beside (lines j) (lines k)) (λ l. (both k (omega arith) (omega arith)).0)
              (λ j low h l. w.1.apart j k low l (omega arith)) j low (omega arith) less;
        },
  )

  -- The first refusal is none exactly where no line has a cause.
  pub all_clear : (m i : ℕ) (earlier : List Line) → ((first_refusal n lines m i earlier).number ≡ 0) ↔ AllClear n lines m i earlier
  unfolding first_refusal
  all_clear zero i earlier = grind arith
  all_clear (suc m) i earlier = grind (arith, nat_tests, cause_none, clear_more, all_clear m (i + 1) (lines i ∷ earlier))

-- ---- which refusals there are
-- A refusal, or none, that reading a file of `lines` lines can give: numbers 0 to 8, with no line for 0 and 1, the first line for 3 and
-- 4, and a line of the file for all from 2 on.
pub record Listed (lines : ℕ) (q : Refusal) : Type 0 where
  pub number : q.number ≤ 8
  pub no_line : q.number ≤ 1 → q.line ≡ 0
  pub first_line : 3 ≤ q.number → q.number ≤ 4 → q.line ≡ 1
  pub within : 2 ≤ q.number → (1 ≤ q.line) × (q.line ≤ lines)

-- Number 0 is no refusal.
pub listed_none : (lines : ℕ) (q : Refusal) → Listed lines q → q.number ≡ 0 → q ≡ refusal 0 0
listed_none lines q l e = grind arith

-- The numbers of a line's causes.
abbrev OfLine : ℕ → Type 0
OfLine q = (q ≤ 8) × (q ≡ 1 → ⊥) × (q ≡ 3 → ⊥) × (q ≡ 4 → ⊥)

cause_listed : (n : ℕ) (earlier : List Line) (l : Line) → OfLine (cause_after n earlier l)
unfolding cause_after line_cause
cause_listed n earlier l = grind arith

-- The first refusal is one of these refusals.
pub first_listed : (n : ℕ) (lines : ℕ → Line) (m i : ℕ) (earlier : List Line) → 1 ≤ i → Listed (i + m) (first_refusal n lines m i earlier)
unfolding first_refusal
first_listed n lines zero i earlier low = omega arith
first_listed n lines (suc m) i earlier low = grind (arith, cause_listed, first_listed n lines m (i + 1) (lines i ∷ earlier) (omega arith))
