-- Which cause the search line by line finds: none, or the first (`searched`). Refusal 8 is the one that the definition finds (`clash_there`, `clash_back`).
use mathlib.Core.Path.{◌≡◌, refl}
use mathlib.Core.Logic.{◌⊎◌, ⊎_elim, ◌↔◌, inl, inr}
use mathlib.Core.Bool.{Bool, true, false, not, cond}
use mathlib.Core.List.{List, [], ◌∷◌, ◌++◌}
use Prim.Native.Nat.{ℕ, zero, suc, ◌+◌, ◌≤◌, ◌<◌}
use native.Mathlib.Nat.{eq-or-lt_of_le}
use native.Mathlib.Numerals.{add-one}
use native.Mathlib.Omega.{arith}
use lib.Dec.{eqb}
use borrow.Author.Tests.{eqb-true, eqb-false}
use Rattle.meaning.specs.declared.Move.{Move}
use Rattle.meaning.specs.declared.Line.{Line}
use Rattle.meaning.specs.declared.Refusal.{Refusal}
use Rattle.meaning.specs.Station.{has_pair}
use Rattle.meaning.specs.Columns.{having, section_field, state_field, no_kind}
use Rattle.meaning.specs.File.{pairs_of, excludes, closed_to, clashes, line_cause, cause_after, refusal, first_refusal}
use Rattle.meaning.proofs.Causes.{none_outside, none_above2}
use Rattle.meaning.proofs.Reach.{once_same, permitted-append, permitted_head, permitted_tail}
use Rattle.c_layout.specs.Flat.{flat_refusal}
use Rattle.basics.specs.Lists.{In}
use Rattle.demands.specs.Demand1.{Unless, Clash, LineCause, lines_to, NoneOf, FirstOf, HasCause}

-- ---- lines that clash
-- A pair of the lines that clash.
clash_pair : (closed ms : List Move) → clashes closed ms ≡ true → (a b : ℕ) × ((has_pair closed a b ≡ true) × (has_pair ms a b ≡ true))
unfolding clashes
clash_pair closed [] h = grind arith
clash_pair closed (m ∷ ms) h = grind (arith, permitted_head m ms, permitted_tail m ms, clash_pair closed ms)

pair_clash : (closed ms : List Move) (a b : ℕ) → has_pair closed a b ≡ true → has_pair ms a b ≡ true → clashes closed ms ≡ true
unfolding clashes
pair_clash closed [] a b c h = grind arith
pair_clash closed (m ∷ ms) a b c h = grind (arith, pair_clash closed ms a b c)

-- The pairs of one line, where t says that they count, and those of the rest.
one_closed : (t : Bool) (ms rest : List Move) (a b : ℕ)
    → (has_pair (cond t ms [] ++ rest) a b ≡ true) ↔ (((t ≡ true) × (has_pair ms a b ≡ true)) ⊎ (has_pair rest a b ≡ true))
one_closed t ms rest a b = grind (arith, permitted-append)

-- The earlier line.
closed_line : (k : ℕ) (es : List Line) (a b : ℕ) → has_pair (closed_to k es) a b ≡ true
    → (e : Line) × (In e es × (excludes e.kind k ≡ true) × (has_pair (pairs_of e) a b ≡ true))
unfolding closed_to
closed_line k [] a b h = grind arith
closed_line k (e ∷ es) a b h = elim ((one_closed (excludes e.kind k) (pairs_of e) (closed_to k es) a b).0 h) [
  | inl w ↦ (e, (inl refl, w.0, w.1))
  | inr p ↦ let r = closed_line k es a b p in (r.0, (inr r.1.0, r.1.1, r.1.2))
]

line_closed : (k : ℕ) (es : List Line) (a b : ℕ) (e : Line) → In e es → excludes e.kind k ≡ true → has_pair (pairs_of e) a b ≡ true
    → has_pair (closed_to k es) a b ≡ true
unfolding closed_to
line_closed k [] a b e i x h = absurd i
line_closed k (f ∷ es) a b e i x h = (one_closed (excludes f.kind k) (pairs_of f) (closed_to k es) a b).1 (elim i [
  | inl q ↦ inl (rw q at x, rw q at h)
  | inr j ↦ inr (line_closed k es a b e j x h)
])

-- Two lines clash where the definition finds it.
pub clash_there : (earlier : List Line) (l : Line) → clashes (closed_to l.kind earlier) (pairs_of l) ≡ true → Clash earlier l
clash_there earlier l h =
    let p = clash_pair (closed_to l.kind earlier) (pairs_of l) h in
    let e = closed_line l.kind earlier p.0 p.1 p.2.0 in
    (e.0, e.1.0, e.1.1, p.0, p.1, e.1.2, p.2.1)

pub clash_back : (earlier : List Line) (l : Line) → Clash earlier l → clashes (closed_to l.kind earlier) (pairs_of l) ≡ true
clash_back earlier l c =
    pair_clash (closed_to l.kind earlier) (pairs_of l) c.3 c.4 (line_closed l.kind earlier c.3 c.4 c.0 c.1 c.2 c.5) c.6

-- ---- one line
-- Five conditions in their order, each with its test, and the number that the tests compute.
module _ {P Q R S C : Type 0} (a b c d e : Bool) (p : (a ≡ false) ↔ P) (q : (b ≡ false) ↔ Q) (r : (c ≡ true) ↔ R) (s : (d ≡ false) ↔ S) (clash : (e ≡ true) ↔ C) where
  abbrev tested : ℕ
  tested = let alone : ℕ = cond a 2 (cond b 5 (cond (not c) 7 (cond d 6 0))) in cond (eqb alone 0) (cond e 8 0) alone

  abbrev Caused : ℕ → Type 0
  Caused n = Unless P (n ≡ 2) (Unless Q (n ≡ 5) (Unless R (n ≡ 7) (Unless S (n ≡ 6) (C × (n ≡ 8)))))

  tested_caused : (tested ≡ 0 → ⊥) → Caused tested
  tested_caused z = grind (arith, Unless.fails, Unless.holds)

  caused_tested : (n : ℕ) → Caused n → tested ≡ n
  caused_tested n h = grind arith

module _ (n : ℕ) (earlier : List Line) (l : Line) where
  abbrev sections : List ℕ
  sections = having section_field l

  formed : (eqb l.kind no_kind ≡ false) ↔ (l.kind ≡ no_kind → ⊥)
  formed = grind arith

  clashing : (clashes (closed_to l.kind earlier) (pairs_of l) ≡ true) ↔ Clash earlier l
  clashing = (clash_there earlier l, clash_back earlier l)

  -- The number that a line gives is that of its first cause.
  line_cause_lem : (cause_after n earlier l ≡ 0 → ⊥) → LineCause n earlier l (cause_after n earlier l)
  unfolding cause_after line_cause
  line_cause_lem =
      tested_caused _ _ _ _ _ formed (none_outside n sections) (once_same sections) (none_above2 (having state_field l)) clashing

  -- A line has one cause: the number is the one that the definition computes.
  pub cause_is : (q : ℕ) → LineCause n earlier l q → cause_after n earlier l ≡ q
  unfolding cause_after line_cause
  cause_is =
      caused_tested _ _ _ _ _ formed (none_outside n sections) (once_same sections) (none_above2 (having state_field l)) clashing

  -- The numbers that there are; 2 is among them exactly where the line is not of the form.
  pub cause_number : (q : ℕ) → LineCause n earlier l q → (2 ≤ q) × (q ≤ 8) × ((l.kind ≡ no_kind) ↔ (q ≡ 2))
  cause_number q c = grind arith

  -- A line that gives no number has no cause.
  no_cause : cause_after n earlier l ≡ 0 → (q : ℕ) → LineCause n earlier l q → ⊥
  no_cause h q c = omega (arith, h, cause_is q c, cause_number q c)

-- ---- line by line
module _ (n : ℕ) (lines : ℕ → Line) where
  -- The first j lines have no cause.
  abbrev pub NoCause : ℕ → Type 0
  NoCause j = NoneOf (HasCause n lines) j

  -- What a search of m lines finds.
  pub data Search (m : ℕ) (q : Refusal) : Type 0 where
    none : q.number ≡ 0 → NoCause m → Search m q
    first : FirstOf (HasCause n lines) m 2 (flat_refusal q) → Search m q

  one_more : (j : ℕ) → NoCause j → cause_after n (lines_to lines j) (lines (suc j)) ≡ 0 → NoCause (suc j)
  one_more j before e k number l h =
      ⊎_elim (λ (q : k ≡ j). no_cause n (lines_to lines j) (lines (suc j)) e number (rw q at h)) (λ b. before k number b h)
      (eq-or-lt_of_le (omega arith))

  from : (m j p : ℕ) → j + m ≡ p → NoCause j → Search p (first_refusal n lines m (suc j) (lines_to lines j))
  unfolding first_refusal
  from zero j p e before = none refl (λ k number l h. before k number (omega arith) h)
  from (suc m) j p f before = go (eqb cause 0) refl (from m (suc j) p (omega arith))
    where
      cause : ℕ
      cause = cause_after n (lines_to lines j) (lines (suc j))

      rest : ℕ → Refusal
      rest i = first_refusal n lines m i (lines_to lines (suc j))

      go : (b : Bool) → eqb cause 0 ≡ b → (NoCause (suc j) → Search p (rest (suc (suc j))))
          → Search p (cond b (rest (suc j + 1)) (refusal cause (suc j + 1)))
      go true e next = rw (add-one (suc j)) (next (one_more j before (eqb-true cause 0 e)))
      go false e next =
          let here = line_cause_lem n (lines_to lines j) (lines (suc j)) (eqb-false cause 0 e) in
          first (j, omega arith, before, here, omega arith)

  searched : (m : ℕ) → Search m (first_refusal n lines m 1 [])
  searched m = from m 0 m (omega arith) (λ k number l h. omega arith)

  -- With a number there is a first cause, and without one there is none.
  pub first_cause : (m : ℕ) → ((first_refusal n lines m 1 []).number ≡ 0 → ⊥) → FirstOf (HasCause n lines) m 2 (flat_refusal (first_refusal n lines m 1 []))
  first_cause m z = grind (arith, searched m)

  pub no_causes : (m : ℕ) → (first_refusal n lines m 1 []).number ≡ 0 → NoCause m
  no_causes m z = elim (searched m) [ none e c ↦ c | first f ↦ absurd (grind (arith, cause_number, f)) ]
