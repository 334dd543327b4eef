-- Laws of `first_refusal`, the first cause in a run of lines: lines that agree, number 0, and one line at a time.
use mathlib.Core.Path.{◌≡◌, refl, sym, ap, ap₂, ◌∙◌}
use mathlib.Core.Bool.{cond}
use mathlib.Core.List.{List, [], ◌∷◌, ◌++◌}
use Prim.Native.Nat.{ℕ, zero, suc, ◌+◌, ◌-◌, ◌≤◌, ◌<◌}
use native.Mathlib.Omega.{arith}
use lib.Dec.{eqb}
use borrow.Author.Tests.{ne_eqb}
use Rattle.meaning.specs.declared.Header.{Header}
use Rattle.meaning.specs.declared.Refusal.{Refusal}
use Rattle.meaning.specs.declared.Line.{Line}
use Rattle.meaning.specs.declared.Move.{Move}
use Rattle.meaning.specs.File.{excludes, closed_to, pairs_of, line_cause, cause_after, refusal, first_refusal, line_count, refusal_of}
use Rattle.meaning.proofs.Causes.{listed_none, first_listed}

-- ---- lines that agree
-- Two lines of one kind, with the same causes, over the same pairs.
abbrev pub Alike : ℕ → Line → Line → Type 0
Alike n l m = (line_cause n l ≡ line_cause n m) × (l.kind ≡ m.kind) × (pairs_of l ≡ pairs_of m)

-- Lines that are alike have the same cause after lines that close the same pairs.
closed_cause : (n : ℕ) (earlier later : List Line) (l m : Line) → ((k : ℕ) → closed_to k earlier ≡ closed_to k later) → Alike n l m
    → cause_after n earlier l ≡ cause_after n later m
unfolding cause_after
closed_cause n earlier later l m closed a = grind arith

first_alike : (n : ℕ) (f g : ℕ → Line) (m i : ℕ) (earlier later : List Line) → ((k : ℕ) → closed_to k earlier ≡ closed_to k later)
    → ((j : ℕ) → i ≤ j → j < i + m → Alike n (f j) (g j)) → first_refusal n f m i earlier ≡ first_refusal n g m i later
unfolding first_refusal closed_to
first_alike n f g zero i earlier later closed same = refl
first_alike n f g (suc m) i earlier later closed same =
    let a = same i (omega arith) (omega arith) in
    ap₂ (λ (c : ℕ) (q : Refusal). cond (eqb c 0) q (refusal c (i + 1)))
    (closed_cause n earlier later (f i) (g i) closed a)
    (first_alike n f g m (i + 1) (f i ∷ earlier) (g i ∷ later) (more a) (λ j l h. same j (omega arith) (omega arith)))
  where
    more : Alike n (f i) (g i) → (k : ℕ) → closed_to k (f i ∷ earlier) ≡ closed_to k (g i ∷ later)
    more a k =
        ap₂ ◌++◌ (ap₂ (λ (j : ℕ) (ps : List Move). cond (excludes j k) ps []) a.1 a.2) (closed k)

pub refusal_alike : (h : Header) (f g : ℕ → Line) → ((i : ℕ) → 1 ≤ i → i < line_count h → Alike h.sections (f i) (g i))
    → refusal_of h f ≡ refusal_of h g
unfolding refusal_of
refusal_alike h f g same = first_alike h.sections f g (line_count h - 1) 1 [] [] (λ k. refl) (λ j low high. same j low (omega arith))

-- Lines after the first that are the same have the same refusal.
pub refusal_ext : (h : Header) (f g : ℕ → Line) → ((i : ℕ) → 1 ≤ i → i < line_count h → f i ≡ g i) → refusal_of h f ≡ refusal_of h g
refusal_ext h f g same = grind (arith, refusal_alike)

-- ---- no refusal
-- Number 0 is no refusal.
pub no_refusal_none : (h : Header) (lines : ℕ → Line) → (refusal_of h lines).number ≡ 0 → refusal_of h lines ≡ refusal 0 0
unfolding refusal_of
no_refusal_none h lines = listed_none _ _ (first_listed h.sections lines (line_count h - 1) 1 [] (omega arith))

-- ---- one line at a time
module _ (n : ℕ) (lines : ℕ → Line) (m i : ℕ) (earlier : List Line) where
  -- The answer of m lines goes by the first of them.
  first_step : 0 < m → first_refusal n lines m i earlier
      ≡ cond (eqb (cause_after n earlier (lines i)) 0)
      (first_refusal n lines (m - 1) (i + 1) (lines i ∷ earlier))
      (refusal (cause_after n earlier (lines i)) (i + 1))
  unfolding first_refusal
  first_step h = let e : m ≡ suc (m - 1) = omega arith in ap (λ (x : ℕ). first_refusal n lines x i earlier) e

  -- Where line i has no cause, the lines after it give the answer.
  pub first_passes : 0 < m → cause_after n earlier (lines i) ≡ 0
      → first_refusal n lines (m - 1) (i + 1) (lines i ∷ earlier) ≡ first_refusal n lines m i earlier
  first_passes h e = sym (first_step h ∙ simp e)

  -- Where line i has a cause, that is the answer.
  pub first_refused : 0 < m → (q : ℕ) → cause_after n earlier (lines i) ≡ q → (q ≡ 0 → ⊥)
      → first_refusal n lines m i earlier ≡ refusal q (i + 1)
  first_refused h q e z = first_step h ∙ simp (e, ne_eqb q 0 z)

  -- With no line left there is no refusal.
  pub first_none : m ≡ 0 → first_refusal n lines m i earlier ≡ refusal 0 0
  unfolding first_refusal
  first_none e = ap (λ (x : ℕ). first_refusal n lines x i earlier) e
