-- Item 3 holds of any operation of which demand 1 holds (`item_3_read`), and of the moves (`moves_on_legs`).
use mathlib.Core.Path.{◌≡◌, refl, sym, ap, ◌∙◌}
use mathlib.Core.Logic.{◌⊎◌, inl, inr, ⊎_elim, ◌↔◌}
use mathlib.Core.Bool.{true, false≢true}
use mathlib.Core.List.{List, [], ◌∷◌}
use mathlib.Mathlib.Data.Bool.Basic.{or_inr}
use Prim.Native.Nat.{ℕ, zero, suc, ◌+◌, ◌<◌}
use native.Mathlib.Omega.{arith}
use lib.Dec.{eqb}
use lib.ListN.{length, get_or}
use borrow.Author.Tests.{eq-eqb}
use Rattle.meaning.specs.declared.Move.{Move}
use Rattle.meaning.specs.declared.Turnout.{Turnout}
use Rattle.meaning.specs.declared.Kind.TheVariants as kind
use Rattle.meaning.specs.declared.Line.{Line}
use Rattle.meaning.specs.declared.Situation.{Situation}
use Rattle.meaning.specs.Station.{elements_of, pairs_over, permitted}
use Rattle.meaning.specs.Columns.{padded}
use Rattle.basics.specs.Lists.{list_of}
use Rattle.meaning.specs.File.{no_element, pairs_of, move_of, element_of, excludes, kind_at, file_line_in, file_line}
use Rattle.meaning.specs.Accepted.{Accepted, InBody, file_header, body_line}
use Rattle.basics.proofs.Tests.{or_cases}
use Rattle.meaning.proofs.Reach.{permitted-append}
use Rattle.basics.proofs.Lists.{list_of-length, list_of_get}
use Rattle.meaning.proofs.Columns.{line_kind}
use Rattle.meaning.proofs.Places.{kind_plain, kind_element}
use Rattle.meaning.proofs.AcceptedSituation.{of_kind, plain_lines, element_lines_lem}
use Rattle.c_layout.specs.declared.FlatReading.{FlatReading}
use Rattle.demands.specs.Words.{situation}
use Rattle.demands.specs.Reach.{kind_in, Over, Permits, Plain, Agreed}
use Rattle.demands.specs.Demand1.{Clash, lines_to, LineCause, FileCause, Demand1Read}
use Rattle.demands.specs.Laws.{MovesOnLegs}
use Rattle.demands.specs.Item03.{Item3Read}
use Rattle.demands.specs.Demand1 as d1

-- ---- the lines of an accepted file
listed : (n : ℕ) (f : ℕ → Move) (a b : ℕ) → permitted (list_of n f) a b ≡ true → (i : ℕ) × ((i < n) × (permitted (f i ∷ []) a b ≡ true))
unfolding list_of
listed zero f a b h = absurd (false≢true h)
listed (suc n) f a b h =
    ⊎_elim (λ p. let r = listed n f a b p in (r.0, (omega arith, r.1.1))) (λ p. (n, (omega arith, p)))
    (or_cases (permitted (list_of n f) a b) (permitted (f n ∷ []) a b) (sym (permitted-append (list_of n f) (f n ∷ []) a b) ∙ h))

-- What the element of a line stands over is what the line stands over.
line_over : (l : Line) → (l.kind ≡ 2) ⊎ (l.kind ≡ 3) → pairs_over (element_of l).kind ≡ pairs_of l
unfolding pairs_of
line_over l h = grind arith

line_signal : (l : Line) (m : Move) → (l.kind ≡ 2) ⊎ (l.kind ≡ 3) → (element_of l).kind ≡ kind.Signal m → l.kind ≡ 2
line_signal l m h h2 = grind arith

line_turnout : (l : Line) (t : Turnout) → (l.kind ≡ 2) ⊎ (l.kind ≡ 3) → (element_of l).kind ≡ kind.Turnout t → l.kind ≡ 3
line_turnout l t h h2 = grind arith

module _ (file : List ℕ) (accepted : Accepted file) where
  abbrev s : Situation
  s = situation file

  -- The line of element i.
  abbrev place : ℕ → ℕ
  place i = 1 + (file_header file).plain + i

  few : length (elements_of s) ≡ (file_header file).elements
  unfolding situation
  few = grind (arith, element_lines_lem, list_of-length)

  element_at : (i : ℕ) → i < (file_header file).elements → get_or (elements_of s) i no_element ≡ element_of (body_line file (place i))
  unfolding situation body_line
  element_at i l = grind (arith, element_lines_lem, list_of_get)

  in_body : (i : ℕ) → i < (file_header file).elements → InBody file (place i)
  in_body i l = (omega arith, omega arith)

  element_kind : (i : ℕ) → i < (file_header file).elements → ((body_line file (place i)).kind ≡ 2) ⊎ ((body_line file (place i)).kind ≡ 3)
  unfolding body_line file_line_in
  element_kind i l = grind (arith, kind_element, line_kind)

  over_line : (i a b : ℕ) → Over s i a b → permitted (pairs_of (body_line file (place i))) a b ≡ true
  over_line i a b o = grind (arith, element_at, element_kind, few, line_over)

  -- Two different elements of one kind do not stand over one pair.
  apart : (i j a b : ℕ) → i < j → Over s i a b → Over s j a b
      → excludes (body_line file (place i)).kind (body_line file (place j)).kind ≡ true → ⊥
  apart i j a b less p q ex =
      let l : i < (file_header file).elements = omega (arith, p.0, few) in
      let m : j < (file_header file).elements = omega (arith, q.0, few) in
      false≢true (sym (accepted.apart (place i) (place j) (in_body i l) (in_body j m) (omega arith) ex a b (over_line i a b p)) ∙ over_line j a b q)

  same : (i j a b k : ℕ) → (body_line file (place i)).kind ≡ k → (body_line file (place j)).kind ≡ k → Over s i a b → Over s j a b → j ≡ i
  same i j a b k e f p q = grind (arith, apart, eq-eqb)

  -- A P line and an element neither.
  no_plain : (i a b : ℕ) → Plain s a b → Over s i a b → ⊥
  unfolding situation body_line file_line_in pairs_of
  no_plain i a b h o =
      let r =
      listed (file_header file).plain (λ i. move_of (file_line file (file_header file) (1 + i))) a b
      (sym (ap (λ (ms : List Move). permitted ms a b) (plain_lines (file_header file) (file_line file (file_header file)))) ∙ h) in
      let p : ℕ = r.0 in
      let l : i < (file_header file).elements = omega (arith, o.0, few) in
      let in_p : InBody file (1 + p) = (omega arith, omega arith) in
      let one : (body_line file (1 + p)).kind ≡ 1 = plain_kind p r.1.0 in
      false≢true (sym (accepted.apart (1 + p) (place i) in_p (in_body i l) (omega arith)
      (ap (λ (k : ℕ). excludes k (body_line file (place i)).kind) one ∙ or_inr (eqb 1 (body_line file (place i)).kind) true refl)
      a b (of_kind (λ l. permitted (pairs_of l) a b ≡ true) (body_line file (1 + p)) 1 one r.1.1)) ∙ over_line i a b o)
    where
      plain_kind : (p : ℕ) → p < (file_header file).plain → (body_line file (1 + p)).kind ≡ 1
      plain_kind p l =
          line_kind padded file (1 + p) (kind_at file (file_header file) (1 + p)) (accepted.form (1 + p) (omega arith, omega arith))
          ∙ kind_plain file (file_header file) p l

  module _ (σ : List ℕ) where
    all : (i a b : ℕ) → Over s i a b → Agreed s σ a b → (j : ℕ) → Over s j a b → Permits s σ j a b
    all i a b o (inl p) = absurd (no_plain i a b p o)
    all i a b o (inr w) = w.1.1

    kind_signal : (i a b : ℕ) (m : Move) → Over s i a b → kind_in s i ≡ kind.Signal m → (body_line file (place i)).kind ≡ 2
    kind_signal i a b m o h = grind (arith, element_at, element_kind, few, line_signal)

    kind_turnout : (i a b : ℕ) (t : Turnout) → Over s i a b → kind_in s i ≡ kind.Turnout t → (body_line file (place i)).kind ≡ 3
    kind_turnout i a b t o h = grind (arith, element_at, element_kind, few, line_turnout)

    -- Each element over the pair is one of the two.
    which : (i j k a b : ℕ) (m : Move) (t : Turnout) → kind_in s i ≡ kind.Signal m → kind_in s j ≡ kind.Turnout t
        → Over s i a b → Over s j a b → Over s k a b → (k ≡ i) ⊎ (k ≡ j)
    which i j k a b m t sig tur p q o =
        ⊎_elim (λ e. inl (same i k a b 2 (kind_signal i a b m p sig) e p o)) (λ e. inr (same j k a b 3 (kind_turnout j a b t q tur) e q o))
        (element_kind k (omega (arith, o.0, few)))

    both : (i j a b : ℕ) (m : Move) (t : Turnout) → kind_in s i ≡ kind.Signal m → kind_in s j ≡ kind.Turnout t → Over s i a b → Over s j a b
        → Agreed s σ a b ↔ (Permits s σ i a b × Permits s σ j a b)
    both i j a b m t sig tur p q = grind (arith, all i a b p, which i j, p, q)

    alone : (i a b : ℕ) → Over s i a b → ((j : ℕ) → Over s j a b → j ≡ i) → Agreed s σ a b ↔ Permits s σ i a b
    alone i a b p only = grind (arith, all i a b p, p)

-- ---- refusal 8
eight : (n : ℕ) (earlier : List Line) (l : Line) (q : ℕ) → LineCause n earlier l q → q ≡ 8 → Clash earlier l
eight n earlier l q c z = grind arith

pub item_3_read : (file : List ℕ) (r : FlatReading) → Demand1Read file r → Item3Read file r
item_3_read file r (d1.requested e w) z = absurd (omega (arith, z, ap (λ q. q.number) e))
item_3_read file r (d1.refused n (a, c) u) z = in_line c
  where
    in_line : FileCause file r.refusal → (j : ℕ) × (r.refusal.line ≡ j + 2) × Clash (lines_to (body_line file) j) (body_line file (suc j))
    in_line (d1.fails s i) = absurd (omega (arith, i.0, z))
    in_line (d1.holds s (d1.fails w i)) = absurd (omega (arith, i.0, z))
    in_line (d1.holds s (d1.holds w (d1.fails k i))) = absurd (omega (arith, i.0, z))
    in_line (d1.holds s (d1.holds w (d1.holds k (d1.fails m i)))) = absurd (omega (arith, i.0, z))
    in_line (d1.holds s (d1.holds w (d1.holds k (d1.holds m f)))) =
        (f.0, f.4, eight (file_header file).sections (lines_to (body_line file) f.0) (body_line file (suc f.0)) r.refusal.number f.3 z)

-- ---- the verdict
pub moves_on_legs : MovesOnLegs
moves_on_legs file = record { both = both file; alone = alone file }
