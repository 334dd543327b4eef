-- The sentences of specs/SFiles follow from the statements.
use mathlib.Core.Path.{◌≡◌, refl, ◌∙◌}
use mathlib.Core.Logic.{◌↔◌}
use mathlib.Core.List.{List, [], ◌∷◌, map}
use Prim.Native.Nat.{ℕ, zero, suc, ◌+◌, ◌-◌, ◌≤◌}
use native.Mathlib.Omega.{arith}
use lib.ListN.{get_or}
use Rattle.meaning.specs.declared.Section.{Section}
use Rattle.meaning.specs.declared.Letter.TheVariants as letter
use Rattle.meaning.specs.declared.Line.{Line}
use Rattle.meaning.specs.Station.{file_states, standing, sections_of_train, no_train}
use Rattle.meaning.specs.Columns.{padded, t_line, line_at}
use Rattle.meaning.specs.File.{kind_at, file_line_in, file_line, train_of, situation_of}
use Rattle.meaning.specs.Accepted.{Accepted, file_header, body_line}
use Rattle.basics.proofs.Lists.{list_of_get}
use Rattle.meaning.proofs.Columns.{line_kind}
use Rattle.meaning.proofs.Places.{kind_train}
use Rattle.meaning.proofs.AcceptedSituation.{train_lines}
use Rattle.demands.specs.Words.{situation, HowMany}
use Rattle.demands.specs.Reach.{Agreed, Steps, Leads, Ends, Meet, SafeSetting}
use Rattle.demands.specs.OfVerdict.{Counts}
use Rattle.demands.specs.Demand1.{requested, refused}
use Rattle.demands.specs.SFiles.{row, own, LinesOf01, TrainOf01, TrainsOf01, OneOf, OwnReach, OwnMeet, DangerOf01, CountsOf01, VerdictOf01, SettingsOf01}
use Rattle.demands.proofs.Reach.{train_from_1}
use Rattle.demands.proofs.Counting.{how_many_same}

-- ---- the reader
-- A line that is held against the table's S line gives the letter S.
letter_s : (file : List ℕ) → get_or file 0 0 ≡ 83 → (file_header file).letter ≡ letter.S
unfolding file_header line_at
letter_s file e = grind arith

pub lines_of_01 : LinesOf01
lines_of_01 file e = (grind arith, λ t l. grind (arith, letter_s file e, kind_train file (file_header file) (t - 1)))

-- ---- a train
-- The section of a T line with one field filled.
one_field : (l : Line) → l.kind ≡ t_line → map (λ (a : Section). a.0) (sections_of_train (train_of l)) ≡ l.first ∷ []
unfolding sections_of_train
one_field l e = rw e refl

module _ (file : List ℕ) (a : Accepted file) (e : get_or file 0 0 ≡ 83) where
  own_kind : (t : ℕ) → OneOf (situation file).header.trains t → (body_line file (row file t)).kind ≡ t_line
  unfolding situation situation_of body_line file_line_in
  own_kind t n =
      line_kind padded file (row file t) (kind_at file (file_header file) (row file t)) (a.form (row file t) (omega (arith, n), omega (arith, n)))
      ∙ (lines_of_01 file e).1 t n.0

  stands_in : (t : ℕ) → OneOf (situation file).header.trains t → standing (situation file) t ≡ own file t ∷ []
  unfolding standing situation situation_of body_line
  stands_in zero n = absurd (omega arith)
  stands_in (suc j) n =
      let lines : ℕ → Line = file_line file (file_header file) in
      let h = file_header file in
      let at : 1 + h.plain + h.elements + j ≡ row file (suc j) = omega arith in
      rw (train_lines h lines, list_of_get h.trains (λ i. train_of (lines (1 + h.plain + h.elements + i))) no_train j (omega (arith, n)), at)
      (one_field (lines (row file (suc j))) (own_kind (suc j) n))

  train_in : (t : ℕ) → OneOf (situation file).header.trains t → TrainOf01 file t
  train_in t n = record { stands = stands_in t n; paths = paths; reach = λ σ k. (λ w. there σ k w.0 w.1, λ w. (own file t ∷ w.0, (paths σ k (own file t) w.0).1 (refl, w.1))) }
    where
      paths : (σ : List ℕ) (k b : ℕ) (p : List ℕ) → Leads (situation file) σ t k (b ∷ p) ↔ ((b ≡ own file t) × Steps (situation file) σ (own file t) p k)
      paths σ k b p = grind (arith, stands_in t n)

      there : (σ : List ℕ) (k : ℕ) (p : List ℕ) → Leads (situation file) σ t k p → OwnReach file σ t k
      there σ k [] h = absurd h
      there σ k (b ∷ p) h = (p, ((paths σ k b p).0 h).1)

  own_reach : (σ : List ℕ) (t k : ℕ) → OneOf (situation file).header.trains t → Ends (situation file) σ t k ↔ OwnReach file σ t k
  own_reach σ t k n = (train_in t n).reach σ k

  -- ---- the answers
  meet_in : (σ : List ℕ) (m : ℕ) → m ≤ (situation file).header.trains → Meet (situation file) σ m ↔ OwnMeet file σ m
  meet_in σ m l = (
    λ w.
        let i = train_from_1 (situation file) σ w.0 w.2 w.6 in
        let j = train_from_1 (situation file) σ w.1 w.2 w.7 in
        record {
          first = w.0;
          second = w.1;
          different = w.3;
          numbered = ((i, w.4), (j, w.5));
          section = w.2;
          in_first = (own_reach σ w.0 w.2 (i, omega (arith, w.4))).0 w.6;
          in_second = (own_reach σ w.1 w.2 (j, omega (arith, w.5))).0 w.7;
        },
    λ w. (
      w.first,
      w.second,
      w.section,
      w.different,
      w.numbered.0.1,
      w.numbered.1.1,
      (own_reach σ w.first w.section (w.numbered.0.0, omega (arith, w.numbered.0.1))).1 w.in_first,
      (own_reach σ w.second w.section (w.numbered.1.0, omega (arith, w.numbered.1.1))).1 w.in_second,
    ),
  )

  counts_in : (σ : List ℕ) (m x y : ℕ) → m ≤ (situation file).header.trains
      → Counts (situation file) σ m x y
      ↔ (HowMany {A = ℕ × ℕ} (λ (t, k). OneOf m t × OwnReach file σ t k) x
      × HowMany {A = ℕ × (ℕ × ℕ)} (λ (t, (a, b)). OneOf m t × (OwnReach file σ t a × Agreed (situation file) σ a b)) y)
  counts_in σ m x y l =
      let entries : (z : ℕ × ℕ) → (OneOf m z.0 × Ends (situation file) σ z.0 z.1) ↔ (OneOf m z.0 × OwnReach file σ z.0 z.1) =
      λ z. grind (arith, own_reach σ z.0 z.1) in
      let looks : (z : ℕ × (ℕ × ℕ)) → (OneOf m z.0 × (Ends (situation file) σ z.0 z.1.0 × Agreed (situation file) σ z.1.0 z.1.1))
      ↔ (OneOf m z.0 × (OwnReach file σ z.0 z.1.0 × Agreed (situation file) σ z.1.0 z.1.1)) =
      λ z. grind (arith, own_reach σ z.0 z.1.0) in (
        λ c. (how_many_same _ _ x entries c.entries_of_lem, how_many_same _ _ y looks c.looks_of_lem),
        λ h. record {
          entries_of_lem = how_many_same _ _ x (λ z. ((entries z).1, (entries z).0)) h.0;
          looks_of_lem = how_many_same _ _ y (λ z. ((looks z).1, (looks z).0)) h.1;
        },
      )

pub trains_of_01 : TrainsOf01
trains_of_01 file a e t n = train_in file a e t n

pub danger_of_01 : DangerOf01
danger_of_01 file a e σ m l = meet_in file a e σ m l

pub counts_of_01 : CountsOf01
counts_of_01 file a e σ m x y l = counts_in file a e σ m x y l

pub verdict_of_01 : VerdictOf01
verdict_of_01 file first second first' second' r (requested z w) q e =
    let m = meet_in file w.0 e (file_states (situation file)) (situation file).header.trains (omega arith) in
    (λ d. m.0 (w.2.dangerous_exactly.0 d), λ d. w.2.dangerous_exactly.1 (m.1 d))
verdict_of_01 file first second first' second' r (refused n c u) q e = grind arith

pub settings_of_01 : SettingsOf01
settings_of_01 file buffer buffer' r (requested z w) q e =
    let m = λ (σ : List ℕ). meet_in file w.0 e σ (situation file).header.trains (omega arith) in
    how_many_same (SafeSetting (situation file)) _ r.safe
    (λ σ. (λ h. (h.0, λ d. h.1 ((m σ).1 d)), λ h. (h.0, λ d. h.1 ((m σ).0 d)))) w.2.number
settings_of_01 file buffer buffer' r (refused n c u) q e = grind arith
