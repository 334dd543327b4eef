-- The steps of the reader's loops over plain variables: a line of the file at its place, what its numbers fit, what one line more does
-- to the values filled in.
use mathlib.Core.Path.{◌≡◌, refl, sym, ap, ◌∙◌}
use mathlib.Core.Bool.{Bool, true, false, cond}
use mathlib.Core.List.{List, []}
use Prim.Native.Nat.{ℕ, ◌+◌, ◌*◌, ◌-◌, ◌≤◌, ◌<◌}
use native.Mathlib.Numerals.{add-one}
use native.Mathlib.Omega.{arith}
use lib.Dec.{eqb, ltb}
use lib.ListN.{get_or, set, replicate}
use borrow.Author.Tests.{ne_eqb}
use Rattle.meaning.specs.declared.Header.{Header}
use Rattle.meaning.specs.declared.Move.{Move}
use Rattle.meaning.specs.declared.Element.{Element}
use Rattle.meaning.specs.declared.Letter.{Letter}
use Rattle.meaning.specs.declared.Train.{Train}
use Rattle.meaning.specs.declared.Line.{Line}
use Rattle.meaning.specs.Columns.{padded, record_kind_at, well_formed, malformed, line_at}
use Rattle.basics.specs.Lists.{list_of, pad_to}
use Rattle.meaning.specs.File.{pairs_of, line_cause, train_kind, file_line_in, file_line}
use Rattle.meaning.specs.File.{situation_of}
use Rattle.basics.proofs.Lists.{pad_list_of-set}
use Rattle.meaning.proofs.Places.{kind_plain, kind_element, kind_train, OfTrain, most_four, by_train_kind, train_kind_within}
use Rattle.meaning.proofs.Columns.{Suits, Writable, kind_well_formed, well_formed_writable}
use Rattle.meaning.proofs.Causes.{line_clear}
use Rattle.line_checks.proofs.Causes.{line_of_kind, kind_given, plain_inside, signal_inside, signal_low, turnout_inside, turnout_low}
use Rattle.line_checks.proofs.Causes.{sections_inside, pairs_none}
use Rattle.reader.specs.Reader.{ElementFits, TrainFits}

-- ---- the lines of the file at their places
module _ (file : List ℕ) (h : Header) (k : ℕ) where
  pub plain_line : k < h.plain → line_at padded file (1 + k) 1 ≡ file_line file h (1 + k)
  unfolding file_line_in
  plain_line l = ap (line_at padded file (1 + k)) (sym (kind_plain file h k l))

  pub element_line : k < h.elements → (kind : ℕ) → kind ≡ cond (eqb (get_or file ((1 + h.plain + k) * 22) 0) 76) 2 3
      → line_at padded file (1 + h.plain + k) kind ≡ file_line file h (1 + h.plain + k)
  unfolding file_line_in
  element_line l kind e = ap (line_at padded file (1 + h.plain + k)) (e ∙ sym (kind_element file h k l))

  pub train_line : (kind : ℕ) → kind ≡ train_kind h.letter file (1 + h.plain + h.elements + k)
      → line_at padded file (1 + h.plain + h.elements + k) kind ≡ file_line file h (1 + h.plain + h.elements + k)
  unfolding file_line_in
  train_line kind e = ap (line_at padded file (1 + h.plain + h.elements + k)) (e ∙ sym (kind_train file h k))

-- An element line that is no signal is a turnout.
pub other_kind : (b : Bool) → (◌≡◌ {A = ℕ} (cond b 2 3) 2 → ⊥) → ◌≡◌ {A = ℕ} 3 (cond b 2 3)
other_kind true n = absurd (n refl)
other_kind false n = refl

-- ---- the numbers of a line without a cause
-- Its kind is the one that was allowed.
kind_allowed : (n : ℕ) (file : List ℕ) (i k : ℕ) (l : Line) → l ≡ line_at padded file i k → line_cause n l ≡ 0 → l.kind ≡ k
kind_allowed n file i k l e z = kind_given n l z k (line_of_kind padded file i k l e)

module _ (n : ℕ) (few : n ≤ 512) (file : List ℕ) (i : ℕ) (l : Line) where
  -- A P line fits a move.
  pub plain_fits : l ≡ line_at padded file i 1 → line_cause n l ≡ 0 → (l.first ≤ 512) × (l.second ≤ 512)
  plain_fits e z =
      let p = plain_inside n l z (kind_allowed n file i 1 l e z) in
      (omega arith, omega arith)

  -- A T line fits a train: its sections are inside, and its other fields are 0.
  unused_zero : (j k x : ℕ) → l.kind ≡ k → ltb j (record_kind_at k).filled ≡ false → Suits (ltb j (record_kind_at l.kind).filled) x → x ≤ 512
  unused_zero j k x e f s = let zero : x ≡ 0 = s.1 (ap (λ (y : ℕ). ltb j (record_kind_at y).filled) e ∙ f) in omega (arith, zero)

  pub train_fits : (x : Letter) (k : ℕ) → k ≡ train_kind x file i → l ≡ line_at padded file i k → line_cause n l ≡ 0 → TrainFits l
  unfolding record_kind_at
  train_fits x k is e z =
      let kind = kind_allowed n file i k l e z in
      let o : OfTrain x k = rw is (train_kind_within x file i) in
      let formed = kind_well_formed padded file i k (rw e at ((line_clear n l).0 z).formed) in
      let w : Writable l = rw e (well_formed_writable padded file i k formed) in
      by_train_kind (λ y. l.kind ≡ y → TrainFits l)
      (λ e.
      let p = sections_inside n l z 4 e in
      record {
        low = omega arith;
        first = omega (arith, p);
        second = unused_zero 1 4 l.second e refl w.second;
        third = unused_zero 2 4 l.third e refl w.third;
        fourth = unused_zero 3 4 l.fourth e refl w.fourth;
      })
      (λ e.
      let p = sections_inside n l z 5 e in
      record {
        low = omega arith;
        first = omega (arith, p);
        second = omega (arith, p);
        third = unused_zero 2 5 l.third e refl w.third;
        fourth = unused_zero 3 5 l.fourth e refl w.fourth;
      })
      (λ e.
      let p = sections_inside n l z 6 e in
      record {
        low = omega arith;
        first = omega (arith, p);
        second = omega (arith, p);
        third = omega (arith, p);
        fourth = unused_zero 3 6 l.fourth e refl w.fourth;
      })
      (λ e.
      let p = sections_inside n l z 7 e in
      record { low = omega arith; first = omega (arith, p); second = omega (arith, p); third = omega (arith, p); fourth = omega (arith, p) })
      k o.0 (omega (arith, o.1, most_four x)) kind

  -- An element line fits an element.
  pub element_fits : (b : Bool) → l ≡ line_at padded file i (cond b 2 3) → line_cause n l ≡ 0 → ElementFits l
  element_fits b e z = go b (kind_allowed n file i (cond b 2 3) l e z)
    where
      go : (b : Bool) → l.kind ≡ cond b 2 3 → ElementFits l
      go true kind =
          let p = signal_inside n l z kind in
          let q : l.third ≤ 2 = signal_low n l z kind in
          record { first = omega arith; second = omega arith; third = omega arith; signal = λ x. q; turnout = λ x. absurd (omega arith) }
      go false kind =
          let p = turnout_inside n l z kind in
          record {
            first = omega arith;
            second = omega arith;
            third = omega arith;
            signal = λ x. absurd (x kind);
            turnout = λ x. turnout_low n l z kind;
          }

-- ---- a T line
-- It stands over no pair.
no_pairs : (file : List ℕ) (i k : ℕ) → 4 ≤ k → pairs_of (line_at padded file i k) ≡ []
unfolding line_at pairs_of
no_pairs file i k low = go (well_formed padded file i k) _ refl
  where
    go : (b : Bool) (l : Line) → l.kind ≡ k → pairs_of (cond b l malformed) ≡ []
    go true l e =
        pairs_none l k e (rw (ne_eqb k 1 (λ z. omega arith)) (ne_eqb k 2 (λ z. omega arith))) (ne_eqb k 3 (λ z. omega arith))
    go false l e = refl

pub train_pairs : (file : List ℕ) (x : Letter) (i : ℕ) → pairs_of (line_at padded file i (train_kind x file i)) ≡ []
train_pairs file x i = no_pairs file i (train_kind x file i) (train_kind_within x file i).0

-- ---- the values, filled in one by one
module _ {A : Type 0} (m : ℕ) (z : A) (f : ℕ → A) where
  pub fill_start : replicate m z ≡ pad_to m z (list_of 0 f)
  unfolding pad_to list_of
  fill_start = let e : m ≡ m - 0 = omega arith in ap (λ (x : ℕ). replicate x z) e

  pub fill_more : (xs : List A) (k : ℕ) (v : A) → k < m → v ≡ f k → xs ≡ pad_to m z (list_of k f) → set xs k v ≡ pad_to m z (list_of (k + 1) f)
  fill_more xs k v l ev es = rw (add-one k, ev, es) (pad_list_of-set m k z f l)

-- ---- the answer
-- A situation is its parts.
pub situation_is : (h : Header) (lines : ℕ → Line) (plain : List Move) (elements : List Element) (trains : List Train)
    → plain ≡ (situation_of h lines).plain → elements ≡ (situation_of h lines).elements → trains ≡ (situation_of h lines).trains
    → record { header = h; plain = plain; elements = elements; trains = trains } ≡ situation_of h lines
unfolding situation_of
situation_is h lines plain elements trains p e t = λ i. record { header = h; plain = p i; elements = e i; trains = t i }
