-- Item 9 holds of any operation with the contract of `judge_report` (`item_9`). Every record enters just one line (`one_line`).
use mathlib.Core.Path.{◌≡◌, refl, sym, ap, ap₂, subst, ◌∙◌}
use mathlib.Core.Logic.{inl, inr, ⊎_elim, ◌↔◌}
use mathlib.Core.Bool.{Bool, true, false, cond, false≢true}
use mathlib.Core.List.{List, [], ◌∷◌, ◌++◌}
use Prim.Native.Nat.{ℕ, ◌+◌, ◌*◌, ◌≤◌, ◌<◌}
use native.Mathlib.Nat.{zero-add}
use native.Mathlib.Omega.{arith}
use lib.Dec.{eqb, ltb}
use lib.ListN.{length, drop, length-append}
use borrow.Author.Tests.{eqb-true, eqb-false, ltb-true, ltb-false, ne_eqb}
use Rattle.session_meaning.specs.declared.Mark.{Mark}
use Rattle.meaning.specs.declared.Refusal.{Refusal}
use Rattle.meaning.specs.Columns.{row_text}
use Rattle.meaning.specs.File.{refusal, unless_refused}
use Rattle.session_meaning.specs.Report.{
  right_mark,
  first_wrong_mark,
  marks_refusal,
  sum_of,
  Total,
  total_of,
  plus,
  enter_total,
  totals,
  totals_text,
  session_text,
  report_text,
  report_length,
  report_refusal,
  report_answer,
  after_report,
}
use Rattle.session_meaning.proofs.Marks.{right_ranges, ranges_right, AllRight, none_wrong, some_wrong}
use Rattle.meaning.proofs.Columns.{row-length}
use Rattle.c_layout.specs.declared.FlatFilled.{FlatFilled}
use Rattle.c_layout.specs.Flat.{flat_filled}
use Rattle.basics.specs.Lists.{In, Pairwise}
use Rattle.demands.specs.Item09.{RightMark, EachRight, sum_for, Below, Lines, MarksCause, Item9, FirstWrong}
use Rattle.demands.specs.Laws.{added_up, Entered}
use Rattle.demands.proofs.Words.{filled_of}
use Rattle.demands.specs.Demand1.{requested, refused, fails, holds}

-- ---- right records
right_true : (m : Mark) → right_mark m ≡ true → RightMark m
right_true m e = grind (arith, right_ranges)

true_right : (m : Mark) → RightMark m → right_mark m ≡ true
true_right m w = ranges_right m (record { candidate = w.candidate; question = w.question; gained = w.gained; possible = w.possible })

each_right : (l : List Mark) → AllRight l → EachRight l
each_right [] a m i = absurd i
each_right (n ∷ l) a m (inl e) = subst RightMark (sym e) (right_true n a.0)
each_right (n ∷ l) a m (inr i) = each_right l a.1 m i

-- ---- a record enters its line
-- What a total gives to candidate c.
abbrev share : ℕ → (Total → ℕ) → Total → ℕ
share c f t = cond (eqb t.candidate c) (f t) 0

module _ (t u : Total) (l : List Total) where
  -- What holds of all three outcomes.
  by_candidate : (P : List Total → Type 0) → (t.candidate < u.candidate → P (t ∷ u ∷ l)) → (t.candidate ≡ u.candidate → P (plus u t ∷ l))
      → (u.candidate < t.candidate → P (u ∷ enter_total t l)) → P (enter_total t (u ∷ l))
  unfolding enter_total
  by_candidate P f g h = grind arith

-- Sums of totals grow by the one that enters.
added_enter : (f : Total → ℕ) → ((u t : Total) → t.candidate ≡ u.candidate → f (plus u t) ≡ f u + f t) → (t : Total) (l : List Total) → added_up f (enter_total t l) ≡ f t + added_up f l
unfolding enter_total
added_enter f p t [] = refl
added_enter f p t (u ∷ l) = grind (arith, added_enter f p t l)

-- What adds up over the records adds up over the totals.
all_added : (f : Total → ℕ) (g : Mark → ℕ) → ((u t : Total) → t.candidate ≡ u.candidate → f (plus u t) ≡ f u + f t) → ((m : Mark) → f (total_of m) ≡ g m)
    → (l : List Mark) → added_up f (totals l) ≡ sum_of g l
unfolding totals sum_of
all_added f g p e [] = refl
all_added f g p e (m ∷ l) = added_enter f p (total_of m) (totals l) ∙ ap₂ ◌+◌ (e m) (all_added f g p e l)

-- The candidates of the lines, with one more.
has_enter : (c : ℕ) (t : Total) (l : List Total) → ((v : Total) × In v (enter_total t l) × (v.candidate ≡ c))
    → ((v : Total) × In v (t ∷ l) × (v.candidate ≡ c))
unfolding enter_total
has_enter c t [] = λ h. h
has_enter c t (u ∷ l) = grind (arith, has_enter c t l)

enter_has : (c : ℕ) (t : Total) (l : List Total) → ((v : Total) × In v (t ∷ l) × (v.candidate ≡ c))
    → ((v : Total) × In v (enter_total t l) × (v.candidate ≡ c))
unfolding enter_total
enter_has c t [] = λ h. h
enter_has c t (u ∷ l) =
    let rest = enter_has c t l in
    by_candidate t u l (λ w. ((v : Total) × In v (t ∷ u ∷ l) × (v.candidate ≡ c)) → ((v : Total) × In v w × (v.candidate ≡ c)))
    (λ e h. h)
    (λ e h.
    ⊎_elim (λ (i : h.0 ≡ t). (plus u t, inl refl, sym e ∙ ap (λ (x : Total). x.candidate) (sym i) ∙ h.2))
    (λ j. ⊎_elim (λ (i : h.0 ≡ u). (plus u t, inl refl, ap (λ (x : Total). x.candidate) (sym i) ∙ h.2)) (λ i. (h.0, inr i, h.2)) j)
    h.1)
    (λ e h.
    ⊎_elim (λ (i : h.0 ≡ t). let w = rest (h.0, inl i, h.2) in (w.0, inr w.1, w.2))
    (λ j. ⊎_elim (λ (i : h.0 ≡ u). (h.0, inl i, h.2)) (λ i. let w = rest (h.0, inr i, h.2) in (w.0, inr w.1, w.2)) j)
    h.1)

abbrev HasRecord : ℕ → List Mark → Type 0
HasRecord c marks = (m : Mark) × In m marks × (m.candidate ≡ c)

exactly : (c : ℕ) (l : List Mark) → ((t : Total) × In t (totals l) × (t.candidate ≡ c)) ↔ HasRecord c l
unfolding totals
exactly c [] = (λ h. absurd h.1, λ h. absurd h.1)
exactly c (m ∷ l) =
    let w = exactly c l in (
      λ h.
          let v = has_enter c (total_of m) (totals l) h in
          ⊎_elim (λ (i : v.0 ≡ total_of m). (m, inl refl, ap (λ (x : Total). x.candidate) (sym i) ∙ v.2))
          (λ i. let y = w.0 (v.0, i, v.2) in (y.0, inr y.1, y.2))
          v.1,
      λ h.
          ⊎_elim (λ (i : h.0 ≡ m). enter_has c (total_of m) (totals l) (total_of m, inl refl, ap (λ (x : Mark). x.candidate) (sym i) ∙ h.2))
          (λ i. let y = w.1 (h.0, i, h.2) in enter_has c (total_of m) (totals l) (y.0, inr y.1, y.2))
          h.1,
    )

-- ---- in rising order
in_enter : (c : ℕ) (t : Total) (l : List Total) → c < t.candidate → ((u : Total) → In u l → c < u.candidate) → (v : Total) → In v (enter_total t l) → c < v.candidate
in_enter c t l h k v i =
    let w = has_enter v.candidate t l (v, i, refl) in
    ⊎_elim (λ (j : w.0 ≡ t). omega (arith, ap (λ (x : Total). x.candidate) j, w.2, h)) (λ j. omega (arith, k w.0 j, w.2)) w.1

rising_enter : (t : Total) (l : List Total) → Pairwise Below l → Pairwise Below (enter_total t l)
unfolding enter_total
rising_enter t [] r = (λ u i. absurd i, tt)
rising_enter t (u ∷ l) r =
    let rest = rising_enter t l r.1 in
    by_candidate t u l (Pairwise Below)
    (λ e. (λ v i. ⊎_elim (λ (j : v ≡ u). omega (arith, ap (λ (x : Total). x.candidate) j, e)) (λ j. omega (arith, r.0 v j, e)) i, r))
    (λ e. (r.0, r.1))
    (λ e. (in_enter u.candidate t l e r.0, rest))

rising : (l : List Mark) → Pairwise Below (totals l)
unfolding totals
rising [] = tt
rising (m ∷ l) = rising_enter (total_of m) (totals l) (rising l)

-- ---- the sums of a line
share-plus : (c : ℕ) (f : Total → ℕ) → ((u t : Total) → f (plus u t) ≡ f u + f t) → (u t : Total) → t.candidate ≡ u.candidate
    → share c f (plus u t) ≡ share c f u + share c f t
share-plus c f p u t e = grind arith

shares : (c : ℕ) (f : Total → ℕ) (g : Mark → ℕ) → ((u t : Total) → f (plus u t) ≡ f u + f t) → ((m : Mark) → f (total_of m) ≡ g m) → (l : List Mark)
    → added_up (share c f) (totals l) ≡ sum_for c g l
shares c f g p e = all_added (share c f) _ (share-plus c f p) (λ m. ap (λ (n : ℕ). cond (eqb m.candidate c) n 0) (e m))

-- Of a rising list, only one total has the candidate.
no_share : (c : ℕ) (f : Total → ℕ) (l : List Total) → ((u : Total) → In u l → c < u.candidate) → added_up (share c f) l ≡ 0
no_share c f [] h = refl
no_share c f (u ∷ l) h =
    let a = h u (inl refl) in
    rw (ne_eqb u.candidate c (λ e. absurd (omega arith))) (zero-add (added_up (share c f) l) ∙ no_share c f l (λ v i. h v (inr i)))

one_share : (f : Total → ℕ) (v : Total) (l : List Total) → Pairwise Below l → In v l → added_up (share v.candidate f) l ≡ f v
one_share f v [] r i = absurd i
one_share f v (u ∷ l) r (inl e) = grind (arith, no_share)
one_share f v (u ∷ l) r (inr i) =
    let a = r.0 v i in
    rw (ne_eqb u.candidate v.candidate (λ e. absurd (omega arith))) (zero-add (added_up (share v.candidate f) l) ∙ one_share f v l r.1 i)

-- A candidate has one line.
only_one : (l : List Total) → Pairwise Below l → (u t : Total) → In u l → In t l → u.candidate ≡ t.candidate → u ≡ t
only_one [] r u t i j e = absurd i
only_one (v ∷ l) r u t (inl i) (inl j) e = i ∙ sym j
only_one (v ∷ l) r u t (inl i) (inr j) e = absurd (omega (arith, r.0 t j, ap (λ (x : Total). x.candidate) i, e))
only_one (v ∷ l) r u t (inr i) (inl j) e = absurd (omega (arith, r.0 u i, ap (λ (x : Total). x.candidate) j, e))
only_one (v ∷ l) r u t (inr i) (inr j) e = only_one l r.1 u t i j e

pub are_lines : (l : List Mark) → Lines l (totals l)
are_lines l =
    record {
      order = rising l;
      sums =
          λ t i. (
            sym (one_share (λ u. u.gained) t (totals l) (rising l) i) ∙ shares t.candidate (λ u. u.gained) (λ m. m.gained) (λ u v. refl) (λ m. refl) l,
            sym (one_share (λ u. u.possible) t (totals l) (rising l) i) ∙ shares t.candidate (λ u. u.possible) (λ m. m.possible) (λ u v. refl) (λ m. refl) l,
          );
      exactly = λ c. exactly c l;
    }

pub entered : (l : List Mark) → Entered l (totals l)
entered l =
    record {
      one_line =
          λ m i. let w = (exactly m.candidate l).1 (m, i, refl) in
          (w.0, w.1, w.2, λ u j e. only_one (totals l) (rising l) u w.0 j w.1 (e ∙ sym w.2));
      all_gained = all_added (λ t. t.gained) (λ m. m.gained) (λ u t e. refl) (λ m. refl) l;
      all_possible = all_added (λ t. t.possible) (λ m. m.possible) (λ u t e. refl) (λ m. refl) l;
    }

-- ---- sums of at most 999 right records
most : (f : Mark → ℕ) → ((m : Mark) → RightMark m → f m ≤ 100) → (l : List Mark) → EachRight l → sum_of f l ≤ length l * 100
unfolding sum_of
most f h [] r = omega arith
most f h (m ∷ l) r = omega (arith, h m (r m (inl refl)), most f h l (λ n i. r n (inr i)))

pub most_gained : (l : List Mark) → EachRight l → length l ≤ 999 → sum_of (λ m. m.gained) l ≤ 99900
most_gained l r h = omega (arith, most (λ m. m.gained) (λ m w. omega arith) l r, h)

pub most_possible : (l : List Mark) → EachRight l → length l ≤ 999 → sum_of (λ m. m.possible) l ≤ 99900
most_possible l r h = omega (arith, most (λ m. m.possible) (λ m w. w.possible) l r, h)

-- ---- the first wrong record
in_middle : (b : List Mark) (m : Mark) (a : List Mark) → In m (b ++ m ∷ a)
in_middle [] m a = inl refl
in_middle (x ∷ b) m a = inr (in_middle b m a)

pub no_first_wrong : (marks : List Mark) (n : ℕ) → EachRight marks → FirstWrong marks n → ⊥
no_first_wrong marks n r (before, m, after, is, right, wrong, here) = wrong (r m (subst (In m) (sym is) (in_middle before m after)))

-- ---- the operation
-- "22 bytes a line".
pub lines_length : (l : List Total) → length (totals_text l) ≡ length l * 22
unfolding totals_text
lines_length [] = refl
lines_length (t ∷ l) = grind (arith, length-append, row-length 77 3 t.candidate t.gained t.possible 0, lines_length l)

pub report_size : (l : List Total) (g p : ℕ) → length (totals_text l ++ row_text 90 2 g p 0 0) ≡ (length l + 1) * 22
report_size l g p = grind (arith, length-append, row-length 90 2 g p 0 0, lines_length l)

module _ (l : List Mark) (buffer : List ℕ) where
  abbrev answer : Refusal → FlatFilled
  answer q = flat_filled (unless_refused q (report_length l))

  abbrev after : Refusal → List ℕ
  after q = cond (eqb q.number 0) (report_text l ++ drop (report_length l) buffer) buffer

  abbrev Meets : Refusal → Type 0
  Meets q = Item9 l buffer (after q) (answer q)

  meets_right : length l ≤ 999 → EachRight l → (t : Bool) → ltb (length buffer) (report_length l) ≡ t → Meets (cond t (refusal 9 0) (refusal 0 0))
  unfolding report_length report_text session_text
  meets_right few r true h = refused (omega arith) (holds few (holds r (totals l, are_lines l, (ltb-true _ _ h, (refl, refl))))) (refl, refl)
  meets_right few r false h = grind (arith, are_lines, filled_of, report_size, ltb-false)

  meets : Meets (report_refusal l (length buffer))
  unfolding report_refusal marks_refusal
  meets = go (ltb 999 (length l)) refl (eqb (first_wrong_mark 0 l) 0) refl
    where
      last : Refusal
      last = cond (ltb (length buffer) (report_length l)) (refusal 9 0) (refusal 0 0)

      first : Bool → Bool → Refusal
      first a b = cond a (refusal 19 0) (cond b (refusal 0 0) (refusal 18 (first_wrong_mark 0 l)))

      go : (a : Bool) → ltb 999 (length l) ≡ a → (b : Bool) → eqb (first_wrong_mark 0 l) 0 ≡ b
          → Meets (cond (eqb (first a b).number 0) last (first a b))
      go true e b d = refused (omega arith) (fails (λ few. omega (arith, few, ltb-true _ _ e)) (refl, refl)) (refl, refl)
      go false e true d = meets_right (ltb-false _ _ e) (each_right l (none_wrong 0 l (eqb-true _ _ d))) (ltb (length buffer) (report_length l)) refl
      go false e false d =
          let w = some_wrong 0 l (eqb-false _ _ d) in
          let place : first_wrong_mark 0 l ≡ length w.before + 1 = w.place ∙ omega arith in
          let here : FirstWrong l (first_wrong_mark 0 l) =
          (w.before, w.mark, w.after, w.list, each_right w.before w.right, λ r. false≢true (sym w.wrong ∙ true_right w.mark r), place) in
          refused (omega arith) (holds (ltb-false _ _ e) (fails (λ r. no_first_wrong l (first_wrong_mark 0 l) r here) (refl, here))) (refl, refl)

-- Item 9, from the contract.
pub item_9 : (l : List Mark) (buffer buffer' : List ℕ) (r : FlatFilled) → r ≡ flat_filled (report_answer l (length buffer)) → buffer' ≡ after_report l buffer
    → Item9 l buffer buffer' r
unfolding report_answer after_report
item_9 l buffer buffer' r e f = rw (e, f) (meets l buffer)
