-- A log is accepted exactly when it is whole, each line is right, and no two lines have one candidate, question and sequence
-- (`log_accepted`, `accepted_log`). Of an accepted log each candidate and question stands at most once, in rising order (`standing_rising`),
-- and its lines in any other order are accepted and give the same answer and bytes (`shuffled`).
use mathlib.Core.Path.{◌≡◌, refl, sym, ap, ◌∙◌}
use mathlib.Core.Bool.{Bool, true, false, not, cond, false≢true}
use mathlib.Core.List.Permᴰ
use mathlib.Core.List.{List, [], ◌∷◌, ◌++◌, map, Permᴰ}
use mathlib.Core.Logic.{inl, inr}
use Prim.Native.Nat.{ℕ, zero, suc, ◌+◌, ◌*◌, ◌-◌, ◌<◌}
use native.Mathlib.Nat.{add-zero}
use native.Mathlib.Omega.{arith}
use lib.Dec.{eqb}
use lib.ListN.{length, get_or, take, length-append, length-map, get_or-append, get_or-map}
use lib.Seq.{get_or-append-add, take-length}
use borrow.Author.Tests.{eqb-true, not-false, eq-eqb}
use Rattle.session_meaning.specs.declared.Sent.{Sent}
use Rattle.meaning.specs.Columns.{old, field_in}
use Rattle.basics.specs.Numbers.{lowest}
use Rattle.basics.specs.Lists.{list_of, In}
use Rattle.meaning.specs.File.{refusal}
use Rattle.session_meaning.specs.Answers.{
  is_c,
  sent_at,
  right,
  same_sequence,
  seen,
  log_cause_at,
  log_lines,
  first_wrong_line,
  cut_or_long,
  log_refusal,
  sent_lines,
  standing_lines,
  standing_refusal,
  standing_answer,
  after_standing,
}
use Rattle.basics.proofs.Numbers.{lowest_none, none_lowest, found_test, found_passes}
use Rattle.basics.proofs.Lists.{list_of_ext, list_of-take}
use Rattle.meaning.proofs.Columns.{field_same}
use Rattle.basics.proofs.Members.{in_get, in_list_of, list_of_in, pairwise_list_of, list_of_pairwise, in_perm, perm_in, perm_length, perm_pairwise}
use Rattle.session_meaning.proofs.Standing.{Strict, Stands, Apart, stands_true, true_stands, in_standing, standing_in, standing_strict, standing_same, seen_true, true_seen}

-- ---- an accepted log
pub record Accepted (log : List ℕ) : Type 0 where
  pub whole : cut_or_long log ≡ false
  pub right : (i : ℕ) → i < log_lines log → right log i ≡ true
  pub apart : Apart (sent_lines log)

-- Nothing is wrong with line i exactly when it is right and its sequence is new.
pub cause_none : (log : List ℕ) (i : ℕ) → log_cause_at log i ≡ 0 → (right log i ≡ true) × (seen (list_of i (sent_at log)) (sent_at log i) ≡ false)
unfolding log_cause_at
cause_none log i e = grind arith

cause_fine : (log : List ℕ) (i : ℕ) → right log i ≡ true → seen (list_of i (sent_at log)) (sent_at log i) ≡ false → log_cause_at log i ≡ 0
unfolding log_cause_at
cause_fine log i e f = rw (e, f)

-- No sequence is seen twice exactly when the lines are apart.
fresh_apart : (n : ℕ) (f : ℕ → Sent) → ((i : ℕ) → i < n → seen (list_of i f) (f i) ≡ false) → Apart (list_of n f)
fresh_apart n f fresh = pairwise_list_of (λ a b. same_sequence a b ≡ false) n f (λ i j l h. go i j l h (same_sequence (f i) (f j)) refl)
  where
    go : (i j : ℕ) → i < j → j < n → (t : Bool) → same_sequence (f i) (f j) ≡ t → same_sequence (f i) (f j) ≡ false
    go i j l h false e = e
    go i j l h true e = absurd (false≢true (sym (fresh j h) ∙ true_seen (list_of j f) (f j) (f i) (list_of_in j f i l) e))

pub log_accepted : (log : List ℕ) → (log_refusal log).number ≡ 0 → Accepted log
unfolding log_refusal first_wrong_line sent_lines
log_accepted log h = go (cut_or_long log) refl (eqb (first_wrong_line log) 0) refl h
  where
    wrong : ℕ → Bool
    wrong k = not (eqb (log_cause_at log (k - 1)) 0)

    none : lowest (log_lines log) wrong ≡ 0 → (i : ℕ) → i < log_lines log → log_cause_at log i ≡ 0
    none e i h =
        let back : suc i - 1 ≡ i = omega arith in
        eqb-true _ _ (not-false _ (rw back at (lowest_none (log_lines log) wrong e (suc i) (omega arith) (omega arith))))

    go : (t : Bool) → cut_or_long log ≡ t → (u : Bool) → eqb (first_wrong_line log) 0 ≡ u
        → (cond t (refusal 16 0) (cond u (refusal 0 0) (refusal (log_cause_at log (first_wrong_line log - 1)) (first_wrong_line log)))).number ≡ 0 → Accepted log
    go true e u f h = absurd (omega arith)
    go false e true f h =
        let fine = none (eqb-true _ _ f) in
        record {
          whole = e;
          right = λ i l. (cause_none log i (fine i l)).0;
          apart = fresh_apart (log_lines log) (sent_at log) (λ i l. (cause_none log i (fine i l)).1);
        }
    go false e false f h =
        let p = found_passes (log_lines log) wrong (found_test (lowest (log_lines log) wrong) ∙ ap not f) in
        absurd (false≢true (sym (ap not (eq-eqb _ _ h)) ∙ p.2))

pub accepted_log : (log : List ℕ) → Accepted log → log_refusal log ≡ refusal 0 0
unfolding log_refusal first_wrong_line sent_lines
accepted_log log a =
    let first : lowest (log_lines log) (λ k. not (eqb (log_cause_at log (k - 1)) 0)) ≡ 0 =
    none_lowest (log_lines log) (λ k. not (eqb (log_cause_at log (k - 1)) 0)) (λ k low high. let e = fine (k - 1) (omega arith) in rw e) in
    rw (a.whole, first)
  where
    new : (i : ℕ) → i < log_lines log → (t : Bool) → seen (list_of i (sent_at log)) (sent_at log i) ≡ t → seen (list_of i (sent_at log)) (sent_at log i) ≡ false
    new i h false e = e
    new i h true e =
        let r = seen_true (list_of i (sent_at log)) (sent_at log i) e in
        let o = in_list_of i (sent_at log) r.0 r.1 in
        absurd
        (false≢true
        (sym (list_of_pairwise (λ x y. same_sequence x y ≡ false) (log_lines log) (sent_at log) a.apart o.0 i o.1 h) ∙ (rw o.2 at r.2)))

    fine : (i : ℕ) → i < log_lines log → log_cause_at log i ≡ 0
    fine i h = cause_fine log i (a.right i h) (new i h _ refl)

-- ---- the theorems
-- A line is one of the standing answers exactly when it is in the log, its answer is not 0, and no line of its candidate and question has a
-- higher sequence.
pub standing_exactly : (log : List ℕ) (x : Sent)
    → (In x (standing_lines log) → In x (sent_lines log) × Stands (sent_lines log) x) × (In x (sent_lines log) → Stands (sent_lines log) x → In x (standing_lines log))
unfolding standing_lines
standing_exactly log x = (
  λ i. let p = in_standing (sent_lines log) (sent_lines log) x i in (p.0, stands_true (sent_lines log) x p.1),
  λ i s. standing_in (sent_lines log) (sent_lines log) x i (true_stands (sent_lines log) x s),
)

-- Each candidate and question has at most one standing answer, in rising order.
pub standing_rising : (log : List ℕ) → (log_refusal log).number ≡ 0 → Strict (standing_lines log)
unfolding standing_lines
standing_rising log e = standing_strict (sent_lines log) (sent_lines log) (log_accepted log e).apart (λ a i. i)

-- ---- the lines in another order
-- The bytes of rows, one after the other.
abbrev pub joined : List (List ℕ) → List ℕ
joined [] = []
joined (r ∷ rows) = r ++ joined rows

abbrev pub Rows : List (List ℕ) → Type 0
Rows rows = (r : List ℕ) → In r rows → length r ≡ 22

joined_length : (rows : List (List ℕ)) → Rows rows → length (joined rows) ≡ length rows * 22
joined_length [] h = refl
joined_length (r ∷ rows) h = length-append r (joined rows) ∙ omega (arith, h r (inl refl), joined_length rows (λ s i. h s (inr i)))

joined_lines : (rows : List (List ℕ)) → Rows rows → log_lines (joined rows) ≡ length rows
joined_lines rows h = omega (arith, joined_length rows h)

-- Byte t of row i stands at place 22 * i + t of the joined rows.
joined_at : (rows : List (List ℕ)) → Rows rows → (i t : ℕ) → i < length rows → t < 22 → get_or (joined rows) (i * 22 + t) 0 ≡ get_or (get_or rows i []) t 0
joined_at [] h i t l k = absurd (omega arith)
joined_at (r ∷ rows) h zero t l k = grind (arith, get_or-append)
joined_at (r ∷ rows) h (suc i) t l k =
    let e : suc i * 22 + t ≡ length r + (i * 22 + t) = omega (arith, h r (inl refl)) in
    rw e (get_or-append-add r (joined rows) (i * 22 + t) 0 ∙ joined_at rows (λ s j. h s (inr j)) i t (omega arith) k)

-- Lines of the same bytes are the same.
module _ (log r : List ℕ) (i : ℕ) (h : (t : ℕ) → t < 22 → get_or log (i * 22 + t) 0 ≡ get_or r t 0) where
  in_line : (j : ℕ) → j < 4 → field_in old log i j ≡ field_in old r 0 j
  in_line j l = grind (arith, field_same)

  sent_same : sent_at log i ≡ sent_at r 0
  unfolding sent_at
  sent_same = rw (in_line 0 (omega arith), in_line 1 (omega arith), in_line 2 (omega arith), in_line 3 (omega arith))

  right_same : right log i ≡ right r 0
  unfolding right is_c
  right_same =
      let e : get_or log (i * 22) 0 ≡ get_or r 0 0 = rw (add-zero) at (h 0 (omega arith)) in
      rw (e, h 21 (omega arith), in_line 0 (omega arith), in_line 1 (omega arith), in_line 2 (omega arith), in_line 3 (omega arith), sent_same)

abbrev pub row_sent : List ℕ → Sent
row_sent r = sent_at r 0

-- An entry of a list has a place.
place : (l : List (List ℕ)) (r : List ℕ) → In r l → (j : ℕ) × (j < length l) × (get_or l j [] ≡ r)
place [] r i = absurd i
place (s ∷ l) r (inl e) = (0, omega arith, sym e)
place (s ∷ l) r (inr i) = let p = place l r i in (suc p.0, omega arith, p.2)

-- Lines that differ in candidate, question or sequence differ both ways.
sequence_sym : (a b : Sent) → same_sequence a b ≡ false → same_sequence b a ≡ false
sequence_sym a b e = grind arith

module _ (rows : List (List ℕ)) (h : Rows rows) where
  at_row : (i : ℕ) → i < length rows → (t : ℕ) → t < 22 → get_or (joined rows) (i * 22 + t) 0 ≡ get_or (get_or rows i []) t 0
  at_row i l t k = joined_at rows h i t l k

  -- The lines of a log are those of its rows.
  sent_rows : sent_lines (joined rows) ≡ map row_sent rows
  unfolding sent_lines
  sent_rows =
      ap (λ (n : ℕ). list_of n (sent_at (joined rows))) (joined_lines rows h)
      ∙ list_of_ext (length rows) (sent_at (joined rows)) (λ i. get_or (map row_sent rows) i (row_sent []))
      (λ i l. sent_same (joined rows) (get_or rows i []) i (at_row i l) ∙ sym (get_or-map row_sent rows i []))
      ∙ list_of-take (map row_sent rows) (row_sent []) (length rows) (omega (arith, length-map rows row_sent))
      ∙ ap (λ (n : ℕ). take n (map row_sent rows)) (sym (length-map rows row_sent))
      ∙ take-length (map row_sent rows)

  -- Each line is right exactly where each row is.
  rows_right : ((i : ℕ) → i < log_lines (joined rows) → right (joined rows) i ≡ true) → (r : List ℕ) → In r rows → right r 0 ≡ true
  rows_right g r i = go (place rows r i)
    where
      go : (j : ℕ) × (j < length rows) × (get_or rows j [] ≡ r) → right r 0 ≡ true
      go p =
          rw (← p.2) (sym (right_same (joined rows) (get_or rows p.0 []) p.0 (at_row p.0 p.1)) ∙ g p.0 (omega (arith, joined_lines rows h, p.1)))

  right_rows : ((r : List ℕ) → In r rows → right r 0 ≡ true) → (i : ℕ) → i < log_lines (joined rows) → right (joined rows) i ≡ true
  right_rows g i l =
      let k : i < length rows = omega (arith, joined_lines rows h) in
      right_same (joined rows) (get_or rows i []) i (at_row i k) ∙ g (get_or rows i []) (in_get rows i [] k)

-- THE THEOREM: the rows of an accepted log in any other order are an accepted log, with the same answer and the same bytes.
module _ (rows rows' : List (List ℕ)) (p : Permᴰ rows rows') (h : Rows rows) (ok : (log_refusal (joined rows)).number ≡ 0) where
  rows_too : Rows rows'
  rows_too r i = h r (perm_in p r i)

  same_length : length (joined rows') ≡ length (joined rows)
  same_length = omega (arith, joined_length rows h, joined_length rows' rows_too, perm_length p)

  apart_first : Apart (map row_sent rows)
  apart_first = rw (sent_rows rows h) at (log_accepted (joined rows) ok).apart

  apart_second : Apart (map row_sent rows')
  apart_second = perm_pairwise (λ a b. same_sequence a b ≡ false) sequence_sym (Permᴰ.map row_sent p) apart_first

  pub shuffled_accepted : Accepted (joined rows')
  unfolding cut_or_long
  shuffled_accepted =
      let a = log_accepted (joined rows) ok in
      record {
        whole = rw same_length a.whole;
        right = right_rows rows' rows_too (λ r i. rows_right rows h a.right r (perm_in p r i));
        apart = rw (sent_rows rows' rows_too) apart_second;
      }

  shuffled_standing : standing_lines (joined rows') ≡ standing_lines (joined rows)
  unfolding standing_lines
  shuffled_standing =
      rw (sent_rows rows' rows_too, sent_rows rows h)
      (standing_same (map row_sent rows') (map row_sent rows) apart_second apart_first
      (record { to = perm_in (Permᴰ.map row_sent p); back = in_perm (Permᴰ.map row_sent p) }))

  same_refusal : log_refusal (joined rows') ≡ log_refusal (joined rows)
  same_refusal = accepted_log (joined rows') shuffled_accepted ∙ sym (accepted_log (joined rows) (log_accepted (joined rows) ok))

  same_answer : (room : ℕ) → standing_refusal (joined rows') room ≡ standing_refusal (joined rows) room
  unfolding standing_refusal
  same_answer room = rw (same_refusal, shuffled_standing)

  pub shuffled : (buffer : List ℕ)
      → (standing_answer (joined rows') (length buffer) ≡ standing_answer (joined rows) (length buffer))
      × (after_standing (joined rows') buffer ≡ after_standing (joined rows) buffer)
  unfolding standing_answer after_standing
  shuffled buffer = (rw (same_answer (length buffer), shuffled_standing), rw (same_answer (length buffer), shuffled_standing))
