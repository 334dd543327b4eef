-- Item 8 holds of any operation with the contract of `judge_standing_answers` (`item_8`). What comes out is settled by the log
-- (`standing_unique`), and the order of the log's lines does not matter (`any_order`).
use mathlib.Core.Path.{◌≡◌, refl, sym, ap, subst, ◌∙◌}
use mathlib.Core.Logic.{◌↔◌}
use mathlib.Core.Bool.{Bool, true, false, not, cond, false≢true}
use mathlib.Core.List.{List, [], ◌∷◌, ◌++◌, Permᴰ}
use Prim.Native.Nat.{ℕ, zero, suc, ◌+◌, ◌*◌, ◌-◌, ◌≤◌, ◌<◌}
use native.Mathlib.Omega.{arith}
use lib.Dec.{eqb, ltb}
use lib.ListN.{length, drop, length-append}
use borrow.Author.Tests.{eqb-true, eqb-false, ltb-true, ltb-false, ne_eqb, not-true, not-false}
use Rattle.session_meaning.specs.declared.Sent.{Sent}
use Rattle.meaning.specs.declared.Refusal.{Refusal}
use Rattle.basics.specs.Numbers.{lowest}
use Rattle.basics.specs.Lists.{list_of, In}
use Rattle.meaning.specs.File.{refusal, unless_refused}
use Rattle.session_meaning.specs.Answers.{
  sent_at,
  right,
  seen,
  same_sequence,
  log_cause_at,
  log_lines,
  first_wrong_line,
  cut_or_long,
  log_refusal,
  sent_lines,
  standing_lines,
  answers_text,
  standing_refusal,
  standing_answer,
  after_standing,
}
use Rattle.basics.proofs.Numbers.{lowest_none, lowest_least, found_passes}
use Rattle.basics.proofs.Members.{in_list_of, list_of_in}
use Rattle.session_meaning.proofs.Standing as answers
use Rattle.session_meaning.proofs.Standing.{seen_true, true_seen, sequence_true, true_sequence, strict_same}
use Rattle.session_meaning.proofs.Logs.{cause_none, log_accepted, accepted_log, standing_exactly, standing_rising, joined, Rows, shuffled, shuffled_accepted}
use Rattle.session_meaning.proofs.AnswerLines.{right_line, line_right}
use Rattle.meaning.proofs.Columns.{row-length}
use Rattle.c_layout.specs.declared.FlatFilled.{FlatFilled}
use Rattle.c_layout.specs.Flat.{flat_refusal, flat_filled}
use Rattle.demands.specs.Item08.{IsCLine, SomeLineSays, Whole, LogLineCause, AcceptedLog, Stands, Standing, LogCause, Item8}
use Rattle.demands.proofs.Words.{filled_of}
use Rattle.demands.specs.Demand1.{NoneOf, requested, refused, fails, holds}

-- ---- whole logs
whole_exactly : (log : List ℕ) → (cut_or_long log ≡ false) ↔ Whole log
unfolding cut_or_long
whole_exactly log = grind arith

-- ---- one line
module _ (log : List ℕ) where
  right_says : (i : ℕ) → i < log_lines log → right log i ≡ true → IsCLine log i (sent_at log i)
  right_says i h e = let w = right_line log i e (omega arith) in record { within = h; bytes = w.0; ranges = w.1 }

  says_right : (i : ℕ) (a : Sent) → IsCLine log i a → (right log i ≡ true) × (sent_at log i ≡ a)
  says_right i a s = line_right log i a s.ranges s.bytes

  -- What is wrong with a line is its cause, where nothing is wrong with those before it.
  line_cause_lem : (i : ℕ) → i < log_lines log → ((j : ℕ) → j < i → log_cause_at log j ≡ 0) → (log_cause_at log i ≡ 0 → ⊥) → LogLineCause log i (log_cause_at log i)
  unfolding log_cause_at
  line_cause_lem i h before z = go (right log i) refl (seen (list_of i (sent_at log)) (sent_at log i)) refl z
    where
      go : (t : Bool) → right log i ≡ t → (u : Bool) → seen (list_of i (sent_at log)) (sent_at log i) ≡ u
          → (◌≡◌ {A = ℕ} (cond t (cond u 17 0) 16) 0 → ⊥) → LogLineCause log i (cond t (cond u 17 0) 16)
      go false e u f z = LogLineCause.cause_16 (λ a s. false≢true (sym e ∙ (says_right i a s).0)) refl
      go true e false f z = absurd (z refl)
      go true e true f z =
          let p = seen_true (list_of i (sent_at log)) (sent_at log i) f in
          let o = in_list_of i (sent_at log) p.0 p.1 in
          let q = sequence_true p.0 (sent_at log i) p.2 in
          let s = right_says o.0 (omega arith) (cause_none log o.0 (before o.0 o.1)).0 in
          LogLineCause.cause_17 (sent_at log i) (right_says i h e) o.0 o.1 p.0 (subst (IsCLine log o.0) (sym o.2) s)
          q.0 q.1 refl

  no_cause : (i number : ℕ) → i < log_lines log → log_cause_at log i ≡ 0 → LogLineCause log i number → ⊥
  no_cause i number h e (LogLineCause.cause_16 none z) = none (sent_at log i) (right_says i h (cause_none log i e).0)
  no_cause i number h e (LogLineCause.cause_17 a s j l b t q same z) =
      let x = (says_right i a s).1 in
      let y = (says_right j b t).1 in
      let f = true_sequence b a q same in
      let g : same_sequence (sent_at log j) (sent_at log i) ≡ true = rw (x, y) f in
      false≢true (sym (cause_none log i e).1 ∙ true_seen (list_of i (sent_at log)) (sent_at log i) (sent_at log j) (list_of_in i (sent_at log) j l) g)

  -- ---- line by line
  abbrev wrong : ℕ → Bool
  wrong k = not (eqb (log_cause_at log (k - 1)) 0)

  fine : (m : ℕ) → ((k : ℕ) → 1 ≤ k → k ≤ m → wrong k ≡ false) → (j : ℕ) → j < m → log_cause_at log j ≡ 0
  fine m none j h =
      let back : suc j - 1 ≡ j = omega arith in
      eqb-true _ _ (not-false _ (rw back at (none (suc j) (omega arith) (omega arith))))

  none_before : (m : ℕ) → m ≤ log_lines log → ((j : ℕ) → j < m → log_cause_at log j ≡ 0) → NoneOf (LogLineCause log) m
  none_before m w f j number h c = no_cause j number (omega arith) (f j h) c

  -- What refuses a log, or nothing.
  data Refuses (q : Refusal) : Type 0 where
    accepts : AcceptedLog log → q ≡ refusal 0 0 → Refuses q
    cuts : (Whole log → ⊥) → q ≡ refusal 16 0 → Refuses q
    finds : Whole log → (i : ℕ) → i < log_lines log → NoneOf (LogLineCause log) i → LogLineCause log i q.number → q.line ≡ i + 1 → (q.number ≡ 0 → ⊥) → Refuses q

  refuses : Refuses (log_refusal log)
  unfolding log_refusal first_wrong_line
  refuses = go (cut_or_long log) refl (eqb (lowest (log_lines log) wrong) 0) refl
    where
      at_first : (l : ℕ) → lowest (log_lines log) wrong ≡ l → (l ≡ 0 → ⊥) → Whole log → Refuses (refusal (log_cause_at log (l - 1)) l)
      at_first zero e n w = absurd (n refl)
      at_first (suc i) e n w =
          let back : suc i - 1 ≡ i = omega arith in
          let p = found_passes (log_lines log) wrong (rw e) in
          let f = fine i (lowest_least (log_lines log) wrong i e) in
          let z : log_cause_at log i ≡ 0 → ⊥ = eqb-false _ _ (not-true _ (rw (e, back) at p.2)) in
          let h : i < log_lines log = omega arith in
          rw back (finds w i h (none_before i (omega arith) f) (line_cause_lem i h f z) (omega arith) z)

      go : (t : Bool) → cut_or_long log ≡ t → (u : Bool) → eqb (lowest (log_lines log) wrong) 0 ≡ u
          → Refuses (cond t (refusal 16 0)
          (cond u (refusal 0 0) (refusal (log_cause_at log (lowest (log_lines log) wrong - 1)) (lowest (log_lines log) wrong))))
      go true e u f = cuts (λ w. false≢true (sym ((whole_exactly log).1 w) ∙ e)) refl
      go false e true f =
          let all = fine (log_lines log) (lowest_none (log_lines log) wrong (eqb-true _ _ f)) in
          accepts (record { whole = (whole_exactly log).0 e; lines = none_before (log_lines log) (omega arith) all }) refl
      go false e false f = at_first (lowest (log_lines log) wrong) refl (eqb-false _ _ f) ((whole_exactly log).0 e)

  accepted_number : AcceptedLog log → log_refusal log ≡ refusal 0 0
  accepted_number a = go refuses
    where
      go : Refuses (log_refusal log) → log_refusal log ≡ refusal 0 0
      go (accepts b e) = e
      go (cuts n e) = absurd (n a.whole)
      go (finds w i h none c l z) = absurd (a.lines i (log_refusal log).number h c)

  number_accepted : (log_refusal log).number ≡ 0 → AcceptedLog log
  number_accepted z = grind (arith, refuses)

  -- ---- the answers that stand
  module _ (ok : (log_refusal log).number ≡ 0) where
    each_right : (i : ℕ) → i < log_lines log → right log i ≡ true
    each_right = (log_accepted log ok).right

    in_log : (a : Sent) → In a (sent_lines log) ↔ SomeLineSays log a
    unfolding sent_lines
    in_log a = (
      λ i.
          let o = in_list_of (log_lines log) (sent_at log) a i in
          (o.0, subst (IsCLine log o.0) (sym o.2) (right_says o.0 o.1 (each_right o.0 o.1))),
      λ s.
          subst (λ (b : Sent). In b (list_of (log_lines log) (sent_at log))) (says_right s.0 a s.1).1
          (list_of_in (log_lines log) (sent_at log) s.0 s.1.within),
    )

    stands_exactly : (a : Sent) → In a (standing_lines log) ↔ Stands log a
    stands_exactly a = (
      λ i.
          let w = (standing_exactly log a).0 i in
          record {
            sent = (in_log a).0 w.0;
            highest = λ b s q. w.1.highest b ((in_log b).1 s) q;
            not_withdrawn = w.1.answered;
          },
      λ s.
          (standing_exactly log a).1 ((in_log a).1 s.sent)
          (record { answered = s.not_withdrawn; highest = λ b i q. s.highest b ((in_log b).0 i) q }),
    )

    are_standing : Standing log (standing_lines log)
    are_standing = record { exactly = stands_exactly; order = standing_rising log ok }

-- There is one list of standing answers.
pub standing_unique : (log : List ℕ) (l m : List Sent) → Standing log l → Standing log m → l ≡ m
standing_unique log l m s t = grind (arith, strict_same)

-- "22 bytes a standing answer".
pub answers_length : (l : List Sent) → length (answers_text l) ≡ length l * 22
unfolding answers_text
answers_length [] = refl
answers_length (a ∷ l) = grind (arith, length-append, row-length 67 4 a.candidate a.question a.sequence a.answer, answers_length l)

-- ---- the operation
module _ (log buffer : List ℕ) where
  abbrev answer : Refusal → FlatFilled
  answer q = flat_filled (unless_refused q (length (standing_lines log) * 22))

  abbrev after : Refusal → List ℕ
  after q = cond (eqb q.number 0) (answers_text (standing_lines log) ++ drop (length (standing_lines log) * 22) buffer) buffer

  abbrev Meets : Refusal → Type 0
  Meets q = Item8 log buffer (after q) (answer q)

  -- A refusal is answered with its cause.
  meets_refused : (q : Refusal) → (q.number ≡ 0 → ⊥) → LogCause log (length buffer) (flat_refusal q) → Meets q
  meets_refused q z c = rw (ne_eqb q.number 0 z) (refused (omega (arith, z)) c (refl, refl))

  meets_accepted : AcceptedLog log → log_refusal log ≡ refusal 0 0 → (t : Bool) → ltb (length buffer) (length (standing_lines log) * 22) ≡ t
      → Meets (cond t (refusal 9 0) (refusal 0 0))
  meets_accepted a e true h =
      refused (omega arith)
      (holds a.whole (holds a.lines (standing_lines log, are_standing log (ap (λ (q : Refusal). q.number) e), (ltb-true _ _ h, (refl, refl))))) (refl, refl)
  meets_accepted a e false h = grind (arith, are_standing, filled_of, answers_length, ltb-false)

  meets : Meets (standing_refusal log (length buffer))
  unfolding standing_refusal
  meets = go (refuses log)
    where
      last : Refusal
      last = cond (ltb (length buffer) (length (standing_lines log) * 22)) (refusal 9 0) (refusal 0 0)

      go : Refuses log (log_refusal log) → Meets (cond (eqb (log_refusal log).number 0) last (log_refusal log))
      go (accepts a e) = rw e (meets_accepted a e _ refl)
      go (cuts n e) = rw e (meets_refused (refusal 16 0) (λ z. omega arith) (fails n (refl, refl)))
      go (finds w i h none c l z) =
          rw (ne_eqb (log_refusal log).number 0 z) (meets_refused (log_refusal log) z (holds w (fails (λ all. all i (log_refusal log).number h c) (i, h, none, c, l))))

-- Item 8, from the contract.
pub item_8 : (log buffer buffer' : List ℕ) (r : FlatFilled) → r ≡ flat_filled (standing_answer log (length buffer)) → buffer' ≡ after_standing log buffer
    → Item8 log buffer buffer' r
unfolding standing_answer after_standing
item_8 log buffer buffer' r e f = rw (e, f) (meets log buffer)

-- The lines of an accepted log in any other order are an accepted log, with the same answer and the same bytes.
pub any_order : (rows rows' : List (List ℕ)) → Permᴰ rows rows' → Rows rows → AcceptedLog (joined rows) → (buffer after after' : List ℕ) (r r' : FlatFilled)
    → r ≡ flat_filled (standing_answer (joined rows) (length buffer)) → after ≡ after_standing (joined rows) buffer
    → r' ≡ flat_filled (standing_answer (joined rows') (length buffer)) → after' ≡ after_standing (joined rows') buffer
    → AcceptedLog (joined rows') × (r' ≡ r) × (after' ≡ after)
any_order rows rows' p h a buffer after after' r r' e f e' f' =
    let ok = ap (λ (q : Refusal). q.number) (accepted_number (joined rows) a) in
    let same = shuffled rows rows' p h ok buffer in (
      number_accepted (joined rows') (ap (λ (q : Refusal). q.number) (accepted_log (joined rows') (shuffled_accepted rows rows' p h ok))),
      e' ∙ ap flat_filled same.0 ∙ sym e,
      f' ∙ same.1 ∙ sym f,
    )
