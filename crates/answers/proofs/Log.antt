-- What the keys of the first m lines of a log, put in order, say of those lines: the first line with a sequence already seen
-- (`repeat_found`, `repeat_none`), and the answers that stand (`picks_stand`).
use mathlib.Core.Path.{◌≡◌, sym, ap, ◌∙◌}
use mathlib.Core.Bool.{Bool, true, false, false≢true}
use mathlib.Core.List.{List, [], ◌∷◌, map}
use mathlib.Mathlib.Data.Bool.Basic.{eq-false_of_not-eq-true}
use Prim.Native.Nat.{ℕ, zero, suc, ◌+◌, ◌*◌, ◌≤◌, ◌<◌}
use native.Mathlib.Decide.{ℕ_discrete, dec_lt}
use native.Mathlib.Omega.{arith}
use Rattle.std.specs.Prelude.{Some, None}
use Rattle.std.specs.Option.{IsSomeAnd}
use Rattle.session_meaning.specs.declared.Sent.{Sent}
use Rattle.basics.specs.Lists.{list_of, In}
use Rattle.session_meaning.specs.Answers.{OneQuestion, Before, Ranges, is_c, sent_at, in_range, right, seen, same_sequence, standing_of}
use Rattle.session_meaning.proofs.AnswerLines.{in_range_lem}
use Rattle.basics.proofs.Tests.{and_both}
use Rattle.basics.proofs.Members.{in_list_of, list_of_in, pairwise_list_of, in_map, map_in, pairwise_map}
use Rattle.session_meaning.proofs.Standing.{
  Stands,
  Apart,
  sequence_true,
  true_sequence,
  strict_same,
  stands_true,
  true_stands,
  in_standing,
  standing_in,
  standing_strict,
  seen_true,
  true_seen,
}
use Rattle.sorting.specs.Sorted.{All, RisingBy, sorted}
use Rattle.sorting.specs.Digits.{low}
use Rattle.sorting.proofs.Sorting.{all_append, all_map, rising_append}
use Rattle.answers.specs.Keys.{question_of, sequence_of, line_of, sent_of, line_key, first_repeat, picks}
use Rattle.answers.proofs.Keys.{
  key_question,
  key_sequence,
  key_line,
  key_answer,
  key_sent,
  in_sorted,
  sorted_in,
  Ascending,
  ascending_sorted,
  repeat_least,
  repeat_is,
  Picked,
  pick_in,
  in_pick,
  picks_rise,
  question_ahead,
}

-- The keys of the first m lines, in order.
abbrev pub keys_of : List ℕ → ℕ → List ℕ
keys_of log m = sorted (list_of m (line_key log))

-- The sequence of line i, from 0, was already seen.
abbrev pub seen_at : List ℕ → ℕ → Bool
seen_at log i = seen (list_of i (sent_at log)) (sent_at log i)

module _ (log : List ℕ) (m : ℕ) (few : m ≤ 1000) (good : (i : ℕ) → i < m → right log i ≡ true) where
  small : (i : ℕ) → i < m → Ranges (sent_at log i)
  unfolding right
  small i h = in_range_lem (sent_at log i) (and_both (is_c log i) (in_range (sent_at log i)) (good i h)).1

  line_of_lem : (i : ℕ) → i < m → line_of (line_key log i) ≡ i + 1
  line_of_lem i h = key_line (i + 1) (sent_at log i) (small i h) (omega arith)

  question_of_lem : (i : ℕ) → i < m → question_of (line_key log i) ≡ (sent_at log i).candidate * 128 + (sent_at log i).question
  question_of_lem i h = key_question (i + 1) (sent_at log i) (small i h) (omega arith)

  sequence_of_lem : (i : ℕ) → i < m → sequence_of (line_key log i) ≡ question_of (line_key log i) * 131072 + (sent_at log i).sequence
  sequence_of_lem i h = omega (arith, question_of_lem i h, key_sequence (i + 1) (sent_at log i) (small i h) (omega arith))

  -- The keys are in order by their lines, as they are read.
  abbrev rises : List ℕ → ℕ → Type 0
  rises l k = RisingBy (low 23) l × All (λ x. low 23 x < (k + 1) * 8192) l

  below : (i : ℕ) → i < m → low 23 (line_key log i) ≡ (i + 1) * 8192 + (sent_at log i).answer
  below i h = let r = small i h in omega (arith, r.answer)

  lines_rise : (k : ℕ) → k ≤ m → rises (list_of k (line_key log)) k
  unfolding list_of
  lines_rise zero h = (tt, tt)
  lines_rise (suc k) h =
      let w = lines_rise k (omega arith) in
      let l = list_of k (line_key log) in
      let x = line_key log k in
      let e = below k (omega arith) in
      let r = small k (omega arith) in (
        rising_append (low 23) l (x ∷ []) w.0 (tt, tt) (all_map _ (λ y. All (λ z. low 23 y ≤ low 23 z) (x ∷ [])) (λ y b. (omega (arith, e), tt)) l w.1),
        all_append _ l (x ∷ []) (all_map _ _ (λ y b. omega arith) l w.1) (omega (arith, e, r.answer), tt),
      )

  pub keys_begun : (keys : List ℕ) → keys ≡ list_of m (line_key log) → RisingBy (low 23) keys
  keys_begun keys e = rw e (lines_rise m (omega arith)).0

  -- Two lines, by their keys: for one candidate and question the order is by sequence, then line.
  module _ (i j : ℕ) (f : i < m) (g : j < m) where
    same_question : question_of (line_key log i) ≡ question_of (line_key log j) → OneQuestion (sent_at log i) (sent_at log j)
    same_question e =
        let s = small i f in
        let t = small j g in
        let k = sym (question_of_lem i f) ∙ e ∙ question_of_lem j g in
        (omega arith, omega arith)

    same_sequence_lem : sequence_of (line_key log i) ≡ sequence_of (line_key log j)
        → OneQuestion (sent_at log i) (sent_at log j) × ((sent_at log i).sequence ≡ (sent_at log j).sequence)
    same_sequence_lem e =
        let s = small i f in
        let t = small j g in
        (same_question (omega (arith, sequence_of_lem i f, sequence_of_lem j g)), omega (arith, sequence_of_lem i f, sequence_of_lem j g))

    module _ (q : OneQuestion (sent_at log i) (sent_at log j)) where
      question_same : question_of (line_key log i) ≡ question_of (line_key log j)
      question_same = omega (arith, question_of_lem i f, question_of_lem j g)

      sequence_same : (sent_at log i).sequence ≡ (sent_at log j).sequence → sequence_of (line_key log i) ≡ sequence_of (line_key log j)
      sequence_same e = omega (arith, question_same, sequence_of_lem i f, sequence_of_lem j g)

      key_le : line_key log i ≤ line_key log j → (sent_at log i).sequence ≤ (sent_at log j).sequence
      key_le e = omega (arith, small i f, small j g)

      key_lt : (sent_at log i).sequence < (sent_at log j).sequence → line_key log i < line_key log j
      key_lt e = omega (arith, small i f, small j g)

      key_line_lt : (sent_at log i).sequence ≡ (sent_at log j).sequence → i < j → line_key log i < line_key log j
      key_line_lt e k = omega (arith, small i f, small j g)

  ascends : Ascending (keys_of log m)
  ascends =
      ascending_sorted (list_of m (line_key log))
      (pairwise_list_of (λ x y. x ≡ y → ⊥) m (line_key log)
      (λ i j l h e. omega (arith, ap line_of e, line_of_lem i (omega arith), line_of_lem j h)))

  key_of : (x : ℕ) → In x (keys_of log m) → (i : ℕ) × (i < m) × (x ≡ line_key log i)
  key_of x h = in_list_of m (line_key log) x (in_sorted x (list_of m (line_key log)) h)

  in_keys : (i : ℕ) → i < m → In (line_key log i) (keys_of log m)
  in_keys i h = sorted_in (line_key log i) (list_of m (line_key log)) (list_of_in m (line_key log) i h)

  -- ---- the first sequence already seen
  -- A line j that repeats line i.
  repeated : (i j : ℕ) → i < j → j < m → OneQuestion (sent_at log i) (sent_at log j) → (sent_at log i).sequence ≡ (sent_at log j).sequence
      → seen_at log j ≡ true
  repeated i j l h q e =
      true_seen (list_of j (sent_at log)) (sent_at log j) (sent_at log i) (list_of_in j (sent_at log) i l)
      (true_sequence (sent_at log i) (sent_at log j) q e)

  seen_least : (j : ℕ) → j < m → seen_at log j ≡ true → IsSomeAnd (first_repeat (keys_of log m)) (λ r. r ≤ j + 1)
  seen_least j h e =
      let r = seen_true (list_of j (sent_at log)) (sent_at log j) e in
      let o = in_list_of j (sent_at log) r.0 r.1 in
      at o.0 o.1 (rw o.2 at (sequence_true r.0 (sent_at log j) r.2))
    where
      at : (i : ℕ) → i < j → OneQuestion (sent_at log i) (sent_at log j) × ((sent_at log i).sequence ≡ (sent_at log j).sequence)
          → IsSomeAnd (first_repeat (keys_of log m)) (λ r. r ≤ j + 1)
      at i l q =
          let k : i < m = omega arith in
          let below = key_line_lt i j k h q.0 q.1 l in
          let same = sequence_same i j k h q.0 q.1 in
          rw (line_of_lem j h) at (repeat_least (keys_of log m) ascends (line_key log i) (line_key log j) (in_keys i k) (in_keys j h) below same)

  -- Where there is one, it is the line of the first repeat.
  pub record First (r : ℕ) : Type 0 where
    pub place : ℕ
    pub line : r ≡ place + 1
    pub within : place < m
    pub seen : seen_at log place ≡ true
    pub before : (i : ℕ) → i < place → seen_at log i ≡ false

  pub repeat_none : first_repeat (keys_of log m) ≡ None → (i : ℕ) → i < m → seen_at log i ≡ false
  repeat_none e i h = eq-false_of_not-eq-true (λ f. rw e at (seen_least i h f))

  pub repeat_found : (r : ℕ) → first_repeat (keys_of log m) ≡ Some r → First r
  repeat_found r h =
      let q = repeat_is (keys_of log m) ascends r h in
      let o = key_of q.lower q.lower_in in
      let p = key_of q.higher q.higher_in in
      at o.0 p.0 o.1 p.1 (rw (o.2, p.2) at q.below) (rw (o.2, p.2) at q.sequence) (rw p.2 at q.line)
    where
      at : (i j : ℕ) → i < m → j < m → line_key log i < line_key log j → sequence_of (line_key log i) ≡ sequence_of (line_key log j)
          → line_of (line_key log j) ≡ r → First r
      at i j f g l e n =
          let q = same_sequence_lem i j f g e in
          let line = sym n ∙ line_of_lem j g in
          record {
            place = j;
            line = line;
            within = g;
            seen = repeated i j (earlier (ℕ_discrete i j) q) g q.0 q.1;
            before = λ k x. eq-false_of_not-eq-true (λ f. let low : r ≤ k + 1 = rw h at (seen_least k (omega arith) f) in omega arith);
          }
        where
          earlier : Dec (i ≡ j) → OneQuestion (sent_at log i) (sent_at log j) × ((sent_at log i).sequence ≡ (sent_at log j).sequence) → i < j
          earlier (yes y) q = absurd (omega (arith, ap (line_key log) y))
          earlier (no y) q = omega (arith, small i f, small j g)

  -- ---- the answers that stand
  module _ (fresh : (i : ℕ) → i < m → seen_at log i ≡ false) where
    -- No two lines for one candidate and question have one sequence.
    once : (i j : ℕ) → i < j → j < m → OneQuestion (sent_at log i) (sent_at log j) → (sent_at log i).sequence ≡ (sent_at log j).sequence → ⊥
    once i j l h q e = false≢true (sym (fresh j h) ∙ repeated i j l h q e)

    lines_apart : Apart (list_of m (sent_at log))
    lines_apart =
        pairwise_list_of (λ a b. same_sequence a b ≡ false) m (sent_at log)
        (λ i j l h. eq-false_of_not-eq-true (λ e. let q = sequence_true (sent_at log i) (sent_at log j) e in once i j l h q.0 q.1))

    -- A key and its line.
    sent_back : (i : ℕ) → i < m → sent_of (line_key log i) ≡ sent_at log i
    sent_back i h = key_sent (i + 1) (sent_at log i) (small i h) (omega arith)

    stand_of : (i : ℕ) → i < m → Picked (keys_of log m) (line_key log i) → Stands (list_of m (sent_at log)) (sent_at log i)
    stand_of i h p =
        record {
          answered = λ e. p.answered (key_answer (i + 1) (sent_at log i) (small i h) (omega arith) ∙ e);
          highest = λ b k q. let o = in_list_of m (sent_at log) b k in rw o.2 (at o.0 o.1 (rw o.2 at q));
        }
      where
        at : (j : ℕ) → j < m → OneQuestion (sent_at log j) (sent_at log i) → (sent_at log j).sequence ≤ (sent_at log i).sequence
        at j g q = key_le j i g h q (p.highest (line_key log j) (in_keys j g) (sym (question_same j i g h q)))

    pick_of : (i : ℕ) → i < m → Stands (list_of m (sent_at log)) (sent_at log i) → Picked (keys_of log m) (line_key log i)
    pick_of i h s =
        record {
          one = in_keys i h;
          answered = λ e. s.answered (sym (key_answer (i + 1) (sent_at log i) (small i h) (omega arith)) ∙ e);
          highest = λ y k e. let o = key_of y k in rw o.2 (at o.0 o.1 (rw o.2 at e));
        }
      where
        at : (j : ℕ) → j < m → question_of (line_key log i) ≡ question_of (line_key log j) → line_key log j ≤ line_key log i
        at j g e =
            go (ℕ_discrete (sent_at log j).sequence (sent_at log i).sequence)
            (s.highest (sent_at log j) (list_of_in m (sent_at log) j g) (same_question j i g h (sym e)))
          where
            go : Dec ((sent_at log j).sequence ≡ (sent_at log i).sequence) → (sent_at log j).sequence ≤ (sent_at log i).sequence
                → line_key log j ≤ line_key log i
            go (no x) l = omega (arith, key_lt j i g h (same_question j i g h (sym e)) (omega arith))
            go (yes x) l = elim (dec_lt i j) [
              | yes d ↦ absurd (once i j d g (same_question i j h g e) (sym x))
              | no d ↦ elim (dec_lt j i) [
                | yes d' ↦ absurd (once j i d' h (same_question j i g h (sym e)) x)
                | no d' ↦ let same : j ≡ i = omega arith in omega (arith, ap (line_key log) same)
              ]
            ]

    abbrev lines : List Sent
    lines = list_of m (sent_at log)

    -- The picked keys are the lines that stand, in their order.
    pub picks_stand : map sent_of (picks (keys_of log m)) ≡ standing_of (list_of m (sent_at log)) (list_of m (sent_at log))
    picks_stand =
        strict_same (map sent_of (picks (keys_of log m))) (standing_of lines lines)
        (pairwise_map (λ x y. question_of x < question_of y) Before sent_of question_ahead (picks (keys_of log m)) (picks_rise (keys_of log m) ascends))
        (standing_strict lines lines lines_apart (λ a i. i))
        (record { to = to; back = back })
      where
        to : (a : Sent) → In a (map sent_of (picks (keys_of log m))) → In a (standing_of lines lines)
        to a i =
            let x = in_map sent_of (picks (keys_of log m)) a i in
            let p = pick_in (keys_of log m) ascends x.0 x.1 in
            let o = key_of x.0 p.one in
            let e : a ≡ sent_at log o.0 = x.2 ∙ ap sent_of o.2 ∙ sent_back o.0 o.1 in
            rw e (standing_in lines lines (sent_at log o.0) (list_of_in m (sent_at log) o.0 o.1)
            (true_stands lines (sent_at log o.0) (stand_of o.0 o.1 (rw o.2 at p))))

        back : (a : Sent) → In a (standing_of lines lines) → In a (map sent_of (picks (keys_of log m)))
        back a i =
            let s = in_standing lines lines a i in
            let o = in_list_of m (sent_at log) a s.0 in
            let st = stands_true lines (sent_at log o.0) (rw o.2 at s.1) in
            rw (o.2, ← sent_back o.0 o.1)
            (map_in sent_of (picks (keys_of log m)) (line_key log o.0)
            (in_pick (keys_of log m) ascends (line_key log o.0) (pick_of o.0 o.1 st)))
