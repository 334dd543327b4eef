-- The refusal of a log, from how many lines are right at its start and the first repeated sequence among their keys in order.
use mathlib.Core.Path.{◌≡◌, sym, ap, ◌∙◌}
use mathlib.Core.Bool.{Bool, true, false, not}
use mathlib.Core.List.{List, ◌++◌}
use mathlib.Mathlib.Data.Bool.Basic.{or-eq-false-eq-eq-false-and-eq-false as neither}
use Prim.Native.Nat.{ℕ, suc, ◌+◌, ◌*◌, ◌-◌, ◌%◌, ◌≤◌, ◌<◌}
use native.Mathlib.Omega.{arith}
use lib.Dec.{eqb, ltb, eqb-suc-zero}
use lib.ListN.{length, take, drop}
use lib.Seq.{take_at}
use borrow.Author.Tests.{ltb-false, eqb-true, not-false, ne_eqb}
use Rattle.std.specs.Prelude.{Some, None, Ok, Err}
use Rattle.meaning.specs.declared.Refusal.{Refusal}
use Rattle.basics.specs.Numbers.{lowest}
use Rattle.meaning.specs.File.{refusal, unless_refused}
use Rattle.basics.proofs.Lists.{list_of-length}
use Rattle.meaning.proofs.Refused.{refused_with}
use Rattle.session_meaning.specs.Answers.{log_cause_at, log_lines, first_wrong_line, cut_or_long, log_refusal, sent_lines, standing_lines}
use Rattle.basics.proofs.Numbers.{None as NoneBelow, lowest_unique}
use Rattle.sorting.specs.Sorted.{sorted}
use Rattle.sorting.proofs.Sorting.{sorted-length}
use Rattle.answers.specs.Keys.{first_repeat, ReadTo, Settled}
use Rattle.answers.proofs.Log.{keys_of, seen_at, repeat_none, repeat_found, picks_stand}

-- A log that is neither cut nor too long.
pub log_whole : (log : List ℕ) → cut_or_long log ≡ false → (log_lines log ≤ 1000) × (log_lines log * 22 ≡ length log)
unfolding cut_or_long
log_whole log e =
    let p = (neither (not (eqb (length log % 22) 0)) (ltb (1000 * 22) (length log))).0 e in
    let c : length log % 22 ≡ 0 = eqb-true _ _ (not-false _ p.0) in
    let l : length log ≤ 22000 = ltb-false _ _ p.1 in
    (omega arith, omega arith)

-- ---- the first line with which something is wrong
module _ (log : List ℕ) (whole : cut_or_long log ≡ false) where
  abbrev wrong : ℕ → Bool
  wrong k = not (eqb (log_cause_at log (k - 1)) 0)

  fine : (p : ℕ) → ((i : ℕ) → i < p → log_cause_at log i ≡ 0) → NoneBelow p wrong
  fine p h k low high = let e = h (k - 1) (omega arith) in rw e

  wrong_at : (p q : ℕ) → p < log_lines log → log_cause_at log p ≡ suc q → ((i : ℕ) → i < p → log_cause_at log i ≡ 0)
      → refusal (suc q) (p + 1) ≡ log_refusal log
  unfolding log_refusal first_wrong_line
  wrong_at p q h e before =
      let back : suc p - 1 ≡ p = omega arith in
      let bad : wrong (suc p) ≡ true = rw (back, e) (ap not (eqb-suc-zero q)) in
      let first : lowest (log_lines log) wrong ≡ p + 1 = lowest_unique (log_lines log) wrong (suc p) (omega arith, bad, fine p before) ∙ omega arith in
      let less : p + 1 - 1 ≡ p = omega arith in
      rw (whole, first, less, e, ne_eqb (p + 1) 0 (λ z. omega arith))

  none_wrong : ((i : ℕ) → i < log_lines log → log_cause_at log i ≡ 0) → refusal 0 0 ≡ log_refusal log
  unfolding log_refusal first_wrong_line
  none_wrong h = rw (whole, lowest_unique (log_lines log) wrong 0 (fine (log_lines log) h))

-- ---- the end of `settle`
-- A log of cut lines, or of too many.
pub settle_cut : (log keys : List ℕ) → cut_or_long log ≡ true → Settled log keys (Err (refusal 16 0))
unfolding log_refusal
settle_cut log keys e = record { answer = rw e; few = tt; stand = tt }

-- Of a whole log the keys were read up to line m, and s are these in order.
pub record Ordered (log keys s : List ℕ) (m : ℕ) : Type 0 where
  pub whole : cut_or_long log ≡ false
  pub read : ReadTo log keys m
  pub order : s ≡ sorted (take m keys)

module _ {log keys s : List ℕ} {m : ℕ} (o : Ordered log keys s m) where
  few : m ≤ 1000
  few = omega (arith, (log_whole log o.whole).0, o.read.within)

  sorted_all : length s ≡ length (take m keys)
  sorted_all = ap length o.order ∙ sorted-length (take m keys)

  first_keys : take m (s ++ drop m keys) ≡ keys_of log m
  first_keys =
      take_at s (drop m keys) m (sorted_all ∙ ap length o.read.stored ∙ list_of-length m _) ∙ o.order ∙ ap sorted o.read.stored

  -- A right line whose sequence was not seen before.
  fine_line : (i : ℕ) → i < m → seen_at log i ≡ false → log_cause_at log i ≡ 0
  unfolding log_cause_at
  fine_line i h e = rw (o.read.good i h, e)

  -- What is refused.
  refuse : (q line : ℕ) → refusal (suc q) line ≡ log_refusal log → Settled log (s ++ drop m keys) (Err (refusal (suc q) line))
  refuse q line e =
      record {
        answer =
            refused_with (refusal (suc q) line) (log_lines log) (λ z. omega arith)
            ∙ ap (λ (r : Refusal). unless_refused r (log_lines log)) e;
        few = tt;
        stand = tt;
      }

  pub settle_17 : (n : ℕ) → first_repeat (take m (s ++ drop m keys)) ≡ Some n → Settled log (s ++ drop m keys) (Err (refusal 17 n))
  unfolding log_cause_at
  settle_17 n e =
      let f = repeat_found log m few o.read.good n (ap first_repeat (sym first_keys) ∙ e) in
      let within : f.place < log_lines log = omega (arith, f.within, o.read.within) in
      refuse 16 n
      (rw f.line
      (wrong_at log o.whole f.place 16 within (rw (o.read.good f.place f.within, f.seen))
      (λ i l. fine_line i (omega (arith, f.within)) (f.before i l))))

  module _ (none : first_repeat (take m (s ++ drop m keys)) ≡ None) where
    fresh : (i : ℕ) → i < m → seen_at log i ≡ false
    fresh = repeat_none log m few o.read.good (ap first_repeat (sym first_keys) ∙ none)

    pub settle_16 : m < log_lines log → Settled log (s ++ drop m keys) (Err (refusal 16 (m + 1)))
    unfolding log_cause_at
    settle_16 l = refuse 15 (m + 1) (wrong_at log o.whole m 15 l (rw (o.read.bad l)) (λ i k. fine_line i k (fresh i k)))

    pub settle_ok : log_lines log ≤ m → Settled log (s ++ drop m keys) (Ok m)
    unfolding standing_lines sent_lines
    settle_ok l =
        let all : m ≡ log_lines log = omega (arith, o.read.within) in
        record {
          answer = rw (← none_wrong log o.whole (λ i k. fine_line i (omega (arith, all)) (fresh i (omega (arith, all))))) (ap Ok all);
          few = few;
          stand = rw (← all, first_keys) (picks_stand log m few o.read.good fresh);
        }
