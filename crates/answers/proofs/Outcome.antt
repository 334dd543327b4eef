-- What the operation answers and leaves: after a refusal of the log, with a buffer too short, and with the answers written.
use mathlib.Core.Path.{◌≡◌, refl, sym, ap, ◌∙◌}
use mathlib.Core.Bool.{Bool, true, false, cond}
use mathlib.Core.List.{List, ◌++◌, map}
use Prim.Native.Nat.{ℕ, ◌*◌, ◌≤◌, ◌<◌}
use lib.Dec.{eqb}
use lib.ListN.{length, drop, length-map}
use borrow.Author.Tests.{eq-eqb, ne_eqb, lt-ltb, le-ltb}
use Rattle.std.specs.Prelude.{Result, Ok, Err}
use Rattle.meaning.specs.declared.Refusal.{Refusal}
use Rattle.meaning.specs.File.{refusal, unless_refused}
use Rattle.session_meaning.specs.Answers.{
  log_lines,
  log_refusal,
  standing_lines,
  answers_text,
  standing_refusal,
  standing_answer,
  after_standing,
}
use Rattle.meaning.proofs.Refused.{ok_of, err_of}
use Rattle.answers.specs.Keys.{sent_of}

-- The answer and the buffer afterwards.
pub record Outcome (log buffer : List ℕ) (r : Result ℕ Refusal) (buffer' : List ℕ) : Type 0 where
  pub answer : r ≡ standing_answer log (length buffer)
  pub after : buffer' ≡ after_standing log buffer

module _ (log buffer : List ℕ) where
  by_refusal : (q : Refusal) → standing_refusal log (length buffer) ≡ q → (b : Bool) → eqb q.number 0 ≡ b
      → Outcome log buffer (cond b (Ok (length (standing_lines log) * 22)) (Err q))
      (cond b (answers_text (standing_lines log) ++ drop (length (standing_lines log) * 22) buffer) buffer)
  unfolding standing_answer after_standing
  by_refusal q e b f = record { answer = rw (e, f); after = rw (e, f) }

  pub out-refused : {q : Refusal} → unless_refused (log_refusal log) (log_lines log) ≡ Err q → Outcome log buffer (Err q) buffer
  unfolding standing_refusal
  out-refused {q} e =
      let h = err_of (log_refusal log) (log_lines log) e in
      let f : eqb (log_refusal log).number 0 ≡ false = ne_eqb (log_refusal log).number 0 h.0 in
      rw (← h.1) (by_refusal (log_refusal log) (rw f) false f)

  -- The log is accepted, and p are the keys that stand.
  module _ {n : ℕ} (ok : unless_refused (log_refusal log) (log_lines log) ≡ Ok n) (p : List ℕ) (ep : map sent_of p ≡ standing_lines log) where
    count : length (standing_lines log) ≡ length p
    count = ap length (sym ep) ∙ length-map p sent_of

    accepted : eqb (log_refusal log).number 0 ≡ true
    accepted = eq-eqb _ 0 (ok_of (log_refusal log) (log_lines log) ok).0

    pub out_short : length buffer < length p * 22 → Outcome log buffer (Err (refusal 9 0)) buffer
    unfolding standing_refusal
    out_short h = by_refusal (refusal 9 0) (rw (accepted, count, lt-ltb (length buffer) (length p * 22) h)) false refl

    pub out_written : length p * 22 ≤ length buffer
        → Outcome log buffer (Ok (length p * 22)) (answers_text (map sent_of p) ++ drop (length p * 22) buffer)
    unfolding standing_refusal
    out_written h =
        rw (ep, ← count) (by_refusal (refusal 0 0) (rw (accepted, count, le-ltb (length buffer) (length p * 22) h)) true refl)
