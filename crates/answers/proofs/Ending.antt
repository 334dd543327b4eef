-- The end of the operation: of the keys in order those that stand are kept, and written.
use mathlib.Core.Path.{◌≡◌, sym, ap, ◌∙◌}
use mathlib.Core.List.{List, ◌++◌, map}
use Prim.Native.Nat.{ℕ, ◌*◌, ◌≤◌, ◌<◌}
use native.Mathlib.Omega.{arith}
use lib.ListN.{length, take, drop, length-take}
use lib.Seq.{take-append-le}
use Rattle.std.specs.Prelude.{Ok, Err}
use Rattle.meaning.specs.File.{refusal}
use Rattle.session_meaning.specs.Answers.{answers_text}
use Rattle.answers.specs.Keys.{sent_of, picks, Settled}
use Rattle.answers.proofs.Outcome.{Outcome, out_short, out_written}

-- The log of n lines has no refusal; `keys` are those of its lines in order, and the first k of `kept` are those that stand.
pub record Accepted (log keys kept : List ℕ) (n k : ℕ) : Type 0 where
  pub settled : Settled log keys (Ok n)
  pub count : k ≡ length (picks (take n keys))
  pub start : take k kept ≡ picks (take n keys)
  pub same : length kept ≡ length (take n keys)

module _ {log keys kept : List ℕ} {n k : ℕ} (w : Accepted log keys kept n k) where
  kept_all : k ≤ length kept
  kept_all = omega (arith, w.count, ap length (sym w.start) ∙ length-take k kept)

  taken : take k (kept ++ drop n keys) ≡ picks (take n keys)
  taken = take-append-le k kept (drop n keys) kept_all ∙ w.start

  module _ (buffer : List ℕ) where
    pub end_short : length buffer < k * 22 → Outcome log buffer (Err (refusal 9 0)) buffer
    end_short h = out_short log buffer (sym w.settled.answer) (picks (take n keys)) w.settled.stand (omega (arith, w.count))

    pub end_written : (buffer' : List ℕ) → k * 22 ≤ length buffer
        → (let p = take k (kept ++ drop n keys) in buffer' ≡ answers_text (map sent_of p) ++ drop (length p * 22) buffer)
        → Outcome log buffer (Ok (k * 22)) buffer'
    end_written buffer' h e =
        rw (e, taken, w.count) (out_written log buffer (sym w.settled.answer) (picks (take n keys)) w.settled.stand (omega (arith, w.count)))
