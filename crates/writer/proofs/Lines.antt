-- The line of a train stands over no pair, and what that gives where its cause is asked for.
use mathlib.Core.Path.{◌≡◌, refl}
use mathlib.Core.Bool.{Bool, true, false, ◌||◌, cond}
use mathlib.Core.List.{[]}
use Prim.Native.Nat.{ℕ, ◌+◌}
use native.Mathlib.Omega.{arith}
use lib.Dec.{eqb, ltb}
use borrow.Author.Tests.{ne_eqb}
use Rattle.meaning.specs.declared.Letter.{Letter}
use Rattle.meaning.specs.declared.Line.{Line}
use Rattle.meaning.specs.declared.Train.{Train}
use Rattle.meaning.specs.Columns.{malformed}
use Rattle.meaning.specs.File.{line_cause, pairs_of, most_under, line_of_train}
use Rattle.meaning.proofs.Causes.{in_range_lem}
use Rattle.line_checks.specs.declared.Seen.{Seen}
use Rattle.line_checks.specs.Causes.{Checked}
use Rattle.line_checks.proofs.Causes.{pairs_none, no_pair_checked}

-- The line of a train stands over no pair.
pub train_pairs : (x : Letter) (t : Train) → pairs_of (line_of_train x t) ≡ []
unfolding pairs_of
train_pairs x t = go (eqb t.count 0 || ltb (most_under x) t.count) _ refl refl
  where
    go : (b : Bool) (l : Line) → l.kind ≡ t.count + 3 → (eqb t.count 0 || ltb (most_under x) t.count) ≡ b → pairs_of (cond b malformed l) ≡ []
    go true l e h = refl
    go false l e h =
        let w = (in_range_lem (most_under x) t.count).0 h in
        let k : ℕ = t.count + 3 in
        pairs_none l k e (rw (ne_eqb k 1 (λ z. omega arith)) (ne_eqb k 2 (λ z. omega (arith, w.0)))) (ne_eqb k 3 (λ z. omega (arith, w.0)))

-- The cause of a train's line does not go by the lines before it, and the line adds no pair.
pub train_checked : (n : ℕ) (x : Letter) (t : Train) {seen : Seen} {q : ℕ} → q ≡ line_cause n (line_of_train x t)
    → Checked n (line_of_train x t) seen seen q
train_checked n x t e = no_pair_checked n (line_of_train x t) (train_pairs x t) e
