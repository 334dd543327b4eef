-- The whole search: from the starts, each section of the queue in turn has its row followed. What is found so is the least set that
-- has the starts and is closed under the moves: each section of it is found by moves from a start (`found_least`).
use mathlib.Core.Path.{◌≡◌, refl, sym, ap, ◌∙◌}
use mathlib.Core.Logic.{⊎_elim}
use mathlib.Core.Bool.{Bool, true, false}
use mathlib.Core.List.{List}
use Prim.Native.Nat.{ℕ, ◌+◌, ◌≤◌, ◌<◌}
use native.Mathlib.Omega.{arith}
use lib.ListN.{length, get_or}
use lib.Seq.{take_all}
use Rattle.std.proofs.lemmas.Bool.{cases_lt}
use Rattle.meaning.specs.Paths.{mem}
use Rattle.basics.proofs.Numbers.{count-le}
use Rattle.reach.specs.Reach.{memb}
use Rattle.pairs.specs.Pairs.{Rows, edge}
use Rattle.pairs.proofs.Laws.{edge_inside}
use Rattle.search.specs.Search.{Queue, AllFound, Searched}
use Rattle.search.specs.Steps.{Begun, Followed}
use Rattle.search.proofs.Kept.{found_least}

-- A queue has at most 512 entries.
pub queue_short : (has : ℕ → Bool) (queue : List ℕ) (n : ℕ) → Queue has queue n → n ≤ 512
queue_short has queue n q = omega (arith, q.size, count-le 512 has)

-- The rows of the first `head` sections of the queue are followed.
pub record Searching (rows : Rows) (starts ws queue before : List ℕ) (n head : ℕ) : Type 0 where
  pub queued : Queue (memb ws) queue n
  pub found : AllFound (edge rows) (memb ws) before
  pub starts_in : (k : ℕ) → mem k starts ≡ true → memb ws k ≡ true
  pub roots : (k : ℕ) → memb ws k ≡ true → get_or before k 0 ≡ 0 → mem k starts ≡ true
  pub within : head ≤ n
  pub done : (i : ℕ) → i < head → (k : ℕ) → edge rows (get_or queue i 0) k ≡ true → memb ws k ≡ true

module _ (rows : Rows) (starts : List ℕ) where
  -- At first none is.
  pub searching_start : (ws queue before : List ℕ) (n : ℕ) → Begun starts (length starts) ws queue before n
      → Searching rows starts ws queue before n 0
  searching_start ws queue before n b =
      record {
        queued = b.queued;
        found = b.found (edge rows);
        starts_in = λ k h. all k ∙ h;
        roots = λ k h e. sym (all k) ∙ h;
        within = omega arith;
        done = λ i l k e. absurd (omega arith);
      }
    where
      all : (k : ℕ) → memb ws k ≡ mem k starts
      all k = b.members k ∙ ap (mem k) (take_all (length starts) starts (omega arith))

  -- One row more.
  pub searching_turn : (ws queue before : List ℕ) (n head : ℕ) (ws' queue' before' : List ℕ) (n' : ℕ)
      → Searching rows starts ws queue before n head → head < n
      → Followed rows (get_or queue head 0) 512 ws queue before n ws' queue' before' n'
      → Searching rows starts ws' queue' before' n' (head + 1)
  searching_turn ws queue before n head ws' queue' before' n' s l f =
      record {
        queued = f.queued;
        found = f.found;
        starts_in = λ k h. f.kept k (s.starts_in k h);
        roots = λ k h e. root k h e (memb ws k) refl;
        within = omega (arith, f.more);
        done = λ i x k e. let m : edge rows (get_or queue i 0) k ≡ true = rw (f.queue_kept i (omega arith)) at e in
            ⊎_elim
            (λ y. f.kept k (s.done i y k m))
            (λ y. let z : i ≡ head = omega arith in f.reached k (edge_inside rows (get_or queue i 0) k m).3 (rw z at m))
            (cases_lt i head);
      }
    where
      root : (k : ℕ) → memb ws' k ≡ true → get_or before' k 0 ≡ 0 → (b : Bool) → memb ws k ≡ b → mem k starts ≡ true
      root k h e true t = s.roots k t (sym (f.before_kept k t) ∙ e)
      root k h e false t = absurd (omega (arith, e, f.by_move k t h))

  -- At last all are.
  pub searching_end : (ws queue before : List ℕ) (n head : ℕ) → Searching rows starts ws queue before n head → n ≤ head
      → Searched rows starts ws queue before n
  searching_end ws queue before n head s l =
      record {
        traced = record {
          reached = record {
            starts = s.starts_in;
            closed = λ a b m h. let w = s.queued.place a h in s.done w.0 (let x = w.1 in omega arith) b (rw w.2 m);
            least = λ P h c k e. let w = s.found.each k e in found_least (edge rows) (memb ws) before P (λ j x y. h j (s.roots j x y)) c w.0 k w.2;
          };
          within = s.queued.within;
          found = s.found;
          roots = s.roots;
        };
        queued = s.queued;
      }
