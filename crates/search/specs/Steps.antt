-- What the steps of a search do: put the starts into the queue, append the sections of a word's bits, follow the moves that leave a section, and keep
-- the paths of a search.
use Rattle.std.specs.Prelude.{◌≡◌, Bool, true, false, ◌&&◌, List, ℕ, zero, suc, ◌+◌, ◌/◌, ◌%◌, ◌≤◌, ◌<◌, eqb, length, get_or, take}
use Rattle.basics.specs.Numbers.{count}
use Rattle.meaning.specs.Paths.{mem}
use Rattle.bits.specs.Bits.{bit}
use Rattle.reach.specs.Reach.{memb}
use Rattle.pairs.specs.Pairs.{Rows, edge}
use Rattle.search.specs.Search.{Queue, AllFound}

-- Section k is a set bit of w, which is word i of a set.
unfoldable pub in_word : ℕ → ℕ → ℕ → Bool
in_word i w zero = false
in_word i w (suc k) = eqb (k / 64) i && bit w (k % 64)

-- The queue has m entries in place of n: the new ones are the sections that pass `new`, and section a is their predecessor.
pub record Pushed (new : ℕ → Bool) (a : ℕ) (queue before : List ℕ) (n : ℕ) (queue' before' : List ℕ) (m : ℕ) : Type 0 where
  pub queue_length : length queue' ≡ length queue
  pub before-length : length before' ≡ length before
  pub size : m ≡ n + count 512 new
  pub queue_kept : (i : ℕ) → i < n → get_or queue' i 0 ≡ get_or queue i 0
  pub members : (i : ℕ) → n ≤ i → i < m → new (get_or queue' i 0) ≡ true
  pub place : (k : ℕ) → new k ≡ true → (i : ℕ) × (n ≤ i) × (i < m) × (get_or queue' i 0 ≡ k)
  pub from : (k : ℕ) → new k ≡ true → get_or before' k 0 ≡ a
  pub before_kept : (k : ℕ) → new k ≡ false → get_or before' k 0 ≡ get_or before k 0

-- The set ws has the first m starts, and the queue has them, with no predecessor.
pub record Begun (starts : List ℕ) (m : ℕ) (ws queue before : List ℕ) (n : ℕ) : Type 0 where
  pub queued : Queue (memb ws) queue n
  pub found : (move : ℕ → ℕ → Bool) → AllFound move (memb ws) before
  pub members : (k : ℕ) → memb ws k ≡ mem k (take m starts)

-- The sections up to `last` to which a move leads from section a are added to the set and to the queue.
-- Each new one is found by a move.
pub record Followed (rows : Rows) (a last : ℕ) (ws queue before : List ℕ) (n : ℕ) (ws' queue' before' : List ℕ) (n' : ℕ) : Type 0 where
  pub queued : Queue (memb ws') queue' n'
  pub found : AllFound (edge rows) (memb ws') before'
  pub more : n ≤ n'
  pub kept : (k : ℕ) → memb ws k ≡ true → memb ws' k ≡ true
  pub queue_kept : (i : ℕ) → i < n → get_or queue' i 0 ≡ get_or queue i 0
  pub before_kept : (k : ℕ) → memb ws k ≡ true → get_or before' k 0 ≡ get_or before k 0
  pub by_move : (k : ℕ) → memb ws k ≡ false → memb ws' k ≡ true → 1 ≤ get_or before' k 0
  pub reached : (k : ℕ) → k ≤ last → edge rows a k ≡ true → memb ws' k ≡ true

-- The predecessors of the first n sections of the queue are those of `own`; those of all other sections stay.
pub record KeptPaths (queue own before : List ℕ) (n : ℕ) (before' : List ℕ) : Type 0 where
  pub same_length : length before' ≡ length before
  pub taken : (i : ℕ) → i < n → get_or before' (get_or queue i 0) 0 ≡ get_or own (get_or queue i 0) 0
  pub stays : (k : ℕ) → ((i : ℕ) → i < n → get_or queue i 0 ≡ k → ⊥) → get_or before' k 0 ≡ get_or before k 0
