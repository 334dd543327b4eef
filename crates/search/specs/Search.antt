-- What a search over a set of moves leaves: the set of the sections found, a queue that has each of them, and the predecessor of each.
use Rattle.std.specs.Prelude.{◌≡◌, Bool, true, false, List, ℕ, zero, suc, ◌≤◌, ◌<◌, length, get_or}
use Rattle.basics.specs.Numbers.{count}
use Rattle.meaning.specs.Paths.{mem}
use Rattle.reach.specs.Reach.{memb}
use Rattle.pairs.specs.Pairs.{Rows, edge}
use Rattle.search.specs.Read.{path_back}

-- The first n entries of a list are section numbers.
abbrev pub Sections : ℕ → List ℕ → Type 0
Sections n xs = (i : ℕ) → i < n → (1 ≤ get_or xs i 0) × (get_or xs i 0 ≤ 512)

-- The set is the least that has the starts and is closed under the moves. Starts, moves and set are given by tests.
pub record IsReach (move : ℕ → ℕ → Bool) (start : ℕ → Bool) (has : ℕ → Bool) : Type 0 where
  pub starts : (k : ℕ) → start k ≡ true → has k ≡ true
  pub closed : (a b : ℕ) → move a b ≡ true → has a ≡ true → has b ≡ true
  pub least : (P : ℕ → Bool) → ((k : ℕ) → start k ≡ true → P k ≡ true) → ((a b : ℕ) → move a b ≡ true → P a ≡ true → P b ≡ true)
      → (k : ℕ) → has k ≡ true → P k ≡ true

-- The first n entries of the queue are the sections of the set.
pub record Queue (has : ℕ → Bool) (queue : List ℕ) (n : ℕ) : Type 0 where
  pub queue_length : length queue ≡ 512
  pub size : count 512 has ≡ n
  pub within : (k : ℕ) → has k ≡ true → (1 ≤ k) × (k ≤ 512)
  pub members : (i : ℕ) → i < n → has (get_or queue i 0) ≡ true
  pub place : (k : ℕ) → has k ≡ true → (i : ℕ) × (i < n) × (get_or queue i 0 ≡ k)

-- Section k is found by n moves: it is in the set, a move leads to it from its predecessor, which is found by one move less, and k is not
-- on the path to the predecessor. A section found by no move has no predecessor.
abbrev pub FoundBy : (ℕ → ℕ → Bool) → (ℕ → Bool) → List ℕ → ℕ → ℕ → Type 0
FoundBy move has before zero k = (has k ≡ true) × (get_or before k 0 ≡ 0)
FoundBy move has before (suc n) k =
    (has k ≡ true) × (move (get_or before k 0) k ≡ true) × (mem k (path_back before n (get_or before k 0)) ≡ false)
    × FoundBy move has before n (get_or before k 0)

-- Each section of the set is found by fewer moves than the set has sections.
pub record AllFound (move : ℕ → ℕ → Bool) (has : ℕ → Bool) (before : List ℕ) : Type 0 where
  pub before-length : length before ≡ 513
  pub each : (k : ℕ) → has k ≡ true → (m : ℕ) × (m < count 512 has) × FoundBy move has before m k

-- The set ws is what the moves reach from the starts, and the paths to its sections begin in a start.
pub record Traced (rows : Rows) (starts ws before : List ℕ) : Type 0 where
  pub reached : IsReach (edge rows) (λ k. mem k starts) (memb ws)
  pub within : (k : ℕ) → memb ws k ≡ true → (1 ≤ k) × (k ≤ 512)
  pub found : AllFound (edge rows) (memb ws) before
  pub roots : (k : ℕ) → memb ws k ≡ true → get_or before k 0 ≡ 0 → mem k starts ≡ true

-- What a search from these starts leaves: the set ws, its sections in the queue, their predecessors, and the number n of them.
pub record Searched (rows : Rows) (starts ws queue before : List ℕ) (n : ℕ) : Type 0 where
  pub traced : Traced rows starts ws before
  pub queued : Queue (memb ws) queue n
