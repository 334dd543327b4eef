-- Danger and the verdict (01, "Moves, reach and verdict"). s is a situation, σ the states of its elements; i, j and t are train
-- numbers, a, b and k section numbers. All numbers start at 1, and 0 stands for "none".
use Rattle.std.specs.Prelude.{◌≡◌, Bool, true, not, ◌&&◌, cond, List, ℕ, zero, suc, ◌-◌, ◌≤◌}
use Rattle.meaning.specs.declared.Situation.{Situation}
use Rattle.meaning.specs.declared.Counts.{Counts}
use Rattle.meaning.specs.declared.Meeting.{Meeting}
use Rattle.meaning.specs.declared.Verdict.{Verdict}
use Rattle.meaning.specs.declared.Verdict.TheVariants.{Safe, Dangerous}
use Rattle.meaning.specs.Station.{moves, standing, permitted}
use Rattle.meaning.specs.Paths.{mem, path_to, once, reach}
use Rattle.basics.specs.Numbers.{found, lowest, some_up_to, total, count}

-- ---- trains
-- "A path of it may start in any of" its sections (02, Item 2): p is a path of train t, and ends in section k.
unfoldable pub leads : Situation → List ℕ → ℕ → ℕ → List ℕ → Bool
unfolding path_to moves standing
leads s σ t k p = path_to (moves s σ) (standing s t) k p

-- THE MEANING OF DANGER, for trains 1 to m: "two trains with different numbers have reaches that share a section". No path is one of
-- train 0, which stands nowhere.
pub record Danger (s : Situation) (σ : List ℕ) (m : ℕ) : Type 0 where
  pub first : ℕ
  pub second : ℕ
  pub first_numbered : first ≤ m
  pub second_numbered : second ≤ m
  pub section : ℕ
  pub first_path : List ℕ
  pub second_path : List ℕ
  pub first_leads : leads s σ first section first_path ≡ true
  pub second_leads : leads s σ second section second_path ≡ true
  pub different : first ≡ second → ⊥

-- Section k is in the reach of train t, "every section where one of" its paths "ends": the union of the reaches of its sections (proofs/Union).
unfoldable pub in_reach : Situation → List ℕ → ℕ → ℕ → Bool
unfolding reach moves standing
in_reach s σ t k = mem k (reach (moves s σ) (standing s t))

-- "The lowest number in both reaches."
unfoldable pub shared_section : Situation → List ℕ → ℕ → ℕ → ℕ
unfolding lowest in_reach
shared_section s σ i j = lowest s.header.sections (λ k. in_reach s σ i k && in_reach s σ j k)

-- Trains i and j have "reaches that share a section".
abbrev pub share : Situation → List ℕ → ℕ → ℕ → Bool
share s σ i j = found (shared_section s σ i j)

-- "The first earlier train whose reach shares a section with its own."
unfoldable pub earlier_train : Situation → List ℕ → ℕ → ℕ
unfolding lowest shared_section
earlier_train s σ j = lowest (j - 1) (λ i. share s σ i j)

-- Some earlier train's reach shares a section with that of train j.
abbrev pub meets_earlier : Situation → List ℕ → ℕ → Bool
meets_earlier s σ j = found (earlier_train s σ j)

-- Trains 1 to m are dangerous: of two that share a section, the later one meets an earlier one. proofs/Danger shows that this is `Danger`.
unfoldable pub dangerous : Situation → List ℕ → ℕ → Bool
unfolding lowest earlier_train
dangerous s σ m = some_up_to m (meets_earlier s σ)

-- "Otherwise it is safe."
unfoldable pub safe : Situation → List ℕ → Bool
unfolding dangerous
safe s σ = not (dangerous s σ s.header.trains)

-- "Train j is the lowest for which trains 1 to j are already dangerous."
unfoldable pub later_train : Situation → List ℕ → ℕ
unfolding lowest dangerous
later_train s σ = lowest s.header.trains (dangerous s σ)

-- ---- the two counts
-- "The number of sections in those reaches."
unfoldable pub entries_of : Situation → List ℕ → ℕ → ℕ
unfolding count in_reach
entries_of s σ t = count s.header.sections (in_reach s σ t)

-- How many permitted moves leave section a: ordered pairs (a, b), whatever lines stand over them.
unfoldable pub outdegree : Situation → List ℕ → ℕ → ℕ
unfolding count moves
outdegree s σ a = count s.header.sections (permitted (moves s σ) a)

-- "The number of permitted moves leaving a section of the reach."
unfoldable pub looks_of : Situation → List ℕ → ℕ → ℕ
unfolding total outdegree in_reach
looks_of s σ t = total s.header.sections (λ a. cond (in_reach s σ t a) (outdegree s σ a) 0)

-- The two counts over trains 1 to m, "added up".
unfoldable pub counts_to : Situation → List ℕ → ℕ → Counts
unfolding total entries_of looks_of
counts_to s σ m = record { entries = total m (entries_of s σ); looks = total m (looks_of s σ) }

-- ---- the verdict
-- "A dangerous verdict names trains i and j" and the meeting section.
unfoldable pub meeting_of : Situation → List ℕ → ℕ → Meeting
unfolding earlier_train shared_section
meeting_of s σ j =
    let i : ℕ = earlier_train s σ j in
    record { first = record { 0 = i }; second = record { 0 = j }; section = record { 0 = shared_section s σ i j } }

-- The verdict that names train j as the later one; the safe verdict where j is 0.
unfoldable pub verdict_for : Situation → List ℕ → ℕ → Verdict
unfolding meeting_of counts_to
verdict_for s σ zero = Safe (counts_to s σ s.header.trains)
verdict_for s σ (suc j) = Dangerous (meeting_of s σ (suc j)) (counts_to s σ (suc j))

unfoldable pub verdict : Situation → List ℕ → Verdict
unfolding verdict_for later_train
verdict s σ = verdict_for s σ (later_train s σ)

-- A path that a dangerous verdict may show for train t and meeting section k: "neither path has a section twice".
unfoldable pub shows : Situation → List ℕ → ℕ → ℕ → List ℕ → Bool
unfolding leads
shows s σ t k p = leads s σ t k p && once p
