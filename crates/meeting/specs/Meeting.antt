-- The first reach of a list that shares a section with a set, and the lowest section shared.
use Rattle.std.specs.Prelude.{◌≡◌, ◌&&◌, cond, List, ℕ, ◌-◌, ◌≤◌, length, Option, Some, None}
use Rattle.basics.specs.Numbers.{found, lowest}
use Rattle.reach.specs.declared.Reach.{Reach}
use Rattle.reach.specs.Reach.{memb, words_at}
use Rattle.meeting.specs.declared.EarlierMeeting.{EarlierMeeting}

-- The lowest section that is in both sets, 0 where there is none.
unfoldable pub shared : List ℕ → List ℕ → ℕ
shared us vs = lowest 512 (λ t. memb us t && memb vs t)

-- The set of train i, which is at place i - 1.
abbrev pub reach_of : List Reach → ℕ → List ℕ
reach_of reaches i = words_at reaches (i - 1)

-- Of trains 1 to `earlier`, `train` is the first whose set shares a section with ws, and `section` the lowest shared; both 0 where none does.
pub record Meets (reaches : List Reach) (earlier : ℕ) (ws : List ℕ) (train section : ℕ) : Type 0 where
  pub first : train ≡ lowest earlier (λ i. found (shared (reach_of reaches i) ws))
  pub meets : section ≡ cond (found train) (shared (reach_of reaches train) ws) 0

-- The first train whose set shares a section with ws, and the lowest section shared; None where no train's does.
abbrev pub FirstMeeting : List Reach → List ℕ → Option EarlierMeeting → Type 0
FirstMeeting reaches ws (Some m) = (1 ≤ m.train.0) × Meets reaches (length reaches) ws m.train.0 m.section.0
FirstMeeting reaches ws None = Meets reaches (length reaches) ws 0 0
