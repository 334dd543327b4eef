-- Item 2, long trains: "A file may begin with U in place of S, and then a T line holds one to four different sections, filled from the left. A
-- train's reach is the union of the reaches of its sections, and a path of it may start in any of them. Two sections of one train never make a
-- danger between themselves. The verdict, the settings [..] are read with this reach from now on; S files keep their answers. [..] The situation
-- records its letter, and the writer writes it, giving 2, before 5 on that line, for a train of no section, of more than four, or under S of more
-- than one." Trains and sections are numbered from 1. Byte 83 is S, 85 is U and 84 is T; 32 is a space and 10 a line feed.
use Rattle.std.specs.Prelude.{◌≡◌, ◌⊎◌, cond, List, ℕ, ◌+◌, ◌-◌, ◌≤◌, ◌<◌, eqb, get_or}
use Rattle.meaning.specs.Accepted.{Accepted}
use Rattle.c_layout.specs.declared.FlatRefusal.{FlatRefusal}
use Rattle.c_layout.specs.declared.FlatSituation.{FlatSituation}
use Rattle.c_layout.specs.declared.FlatReading.{FlatReading}

-- ---- the reader
-- `file` is handed over, and it answers r. "A T line holds one to four different sections, filled from the left" is the form of its line, and those are the sections
-- where the train stands (`TLines`, Laws).
abbrev pub Item2Read : List ℕ → FlatReading → Type 0
Item2Read file r =
    -- "A file may begin with U in place of S"; "the situation records its letter".
    Accepted file → ((get_or file 0 0 ≡ 83) × (r.situation.is_long ≡ 0)) ⊎ ((get_or file 0 0 ≡ 85) × (r.situation.is_long ≡ 1))

-- ---- the writer
-- "The situation records its letter, and the writer writes it"; that it is "giving 2, before 5 on that line" for such trains and no others is a law (`TwoForNoLine`,
-- Laws).
abbrev pub Item2Write : FlatSituation → List ℕ → List ℕ → FlatRefusal → Type 0
Item2Write values buffer buffer' q = q.number ≡ 0 → get_or buffer' 0 0 ≡ cond (eqb values.is_long 0) 83 85
