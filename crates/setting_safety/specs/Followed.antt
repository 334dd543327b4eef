-- The open moves that a train follows in the settings of a block. A table has a word for each open move: bit x is for setting x of the block.
use Rattle.std.specs.Prelude.{◌≡◌, ◌⊎◌, Bool, true, false, ◌&&◌, ◌||◌, List, ℕ, ◌+◌, ◌-◌, ◌*◌, ◌^◌, ◌<◌, length, get_or, eqb, cond}
use Rattle.std.specs.List.{sum_by}
use Rattle.bits.specs.Bits.{bit}
use Rattle.meaning.specs.declared.Situation.{Situation}
use Rattle.setting_tables.specs.OpenMoves.{open_move_of, source}
use Rattle.setting_tables.specs.Prepared.{beyond}
use Rattle.setting_safety.specs.declared.Followed.{Followed}

-- The word of open move e has bit x.
abbrev pub in_setting : List ℕ → ℕ → ℕ → Bool
in_setting table x e = bit (get_or table e 0) x

-- Open move e is left in setting x: by the first open elements, and by the last ones.
abbrev pub left_in : ℕ → List ℕ → ℕ → ℕ → Bool
left_in first planes x e = bit first e && in_setting planes x e

-- ---- the open moves of a situation
-- Open move e brings what the fixed moves reach from its target, to where it starts.
abbrev pub source_of : Situation → ℕ → ℕ
source_of s e = source (open_move_of s e)

abbrev pub closure_of : Situation → ℕ → ℕ → Bool
closure_of s e = beyond s (open_move_of s e)

-- ---- what is followed
-- Of the open moves that are left in setting x, the train follows those that leave its base, and from an open move those that it leads to.
abbrev pub start : ℕ → ℕ → List ℕ → ℕ → ℕ → Bool
start exits first planes x e = bit exits e && left_in first planes x e

abbrev pub step : (ℕ → ℕ) → ℕ → List ℕ → ℕ → ℕ → ℕ → Bool
step leads first planes x e f = bit (leads e) f && left_in first planes x f

-- What an open move leads to: to nothing where it harms the train.
abbrev pub leads_of : List ℕ → ℕ → ℕ → ℕ
leads_of onward harms e = cond (bit harms e) 0 (get_or onward e 0)

-- Open move e is in every set that has all that the train starts with, and with each open move those that it brings.
abbrev pub Follows : (ℕ → Bool) → (ℕ → ℕ → Bool) → ℕ → Type 0
Follows starts steps e =
    (P : ℕ → Bool) → ((d : ℕ) → starts d ≡ true → P d ≡ true) → ((d f : ℕ) → P d ≡ true → steps d f ≡ true → P f ≡ true) → P e ≡ true

-- The least such set.
pub record LeastFollowed (starts : ℕ → Bool) (steps : ℕ → ℕ → Bool) (A : ℕ → Bool) : Type 0 where
  pub from : (e : ℕ) → starts e ≡ true → A e ≡ true
  pub on : (e f : ℕ) → A e ≡ true → steps e f ≡ true → A f ≡ true
  pub least : (e : ℕ) → A e ≡ true → Follows starts steps e

-- `moves` has the open moves that are followed in some setting.
pub record Listed (r : Followed) : Type 0 where
  pub below : (e : ℕ) → bit r.moves e ≡ true → e < 48
  pub some : (e x : ℕ) → in_setting r.settings x e ≡ true → bit r.moves e ≡ true

-- No open move is followed.
pub record Empty (r : Followed) : Type 0 where
  pub none : (e x : ℕ) → in_setting r.settings x e ≡ false
  pub moves : r.moves ≡ 0
  pub waiting : r.waiting ≡ 0

-- In each setting among some of the block, what is followed is that set.
pub record IsFollowed (exits first among : ℕ) (planes : List ℕ) (leads : ℕ → ℕ) (r : Followed) : Type 0 where
  pub listed : Listed r
  pub each : (x : ℕ) → bit among x ≡ true → LeastFollowed (start exits first planes x) (step leads first planes x) (in_setting r.settings x)

-- ---- one step
-- Open move e is followed in the settings w too; where that is news, it waits.
pub record Added (r : Followed) (e w : ℕ) (r' : Followed) : Type 0 where
  pub settings : (d x : ℕ) → in_setting r'.settings x d ≡ (in_setting r.settings x d || (eqb d e && bit w x))
  pub size : length r'.settings ≡ length r.settings
  pub listed : (d : ℕ) → bit r'.moves d ≡ true → (d ≡ e) ⊎ (bit r.moves d ≡ true)
  pub kept : (d : ℕ) → bit r.moves d ≡ true → bit r'.moves d ≡ true
  pub fits : r'.waiting < 2 ^ 64
  pub waits : (d : ℕ) → bit r'.waiting d ≡ true → (d ≡ e) ⊎ (bit r.waiting d ≡ true)
  pub same : (d : ℕ) → bit r'.waiting d ≡ false → (bit r.waiting d ≡ false) × (get_or r'.settings d 0 ≡ get_or r.settings d 0)
  pub news : (d : ℕ) → (get_or r'.settings d 0 ≡ get_or r.settings d 0) ⊎ (bit r'.moves d ≡ true)

-- How much can still be added, and served.
unfoldable pub left_over : Followed → ℕ
left_over r = sum_by (λ (w : ℕ). 2 ^ 64 - w) r.settings * 2 ^ 64 + r.waiting

-- ---- the settings in danger
-- The settings x in which an open move e among w is so, as P says; those of `left` are still to come.
pub record Gathered (P : ℕ → ℕ → Type 0) (w left settings : ℕ) : Type 0 where
  pub sound : (x : ℕ) → bit settings x ≡ true → (e : ℕ) × (bit w e ≡ true) × P e x
  pub complete : (e x : ℕ) → bit w e ≡ true → bit left e ≡ false → P e x → bit settings x ≡ true

-- In setting x open move e is followed, and harms the train, or its closure overlaps that of one that an earlier train follows.
abbrev pub InDanger : Followed → Followed → ℕ → List ℕ → ℕ → ℕ → Type 0
InDanger r earlier harms overlaps e x =
    (in_setting r.settings x e ≡ true)
    × ((bit harms e ≡ true) ⊎ ((f : ℕ) × (bit (get_or overlaps e 0) f ≡ true) × (in_setting earlier.settings x f ≡ true)))

-- What both follow, without the open moves of the second that are still to come.
pub record Joins (a b : Followed) (left : ℕ) (r : Followed) : Type 0 where
  pub size : length r.settings ≡ length a.settings
  pub settings : (e x : ℕ) → bit left e ≡ false → in_setting r.settings x e ≡ (in_setting a.settings x e || in_setting b.settings x e)
  pub left_out : (e : ℕ) → bit left e ≡ true → get_or r.settings e 0 ≡ get_or a.settings e 0
  pub moves : (e : ℕ) → bit r.moves e ≡ (bit a.moves e || bit b.moves e)
