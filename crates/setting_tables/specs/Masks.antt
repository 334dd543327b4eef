-- Which open moves a setting leaves: those that no element forbids. The open moves of a pair of sections are found by two tables, of their
-- sources and of their targets.
use Rattle.std.specs.Prelude.{◌≡◌, Bool, true, false, not, ◌&&◌, ◌||◌, List, [], ◌∷◌, Option, Some, None, ℕ, suc, ◌*◌, ◌≤◌, ◌<◌, eqb, ltb, get_or}
use Rattle.meaning.specs.declared.Move.{Move}
use Rattle.meaning.specs.declared.Element.{Element}
use Rattle.meaning.specs.declared.Situation.{Situation}
use Rattle.meaning.specs.Station.{elements_of, file_states, forbids}
use Rattle.meaning.specs.Settings.{open_count}
use Rattle.bits.specs.Bits.{bit}
use Rattle.reach.specs.Reach.{memb}
use Rattle.setting_tables.specs.declared.Ends.{Ends}
use Rattle.setting_tables.specs.declared.Masks.{Masks}
use Rattle.setting_tables.specs.OpenMoves.{open_kinds, default_kind, open_move_of}

-- A fixed element forbids a move.
unfoldable pub fixed_forbid : List Element → ℕ → ℕ → Bool
fixed_forbid [] a b = false
fixed_forbid (e ∷ es) a b = (not (eqb e.state 0) && forbids e.kind e.state a b) || fixed_forbid es a b

-- ---- the tables
-- An open move starts at section a, ends at section b.
abbrev pub starts_at : ℕ → Option Move → Bool
starts_at a None = false
starts_at a (Some m) = eqb m.from.0 a

abbrev pub ends_at : ℕ → Option Move → Bool
ends_at b None = false
ends_at b (Some m) = eqb m.to.0 b

-- Bit e of number a says whether open move e passes the test at section a, for the open moves before open move n.
abbrev pub Noted : (ℕ → ℕ → Bool) → ℕ → List ℕ → Type 0
Noted test n table = (a e : ℕ) → a ≤ 512 → bit (get_or table a 0) e ≡ (ltb e n && test a e)

-- Open move e is the move f e.
pub record Indexed (f : ℕ → Option Move) (n : ℕ) (ends : Ends) : Type 0 where
  pub from : Noted (λ a e. starts_at a (f e)) n ends.from.words
  pub to : Noted (λ b e. ends_at b (f e)) n ends.to
  pub sources : (e : ℕ) (m : Move) → e < n → f e ≡ Some m → memb ends.from.some.words m.from.0 ≡ true

-- The bits of w are the open moves that pass a test.
pub record Selects (ends : Ends) (test : ℕ → ℕ → Bool) (w : ℕ) : Type 0 where
  pub exactly : (f : ℕ → Option Move) → Indexed f 48 ends → (e : ℕ) (m : Move) → e < 48 → f e ≡ Some m → bit w e ≡ test m.from.0 m.to.0

-- ---- the masks
-- Number y of the q-th open element, from 0.
abbrev pub mask : Masks → ℕ → ℕ → ℕ
mask masks q y = get_or (get_or masks.opens q []) y 0

-- Number y of the q-th open element has the open moves that it leaves in state y + 1, and `fixed` those that the fixed elements leave.
pub record Masked (s : Situation) (masks : Masks) : Type 0 where
  pub by_open : (q y e : ℕ) (m : Move) → q < open_count (file_states s) → y < 2 → e < 48 → open_move_of s e ≡ Some m
      → bit (mask masks q y) e ≡ not (forbids (get_or (open_kinds (elements_of s)) q default_kind) (suc y) m.from.0 m.to.0)
  pub by_fixed : (e : ℕ) (m : Move) → e < 48 → open_move_of s e ≡ Some m
      → bit masks.fixed e ≡ not (fixed_forbid (elements_of s) m.from.0 m.to.0)
  pub fixed_below : (e : ℕ) → bit masks.fixed e ≡ true → e < open_count (file_states s) * 4
