-- The open moves of the settings at all places, in two tables: what the first open elements leave, and what the last six do. And what is the same in all
-- blocks of a situation's settings.
use Rattle.std.specs.Prelude.{◌≡◌, Bool, true, false, not, ◌&&◌, cond, List, Some, ℕ, zero, suc, ◌+◌, ◌-◌, ◌*◌, ◌/◌, ◌%◌, ◌^◌, ◌≤◌, ◌<◌, ltb, get_or}
use Rattle.std.specs.Int.Bits.{bit_and}
use Rattle.meaning.specs.declared.Move.{Move}
use Rattle.meaning.specs.declared.Situation.{Situation}
use Rattle.meaning.specs.Station.{elements_of, file_states, forbidden}
use Rattle.meaning.specs.Verdict.{safe}
use Rattle.meaning.specs.Settings.{open_count}
use Rattle.bits.specs.Bits.{bit}
use Rattle.reach.specs.Reach.{memb}
use Rattle.element_states.specs.Sound.{Sound}
use Rattle.setting_order.specs.Order.{setting_at}
use Rattle.setting_tables.specs.declared.Masks.{Masks}
use Rattle.setting_tables.specs.declared.FixedReach.{FixedReach}
use Rattle.setting_tables.specs.declared.Tables.{Tables}
use Rattle.setting_tables.specs.OpenMoves.{open_move_of}
use Rattle.setting_tables.specs.Masks.{mask}
use Rattle.setting_tables.specs.declared.BySection.{BySection}
use Rattle.setting_tables.specs.Sections.{word_bit}
use Rattle.setting_tables.specs.Prepared.{no_reach, has, Prepared}
use Rattle.setting_safety.specs.declared.Blocks.{Blocks}
use Rattle.setting_safety.specs.Followed.{left_in}

-- The open moves that are left at place x of n open elements, of which the q-th is the first: each takes away those that it forbids in its state.
unfoldable pub enabled_from : Masks → ℕ → ℕ → ℕ → ℕ
enabled_from masks q zero x = masks.fixed
enabled_from masks q (suc n) x =
    cond (ltb x (2 ^ n)) (bit_and (enabled_from masks (suc q) n x) (mask masks q 0))
    (bit_and (enabled_from masks (suc q) n (x - 2 ^ n)) (mask masks q 1))

-- They stand at each place of n open elements, of which the q-th is the first, in a table.
abbrev pub Filled : Masks → ℕ → ℕ → List ℕ → Type 0
Filled masks q n enabled = (x : ℕ) → x < 2 ^ n → get_or enabled x 0 ≡ enabled_from masks q n x

-- The open moves that pass the test are those that no element forbids in the setting at place x.
pub record Marked (s : Situation) (x : ℕ) (on : ℕ → Bool) : Type 0 where
  pub below : (e : ℕ) → on e ≡ true → e < open_count (file_states s) * 4
  pub free : (e : ℕ) (m : Move) → open_move_of s e ≡ Some m
      → on e ≡ not (forbidden (elements_of s) (setting_at (file_states s) x) m.from.0 m.to.0)

-- The open moves of w among `moves` are those whose closures meet the set.
pub record Meeting (set : ℕ → Bool) (moves : ℕ) (closures : List FixedReach) (w : ℕ) : Type 0 where
  pub from : (e : ℕ) → bit w e ≡ true → (c : ℕ) × (set c ≡ true) × (memb (get_or closures e no_reach).reach.words c ≡ true)
  pub all : (e c : ℕ) → bit moves e ≡ true → 1 ≤ c → c ≤ 512 → set c ≡ true → memb (get_or closures e no_reach).reach.words c ≡ true → bit w e ≡ true

-- The open moves but those of `wide` stand in the words of the sections of their closures.
pub record ClosuresBySection (moves : ℕ) (closures : List FixedReach) (wide : ℕ) (table : BySection) : Type 0 where
  pub only : (c e : ℕ) → word_bit table c e ≡ true → has closures e c ≡ true
  pub all : (c e : ℕ) → bit moves e ≡ true → bit wide e ≡ false → has closures e c ≡ true → (word_bit table c e ≡ true) × (memb table.some.words c ≡ true)
  pub part : (e : ℕ) → bit wide e ≡ true → bit moves e ≡ true

-- ---- blocks
-- Place x is setting x % 64 of block x / 64.
pub record Ready (s : Situation) (tables : Tables) (blocks : Blocks) : Type 0 where
  pub prepared : Prepared s tables
  pub sound : Sound s
  pub few : (z e : ℕ) → z < blocks.count → bit (get_or blocks.first z 0) e ≡ true → e < 48
  pub marked : (x : ℕ) → x < 2 ^ open_count (file_states s) → Marked s x (left_in (get_or blocks.first (x / 64) 0) blocks.planes (x % 64))
  pub overlaps : (e : ℕ) → e < 48
      → Meeting (memb (get_or tables.closures e no_reach).reach.words) tables.moves tables.closures (get_or blocks.overlaps e 0)
  pub harms : (t : ℕ) → bit tables.trains.affected t ≡ true
      → Meeting (λ c. memb tables.trains.reach.words c && not (memb (get_or tables.bases t no_reach).reach.words c)) tables.moves tables.closures
      (get_or blocks.harms t 0)
  pub counted : (x : ℕ) → x < 2 ^ open_count (file_states s) → (x / 64 < blocks.count) × (bit blocks.all (x % 64) ≡ true)
  pub placed : (z i : ℕ) → z < blocks.count → bit blocks.all i ≡ true → (i < 64) × (z * 64 + i < 2 ^ open_count (file_states s))

-- The bits of w are the safe settings of block z.
pub record SafeIn (s : Situation) (z w : ℕ) : Type 0 where
  pub inside : (i : ℕ) → bit w i ≡ true
      → (i < 64) × (z * 64 + i < 2 ^ open_count (file_states s)) × (safe s (setting_at (file_states s) (z * 64 + i)) ≡ true)
  pub others : (i : ℕ) → i < 64 → z * 64 + i < 2 ^ open_count (file_states s) → bit w i ≡ false
      → safe s (setting_at (file_states s) (z * 64 + i)) ≡ false
