-- The tables from which the settings of a situation are tried. The fixed moves are those that the file's states permit: an open
-- element permits none.
use Rattle.std.specs.Prelude.{◌≡◌, Bool, true, false, List, [], ◌∷◌, Option, Some, None, ℕ, ◌<◌, get_or}
use Rattle.meaning.specs.declared.Move.{Move}
use Rattle.meaning.specs.declared.Situation.{Situation}
use Rattle.meaning.specs.Station.{file_states, moves}
use Rattle.meaning.specs.Paths.{mem, reach}
use Rattle.bits.specs.Bits.{bit}
use Rattle.reach.specs.Reach.{memb}
use Rattle.setting_tables.specs.declared.FixedReach.{FixedReach}
use Rattle.reach.specs.declared.Reach.{Reach}
use Rattle.setting_tables.specs.declared.Tables.{Tables}
use Rattle.setting_tables.specs.OpenMoves.{open_move_of, source}
use Rattle.setting_tables.specs.Masks.{Masked}
use Rattle.setting_tables.specs.Trains.{Union, by_fixed, Apart}

-- What the fixed moves reach from the target of an open move; nothing where it is no move.
abbrev pub beyond : Situation → Option Move → ℕ → Bool
beyond s None c = false
beyond s (Some m) c = mem c (reach (moves s (file_states s)) (m.to.0 ∷ []))

-- What stands past the rows of a table.
abbrev pub no_reach : FixedReach
no_reach = record { reach = record { words = [] }; exits = 0 }

-- Row t of a table of reaches has these sections.
abbrev pub has : List FixedReach → ℕ → ℕ → Bool
has rows t = memb (get_or rows t no_reach).reach.words

-- Row t of `bases` is what train t reaches by the fixed moves, for the first n trains, no two of which meet; `all` is what they all reach.
pub record PutBases (s : Situation) (n : ℕ) (bases : List FixedReach) (all : Reach) : Type 0 where
  pub apart : Apart (by_fixed s) (λ t. t < n)
  pub base : (t c : ℕ) → t < n → has bases t c ≡ by_fixed s t c
  pub union : Union (by_fixed s) (λ t. t < n) (memb all.words)

-- Row e of `closures` is what the fixed moves reach beyond open move e, for the first n open moves, and `moves` has those that there are.
pub record PutClosures (s : Situation) (n : ℕ) (closures : List FixedReach) (moves : ℕ) : Type 0 where
  pub closure : (e c : ℕ) → e < n → has closures e c ≡ beyond s (open_move_of s e) c
  pub below : (e : ℕ) → bit moves e ≡ true → e < n
  pub all : (e : ℕ) (m : Move) → e < n → open_move_of s e ≡ Some m → bit moves e ≡ true

-- Bit e of the exits of row t says whether open move e starts there, for the first n rows; `some` are those of them that have exits.
pub record Exits (f : ℕ → Option Move) (n : ℕ) (rows : List FixedReach) (some : ℕ) : Type 0 where
  pub exits : (t e : ℕ) → t < n → e < 48 → bit (get_or rows t no_reach).exits e ≡ has rows t (source (f e))
  pub below : (t : ℕ) → bit some t ≡ true → t < n
  pub none : (t e : ℕ) → t < n → bit some t ≡ false → bit (get_or rows t no_reach).exits e ≡ false

-- They are put into a table that has the reaches.
pub record PutExits (f : ℕ → Option Move) (n : ℕ) (old new : List FixedReach) (some : ℕ) : Type 0 where
  pub kept : (t c : ℕ) → has new t c ≡ has old t c
  pub put : Exits f n new some

-- Of the exits of a set some are left out, which end in it: who has the set reaches nothing more by these.
pub record WaysBack (f : ℕ → Option Move) (set : List ℕ) (exits left : ℕ) : Type 0 where
  pub part : (e : ℕ) → bit left e ≡ true → bit exits e ≡ true
  pub others : (e : ℕ) (m : Move) → e < 48 → bit exits e ≡ true → bit left e ≡ false → f e ≡ Some m → memb set m.to.0 ≡ true

-- It is so in the first n rows.
pub record Onward (f : ℕ → Option Move) (rows : List FixedReach) (n : ℕ) (onward : List ℕ) : Type 0 where
  pub row : (d : ℕ) → d < n → WaysBack f (get_or rows d no_reach).reach.words (get_or rows d no_reach).exits (get_or onward d 0)

-- The tables of a situation in which no two trains meet by the fixed moves alone.
pub record Prepared (s : Situation) (tables : Tables) : Type 0 where
  pub bases : PutBases s s.header.trains tables.bases tables.trains.reach
  pub affected : Exits (open_move_of s) s.header.trains tables.bases tables.trains.affected
  pub closures : PutClosures s 48 tables.closures tables.moves
  pub exits : (d e : ℕ) → d < 48 → e < 48 → bit (get_or tables.closures d no_reach).exits e ≡ has tables.closures d (source (open_move_of s e))
  pub onward : Onward (open_move_of s) tables.closures 48 tables.onward
  pub masks : Masked s tables.masks
