-- The open moves of a situation: those that its open elements can permit, four for each.
use Rattle.std.specs.Prelude.{◌≡◌, List, [], ◌∷◌, Option, Some, None, ℕ, zero, suc, cond, ltb, ◌+◌, ◌*◌, ◌/◌, ◌%◌, ◌<◌, length, get_or, slice_get}
use Rattle.std.specs.Option.{option_and_then}
use Rattle.meaning.specs.declared.Move.{Move}
use Rattle.meaning.specs.declared.Kind.{Kind}
use Rattle.meaning.specs.declared.Kind.TheVariants.{Signal}
use Rattle.meaning.specs.declared.Element.{Element}
use Rattle.meaning.specs.declared.Situation.{Situation}
use Rattle.meaning.specs.Station.{elements_of, moves_of}
use Rattle.meaning.specs.Sections.{IsSection}
use Rattle.meaning.specs.File.{no_move}

-- The open elements' kinds, in element order.
unfoldable pub open_kinds : List Element → List Kind
open_kinds [] = []
open_kinds (e ∷ es) = elim e.state [ zero ↦ e.kind ∷ open_kinds es | suc f ↦ open_kinds es ]

-- What stands past the open elements.
abbrev pub default_kind : Kind
default_kind = Signal no_move

-- They are collected, at a place each, and the other places are empty.
abbrev pub AreOpenKinds : Situation → List (Option Kind) → Type 0
AreOpenKinds s kinds = (p : ℕ) (d : Option Kind) → p < 12 → get_or kinds p d ≡ slice_get (open_kinds (elements_of s)) p

-- The i-th open move of an element, from 0: its moves in state 1, then those in state 2, two for each.
unfoldable pub open_move : Kind → ℕ → Option Move
unfolding moves_of
open_move kind i = slice_get (moves_of kind (i / 2 + 1)) (i % 2)

-- A row has those of an element, or none where there is none.
abbrev pub MovesOf : Option Kind → List (Option Move) → Type 0
MovesOf kind row = (i : ℕ) → i < 4 → get_or row i None ≡ option_and_then (λ k. open_move k i) kind

-- Open move e of a situation.
unfoldable pub open_move_of : Situation → ℕ → Option Move
unfolding elements_of open_kinds open_move
open_move_of s e =
    cond (ltb e (length (open_kinds (elements_of s)) * 4)) (open_move (get_or (open_kinds (elements_of s)) (e / 4) default_kind) (e % 4)) None

-- The section where it starts, 0 where it is no move.
abbrev pub source : Option Move → ℕ
source None = 0
source (Some m) = m.from.0

-- ---- collected
-- Open move e of the rows.
abbrev pub at : List (List (Option Move)) → ℕ → Option Move
at rows e = get_or (get_or rows (e / 4) []) (e % 4) None

-- They go from sections to sections.
abbrev pub AreInside : List (List (Option Move)) → Type 0
AreInside rows = (e : ℕ) (m : Move) → e < 48 → at rows e ≡ Some m → IsSection m.from × IsSection m.to

-- They are those of the situation.
abbrev pub IsOpenMoves : Situation → List (List (Option Move)) → Type 0
IsOpenMoves s rows = (e : ℕ) → e < 48 → at rows e ≡ open_move_of s e
