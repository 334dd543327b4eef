-- What a situation holds, and which moves it permits (01, "The station file" and "Moves, reach and verdict").
use Rattle.std.specs.Prelude.{Bool, false, not, ◌&&◌, ◌||◌, cond, List, [], ◌∷◌, ◌++◌, map, ℕ, zero, suc, eqb, take, get_or}
use Rattle.meaning.specs.declared.Section.{Section}
use Rattle.meaning.specs.declared.Move.{Move}
use Rattle.meaning.specs.declared.Kind.{Kind}
use Rattle.meaning.specs.declared.Kind.TheVariants as kind
use Rattle.meaning.specs.declared.Element.{Element}
use Rattle.meaning.specs.declared.Train.{Train}
use Rattle.meaning.specs.declared.Situation.{Situation}

-- ---- values by their numbers
abbrev pub section : ℕ → Section
section a = record { 0 = a }

abbrev pub move_between : ℕ → ℕ → Move
move_between a b = record { from = section a; to = section b }

-- A signal over the move from a to b, in state x.
abbrev pub signal_over : ℕ → ℕ → ℕ → Element
signal_over a b x = record { kind = kind.Signal (move_between a b); state = x }

-- A turnout with stem a, straight leg b and diverted leg c, in state x.
abbrev pub turnout_joining : ℕ → ℕ → ℕ → ℕ → Element
turnout_joining a b c x = record { kind = kind.Turnout (record { stem = section a; straight = section b; diverted = section c }); state = x }

-- A train of n sections: the first n of a, b, c and d.
abbrev pub train_in : ℕ → ℕ → ℕ → ℕ → ℕ → Train
train_in n a b c d = record { count = n; first = section a; second = section b; third = section c; fourth = section d }

-- ---- what a situation holds
-- "entries past its counts are ignored"
unfoldable pub plain_moves : Situation → List Move
plain_moves s = take s.header.plain s.plain

unfoldable pub elements_of : Situation → List Element
elements_of s = take s.header.elements s.elements

unfoldable pub file_states : Situation → List ℕ
unfolding elements_of
file_states s = map (λ (e : Element). e.state) (elements_of s)

unfoldable pub trains_of : Situation → List Train
trains_of s = take s.header.trains s.trains

-- "A T line holds one to four different sections, filled from the left" (02, Item 2): those that a train's count counts.
unfoldable pub sections_of_train : Train → List Section
sections_of_train t = take t.count (t.first ∷ t.second ∷ t.third ∷ t.fourth ∷ [])

-- The entry past the trains: a train that stands nowhere.
abbrev pub no_train : Train
no_train = train_in 0 0 0 0 0

-- The sections where train t stands, none for a number that no train has. "Trains and elements are numbered in file order", from 1.
unfoldable pub standing : Situation → ℕ → List ℕ
unfolding trains_of sections_of_train
standing s zero = []
standing s (suc t) = map (λ (a : Section). a.0) (sections_of_train (get_or (trains_of s) t no_train))

-- The moves of a state, of those of states 0 (open), 1 and 2. No other state permits a move.
abbrev pub by_state : ℕ → List Move → List Move → List Move → List Move
by_state zero whenOpen when1 when2 = whenOpen
by_state (suc zero) whenOpen when1 when2 = when1
by_state (suc (suc zero)) whenOpen when1 when2 = when2
by_state (suc (suc (suc x))) whenOpen when1 when2 = []

abbrev pub both_ways : Section → Section → List Move
both_ways a b = record { from = a; to = b } ∷ record { from = b; to = a } ∷ []

-- What an element permits in state x: a move is permitted when ".. a signal over it is at 1, or a turnout at 1 joins stem and straight leg
-- (both ways), or a turnout at 2 joins stem and diverted leg (both ways). Nothing else is permitted": an open element permits nothing.
unfoldable pub moves_of : Kind → ℕ → List Move
moves_of (kind.Signal m) x = by_state x [] (m ∷ []) []
moves_of (kind.Turnout t) x = by_state x [] (both_ways t.stem t.straight) (both_ways t.stem t.diverted)

-- The moves that some element permits, with the elements in the states σ.
unfoldable pub element_moves : List Element → List ℕ → List Move
unfolding moves_of
element_moves [] σ = []
element_moves (e ∷ es) [] = []
element_moves (e ∷ es) (x ∷ σ) = moves_of e.kind x ++ element_moves es σ

-- The ordered pair (a, b) is in the list.
abbrev pub has_pair : List Move → ℕ → ℕ → Bool
has_pair [] a b = false
has_pair (m ∷ ms) a b = (eqb a m.from.0 && eqb b m.to.0) || has_pair ms a b

-- The move from section a to section b is one of the permitted moves ms.
abbrev pub permitted : List Move → ℕ → ℕ → Bool
permitted ms a b = has_pair ms a b

-- "An L or P line stands over the ordered pair (from, to). A D line stands over four: stem to each leg and each leg to stem": the pairs that an
-- element stands over, whatever its state, and those that elements stand over.
abbrev pub pairs_over : Kind → List Move
pairs_over (kind.Signal m) = m ∷ []
pairs_over (kind.Turnout t) = both_ways t.stem t.straight ++ both_ways t.stem t.diverted

abbrev pub over_elements : List Element → List Move
over_elements [] = []
over_elements (e ∷ es) = pairs_over e.kind ++ over_elements es

-- An element of kind k forbids the move from a to b in state x: it stands over the pair, and does not permit it.
abbrev pub forbids : Kind → ℕ → ℕ → ℕ → Bool
forbids k x a b = has_pair (pairs_over k) a b && not (permitted (moves_of k x) a b)

-- Some element forbids the move from a to b. Every element has a state in σ; one without a state would count as open.
unfoldable pub forbidden : List Element → List ℕ → ℕ → ℕ → Bool
unfolding moves_of
forbidden [] σ a b = false
forbidden (e ∷ es) [] a b = forbids e.kind 0 a b || forbidden es [] a b
forbidden (e ∷ es) (x ∷ σ) a b = forbids e.kind x a b || forbidden es σ a b

-- The moves of a list that pass a test.
unfoldable pub passing : (ℕ → ℕ → Bool) → List Move → List Move
passing f [] = []
passing f (m ∷ ms) = cond (f m.from.0 m.to.0) (m ∷ passing f ms) (passing f ms)

-- "An ordered pair may now stand under one signal and one turnout, and the move is then permitted exactly when both permit it" (02, Item 3):
-- what some element permits, and none forbids.
unfoldable pub agreed_moves : List Element → List ℕ → List Move
unfolding element_moves forbidden passing
agreed_moves es σ = passing (λ a b. not (forbidden es σ a b)) (element_moves es σ)

-- The moves that a situation permits with its elements in the states σ, one state for each element: "A move from a to b is permitted when a P line
-- has it", or when some element permits it and none that stands over the pair forbids it.
unfoldable pub moves : Situation → List ℕ → List Move
unfolding plain_moves elements_of agreed_moves
moves s σ = plain_moves s ++ agreed_moves (elements_of s) σ
