-- What the reader of a route file keeps: its place, and words with a bit for each route. The operation's own contract names `routes_answer` and
-- `after_routes` alone.
use Rattle.std.specs.Prelude.{Result, Option, None, Some, MatchResult, ◌≡◌, Bool, true, ◌||◌, cond, List, [], ◌∷◌, ◌++◌, ℕ, ◌+◌, ◌-◌, ◌/◌, ◌%◌, ◌≤◌, ◌<◌, eqb, ltb, length, get_or}
use Rattle.meaning.specs.declared.Section.{Section}
use Rattle.meaning.specs.declared.Situation.{Situation}
use Rattle.meaning.specs.declared.Line.{Line}
use Rattle.meaning.specs.declared.Cause.{Cause}
use Rattle.meaning.specs.declared.Refusal.{Refusal}
use Rattle.meaning.specs.Refusals.{number_of}
use Rattle.meaning.specs.Paths.{mem}
use Rattle.route_meaning.specs.Routes.{Route, Progress, Rest, no_route, route_cause, after_line, line_before, wanted, conflict, routes_read, pair_byte}
use Rattle.bits.specs.Bits.{bit}
use Rattle.routes.specs.declared.RouteWords.{RouteWords}
use Rattle.routes.specs.declared.place.RouteLine.{RouteLine}
use Rattle.routes.specs.declared.place.RouteLine.TheVariants as line
use Rattle.routes.specs.declared.place.Place.{Place}

-- The kinds of lines by their places in the table of record kinds.
abbrev pub number_of_line : RouteLine → ℕ
number_of_line line.R = 0
number_of_line line.K = 1
number_of_line line.W = 2

-- The number of a section, 0 for none.
abbrev pub number_of_section : Option Section → ℕ
number_of_section None = 0
number_of_section (Some a) = a.0

-- The station has no section of this number.
abbrev pub is_outside : Situation → ℕ → Bool
is_outside s n = eqb n 0 || ltb s.header.sections n

-- How far the file has been read at a place.
abbrev pub progress_of : Place → Progress
progress_of p = record { routes = p.routes; sections = p.sections; turnouts = p.turnouts; last = number_of_section p.last }

-- The kind of line that is to come.
abbrev pub kind_of : Place → ℕ
kind_of p = cond (eqb p.sections 0) (cond (eqb p.turnouts 0) 0 2) 1

-- The state of a turnout that is diverted, or straight.
abbrev pub state_of : Bool → ℕ
state_of diverted = cond diverted 2 1

-- The word of the routes that want element e in state x.
abbrev pub want_word : RouteWords → ℕ → ℕ → ℕ
want_word words e x = get_or (get_or words.wants (e - 1) []) (x - 1) 0

-- Bit k is that of route k, from 0; past the last there is none.
pub record Held (words : RouteWords) (rs : List Route) : Type 0 where
  pub sections : (a k : ℕ) → 1 ≤ a → a ≤ 512 → k < 64 → bit (get_or words.sections (a - 1) 0) k ≡ mem a (get_or rs k no_route).sections
  pub wants : (x e k : ℕ) → 1 ≤ x → x ≤ 2 → 1 ≤ e → e ≤ 256 → k < 64 → bit (want_word words e x) k ≡ wanted e x (get_or rs k no_route).wants
  pub conflicts : (j k : ℕ) → j < k → k < 64 → bit (get_or words.conflicts k 0) j ≡ conflict (get_or rs k no_route) (get_or rs j no_route)
  -- No W line wants another state than 1 or 2.
  pub states : (k e x : ℕ) → wanted e x (get_or rs k no_route).wants ≡ true → (1 ≤ x) × (x ≤ 2)

-- ---- the routes so far, the last one as far as its lines go
-- A section or a W line more of it.
abbrev pub add_section : ℕ → Route → Route
add_section a r = record { signal = r.signal; sections = r.sections ++ (a ∷ []); wants = r.wants }

abbrev pub add_want : ℕ → ℕ → Route → Route
add_want e x r = record { signal = r.signal; sections = r.sections; wants = r.wants ++ (record { element = e; state = x } ∷ []) }

abbrev pub to_last : (Route → Route) → List Route → List Route
to_last f [] = []
to_last f (r ∷ []) = f r ∷ []
to_last f (r ∷ q ∷ rs) = r ∷ to_last f (q ∷ rs)

-- All of them, with what the lines to come say.
abbrev pub with_rest : Rest → Route → Route
with_rest t r = record { signal = r.signal; sections = r.sections ++ t.sections; wants = r.wants ++ t.wants }

abbrev pub joined : List Route → Rest → List Route
joined rs t = to_last (with_rest t) rs ++ t.routes

-- The words are those of these n routes.
abbrev pub SoFar : RouteWords → ℕ → List Route → Type 0
SoFar words n rs = (n ≡ length rs) × Held words rs

-- A line with a cause.
abbrev pub Stops : Situation → Line → Place → Cause → Type 0
Stops s l p e = number_of e ≡ route_cause s (progress_of p) l

-- A line with none: the place and the words after it.
pub record Goes (s : Situation) (l : Line) (p : Place) (words words' : RouteWords) (p' : Place) : Type 0 where
  pub none : 0 ≡ route_cause s (progress_of p) l
  pub place : progress_of p' ≡ after_line (progress_of p) l
  pub more : (rs : List Route) → SoFar words p.routes rs
      → (rs' : List Route) × SoFar words' p'.routes rs' × ((t : Rest) → joined rs' t ≡ joined rs (line_before l t))

-- A line taken.
abbrev pub Takes : Situation → Line → Place → RouteWords → RouteWords → Result Place Cause → Type 0
Takes s l p words words' r = MatchResult r (Goes s l p words words') (Stops s l p)

-- What reading gives: how many routes, with their words; or the refusal.
pub record RoutesAre (s : Situation) (file : List ℕ) (words : RouteWords) (n : ℕ) : Type 0 where
  pub none : (routes_read s file).refusal.number ≡ 0
  pub count : n ≡ length (routes_read s file).routes
  pub few : n ≤ 64
  pub held : Held words (routes_read s file).routes

abbrev pub RefusedWith : Situation → List ℕ → Refusal → Type 0
RefusedWith s file q = ((routes_read s file).refusal ≡ q) × (q.number ≡ 0 → ⊥)

-- The byte at place k of the table of these routes.
abbrev pub byte_at : List Route → ℕ → ℕ
byte_at rs k = pair_byte rs (k / length rs + 1) (k % length rs + 1)
