-- Item 7 of 02, route tables: a station file and a route file `file` are handed over with the lent `table`; the operation answers r and leaves
-- table'. An accepted route file is the text of its routes (`routes_text`). Which line may come next goes by the lines before it (`progress_at`). Lines
-- are counted from 0 here, and from 1 in a refusal; the columns are those of the station file, and past the end of a file stand zeros, so that a cut line is
-- not of the stated form.
use Rattle.std.specs.Prelude.{◌≡◌, ◌⊎◌, ◌↔◌, true, List, ℕ, ◌+◌, ◌*◌, ◌-◌, ◌≤◌, ◌<◌, length, get_or}
use Rattle.meaning.specs.declared.Line.{Line}
use Rattle.meaning.specs.declared.Situation.{Situation}
use Rattle.meaning.specs.Station.{has_pair}
use Rattle.meaning.specs.Accepted.{Accepted}
use Rattle.meaning.specs.Columns.{no_kind}
use Rattle.route_meaning.specs.Routes.{Want, Route, Progress, routes_text, stood_over, IsSignal, IsTurnout, kind_next, route_line, lines_in, progress_at, route_at, Shares, Disagree}
use Rattle.c_layout.specs.declared.FlatRefusal.{FlatRefusal}
use Rattle.c_layout.specs.declared.FlatFilled.{FlatFilled}
use Rattle.basics.specs.Lists.{In}
use Rattle.demands.specs.Words.{situation, Filled}
use Rattle.demands.specs.Demand1.{Answer, Unless, NoneOf, FirstOf, Short, FileCause}

-- ---- the station
-- A station line stands over the ordered pair (a, b), whatever its state.
abbrev pub SomeOver : Situation → ℕ → ℕ → Type 0
SomeOver s a b = has_pair (stood_over s) a b ≡ true

-- ---- a line
-- "A line R (route number, element number of its start signal, number of sections, number of turnouts)", after the progress p.
pub record RightR (s : Situation) (p : Progress) (l : Line) : Type 0 where
  -- "0 to 64 routes numbered from 1 upwards in file order"
  pub next : l.first ≡ p.routes + 1
  pub few : l.first ≤ 64
  pub signal : IsSignal s l.second
  -- "2 to 32 sections and 0 to 16 turnouts a route"
  pub sections : (2 ≤ l.third) × (l.third ≤ 32)
  pub turnouts : l.fourth ≤ 16

-- None of: "a line of another form or with the wrong letter for its place" (its kind is then that of no line; "a cut line is 14 there"), "a number outside
-- these limits or the station, or an R or W line that names an element of the wrong sort".
pub record Right (s : Situation) (p : Progress) (l : Line) : Type 0 where
  pub formed : l.kind ≡ no_kind → ⊥
  pub r : l.kind ≡ 0 → RightR s p l
  -- "K lines (a section each)", "W lines (element, state 1 or 2)"
  pub k : l.kind ≡ 1 → (1 ≤ l.first) × (l.first ≤ s.header.sections)
  pub w : l.kind ≡ 2 → IsTurnout s l.first × (1 ≤ l.second) × (l.second ≤ 2)

-- What refuses the line l after the progress p, and its number: "on one line 14 before 15".
abbrev pub RouteCause : Situation → Progress → Line → ℕ → Type 0
RouteCause s p l number =
    Unless (Right s p l) (number ≡ 14)
    -- "at the second's line, two consecutive sections whose ordered pair, first to second, no station line stands over"
    ((l.kind ≡ 1) × (p.last ≡ 0 → ⊥) × (SomeOver s p.last l.first → ⊥) × (number ≡ 15))

-- After the last line, line i is missing: a K or W line is still to come.
abbrev pub Missing : List ℕ → ℕ → Type 0
Missing file i = (i ≡ lines_in file) × (kind_next (progress_at file i) ≡ 0 → ⊥)

-- Line i is refused with `number`; "a missing one 14 with the line it would have had".
abbrev pub HasRouteCause : Situation → List ℕ → ℕ → ℕ → Type 0
HasRouteCause s file i number =
    ((i < lines_in file) × RouteCause s (progress_at file i) (route_line file i (kind_next (progress_at file i))) number) ⊎ (Missing file i × (number ≡ 14))

-- ---- the routes
-- A route has the number a, from 1.
abbrev pub IsRoute : List Route → ℕ → Type 0
IsRoute rs a = (1 ≤ a) × (a ≤ length rs)

-- What a route of an accepted file is.
pub record Proper (s : Situation) (r : Route) : Type 0 where
  pub signal : IsSignal s r.signal
  pub sections : (2 ≤ length r.sections) × (length r.sections ≤ 32)
  pub inside : (a : ℕ) → In a r.sections → (1 ≤ a) × (a ≤ s.header.sections)
  -- Every step stands under a station line.
  pub steps : (i : ℕ) → i + 1 < length r.sections → SomeOver s (get_or r.sections i 0) (get_or r.sections (i + 1) 0)
  pub turnouts : length r.wants ≤ 16
  pub wants : (w : Want) → In w r.wants → IsTurnout s w.element × (1 ≤ w.state) × (w.state ≤ 2)

-- The file is accepted, with these routes.
pub record Describes (s : Situation) (file : List ℕ) (rs : List Route) : Type 0 where
  pub no_line : NoneOf (HasRouteCause s file) (lines_in file + 1)
  -- "A route file has, for each route, a line R .., then K lines .., then W lines", "numbered from 1 upwards in file order": it is their text.
  pub text : file ≡ routes_text 1 rs
  -- "0 to 64 routes"
  pub few : length rs ≤ 64
  pub proper : (a : ℕ) → IsRoute rs a → Proper s (route_at rs a)

-- ---- the table
-- "One byte for each ordered pair (a, b), at place (a - 1) × routes + b - 1 counted from 0"
abbrev pub byte : List Route → List ℕ → ℕ → ℕ → ℕ
byte rs bytes a b = get_or bytes ((a - 1) * length rs + (b - 1)) 0

-- The bytes of the table.
pub record Table (rs : List Route) (bytes : List ℕ) : Type 0 where
  -- "Two different routes conflict exactly when they share a section or ..": "1 for conflict,"
  pub one_exactly : (a b : ℕ) → IsRoute rs a → IsRoute rs b
      → (byte rs bytes a b ≡ 1) ↔ ((a ≡ b → ⊥) × (Shares (route_at rs a) (route_at rs b) ⊎ Disagree (route_at rs a) (route_at rs b)))
  -- "0 elsewhere and for a route with itself."
  pub else_zero : (a b : ℕ) → IsRoute rs a → IsRoute rs b → (byte rs bytes a b ≡ 1 → ⊥) → byte rs bytes a b ≡ 0
  pub symmetric : (a b : ℕ) → IsRoute rs a → IsRoute rs b → byte rs bytes a b ≡ byte rs bytes b a
  pub all : length bytes ≡ length rs * length rs

-- ---- the operation
abbrev pub RoutesCause : List ℕ → List ℕ → ℕ → FlatRefusal → Type 0
RoutesCause station file room q =
    let s : Situation = situation station in
    -- "after the station's refusals"
    Unless (Accepted station) (FileCause station q)
    -- "The first such line of the route file decides and is returned"
    (Unless (NoneOf (HasRouteCause s file) (lines_in file + 1)) (FirstOf (HasRouteCause s file) (lines_in file + 1) 1 q)
    -- "and before 9 (routes × routes bytes)"
    ((rs : List Route) × Describes s file rs × Short (room < length rs * length rs) q))

pub record Fills (s : Situation) (file table table' : List ℕ) (r : FlatFilled) : Type 0 where
  pub routes : List Route
  pub described : Describes s file routes
  pub bytes : List ℕ
  pub conflicts : Table routes bytes
  -- "Lent memory past what an operation writes keeps its content."
  pub filled : Filled bytes table table'
  -- "The number of bytes filled is returned."
  pub counted : r.length ≡ length bytes

abbrev pub Item7 : List ℕ → List ℕ → List ℕ → List ℕ → FlatFilled → Type 0
Item7 station file table table' r =
    Answer r.refusal (Accepted station × Fills (situation station) file table table' r) (RoutesCause station file (length table) r.refusal)
    -- "A refusal leaves all lent memory unchanged."
    ((r.length ≡ 0) × (table' ≡ table))
