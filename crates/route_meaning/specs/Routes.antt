-- The route file and the table of conflicts (02, item 7). Lines are counted from 0 here, and from 1 in refusals; the columns are those of
-- the station file, and past the end of the file stand zeros, which no line has.
use Rattle.std.specs.Prelude.{Result, Option, Some, None, ◌≡◌, Bool, true, false, not, ◌&&◌, ◌||◌, cond, List, [], ◌∷◌, ◌++◌, map, ℕ, zero, suc, ◌+◌, ◌*◌, ◌-◌, ◌/◌, ◌%◌, ◌≤◌, eqb, ltb, length, get_or, drop}
use Rattle.meaning.specs.declared.Move.{Move}
use Rattle.meaning.specs.declared.Turnout.{Turnout}
use Rattle.meaning.specs.declared.Kind.{Kind}
use Rattle.meaning.specs.declared.Kind.TheVariants as kind
use Rattle.meaning.specs.declared.Element.{Element}
use Rattle.meaning.specs.declared.Situation.{Situation}
use Rattle.meaning.specs.declared.Refusal.{Refusal}
use Rattle.route_meaning.specs.declared.RouteField.{RouteField}
use Rattle.route_meaning.specs.declared.RouteField.TheVariants as field
use Rattle.meaning.specs.declared.RecordKind.{RecordKind}
use Rattle.meaning.specs.declared.Line.{Line}
use Rattle.meaning.specs.Station.{plain_moves, elements_of, has_pair, over_elements}
use Rattle.meaning.specs.Paths.{mem}
use Rattle.meaning.specs.Parts.{kind_of_element}
use Rattle.meaning.specs.Columns.{old, row_text, rows_of, row_at}
use Rattle.basics.specs.Lists.{list_of, In}
use Rattle.meaning.specs.File.{refusal, reading, is_none, unless_refused}
use Rattle.meaning.specs.Operations.{first_of}

-- ---- what a station's lines stand over, and the sorts of its elements
-- The pairs that the lines of a station stand over, whatever the elements' states.
unfoldable pub stood_over : Situation → List Move
stood_over s = plain_moves s ++ over_elements (elements_of s)

-- Element e is a signal.
abbrev pub IsSignal : Situation → ℕ → Type 0
IsSignal s e = (1 ≤ e) × (e ≤ length (elements_of s)) × ((m : Move) × (kind_of_element s e ≡ kind.Signal m))

-- Element e is a turnout.
abbrev pub IsTurnout : Situation → ℕ → Type 0
IsTurnout s e = (1 ≤ e) × (e ≤ length (elements_of s)) × ((t : Turnout) × (kind_of_element s e ≡ kind.Turnout t))

-- The sort of an element: 1 a signal, 2 a turnout.
abbrev pub sort_of : Kind → ℕ
sort_of (kind.Signal m) = 1
sort_of (kind.Turnout t) = 2

-- Entry k of a list, counted from 1; 0 where there is none.
abbrev pub nth : List ℕ → ℕ → ℕ
nth xs zero = 0
nth xs (suc k) = get_or xs k 0

-- The sort of element e, from 1; 0 where the station has none of that number.
unfoldable pub sort_at : Situation → ℕ → ℕ
sort_at s e = nth (map (λ (x : Element). sort_of x.kind) (elements_of s)) e

-- ---- a route
-- A W line: the element, and the state in which the route wants it.
pub record Want : Type 0 where
  pub element : ℕ
  pub state : ℕ

-- The element number of its start signal, its sections and its W lines, in file order.
pub record Route : Type 0 where
  pub signal : ℕ
  pub sections : List ℕ
  pub wants : List Want

abbrev pub no_route : Route
no_route = record { signal = 0; sections = []; wants = [] }

-- THE TEXT OF ROUTES numbered from n: "a route file has, for each route, a line R (route number, element number of its start signal, number of
-- sections, number of turnouts), then K lines (a section each), then W lines (element, state 1 or 2)". Byte 82 is R, 75 is K, 87 is W.
unfoldable pub routes_text : ℕ → List Route → List ℕ
routes_text n [] = []
routes_text n (r ∷ rs) =
    row_text 82 4 n r.signal (length r.sections) (length r.wants)
    ++ (rows_of (λ a. row_text 75 1 a 0 0 0) r.sections
    ++ (rows_of (λ (w : Want). row_text 87 2 w.element w.state 0 0) r.wants ++ routes_text (n + 1) rs))

-- ---- the lines of the route file
-- How far it has been read: how many routes have begun, how many K lines and W lines of the last are still to come, and its last section, 0 before
-- its first.
pub record Progress : Type 0 where
  pub routes : ℕ
  pub sections : ℕ
  pub turnouts : ℕ
  pub last : ℕ

abbrev pub nothing_read : Progress
nothing_read = record { routes = 0; sections = 0; turnouts = 0; last = 0 }

-- "A line R .., then K lines .., then W lines": the kind of the line to come, 1 for a K line, 2 for a W line, 0 for an R line (or the end).
unfoldable pub kind_next : Progress → ℕ
kind_next p = cond (eqb p.sections 0) (cond (eqb p.turnouts 0) 0 2) 1

-- The table of record kinds of the route file: R ("route number, element number of its start signal, number of sections, number of turnouts"),
-- K ("a section each"), W ("element, state 1 or 2").
abbrev pub route_kinds : List (RecordKind (Option RouteField))
route_kinds =
    record { letter = 82; filled = 4; meaning = Some field.Route ∷ Some field.StartSignal ∷ Some field.SectionCount ∷ Some field.TurnoutCount ∷ [] }
    ∷ record { letter = 75; filled = 1; meaning = Some field.Section ∷ None ∷ None ∷ None ∷ [] }
    ∷ record { letter = 87; filled = 2; meaning = Some field.Turnout ∷ Some field.State ∷ None ∷ None ∷ [] }
    ∷ []

-- The entry of kind k in the table; past the table, an entry that no line has.
abbrev pub route_kind : ℕ → RecordKind (Option RouteField)
route_kind k = get_or route_kinds k (record { letter = 0; filled = 0; meaning = None ∷ None ∷ None ∷ None ∷ [] })

-- Line i as a line of kind k. A line that has another form or letter, or is cut, has the kind of no line.
unfoldable pub route_line : List ℕ → ℕ → ℕ → Line
route_line file i k = row_at old file i k (route_kind k).letter (route_kind k).filled

-- "A number outside these limits or the station, or an R or W line that names an element of the wrong sort". R: "route number, element
-- number of its start signal, number of sections, number of turnouts"; "0 to 64 routes numbered from 1 upwards in file order, 2 to 32
-- sections and 0 to 16 turnouts a route".
abbrev pub wrong_r : Situation → Progress → Line → Bool
wrong_r s p l =
    not (eqb l.first (p.routes + 1)) || ltb 64 l.first || not (eqb (sort_at s l.second) 1)
    || ltb l.third 2 || ltb 32 l.third || ltb 16 l.fourth

-- K: a section.
abbrev pub wrong_k : Situation → Line → Bool
wrong_k s l = eqb l.first 0 || ltb s.header.sections l.first

-- W: "element, state 1 or 2".
abbrev pub wrong_w : Situation → Line → Bool
wrong_w s l = not (eqb (sort_at s l.first) 2) || eqb l.second 0 || ltb 2 l.second

-- "Two consecutive sections whose ordered pair, first to second, no station line stands over", at the second.
abbrev pub no_step_of : Situation → Progress → Line → Bool
no_step_of s p l = not (eqb p.last 0) && not (has_pair (stood_over s) p.last l.first)

-- The cause of a line, "14 before 15", 0 where there is none.
unfoldable pub route_cause : Situation → Progress → Line → ℕ
route_cause s p l =
    cond (eqb l.kind 0) (cond (wrong_r s p l) 14 0)
    (cond (eqb l.kind 1) (cond (wrong_k s l) 14 (cond (no_step_of s p l) 15 0))
    (cond (eqb l.kind 2) (cond (wrong_w s l) 14 0)
    14))

-- The progress after one line more. An R line begins a route.
unfoldable pub after_line : Progress → Line → Progress
after_line p l =
    cond (eqb l.kind 0) (record { routes = p.routes + 1; sections = l.third; turnouts = l.fourth; last = 0 })
    (cond (eqb l.kind 1) (record { routes = p.routes; sections = p.sections - 1; turnouts = p.turnouts; last = l.first })
    (record { routes = p.routes; sections = p.sections; turnouts = p.turnouts - 1; last = p.last }))

-- ---- reading
-- "The first such line of the route file decides": the refusal of the m lines from line i on, after the progress p; number 0 where there is none. At the
-- end no line may be missing.
unfoldable pub refusal_from : Situation → List ℕ → ℕ → ℕ → Progress → Refusal
refusal_from s file zero i p = cond (eqb (kind_next p) 0) (refusal 0 0) (refusal 14 (i + 1))
refusal_from s file (suc m) i p =
    let l : Line = route_line file i (kind_next p) in
    cond (eqb (route_cause s p l) 0) (refusal_from s file m (i + 1) (after_line p l)) (refusal (route_cause s p l) (i + 1))

-- What lines say: the sections and the W lines of the route that has begun before them, and the routes behind it.
pub record Rest : Type 0 where
  pub sections : List ℕ
  pub wants : List Want
  pub routes : List Route

abbrev pub no_rest : Rest
no_rest = record { sections = []; wants = []; routes = [] }

-- What the lines say with one line more before them.
unfoldable pub line_before : Line → Rest → Rest
line_before l r =
    cond (eqb l.kind 0)
    (record { sections = []; wants = []; routes = record { signal = l.second; sections = r.sections; wants = r.wants } ∷ r.routes })
    (cond (eqb l.kind 1) (record { sections = l.first ∷ r.sections; wants = r.wants; routes = r.routes })
    (record { sections = r.sections; wants = record { element = l.first; state = l.second } ∷ r.wants; routes = r.routes }))

-- What the m lines from line i on say, after the progress p.
unfoldable pub rest_from : List ℕ → ℕ → ℕ → Progress → Rest
rest_from file zero i p = no_rest
rest_from file (suc m) i p =
    let l : Line = route_line file i (kind_next p) in
    line_before l (rest_from file m (i + 1) (after_line p l))

-- How many lines a file has, with a cut one at its end.
abbrev pub lines_in : List ℕ → ℕ
lines_in file = (length file + 21) / 22

-- What reading gives: the refusal, of number 0 where the file is accepted, and the routes that its lines say.
pub record RoutesRead : Type 0 where
  pub refusal : Refusal
  pub routes : List Route

unfoldable pub routes_read : Situation → List ℕ → RoutesRead
routes_read s file =
    record {
      refusal = refusal_from s file (lines_in file) 0 nothing_read;
      routes = (rest_from file (lines_in file) 0 nothing_read).routes;
    }

-- ---- conflicts
-- Two lists "share a section".
abbrev pub share_section : List ℕ → List ℕ → Bool
share_section [] bs = false
share_section (a ∷ as') bs = mem a bs || share_section as' bs

-- Some W line of the list wants element e in another state than x.
abbrev pub wanted_else : ℕ → ℕ → List Want → Bool
wanted_else e x [] = false
wanted_else e x (w ∷ ws) = (eqb e w.element && not (eqb x w.state)) || wanted_else e x ws

-- "Some W line of one and some W line of the other want one turnout in different states."
abbrev pub disagree : List Want → List Want → Bool
disagree [] vs = false
disagree (w ∷ ws) vs = wanted_else w.element w.state vs || disagree ws vs

unfoldable pub conflict : Route → Route → Bool
conflict r q = share_section r.sections q.sections || disagree r.wants q.wants

-- "They share a section": two routes do.
abbrev pub Shares : Route → Route → Type 0
Shares r q = (a : ℕ) × In a r.sections × In a q.sections

-- "or some W line of one and some W line of the other want one turnout in different states."
abbrev pub Disagree : Route → Route → Type 0
Disagree r q =
    (v : Want) × (w : Want) × In v r.wants × In w q.wants × (v.element ≡ w.element) × (v.state ≡ w.state → ⊥)

-- Some W line of a list wants element e in state x.
abbrev pub wanted : ℕ → ℕ → List Want → Bool
wanted e x [] = false
wanted e x (w ∷ ws) = (eqb e w.element && eqb x w.state) || wanted e x ws

-- Route number a, from 1.
abbrev pub route_at : List Route → ℕ → Route
route_at rs a = get_or rs (a - 1) no_route

-- The byte of the ordered pair (a, b): "1 for conflict, 0 elsewhere and for a route with itself".
unfoldable pub pair_byte : List Route → ℕ → ℕ → ℕ
pair_byte rs a b = cond (not (eqb a b) && conflict (route_at rs a) (route_at rs b)) 1 0

-- The table: the pair (a, b) "at place (a - 1) × routes + b - 1 counted from 0".
unfoldable pub table_of : List Route → List ℕ
table_of rs = list_of (length rs * length rs) (λ k. pair_byte rs (k / length rs + 1) (k % length rs + 1))

-- ---- the operation
-- "After the station's refusals and before 9 (routes × routes bytes)": for a lent table of `room` bytes.
unfoldable pub routes_refusal : List ℕ → List ℕ → ℕ → Refusal
routes_refusal file routes room =
    let read : RoutesRead = routes_read (reading file).situation routes in
    first_of (reading file).refusal
    (first_of read.refusal
    (cond (ltb room (length read.routes * length read.routes)) (refusal 9 0) (refusal 0 0)))

-- "The number of bytes filled is returned."
unfoldable pub routes_answer : List ℕ → List ℕ → ℕ → Result ℕ Refusal
routes_answer file routes room =
    let rs : List Route = (routes_read (reading file).situation routes).routes in
    unless_refused (routes_refusal file routes room) (length rs * length rs)

-- "Fills a lent table": later bytes, and all of them after a refusal, keep their content.
unfoldable pub after_routes : List ℕ → List ℕ → List ℕ → List ℕ
after_routes file routes table =
    let rs : List Route = (routes_read (reading file).situation routes).routes in
    cond (is_none (routes_refusal file routes (length table))) (table_of rs ++ drop (length rs * length rs) table) table

-- How far the file has been read before line i.
unfoldable pub progress_at : List ℕ → ℕ → Progress
progress_at file zero = nothing_read
progress_at file (suc i) = after_line (progress_at file i) (route_line file i (kind_next (progress_at file i)))
