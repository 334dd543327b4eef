-- What an accepted route file holds, and that it is the text of its routes: `routes_accepted`, by what the lines from each line on say (`Says`). The laws of
-- one line by its kind (`LineR`, `LineK`, `LineW`) serve the reader too.
use mathlib.Core.Path.{◌≡◌, refl, sym, ◌∙◌}
use mathlib.Core.Logic.{◌⊎◌}
use mathlib.Core.Bool.{true, cond}
use mathlib.Core.List.{List, [], ◌∷◌, ◌++◌}
use Prim.Native.Nat.{ℕ, zero, suc, ◌+◌, ◌*◌, ◌-◌, ◌≤◌}
use native.Mathlib.Omega.{arith}
use lib.ListN.{length, take, drop, get_or-eq_default, drop_of_length-le}
use lib.Seq.{drop-drop}
use Rattle.std.proofs.lemmas.List.{take-append-drop}
use borrow.Author.Tests.{eq-eqb}
use Rattle.meaning.specs.declared.Situation.{Situation}
use Rattle.meaning.specs.declared.Line.{Line}
use Rattle.meaning.specs.Station.{permitted}
use Rattle.meaning.specs.Paths.{mem, steps}
use Rattle.meaning.specs.Columns.{old, field_in, field_text, value_of, formed, no_kind, row_at, row_text, rows_of}
use Rattle.route_meaning.specs.Routes.{Want, Route, Progress, Rest, routes_text, stood_over, sort_at, nothing_read, kind_next, route_kind, route_line, wrong_r, wrong_k, wrong_w, no_step_of, route_cause, after_line, line_before, refusal_from, rest_from, lines_in, routes_read, wanted, no_route}
use Rattle.route_meaning.proofs.Conflicts.{wanted_cases}
use Rattle.meaning.proofs.Columns.{form_of, row-length, row_holds}
use Rattle.basics.proofs.Holds.{holds_part}
use Rattle.meaning.proofs.Reach.{mem_cases}
use Rattle.std.specs.Prelude.{Bool, ◌<◌, get_or}
use Rattle.meaning.specs.declared.Move.{Move}

-- "2 to 32 sections and 0 to 16 turnouts a route", each step under a station line, each number inside the station and of its sort.
abbrev pub chain : List Move → List ℕ → Bool
chain ms [] = true
chain ms (a ∷ p) = steps ms a p

pub record AcceptedRoute (s : Situation) (r : Route) : Type 0 where
  pub signal : sort_at s r.signal ≡ 1
  pub sections : (2 ≤ length r.sections) × (length r.sections ≤ 32)
  pub turnouts : length r.wants ≤ 16
  pub under : chain (stood_over s) r.sections ≡ true
  pub inside : (a : ℕ) → mem a r.sections ≡ true → (1 ≤ a) × (a ≤ s.header.sections)
  pub wants : (e x : ℕ) → wanted e x r.wants ≡ true → (sort_at s e ≡ 2) × (1 ≤ x) × (x ≤ 2)

pub record AcceptedRoutes (s : Situation) (rs : List Route) : Type 0 where
  pub few : length rs ≤ 64
  pub each : (k : ℕ) → k < length rs → AcceptedRoute s (get_or rs k no_route)

-- ---- one line
pub next_r : (p : Progress) → kind_next p ≡ 0 → (p.sections ≡ 0) × (p.turnouts ≡ 0)
unfolding kind_next
next_r p h = grind arith

pub next_k : (p : Progress) → kind_next p ≡ 1 → 1 ≤ p.sections
unfolding kind_next
next_k p h = grind arith

pub next_w : (p : Progress) → kind_next p ≡ 2 → (p.sections ≡ 0) × (1 ≤ p.turnouts)
unfolding kind_next
next_w p h = grind arith

pub next_kinds : (p : Progress) → (kind_next p ≡ 0) ⊎ ((kind_next p ≡ 1) ⊎ (kind_next p ≡ 2))
unfolding kind_next
next_kinds p = grind arith

-- A line is of the kind to come or malformed.
pub line_kind : (file : List ℕ) (i k : ℕ) → ((route_line file i k).kind ≡ k) ⊎ ((route_line file i k).kind ≡ no_kind)
unfolding route_line row_at
line_kind file i k = grind arith

-- The numbers of a line that has no cause, by its kind.
pub record LineR (s : Situation) (p : Progress) (l : Line) : Type 0 where
  pub number : l.first ≡ p.routes + 1
  pub few : l.first ≤ 64
  pub signal : sort_at s l.second ≡ 1
  pub some_sections : 2 ≤ l.third
  pub sections : l.third ≤ 32
  pub turnouts : l.fourth ≤ 16

pub record LineK (s : Situation) (p : Progress) (l : Line) : Type 0 where
  pub low : 1 ≤ l.first
  pub high : l.first ≤ s.header.sections
  pub under : (p.last ≡ 0 → ⊥) → permitted (stood_over s) p.last l.first ≡ true

pub record LineW (s : Situation) (l : Line) : Type 0 where
  pub turnout : sort_at s l.first ≡ 2
  pub low : 1 ≤ l.second
  pub high : l.second ≤ 2

module _ (s : Situation) (p : Progress) (l : Line) where
  pub cause_r : l.kind ≡ 0 → route_cause s p l ≡ cond (wrong_r s p l) 14 0
  unfolding route_cause
  cause_r e = rw e

  pub cause_k : l.kind ≡ 1 → route_cause s p l ≡ cond (wrong_k s l) 14 (cond (no_step_of s p l) 15 0)
  unfolding route_cause
  cause_k e = rw e

  pub cause_w : l.kind ≡ 2 → route_cause s p l ≡ cond (wrong_w s l) 14 0
  unfolding route_cause
  cause_w e = rw e

  pub cause_none : l.kind ≡ no_kind → route_cause s p l ≡ 14
  unfolding route_cause
  cause_none e = rw e

-- ---- the progress after it
module _ (p : Progress) (l : Line) where
  pub after_r : l.kind ≡ 0 → after_line p l ≡ record { routes = p.routes + 1; sections = l.third; turnouts = l.fourth; last = 0 }
  unfolding after_line
  after_r e = rw e

  pub after_k : l.kind ≡ 1 → after_line p l ≡ record { routes = p.routes; sections = p.sections - 1; turnouts = p.turnouts; last = l.first }
  unfolding after_line
  after_k e = rw e

  pub after_w : l.kind ≡ 2 → after_line p l ≡ record { routes = p.routes; sections = p.sections; turnouts = p.turnouts - 1; last = p.last }
  unfolding after_line
  after_w e = rw e

-- ---- the lines before it
module _ (l : Line) (r : Rest) where
  pub before_r : l.kind ≡ 0
      → line_before l r ≡ record { sections = []; wants = []; routes = record { signal = l.second; sections = r.sections; wants = r.wants } ∷ r.routes }
  unfolding line_before
  before_r e = rw e

  pub before_k : l.kind ≡ 1 → line_before l r ≡ record { sections = l.first ∷ r.sections; wants = r.wants; routes = r.routes }
  unfolding line_before
  before_k e = rw e

  pub before_w : l.kind ≡ 2 → line_before l r ≡ record { sections = r.sections; wants = record { element = l.first; state = l.second } ∷ r.wants; routes = r.routes }
  unfolding line_before
  before_w e = rw e

-- The line to come, where it has no cause: one of the three kinds, with its numbers.
abbrev pub OneOf : Situation → Progress → Line → Type 0
OneOf s p l =
    ((kind_next p ≡ 0) × (l.kind ≡ 0) × LineR s p l)
    ⊎ (((kind_next p ≡ 1) × (l.kind ≡ 1) × LineK s p l) ⊎ ((kind_next p ≡ 2) × (l.kind ≡ 2) × LineW s l))

pub no_cause : (s : Situation) (p : Progress) (file : List ℕ) (i : ℕ) (l : Line) → l ≡ route_line file i (kind_next p) → route_cause s p l ≡ 0 → OneOf s p l
no_cause s p file i l is none = grind (arith, cause_k, cause_none, cause_r, cause_w, line_kind, next_kinds)

-- ---- the bytes of a line
-- Line i is of kind k: its bytes are the row of its numbers, and others stand behind it.
module _ (file : List ℕ) (i k : ℕ) where
  abbrev l₀ : Line
  l₀ = route_line file i k

  pub line_bytes : l₀.kind ≡ k → (k ≡ no_kind → ⊥)
      → drop (i * 22) file ≡ row_text (route_kind k).letter (route_kind k).filled l₀.first l₀.second l₀.third l₀.fourth ++ drop ((i + 1) * 22) file
  unfolding route_line row_at
  line_bytes is some =
      let e : formed old file i (route_kind k).letter (route_kind k).filled ≡ true = grind arith in
      let f = form_of old file i (route_kind k).letter (route_kind k).filled e in
      let row = row_text (route_kind k).letter (route_kind k).filled (value_of (field_in old file i 0)) (value_of (field_in old file i 1))
      (value_of (field_in old file i 2)) (value_of (field_in old file i 3)) in
      let n : length row ≡ 22 = row-length (route_kind k).letter (route_kind k).filled _ _ _ _ in
      -- A line has its line feed, so that it is no cut one.
      let whole : i * 22 + 22 ≤ length file = grind (arith, f.feed, get_or-eq_default) in
      let first : take 22 (drop (i * 22) file) ≡ row = rw n at (holds_part file (i * 22) row (row_holds file i _ _ f) (omega (arith, n, whole))) in
      let next : (i + 1) * 22 ≡ i * 22 + 22 = omega arith in
      rw e (sym (take-append-drop 22 (drop (i * 22) file)) ∙ rw (first, drop-drop 22 (i * 22) file, next) refl)

-- ---- what lines say
-- The text of what lines say, where n routes have begun before them.
abbrev rest_text : ℕ → Rest → List ℕ
rest_text n r =
    rows_of (λ a. row_text 75 1 a 0 0 0) r.sections
    ++ (rows_of (λ (w : Want). row_text 87 2 w.element w.state 0 0) r.wants ++ routes_text (n + 1) r.routes)

-- What the lines from line i on say, where they have no cause and none is missing.
record Says (s : Situation) (file : List ℕ) (i : ℕ) (p : Progress) (r : Rest) : Type 0 where
  sections : length r.sections ≡ p.sections
  turnouts : length r.wants ≡ p.turnouts
  chained : chain (stood_over s) r.sections ≡ true
  under : (p.last ≡ 0 → ⊥) → steps (stood_over s) p.last r.sections ≡ true
  inside : (a : ℕ) → mem a r.sections ≡ true → (1 ≤ a) × (a ≤ s.header.sections)
  wants : (e x : ℕ) → wanted e x r.wants ≡ true → (sort_at s e ≡ 2) × (1 ≤ x) × (x ≤ 2)
  few : p.routes + length r.routes ≤ 64
  accepted : AcceptedRoutes s r.routes
  text : drop (i * 22) file ≡ rest_text p.routes r

none_of : {A : Type 0} (l : List A) → length l ≡ 0 → l ≡ []
none_of [] e = refl
none_of (a ∷ l) e = absurd (omega arith)

module _ (s : Situation) (file : List ℕ) where
  module _ (i : ℕ) (p : Progress) (l : Line) (r : Rest) (is : l ≡ route_line file i (kind_next p)) where
    bytes : (k : ℕ) → kind_next p ≡ k → l.kind ≡ k → (k ≡ no_kind → ⊥)
        → drop (i * 22) file ≡ row_text (route_kind k).letter (route_kind k).filled l.first l.second l.third l.fourth ++ drop ((i + 1) * 22) file
    bytes k e kind some = rw (is, e) (line_bytes file i k (rw (is, e) at kind) some)

    -- One line more before them.
    says_r : LineR s p l → kind_next p ≡ 0 → l.kind ≡ 0
        → Says s file (i + 1) (record { routes = p.routes + 1; sections = l.third; turnouts = l.fourth; last = 0 }) r
        → Says s file i p (record { sections = []; wants = []; routes = record { signal = l.second; sections = r.sections; wants = r.wants } ∷ r.routes })
    unfolding routes_text
    says_r f e kind w =
        let new : Route = record { signal = l.second; sections = r.sections; wants = r.wants } in
        let text : drop (i * 22) file ≡ routes_text (p.routes + 1) (new ∷ r.routes) =
        bytes 0 e kind (λ z. omega arith) ∙ rw (f.number, ← w.sections, ← w.turnouts, w.text) refl in
        grind (arith, next_r, text)

    says_k : LineK s p l → kind_next p ≡ 1 → l.kind ≡ 1
        → Says s file (i + 1) (record { routes = p.routes; sections = p.sections - 1; turnouts = p.turnouts; last = l.first }) r
        → Says s file i p (record { sections = l.first ∷ r.sections; wants = r.wants; routes = r.routes })
    unfolding row_text field_text
    says_k f e kind w =
        let text : drop (i * 22) file ≡ rest_text p.routes (record { sections = l.first ∷ r.sections; wants = r.wants; routes = r.routes }) =
        bytes 1 e kind (λ z. omega arith) ∙ rw w.text refl in
        grind (arith, next_k, text, mem_cases)

    says_w : LineW s l → kind_next p ≡ 2 → l.kind ≡ 2
        → Says s file (i + 1) (record { routes = p.routes; sections = p.sections; turnouts = p.turnouts - 1; last = p.last }) r
        → Says s file i p (record { sections = r.sections; wants = record { element = l.first; state = l.second } ∷ r.wants; routes = r.routes })
    unfolding row_text field_text
    says_w f e kind w =
        let text : drop (i * 22) file
        ≡ rest_text p.routes (record { sections = r.sections; wants = record { element = l.first; state = l.second } ∷ r.wants; routes = r.routes }) =
        bytes 2 e kind (λ z. omega arith) ∙ rw (w.text, none_of r.sections (w.sections ∙ (next_w p e).0)) refl in
        grind (arith, next_w, text, wanted_cases)

    says_more : OneOf s p l → Says s file (i + 1) (after_line p l) r → Says s file i p (line_before l r)
    says_more o w = grind (arith, before_r, before_k, before_w, after_r, after_k, after_w, says_r, says_k, says_w)

  -- The m lines to the end.
  says : (m i : ℕ) (p : Progress) → i + m ≡ lines_in file → p.routes ≤ 64 → (refusal_from s file m i p).number ≡ 0 → Says s file i p (rest_from file m i p)
  unfolding refusal_from rest_from routes_text
  says zero i p end few h = grind (arith, next_r, drop_of_length-le)
  says (suc m) i p end few h =
      let l : Line = route_line file i (kind_next p) in
      let none : route_cause s p l ≡ 0 = grind arith in
      let o = no_cause s p file i l refl none in
      let few : (after_line p l).routes ≤ 64 = grind (arith, after_k, after_r, after_w) in
      says_more i p l (rest_from file m (i + 1) (after_line p l)) refl o
      (says m (i + 1) (after_line p l) (omega (arith, end)) few (rw (eq-eqb (route_cause s p l) 0 none) at h))

-- THE LAW: an accepted route file is the text of its routes, which have the sizes and the numbers asked for, and each step of each stands under a
-- station line.
pub routes_accepted : (s : Situation) (file : List ℕ) → (routes_read s file).refusal.number ≡ 0
    → AcceptedRoutes s (routes_read s file).routes × (file ≡ routes_text 1 (routes_read s file).routes)
unfolding routes_read
routes_accepted s file h =
    let w = says s file (lines_in file) 0 nothing_read (omega arith) (omega arith) h in
    (w.accepted, w.text ∙ rw (none_of _ w.sections, none_of _ w.turnouts) refl)
