-- One line of the route file: its cause by the numbers that the reader keeps (`r_cause`, `k_cause`, `w_cause`), and the routes and the words after it
-- (`more_r`, `more_k`, `more_w`).
use Rattle.std.specs.Prelude.{Result}
use Rattle.std.specs.Result.{IsErrAnd}
use Rattle.std.proofs.lemmas.Result.{err_from_is_err_and}
use Rattle.std.proofs.lemmas.List.{append-nil}
use mathlib.Core.Path.{◌≡◌, refl, sym, ap, ap₂, ◌∙◌}
use mathlib.Core.Bool.{Bool, true, false, not, ◌&&◌, ◌||◌, cond}
use mathlib.Core.List.{List, [], ◌∷◌, ◌++◌, append_assoc}
use mathlib.Mathlib.Data.Bool.Basic.{or-eq-false-eq-eq-false-and-eq-false as neither}
use Prim.Native.Nat.{ℕ, ◌+◌, ◌-◌, ◌≤◌}
use native.Mathlib.Omega.{arith}
use lib.Dec.{eqb, ltb}
use lib.ListN.{length, length-append}
use borrow.Author.Tests.{eqb-true, eqb-false, ltb-false, not-false}
use Rattle.meaning.specs.declared.Situation.{Situation}
use Rattle.meaning.specs.declared.Line.{Line}
use Rattle.meaning.specs.Columns.{no_kind}
use Rattle.route_meaning.specs.Routes.{Want, Route, Rest, stood_over, sort_at, wrong_r, wrong_w, no_step_of, route_cause, line_before}
use Rattle.route_meaning.proofs.RouteFile.{cause_r, cause_k, cause_w, cause_none, before_r, before_k, before_w}
use Rattle.pairs.specs.Pairs.{Rows, edge, Represents}
use Rattle.meaning.specs.declared.Cause.{Cause}
use Rattle.meaning.specs.Refusals.{number_of}
use Rattle.routes.specs.declared.RouteWords.{RouteWords}
use Rattle.routes.specs.declared.place.Place.{Place}
use Rattle.routes.specs.Sets.{Held, SoFar, Takes, add_section, add_want, to_last, with_rest, joined, is_outside, number_of_section, progress_of, state_of}
use Rattle.route_meaning.proofs.Sorts.{sort_inside}
use Rattle.routes.proofs.Words.{to_last-length, held_begun}

-- ---- the cause
module _ (s : Situation) (l : Line) (p : Place) where
  pub r_cause : l.kind ≡ 0 → {signal w : Bool} → signal ≡ eqb (sort_at s l.second) 1
      → w ≡ (not (eqb l.first (p.routes + 1)) || ltb 64 l.first || not signal || ltb l.third 2 || ltb 32 l.third || ltb 16 l.fourth)
      → (t : Bool) → w ≡ t → cond t 14 0 ≡ route_cause s (progress_of p) l
  r_cause kind es ew t et =
      let is : t ≡ wrong_r s (progress_of p) l = sym et ∙ ew ∙ rw es refl in ap (λ (x : Bool). cond x 14 0) is ∙ sym (cause_r s (progress_of p) l kind)

  pub k_cause : (over : Rows) → Represents over (stood_over s) → l.kind ≡ 1 → (t : Bool) → is_outside s l.first ≡ t
      → (v : Bool) → (eqb (number_of_section p.last) 0 || edge over (number_of_section p.last) l.first) ≡ v
      → cond t 14 (cond (not v) 15 0) ≡ route_cause s (progress_of p) l
  k_cause over represents kind t et v ev =
      let last : ℕ = number_of_section p.last in
      let step : not v ≡ no_step_of s (progress_of p) l = ap not (sym ev) ∙ not_or (eqb last 0) (edge over last l.first) ∙ rw (represents last l.first) refl in
      ap₂ (λ (x y : Bool). cond x 14 (cond y 15 0)) (sym et) step ∙ sym (cause_k s (progress_of p) l kind)
    where
      not_or : (x y : Bool) → not (x || y) ≡ (not x && not y)
      not_or true y = refl
      not_or false y = refl

  pub w_cause : l.kind ≡ 2 → {turnout : Bool} → turnout ≡ eqb (sort_at s l.first) 2 → (t : Bool)
      → (not turnout || eqb l.second 0 || ltb 2 l.second) ≡ t → cond t 14 0 ≡ route_cause s (progress_of p) l
  w_cause kind es t et =
      let is : t ≡ wrong_w s l = sym et ∙ rw es refl in
      ap (λ (x : Bool). cond x 14 0) is ∙ sym (cause_w s (progress_of p) l kind)

-- A line that is not of its kind.
pub takes_none : (s : Situation) (l : Line) (p : Place) (words u : RouteWords) (r : Result Place Cause) (e : Cause)
    → IsErrAnd r (λ x. x ≡ e) → number_of e ≡ 14 → l.kind ≡ no_kind → Takes s l p words u r
takes_none s l p words u r e is q kind =
    let w = err_from_is_err_and r is in
    rw (w.1, w.2, q) (sym (cause_none s (progress_of p) l kind))

-- A right W line: its element is one of the station's, and its state 1 or 2.
pub want_inside : (s : Situation) (e x : ℕ) {turnout : Bool} → s.header.elements ≤ 256 → turnout ≡ eqb (sort_at s e) 2
    → (not turnout || eqb x 0 || ltb 2 x) ≡ false → (1 ≤ e) × (e ≤ 256) × (state_of (eqb x 2) ≡ x)
want_inside s e x {turnout} few is h =
    let a = (neither (not turnout || eqb x 0) (ltb 2 x)).0 h in
    let b = (neither (not turnout) (eqb x 0)).0 a.0 in
    let sort : sort_at s e ≡ 2 = eqb-true (sort_at s e) 2 (sym is ∙ not-false turnout b.0) in
    let i = sort_inside s e (λ z. omega (arith, z, sort)) in
    let d = eqb-false x 0 b.1 in
    let l : x ≤ 2 = ltb-false 2 x a.1 in
    (i.0, omega (arith, i.1, few), grind (arith, eqb-true, eqb-false))

-- ---- the routes after a line
-- A route begun, and the last one with a section or a W line more: the lines to come say the rest.
joined_begun : (e : ℕ) (rs : List Route) (t : Rest)
    → joined (rs ++ (record { signal = e; sections = []; wants = [] } ∷ [])) t
    ≡ joined rs (record { sections = []; wants = []; routes = record { signal = e; sections = t.sections; wants = t.wants } ∷ t.routes })
joined_begun e [] t = refl
joined_begun e (r ∷ []) t = rw (append-nil r.sections, append-nil r.wants) refl
joined_begun e (r ∷ q ∷ rs) t = ap (λ (u : List Route). r ∷ u) (joined_begun e (q ∷ rs) t)

to_last_twice : (f g h : Route → Route) → ((r : Route) → g (f r) ≡ h r) → (rs : List Route) → to_last g (to_last f rs) ≡ to_last h rs
to_last_twice f g h e [] = refl
to_last_twice f g h e (r ∷ []) = λ i. e r i ∷ []
to_last_twice f g h e (r ∷ q ∷ []) = ap (λ (u : List Route). r ∷ u) (to_last_twice f g h e (q ∷ []))
to_last_twice f g h e (r ∷ q ∷ u ∷ rs) = ap (λ (u : List Route). r ∷ u) (to_last_twice f g h e (q ∷ u ∷ rs))

joined_section : (a : ℕ) (rs : List Route) (t : Rest)
    → joined (to_last (add_section a) rs) t ≡ joined rs (record { sections = a ∷ t.sections; wants = t.wants; routes = t.routes })
joined_section a rs t =
    ap (λ (u : List Route). u ++ t.routes)
    (to_last_twice (add_section a) (with_rest t) (with_rest (record { sections = a ∷ t.sections; wants = t.wants; routes = t.routes }))
    (λ r. rw (append_assoc r.sections (a ∷ []) t.sections) refl) rs)

joined_want : (e x : ℕ) (rs : List Route) (t : Rest)
    → joined (to_last (add_want e x) rs) t ≡ joined rs (record { sections = t.sections; wants = record { element = e; state = x } ∷ t.wants; routes = t.routes })
joined_want e x rs t =
    let w : Want = record { element = e; state = x } in
    ap (λ (u : List Route). u ++ t.routes)
    (to_last_twice (add_want e x) (with_rest t) (with_rest (record { sections = t.sections; wants = w ∷ t.wants; routes = t.routes }))
    (λ r. rw (append_assoc r.wants (w ∷ []) t.wants) refl) rs)

module _ (l : Line) (rs : List Route) where
  abbrev pub More : ℕ → RouteWords → Type 0
  More m u = (rs' : List Route) × SoFar u m rs' × ((t : Rest) → joined rs' t ≡ joined rs (line_before l t))

  -- An R line begins a route that nothing is known of.
  pub more_r : {words : RouteWords} {n : ℕ} → SoFar words n rs → l.kind ≡ 0 → More (n + 1) words
  more_r w kind =
      let new : Route = record { signal = l.second; sections = []; wants = [] } in
      (rs ++ (new ∷ []), (omega (arith, w.0, length-append rs (new ∷ [])), held_begun l.second w.1), λ t. rw (before_r l t kind) (joined_begun l.second rs t))

  -- A K line and a W line go to the last route.
  pub more_k : {words u : RouteWords} {n : ℕ} → SoFar words n rs → l.kind ≡ 1 → Held u (to_last (add_section l.first) rs) → More n u
  more_k w kind held =
      let f = add_section l.first in
      (to_last f rs, (w.0 ∙ sym (to_last-length f rs), held), λ t. rw (before_k l t kind) (joined_section l.first rs t))

  pub more_w : {words u : RouteWords} {n : ℕ} → SoFar words n rs → l.kind ≡ 2 → Held u (to_last (add_want l.first l.second) rs) → More n u
  more_w w kind held =
      let f = add_want l.first l.second in
      (to_last f rs, (w.0 ∙ sym (to_last-length f rs), held), λ t. rw (before_w l t kind) (joined_want l.first l.second rs t))
