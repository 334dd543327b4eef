-- Item 7 holds of any operation with the contract of the route table: `item_7`.
use mathlib.Core.Path.{◌≡◌, refl, sym, ap, subst, ◌∙◌}
use mathlib.Core.Logic.{◌⊎◌, inl, inr, ⊎_elim, ◌↔◌}
use mathlib.Core.Bool.{Bool, true, false, cond, false≢true}
use mathlib.Core.List.{List, [], ◌∷◌}
use Prim.Native.Nat.{ℕ, zero, suc, ◌+◌, ◌*◌, ◌-◌, ◌≤◌, ◌<◌}
use native.Mathlib.Numerals.{add-one}
use native.Mathlib.Decide.{ℕ_discrete}
use native.Mathlib.Omega.{arith}
use lib.Dec.{eqb, ltb}
use lib.ListN.{length, get_or, take, length-append, length-drop}
use lib.Seq.{get_or-take, length-take-le}
use borrow.Author.Tests.{eqb-true, eqb-false, ne_eqb, ltb-true, ltb-false}
use Rattle.std.specs.Prelude.{Result}
use Rattle.meaning.proofs.Reach.{member}
use Rattle.meaning.proofs.Refused.{answered_with}
use Rattle.meaning.specs.declared.Line.{Line}
use Rattle.meaning.specs.declared.Move.{Move}
use Rattle.meaning.specs.declared.Situation.{Situation}
use Rattle.meaning.specs.declared.Refusal.{Refusal}
use Rattle.meaning.specs.Station.{permitted}
use Rattle.meaning.specs.Paths.{steps}
use Rattle.meaning.specs.File.{refusal, reading}
use Rattle.meaning.specs.Accepted.{Accepted}
use Rattle.meaning.specs.Operations.{first_of}
use Rattle.route_meaning.specs.Routes.{Want, Route, Progress, RoutesRead, kind_next, route_line, route_cause, refusal_from, wanted, route_at, pair_byte, lines_in, progress_at, routes_read, routes_refusal, routes_answer, after_routes, stood_over}
use Rattle.route_meaning.proofs.Sorts.{is_signal, is_turnout}
use Rattle.route_meaning.proofs.RouteFile.{AcceptedRoutes, chain}
use Rattle.basics.proofs.Tests.{and_both}
use Rattle.meaning.proofs.Accepted.{accepted_exactly}
use Rattle.route_meaning.proofs.Conflicts.{wanted_cases, byte_exact, byte-zero, byte_symmetric, table_length, place_inside, after-byte, after_rest, after-refused}
use Rattle.meaning.specs.Columns.{no_kind}
use Rattle.route_meaning.proofs.RouteFile.{next_kinds, line_kind, cause_r, cause_k, cause_w, cause_none, no_cause, routes_accepted}
use Rattle.c_layout.specs.declared.FlatFilled.{FlatFilled}
use Rattle.c_layout.specs.Flat.{flat_refusal, flat_filled}
use Rattle.basics.specs.Lists.{In}
use Rattle.demands.specs.Words.{situation, Filled}
use Rattle.demands.specs.Item07.{RouteCause, HasRouteCause, Proper, Describes, IsRoute, Table, RoutesCause, Item7, byte}
use Rattle.demands.proofs.Words.{of_lines, filled_first}
use Rattle.demands.proofs.Causes.{refused_file}
use Rattle.demands.specs.Demand1.{NoneOf, FirstOf, Unless, fails, requested, refused}
use Rattle.demands.proofs.OneCause.{no_first}
use Rattle.c_layout.specs.declared.FlatRefusal.{FlatRefusal}

-- ---- a line
module _ (s : Situation) (p : Progress) (file : List ℕ) (i : ℕ) (l : Line) (is : l ≡ route_line file i (kind_next p)) where
  kind_is : (k : ℕ) → kind_next p ≡ k → (l.kind ≡ k) ⊎ (l.kind ≡ no_kind)
  kind_is k e = grind (arith, line_kind)

  -- The cause of a line, in the words of the request.
  cause_of : (q : ℕ) → route_cause s p l ≡ q → (q ≡ 0 → ⊥) → RouteCause s p l q
  cause_of q c n = grind (arith, is_signal s l.second, is_turnout s l.first, cause_k, cause_none, cause_r, cause_w, kind_is, next_kinds)

  -- A line without a cause has none in the words of the request.
  no_route_cause : (q : ℕ) → route_cause s p l ≡ 0 → RouteCause s p l q → ⊥
  no_route_cause q none c = grind (arith, is_signal s l.second, is_turnout s l.first, no_cause s p file i l is none)

-- ---- the lines
module _ (s : Situation) (file : List ℕ) where
  -- "The first such line of the route file decides": what reading refuses with is the number of that line's cause, or none.
  abbrev Decides : Refusal → Type 0
  Decides q =
      (NoneOf (HasRouteCause s file) (lines_in file + 1) × (q ≡ refusal 0 0))
      ⊎ (FirstOf (HasRouteCause s file) (lines_in file + 1) 1 (flat_refusal q) × (q.number ≡ 0 → ⊥))

  -- Behind the last line nothing is missing.
  no_missing : (i : ℕ) → i ≡ lines_in file → NoneOf (HasRouteCause s file) i → kind_next (progress_at file i) ≡ 0
      → NoneOf (HasRouteCause s file) (lines_in file + 1)
  no_missing i end before z j q l (inl w) = before j q (omega (arith, end, w.0)) (inl w)
  no_missing i end before z j q l (inr w) = w.0.1 (rw (sym (w.0.0 ∙ sym end)) at z)

  -- The m lines from line i on, where those before have no cause.
  decides_from : (m i : ℕ) → i + m ≡ lines_in file → NoneOf (HasRouteCause s file) i
      → Decides (refusal_from s file m i (progress_at file i))
  unfolding refusal_from progress_at
  decides_from zero i e before =
      let end : i ≡ lines_in file = omega (arith, e) in
      elim (ℕ_discrete (kind_next (progress_at file i)) 0) [
        | yes z ↦ rw z (inl (no_missing i end before z, refl))
        | no n ↦ rw (ne_eqb _ 0 n) (inr ((i, omega (arith, end), before, inr ((end, n), refl), refl), λ z. omega (arith, z)))
      ]
  decides_from (suc m) i e before =
      elim (ℕ_discrete (route_cause s p l) 0) [
        | yes z ↦ rw (z, add-one i) (decides_from m (suc i) (omega (arith, e)) (fine z))
        | no n ↦ rw (ne_eqb _ 0 n)
            (inr ((i, omega (arith, e), before, inl (omega (arith, e), cause_of s p file i l refl _ refl n), refl), n))
      ]
    where
      p : Progress
      p = progress_at file i

      l : Line
      l = route_line file i (kind_next p)

      no_here : route_cause s p l ≡ 0 → (q : ℕ) → HasRouteCause s file i q → ⊥
      no_here none q (inl w) = no_route_cause s p file i l refl q none w.1
      no_here none q (inr w) = omega (arith, w.0.0, e)

      fine : route_cause s p l ≡ 0 → (j q : ℕ) → j < suc i → HasRouteCause s file j q → ⊥
      fine none j q below h =
          elim (ℕ_discrete j i) [ yes z ↦ no_here none q (rw z at h) | no z ↦ before j q (omega (arith, below, z)) h ]

  decides : Decides (routes_read s file).refusal
  unfolding routes_read progress_at
  decides = decides_from (lines_in file) 0 (omega arith) (λ j q l. absurd (omega arith))

-- ---- the routes
in_wanted : (w : Want) (ws : List Want) → In w ws → wanted w.element w.state ws ≡ true
in_wanted w [] i = absurd i
in_wanted w (v ∷ ws) i = grind (arith, in_wanted w ws)

wanted_in : (e x : ℕ) (ws : List Want) → wanted e x ws ≡ true → (w : Want) × In w ws × (e ≡ w.element) × (x ≡ w.state)
wanted_in e x [] h = absurd (false≢true h)
wanted_in e x (v ∷ ws) h =
    ⊎_elim (λ w. (v, inl refl, w.0, w.1)) (λ k. let r = wanted_in e x ws k in (r.0, inr r.1, r.2, r.3)) (wanted_cases e x v ws h)

chain_steps : (ms : List Move) (a : ℕ) (xs : List ℕ) → steps ms a xs ≡ true → (i : ℕ) → i < length xs
    → permitted ms (get_or (a ∷ xs) i 0) (get_or (a ∷ xs) (suc i) 0) ≡ true
chain_steps ms a [] h i l = absurd (omega arith)
chain_steps ms a (b ∷ xs) h zero l = (and_both (permitted ms a b) (steps ms b xs) h).0
chain_steps ms a (b ∷ xs) h (suc i) l = chain_steps ms b xs (and_both (permitted ms a b) (steps ms b xs) h).1 i (omega arith)

each_step : (ms : List Move) (xs : List ℕ) → chain ms xs ≡ true → (i : ℕ) → i + 1 < length xs → permitted ms (get_or xs i 0) (get_or xs (i + 1) 0) ≡ true
each_step ms xs h i h2 = grind (arith, chain_steps)

proper_routes : (s : Situation) (rs : List Route) → AcceptedRoutes s rs → (a : ℕ) → IsRoute rs a → Proper s (route_at rs a)
proper_routes s rs w a n =
    let r = w.each (a - 1) (omega (arith, n)) in
    record {
      signal = (is_signal s (route_at rs a).signal).0 r.signal;
      sections = r.sections;
      inside = λ b i. r.inside b ((member b (route_at rs a).sections).1 i);
      steps = each_step (stood_over s) (route_at rs a).sections r.under;
      turnouts = r.turnouts;
      wants = λ v i. let x = r.wants v.element v.state (in_wanted v (route_at rs a).wants i) in ((is_turnout s v.element).0 x.0, x.1, x.2);
    }

-- ---- the table
module _ (station file table : List ℕ) (accepted : (routes_refusal station file (length table)).number ≡ 0) where
  abbrev its : List Route
  its = (routes_read (reading station).situation file).routes

  after-length : length its * length its ≤ length table → length (after_routes station file table) ≡ length table
  unfolding after_routes
  after-length room = grind (arith, length-append, length-drop, table_length)

  abbrev bytes : List ℕ
  bytes = take (length its * length its) (after_routes station file table)

  conflicts_are : length its * length its ≤ length table → Table its bytes
  conflicts_are room = record {
    one_exactly = λ a b na nb.
        let e = at a b na nb in
        let x = byte_exact its a b in
        (λ h. x.0 (sym e ∙ h), λ w. e ∙ x.1 w);
    else_zero = λ a b na nb n. let e = at a b na nb in e ∙ byte-zero its a b (λ h. n (e ∙ h));
    symmetric = λ a b na nb. at a b na nb ∙ byte_symmetric its a b ∙ sym (at b a nb na);
    all = length-take-le (length its * length its) (after_routes station file table) (omega (arith, after-length room, room));
  }
    where
      at : (a b : ℕ) → IsRoute its a → IsRoute its b → byte its bytes a b ≡ pair_byte its a b
      at a b na nb =
          get_or-take (length its * length its) (after_routes station file table) ((a - 1) * length its + (b - 1)) 0
          (place_inside (length its) (a - 1) (b - 1) (omega (arith, na)) (omega (arith, nb)))
          ∙ after-byte station file table accepted a b na.0 na.1 nb.0 nb.1

  table_filled : length its * length its ≤ length table → Filled bytes table (after_routes station file table)
  table_filled room =
      filled_first (length its * length its) table (after_routes station file table) (after-length room) room (after_rest station file table accepted)

-- ---- the operation
module _ (station file table : List ℕ) where
  abbrev s₀ : Situation
  s₀ = (reading station).situation

  abbrev read : RoutesRead
  read = routes_read s₀ file

  abbrev short : Refusal
  short = cond (ltb (length table) (length read.routes * length read.routes)) (refusal 9 0) (refusal 0 0)

  -- What the contract promises.
  abbrev Holds : Type 0
  Holds = Item7 station file table (after_routes station file table) (flat_filled (routes_answer station file (length table)))

  -- A refusal.
  refuses : (q : Refusal) → routes_refusal station file (length table) ≡ q → (q.number ≡ 0 → ⊥) → RoutesCause station file (length table) (flat_refusal q)
      → Holds
  unfolding routes_answer
  refuses q is n c =
      let left = after-refused station file table (λ z. n (sym (ap (λ (x : Refusal). x.number) is) ∙ z)) in
      rw (is, ne_eqb q.number 0 n) (refused (omega (arith, n)) c (refl, left))

  module _ (a : Accepted station) (z : eqb (reading station).refusal.number 0 ≡ true) where
    by_routes : routes_refusal station file (length table) ≡ first_of read.refusal short
    unfolding routes_refusal
    by_routes = ap (λ (b : Bool). cond b (first_of read.refusal short) (reading station).refusal) z

    at_line : FirstOf (HasRouteCause s₀ file) (lines_in file + 1) 1 (flat_refusal read.refusal) → (read.refusal.number ≡ 0 → ⊥) → Holds
    at_line f n =
        refuses read.refusal (by_routes ∙ ap (λ (b : Bool). cond b short read.refusal) (ne_eqb read.refusal.number 0 n)) n
        (Unless.holds a (fails (of_lines station a (λ (x : Situation). NoneOf (HasRouteCause x file) (lines_in file + 1) → ⊥) (λ none. no_first (HasRouteCause s₀ file) (lines_in file + 1) 1 (flat_refusal read.refusal) none f))
        (of_lines station a (λ (x : Situation). FirstOf (HasRouteCause x file) (lines_in file + 1) 1 (flat_refusal read.refusal)) f)))

    module _ (none : NoneOf (HasRouteCause s₀ file) (lines_in file + 1)) (e : read.refusal ≡ refusal 0 0) where
      describes : Describes (situation station) file read.routes
      describes =
          let w = routes_accepted s₀ file (ap (λ (x : Refusal). x.number) e) in
          of_lines station a (λ (x : Situation). Describes x file read.routes)
          (record { no_line = none; text = w.1; few = w.0.few; proper = proper_routes s₀ read.routes w.0 })

      by_room : routes_refusal station file (length table) ≡ short
      by_room = by_routes ∙ ap (λ (x : Refusal). first_of x short) e

      fits : length read.routes * length read.routes ≤ length table → routes_refusal station file (length table) ≡ refusal 0 0 → Holds
      unfolding routes_answer
      fits room passed =
          let accepted : (routes_refusal station file (length table)).number ≡ 0 = ap (λ (x : Refusal). x.number) passed in
          let n : ℕ = length read.routes * length read.routes in
          subst (λ (r : Result ℕ Refusal). Item7 station file table (after_routes station file table) (flat_filled r))
          (answered_with (routes_refusal station file (length table)) n accepted)
          (requested refl (
            a,
            record {
              routes = read.routes;
              described = describes;
              bytes = bytes station file table accepted;
              conflicts = conflicts_are station file table accepted room;
              filled = table_filled station file table accepted room;
              counted = sym (conflicts_are station file table accepted room).all;
            },
          ))

      by_length : (b : Bool) → ltb (length table) (length read.routes * length read.routes) ≡ b → Holds
      by_length true h =
          refuses (refusal 9 0) (by_room ∙ ap (λ (b : Bool). cond b (refusal 9 0) (refusal 0 0)) h) (λ z. omega arith)
          (Unless.holds a (Unless.holds describes.no_line
          (read.routes, describes, (ltb-true (length table) (length read.routes * length read.routes) h, (refl, refl)))))
      by_length false h = fits (ltb-false _ _ h) (by_room ∙ ap (λ (b : Bool). cond b (refusal 9 0) (refusal 0 0)) h)

  holds : (b : Bool) → eqb (reading station).refusal.number 0 ≡ b → Holds
  unfolding routes_refusal
  holds false z =
      let n = eqb-false (reading station).refusal.number 0 z in
      let w = refused_file station n in
      refuses (reading station).refusal
      (ap (λ (b : Bool). cond b (first_of read.refusal short) (reading station).refusal) z) n (fails w.not_accepted w.cause)
  holds true z =
      let a = (accepted_exactly station).0 (eqb-true (reading station).refusal.number 0 z) in
      ⊎_elim
      (λ w. by_length a z w.0 w.1 (ltb (length table) (length read.routes * length read.routes)) refl)
      (λ w. at_line a z w.0 w.1)
      (decides s₀ file)

pub item_7 : (station file table table' : List ℕ) (r : FlatFilled) → r ≡ flat_filled (routes_answer station file (length table))
    → table' ≡ after_routes station file table → Item7 station file table table' r
item_7 station file table table' r answer left = rw (answer, left) (holds station file table (eqb (reading station).refusal.number 0) refl)
