-- The statements of the operations of document 02 leave no choice (specs/Complete): `can_be_safe_pinned`, `routes_pinned`, `standing_pinned`,
-- `report_pinned`, `place_pinned`.
use mathlib.Core.Path.{◌≡◌, refl, sym, ap, subst, ◌∙◌}
use mathlib.Core.Logic.{inl, inr, ◌↔◌}
use mathlib.Core.Bool.{true}
use mathlib.Core.List.{List, [], ◌∷◌, ◌++◌, map}
use mathlib.Mathlib.Data.Bool.Basic.{eq-false_of_not-eq-true}
use Prim.Native.Nat.{ℕ, zero, suc, ◌+◌, ◌*◌, ◌-◌, ◌/◌, ◌%◌, ◌≤◌, ◌<◌}
use native.Mathlib.Omega.{arith}
use native.Mathlib.Decide.{ℕ_discrete}
use native.Mathlib.Nat.{div-add-mod', div-lt_iff_lt-mul, mod-lt}
use lib.ListN.{length, get_or, take, length-map}
use lib.Seq.{ext_get_or}
use Rattle.meaning.specs.declared.Situation.{Situation}
use Rattle.meaning.specs.declared.Element.{Element}
use Rattle.meaning.specs.declared.Turnout.{Turnout}
use Rattle.meaning.specs.declared.Kind.TheVariants as kind
use Rattle.meaning.specs.declared.Line.{Line}
use Rattle.session_meaning.specs.declared.Sent.{Sent}
use Rattle.session_meaning.specs.declared.Mark.{Mark}
use Rattle.meaning.specs.Station.{elements_of, file_states}
use Rattle.meaning.specs.File.{no_element}
use Rattle.meaning.specs.Accepted.{Accepted}
use Rattle.meaning.specs.CanBeSafe.{open_turnouts}
use Rattle.session_meaning.specs.Report.{Total, sum_of}
use Rattle.route_meaning.specs.Routes.{Route, Progress}
use Rattle.session_meaning.specs.Placement.{draw}
use Rattle.meaning.specs.Inside.{in_station}
use Rattle.meaning.proofs.Accepted.{accepted_exactly}
use Rattle.meaning.proofs.AcceptedSituation.{accepted_inside}
use Rattle.c_layout.specs.declared.FlatRefusal.{FlatRefusal}
use Rattle.c_layout.specs.declared.FlatYesNo.{FlatYesNo}
use Rattle.c_layout.specs.declared.FlatFilled.{FlatFilled}
use Rattle.c_layout.specs.declared.FlatPlaced.{FlatPlaced}
use Rattle.basics.specs.Lists.{In}
use Rattle.basics.proofs.Members.{pairwise_one}
use Rattle.session_meaning.specs.Answers.{Before}
use Rattle.demands.specs.Words.{situation, Setting}
use Rattle.demands.specs.Reach.{TwoTrainsMeet}
use Rattle.demands.specs.Item06 as six
use Rattle.demands.specs.Item07 as seven
use Rattle.demands.specs.Item08 as eight
use Rattle.demands.specs.Item09 as nine
use Rattle.demands.specs.Item14.{section_at, Taken, GivesWay, Placeable, PlacesTrains, PlacementCause}
use Rattle.demands.specs.Complete.{CanBeSafePinned, RoutesPinned, StandingPinned, ReportPinned, PlacePinned}
use Rattle.demands.proofs.Words.{of_lines, filled_one, says_one}
use Rattle.demands.proofs.Item08.{answers_length}
use Rattle.demands.proofs.Item09.{report_size, no_first_wrong}
use Rattle.demands.proofs.Item14.{states_one}
use Rattle.demands.proofs.Reach.{safe_exact, unsafe_exact}
use Rattle.demands.proofs.OneCause.{first_of_one, unless_one, unless_none, answers_one, is_one, neither_below, file_cause_one}
use Rattle.demands.specs.Demand1.{Short}
use Rattle.demands.proofs.RouteText.{describes_one}

-- ---- Item 6
turnouts_grow : (es : List Element) (i j : ℕ) (t : Turnout) → i < j → i < length es → get_or (map (λ (e : Element). e.state) es) i 0 ≡ 0
    → (get_or es i no_element).kind ≡ kind.Turnout t → open_turnouts (take i es) < open_turnouts (take j es)
unfolding open_turnouts
turnouts_grow [] i j t l b z k = absurd (omega arith)
turnouts_grow (e ∷ es) i zero t l b z k = absurd (omega arith)
turnouts_grow (e ∷ es) zero (suc j) t l b z k = grind arith
turnouts_grow (e ∷ es) (suc i) (suc j) t l b z k = omega (arith, turnouts_grow es i j t (omega arith) (omega arith) z k)

module _ (s : Situation) where
  turnout_not_below : (m e d : ℕ) → six.TurnoutAt s m e → six.TurnoutAt s m d → e < d → ⊥
  unfolding file_states
  turnout_not_below m e d o p l =
      let b : (1 ≤ e) × (e ≤ length (file_states s)) = o.0.numbered in
      let n = length-map (elements_of s) (λ (e : Element). e.state) in
      omega (
        arith,
        o.3,
        p.3,
        turnouts_grow (elements_of s) (e - 1) (d - 1) o.1 (omega (arith, b)) (omega (arith, b, n)) o.0.at_0 o.2,
      )

  turnout_one : (m e d : ℕ) → six.TurnoutAt s m e → six.TurnoutAt s m d → e ≡ d
  turnout_one m e d o p = neither_below e d (turnout_not_below m e d o p) (turnout_not_below m d e p o)

can_be_safe_cause_one : (file : List ℕ) (q q' : FlatRefusal) → six.CanBeSafeCause file q → six.CanBeSafeCause file q' → q ≡ q'
can_be_safe_cause_one file q q' =
    unless_one (file_cause_one file q q')
    (λ a (e, n, t, is) (d, n', u, is'). is_one is (rw (turnout_one (situation file) 13 e d t u) is'))

no_can_be_safe_cause : (file : List ℕ) (q : FlatRefusal) → Accepted file → six.turnouts file ≤ 12 → six.CanBeSafeCause file q → ⊥
no_can_be_safe_cause file q a few = unless_none a (λ (e, more, t, is). omega (arith, few, more))

pub can_be_safe_pinned : CanBeSafePinned
can_be_safe_pinned file r r' =
    answers_one
    (λ z (a, few, y) (a', few', y').
    grind (arith, z, says_one r.yes r'.yes y y'))
    (λ (a, few, y). no_can_be_safe_cause file r'.refusal a few) (λ (a, few, y). no_can_be_safe_cause file r.refusal a few)
    (λ c c' u u'. grind (arith, can_be_safe_cause_one file r.refusal r'.refusal c c', u, u'))

-- ---- Item 7
route_cause_one : (s : Situation) (p : Progress) (l : Line) (m n : ℕ) → seven.RouteCause s p l m → seven.RouteCause s p l n → m ≡ n
route_cause_one s p l m n = unless_one (λ e f. e ∙ sym f) (λ right c d. c.3 ∙ sym d.3)

has_route_cause_one : (s : Situation) (file : List ℕ) (i a b : ℕ) → seven.HasRouteCause s file i a → seven.HasRouteCause s file i b → a ≡ b
has_route_cause_one s file i a b (inl c) (inl d) = route_cause_one s _ _ a b c.1 d.1
has_route_cause_one s file i a b (inl c) (inr d) = absurd (omega (arith, c.0, d.0.0))
has_route_cause_one s file i a b (inr c) (inl d) = absurd (omega (arith, c.0.0, d.0))
has_route_cause_one s file i a b (inr c) (inr d) = c.1 ∙ sym d.1

routes_cause_one : (station file : List ℕ) (room : ℕ) (q q' : FlatRefusal) → seven.RoutesCause station file room q → seven.RoutesCause station file room q' → q ≡ q'
routes_cause_one station file room q q' =
    unless_one (file_cause_one station q q')
    (λ a. unless_one (first_of_one (seven.HasRouteCause (situation station) file) _ 1 q q' (has_route_cause_one (situation station) file)) (λ none (rs, d, short) (rs', d', short'). is_one short.1 short'.1))

no_routes_cause : (station file table left : List ℕ) (r : FlatFilled) (q : FlatRefusal)
    → Accepted station × seven.Fills (situation station) file table left r → seven.RoutesCause station file (length table) q → ⊥
no_routes_cause station file table left r q (a, w) =
    unless_none a
    (unless_none w.described.no_line
    (λ (rs, d, short).
    omega (arith, rw (describes_one station file rs w.routes a d w.described) at short.0, w.filled.fits, w.conflicts.all)))

table_one : (rs : List Route) (x y : List ℕ) → seven.Table rs x → seven.Table rs y → x ≡ y
table_one rs x y w v = ext_get_or 0 x y (w.all ∙ sym v.all) (λ i l. byte i (omega (arith, w.all)))
  where
    n : ℕ
    n = length rs

    pair : (a b : ℕ) → seven.IsRoute rs a → seven.IsRoute rs b → seven.byte rs x a b ≡ seven.byte rs y a b
    pair a b k l =
        grind (
          arith,
          ℕ_discrete (seven.byte rs x a b) 1,
          w.one_exactly a b k l,
          v.one_exactly a b k l,
          w.else_zero a b k l,
          v.else_zero a b k l,
        )

    byte : (i : ℕ) → i < n * n → get_or x i 0 ≡ get_or y i 0
    byte i h =
        let some : 0 < n = grind arith in
        grind (arith, pair (i / n + 1) (i % n + 1), (div-lt_iff_lt-mul some).1 h, mod-lt i some, div-add-mod' i n)

pub routes_pinned : RoutesPinned
routes_pinned station file table (r, left) (r', left') =
    answers_one
    (λ z (a, w) (a', v).
    let same : v.routes ≡ w.routes = describes_one station file v.routes w.routes a v.described w.described in
    grind (arith, z, table_one w.routes w.bytes v.bytes w.conflicts (rw same at v.conflicts)))
    (no_routes_cause station file table left r r'.refusal) (no_routes_cause station file table left' r' r.refusal)
    (λ c c' u u'. grind (arith, routes_cause_one station file (length table) r.refusal r'.refusal c c', u, u'))

-- ---- Item 8
sent_asymmetric : (a b : Sent) → Before a b → Before b a → ⊥
sent_asymmetric a b w v = grind arith

standing_one : {log : List ℕ} {l m : List Sent} → eight.Standing log l → eight.Standing log m → l ≡ m
standing_one {log} {l} {m} a b =
    pairwise_one Before sent_asymmetric l m a.order b.order
    (record { to = λ x i. (b.exactly x).1 ((a.exactly x).0 i); back = λ x i. (a.exactly x).1 ((b.exactly x).0 i) })

log_line_one : (log : List ℕ) (i m n : ℕ) → eight.LogLineCause log i m → eight.LogLineCause log i n → m ≡ n
log_line_one log i m n c d = grind arith

log_cause_one : (log : List ℕ) (room : ℕ) (q q' : FlatRefusal) → eight.LogCause log room q → eight.LogCause log room q' → q ≡ q'
log_cause_one log room q q' =
    unless_one is_one
    (λ whole. unless_one (first_of_one (eight.LogLineCause log) _ 1 q q' (log_line_one log))
    (λ none (l, s, short) (l', s', short'). is_one short.1 short'.1))

no_log_cause : (log buffer left : List ℕ) (r : FlatFilled) (q : FlatRefusal) → eight.LogAnswered log buffer left r → eight.LogCause log (length buffer) q → ⊥
no_log_cause log buffer left r q w =
    unless_none w.accepted.whole
    (unless_none w.accepted.lines
    (λ (answers, s, short). omega (arith, short.0, w.filled.fits, answers_length w.answers, ap length (standing_one s w.standing))))

pub standing_pinned : StandingPinned
standing_pinned log buffer (r, left) (r', left') =
    answers_one (λ z w v. grind (arith, z, standing_one w.standing v.standing)) (no_log_cause log buffer left r r'.refusal)
    (no_log_cause log buffer left' r' r.refusal) (λ c c' u u'. grind (arith, log_cause_one log (length buffer) r.refusal r'.refusal c c', u, u'))

-- ---- Item 9
below_asymmetric : (t u : Total) → nine.Below t u → nine.Below u t → ⊥
below_asymmetric t u a b = omega arith

-- A candidate has one line.
abbrev LineOf : List Mark → Total → Type 0
LineOf marks t =
    (t.gained ≡ nine.sum_for t.candidate (λ m. m.gained) marks) × (t.possible ≡ nine.sum_for t.candidate (λ m. m.possible) marks)

line_one : (marks : List Mark) (t u : Total) → t.candidate ≡ u.candidate → LineOf marks t → LineOf marks u → t ≡ u
line_one marks t u e a b = grind arith

lines_in : (marks : List Mark) (l m : List Total) → nine.Lines marks l → nine.Lines marks m → (t : Total) → In t l → In t m
lines_in marks l m a b t i =
    let w = (b.exactly t.candidate).1 ((a.exactly t.candidate).0 (t, i, refl)) in
    subst (λ (x : Total). In x m) (line_one marks w.0 t w.2 (b.sums w.0 w.1) (a.sums t i)) w.1

pub lines_one : {marks : List Mark} {l m : List Total} → nine.Lines marks l → nine.Lines marks m → l ≡ m
lines_one {marks} {l} {m} a b =
    pairwise_one nine.Below below_asymmetric l m a.order b.order (record { to = lines_in marks l m a b; back = lines_in marks m l b a })

in_longer : (b b' : List Mark) (m m' : Mark) (a a' : List Mark) → b ++ m ∷ a ≡ b' ++ m' ∷ a' → length b < length b' → In m b'
in_longer b [] m m' a a' e l = absurd (omega arith)
in_longer [] (x ∷ b') m m' a a' e l = grind arith
in_longer (y ∷ b) (x ∷ b') m m' a a' e l = grind (arith, in_longer b b' m m' a a')

first_wrong_one : (marks : List Mark) (m n : ℕ) → nine.FirstWrong marks m → nine.FirstWrong marks n → m ≡ n
first_wrong_one marks i j (b, m, a, e, r, w, h) (b', m', a', e', r', w', h') =
    let same =
    neither_below (length b) (length b') (λ l. w (r' m (in_longer b b' m m' a a' (sym e ∙ e') l)))
    (λ l. w' (r m' (in_longer b' b m' m a' a (sym e' ∙ e) l))) in
    omega (arith, h, h', same)

marks_cause_one : (marks : List Mark) (room : ℕ) (q q' : FlatRefusal) → nine.MarksCause marks room q → nine.MarksCause marks room q' → q ≡ q'
marks_cause_one marks room q q' =
    unless_one is_one
    (λ few. unless_one (λ c d. grind (arith, first_wrong_one marks q.line q'.line c.1 d.1)) (λ right (l, s, short) (l', s', short'). is_one short.1 short'.1))

no_marks_cause : (marks : List Mark) (buffer left : List ℕ) (r : FlatFilled) (q : FlatRefusal) → nine.Reports marks buffer left r
    → nine.MarksCause marks (length buffer) q → ⊥
no_marks_cause marks buffer left r q v =
    unless_none v.few
    (unless_none v.right
    (λ (lines, o, short).
    let size = report_size v.lines (sum_of (λ m. m.gained) marks) (sum_of (λ m. m.possible) marks) in
    omega (arith, short.0, v.filled.fits, size, ap length (lines_one o v.are))))

pub report_pinned : ReportPinned
report_pinned marks buffer (r, left) (r', left') =
    answers_one (λ z w v. grind (arith, z, lines_one w.are v.are)) (no_marks_cause marks buffer left r r'.refusal)
    (no_marks_cause marks buffer left' r' r.refusal) (λ c c' u u'. grind (arith, marks_cause_one marks (length buffer) r.refusal r'.refusal c c', u, u'))

-- ---- Item 14
module _ (n : ℕ) (T U : ℕ → Type 0) (to : (k : ℕ) → T k → U k) (back : (k : ℕ) → U k → T k) (d : ℕ) where
  gives_way_one : (k j : ℕ) → GivesWay n T d k → GivesWay n U d j → k ≡ j
  gives_way_one k j w v = grind (arith, to, back)

module _ (paper sections trains : ℕ) (list left left' : List ℕ) (r r' : FlatPlaced) (w : PlacesTrains paper sections trains list left r)
    (v : PlacesTrains paper sections trains list left' r') where
  same_states : (i : ℕ) → w.state i ≡ v.state i
  same_states = states_one paper w.state v.state w.states v.states

  -- Train by train.
  sections_to : (m t : ℕ) → 1 ≤ t → t < m → t ≤ trains → section_at w.xs t ≡ section_at v.xs t
  sections_to zero t a b c = absurd (omega arith)
  sections_to (suc m) t a b c =
      gives_way_one sections (Taken w.xs t) (Taken v.xs t)
      (λ k (u, low, high, e). (u, low, high, sym (sections_to m u low (omega arith) (omega arith)) ∙ e))
      (λ k (u, low, high, e). (u, low, high, sections_to m u low (omega arith) (omega arith) ∙ e))
      (draw (w.state t) sections) (section_at w.xs t) (section_at v.xs t) (w.gives_way t a c)
      (rw (same_states t) (v.gives_way t a c))

  same_sections : left ≡ left'
  same_sections =
      let same : w.xs ≡ v.xs = ext_get_or 0 w.xs v.xs (w.all ∙ sym v.all) (λ i l. at i (omega (arith, w.all))) in
      filled_one v.xs list left left' (rw same at w.filled) v.filled
    where
      at : (i : ℕ) → i < trains → get_or w.xs i 0 ≡ get_or v.xs i 0
      at i l =
          let e : suc i - 1 ≡ i = omega arith in
          subst (λ (k : ℕ). get_or w.xs k 0 ≡ get_or v.xs k 0) e (sections_to (suc (suc i)) (suc i) (omega arith) (omega arith) l)

  last_same : r.state ≡ r'.state
  last_same = grind (arith, same_states trains)

both_same : (r r' : FlatPlaced) (left left' : List ℕ) → r.refusal ≡ r'.refusal → r.state ≡ r'.state → left ≡ left'
    → ◌≡◌ {A = FlatPlaced × List ℕ} (r, left) (r', left')
both_same r r' left left' a b c = grind arith

no_placement_cause : (paper sections trains : ℕ) (list left : List ℕ) (r : FlatPlaced) (q : FlatRefusal)
    → Placeable sections trains × PlacesTrains paper sections trains list left r → PlacementCause sections trains (length list) q → ⊥
no_placement_cause paper sections trains list left r q (ok, w) = unless_none ok (λ c. omega (arith, c.0, w.filled.fits, w.all))

pub place_pinned : PlacePinned
place_pinned paper sections trains list (r, left) (r', left') =
    answers_one
    (λ z (ok, w) (ok', v).
    both_same r r' left left' z (last_same paper sections trains list left left' r r' w v) (same_sections paper sections trains list left left' r r' w v))
    (no_placement_cause paper sections trains list left r r'.refusal) (no_placement_cause paper sections trains list left' r' r.refusal)
    (λ c c' u u'. both_same r r' left left' (unless_one is_one (λ ok d d'. is_one d.1 d'.1) c c') (u.0 ∙ sym u'.0) (u.1 ∙ sym u'.1))
