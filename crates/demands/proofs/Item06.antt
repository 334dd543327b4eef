-- Item 6 holds of any operation with the contract of `judge_can_be_safe`: `item_6`.
use mathlib.Core.Path.{◌≡◌, refl, sym, ap, subst, ◌∙◌}
use mathlib.Core.Logic.{◌↔◌, inl, inr}
use mathlib.Core.Bool.{Bool, true, false, cond}
use mathlib.Core.List.{List, map}
use mathlib.Mathlib.Data.Bool.Basic.{eq-false_of_not-eq-true}
use Prim.Native.Nat.{ℕ, ◌-◌, ◌/◌, ◌≤◌, ◌<◌}
use native.Mathlib.Omega.{arith}
use native.Mathlib.Decide.{dec_lt}
use lib.Dec.{eqb}
use lib.ListN.{length, take, length-map}
use borrow.Author.Tests.{eqb-true, eqb-false, ne_eqb}
use Rattle.std.specs.Prelude.{Ok, Err}
use Rattle.meaning.specs.declared.Element.{Element}
use Rattle.meaning.specs.declared.Situation.{Situation}
use Rattle.meaning.specs.declared.Refusal.{Refusal}
use Rattle.meaning.specs.Station.{elements_of, file_states}
use Rattle.meaning.specs.File.{refusal, reading}
use Rattle.meaning.specs.Accepted.{Accepted}
use Rattle.meaning.specs.Operations.{element_line}
use Rattle.meaning.specs.CanBeSafe.{can_be_safe, open_turnouts, turnout_element, can_be_safe_refusal, can_be_safe_answer}
use Rattle.meaning.specs.Inside.{in_station}
use Rattle.basics.proofs.Lists.{mapped_take}
use Rattle.meaning.proofs.Opens.{fewer_open, OpenAt, open_at}
use Rattle.meaning.proofs.Accepted.{accepted_exactly, refusal_listed}
use Rattle.meaning.proofs.AcceptedSituation.{accepted_inside, accepted_lengths}
use Rattle.meaning.specs.Stopped.{stop_state}
use Rattle.meaning.proofs.Stopped.{stopped, stopped-safe, stopped_setting, stopped_at}
use Rattle.meaning.proofs.CanBeSafe as can-be-safe
use Rattle.c_layout.specs.declared.FlatReply.{FlatReply}
use Rattle.c_layout.specs.declared.FlatYesNo.{FlatYesNo}
use Rattle.c_layout.specs.Flat.{no_refusal, flat_yes_no}
use Rattle.demands.specs.Words.{situation, Setting, Says}
use Rattle.demands.specs.Reach.{TwoTrainsMeet, SafeSetting}
use Rattle.demands.specs.Demand1.{Answer, fails, holds}
use Rattle.demands.specs.OfSettings.{SettingsStatement, SaysNone}
use Rattle.demands.specs.Demand1 as d1
use Rattle.demands.specs.Item06.{SomeSafe, turnouts, TurnoutAt, Item6}
use Rattle.demands.proofs.Words.{of_lines, none_open, says, says_yes}
use Rattle.demands.proofs.Reach.{safe_exact, unsafe_exact}
use Rattle.demands.proofs.Causes.{RefusedFile, refused_file, lines_read}
use Rattle.demands.specs.Laws.{SignalsAtStop, TurnoutsAlone, NoMeansNone}

-- ---- the answer
module _ (s : Situation) (inside : in_station s ≡ true) where
  some-safe : (can_be_safe s ≡ true) ↔ SomeSafe s
  some-safe =
      let w = can-be-safe.yes_exactly s in (
        λ h. let v = w.0 h in (v.0, (v.1, (safe_exact s v.0 inside).0 v.2)),
        λ v. w.1 (v.0, v.1.0, (safe_exact s v.0 inside).1 v.1.1),
      )

  -- A safe setting stays safe with every open signal at stop.
  at_stop : SomeSafe s → (σ : List ℕ) × SafeSetting s σ × SignalsAtStop s σ
  unfolding file_states
  at_stop w =
      let σ = w.0 in
      let τ = stopped s σ in (
        τ,
        (stopped_setting s σ w.1.0, (safe_exact s τ inside).0 (stopped-safe s σ ((safe_exact s σ inside).1 w.1.1))),
        λ e m o k.
            let l = length-map (elements_of s) (λ (e : Element). e.state) in
            stopped_at s σ (e - 1) m w.1.0 (omega arith) o.at_0 k,
      )

  -- Where no setting is safe, under every setting two trains meet.
  none_safe : (SomeSafe s → ⊥) → (σ : List ℕ) → Setting s σ → TwoTrainsMeet s σ
  none_safe none σ h = (unsafe_exact s σ inside).0 (eq-false_of_not-eq-true λ e. none (σ, (h, (safe_exact s σ inside).0 e)))

-- ---- the refusals
-- Where no element is the m-th open turnout, fewer than m turnouts are open, and else at least m.
fewer : (m : ℕ) (es : List Element) → 1 ≤ m → turnout_element m es ≡ 0 → open_turnouts es < m
fewer m es l z = rw (← can-be-safe.count_left es) (fewer_open m (map stop_state es) l (can-be-safe.turnout_left m es ∙ z))

as_many : (m : ℕ) (es : List Element) → (turnout_element m es ≡ 0 → ⊥) → m ≤ open_turnouts es
as_many m es n = go (dec_lt (open_turnouts es) m)
  where
    go : Dec (open_turnouts es < m) → m ≤ open_turnouts es
    go (yes l) = absurd (n (sym (can-be-safe.turnout_left m es) ∙ none_open m (map stop_state es) (rw (can-be-safe.count_left es) l)))
    go (no l) = omega arith

-- The element found is the m-th open turnout.
turnout_at : (s : Situation) (m : ℕ) → 1 ≤ m → (turnout_element m (elements_of s) ≡ 0 → ⊥) → TurnoutAt s m (turnout_element m (elements_of s))
unfolding file_states
turnout_at s m l n =
    let es = elements_of s in
    let fs = map stop_state es in
    let e = turnout_element m es in
    let same = can-be-safe.turnout_left m es in
    let w : OpenAt fs m e = subst (OpenAt fs m) same (open_at m fs l (λ z. n (sym same ∙ z))) in
    let stops = length-map es stop_state in
    let states = length-map es (λ (e : Element). e.state) in
    let t = can-be-safe.open_turnout_lem es (e - 1) (omega arith) w.is_open in
    (record { numbered = (w.numbered.0, omega arith); at_0 = t.0 }, t.1, t.2, rw (sym (can-be-safe.count_left (take (e - 1) es)), ← mapped_take stop_state (e - 1) es) w.earlier)

-- What refuses a call, or nothing.
data Called (file : List ℕ) (q : Refusal) : Type 0 where
  passes : Accepted file → turnouts file ≤ 12 → q ≡ refusal 0 0 → Called file q
  by_file : RefusedFile file q → q.number ≤ 8 → Called file q
  by_turnouts : Accepted file → 13 ≤ turnouts file → (e : ℕ) → TurnoutAt (situation file) 13 e
      → q ≡ refusal 11 (element_line (situation file) e) → q.line ≤ length file / 22 → Called file q

called : (file : List ℕ) → Called file (can_be_safe_refusal file)
unfolding can_be_safe_refusal
called file = by_reading (eqb (reading file).refusal.number 0) refl
  where
    s : Situation
    s = (reading file).situation

    n : ℕ
    n = turnout_element 13 (elements_of s)

    by_open : Accepted file → (b : Bool) → eqb n 0 ≡ b → Called file (cond b (refusal 0 0) (refusal 11 (element_line s n)))
    by_open a true z =
        passes a (of_lines file a (λ (x : Situation). open_turnouts (elements_of x) ≤ 12) (omega (arith, fewer 13 (elements_of s) (omega arith) (eqb-true n 0 z)))) refl
    by_open a false z =
        let found = eqb-false n 0 z in
        let w = turnout_at s 13 (omega arith) found in
        let elements = accepted_lengths file ((accepted_exactly file).1 a) in
        let h = lines_read file a in
        let P : Situation → Type 0 = λ x. (13 ≤ open_turnouts (elements_of x)) × TurnoutAt x 13 n × (element_line s n ≡ element_line x n) in
        let p = of_lines file a P (as_many 13 (elements_of s) found, w, refl) in
        by_turnouts a p.0 n p.1 (ap (refusal 11) p.2) (omega arith)

    by_reading : (b : Bool) → eqb (reading file).refusal.number 0 ≡ b
        → Called file (cond b (cond (eqb n 0) (refusal 0 0) (refusal 11 (element_line s n))) (reading file).refusal)
    by_reading true z = by_open ((accepted_exactly file).0 (eqb-true (reading file).refusal.number 0 z)) (eqb n 0) refl
    by_reading false z = by_file (refused_file file (eqb-false (reading file).refusal.number 0 z)) (refusal_listed file).number

-- ---- the operation
given : (file : List ℕ) (q : Refusal) → Called file q
    → Item6 file (flat_yes_no (cond (eqb q.number 0) (Ok (can_be_safe (reading file).situation)) (Err q)))
given file q (passes a few z) =
    let s = (reading file).situation in
    let y = flat_yes_no (Ok (can_be_safe s)) in
    let said = of_lines file a (λ (x : Situation). Says y.yes (SomeSafe x)) (says (can_be_safe s) (some-safe s (accepted_inside file ((accepted_exactly file).1 a)))) in
    rw z (Answer.requested refl (a, few, said))
given file q (by_file w low) = rw (ne_eqb q.number 0 (λ z. omega (arith, z, w.numbered.number))) (Answer.refused w.numbered.number.0 (fails w.not_accepted w.cause) refl)
given file q (by_turnouts a more e t z line) =
    rw z (Answer.refused (omega arith) (holds a (e, more, t, (refl, refl))) refl)

-- Where the settings question replies, so does this one.
replies : (file : List ℕ) (r : FlatYesNo) → Item6 file r → Accepted file → turnouts file ≤ 12 → (r.refusal ≡ no_refusal) × Says r.yes (SomeSafe (situation file))
replies file r h h2 h3 = grind arith

pub agreeing : (file buffer buffer' : List ℕ) (r : FlatYesNo) (a : FlatReply) → Item6 file r → SettingsStatement file buffer buffer' a → a.refusal ≡ no_refusal
    → (r.refusal ≡ no_refusal) × ((r.yes ≡ 1) ↔ (SaysNone a → ⊥))
agreeing file buffer buffer' r a g (d1.refused n c u) e = absurd (omega (arith, n, ap (λ q. q.number) e))
agreeing file buffer buffer' r a g (d1.requested n w) e =
    let s = situation file in
    let few : turnouts file ≤ 12 = omega (arith, can-be-safe.fewer_turnouts s, w.1) in
    let v = replies file r g w.0 few in (
      v.0,
      (
        λ y z. let k = (says_yes r.yes v.1).0 y in k.1.1 (w.2.none_exactly.0 z k.0 k.1.0),
        λ some. let b = w.2.shown some in (says_yes r.yes v.1).1 (take s.header.elements buffer', (b.keeps, b.safe)),
      ),
    )

pub turnouts_alone : TurnoutsAlone
turnouts_alone file r (d1.refused n c u) e = absurd (omega (arith, n, ap (λ q. q.number) e))
turnouts_alone file r (d1.requested z (a, few, y)) e =
    let inside = of_lines file a (λ (x : Situation). in_station x ≡ true) (accepted_inside file ((accepted_exactly file).1 a)) in
    (λ one. at_stop (situation file) inside ((says_yes r.yes y).0 one), λ w. (says_yes r.yes y).1 (w.0, w.1))

pub no_means_none : NoMeansNone
no_means_none file r (d1.refused n c u) e y = absurd (omega (arith, n, ap (λ q. q.number) e))
no_means_none file r (d1.requested z (a, few, inl w)) e y = absurd (omega (arith, w.0, y))
no_means_none file r (d1.requested z (a, few, inr w)) e y =
    none_safe (situation file) (of_lines file a (λ (x : Situation). in_station x ≡ true) (accepted_inside file ((accepted_exactly file).1 a))) w.1

-- `answer` is the contract of the operation.
pub item_6 : (file : List ℕ) (r : FlatYesNo) → r ≡ flat_yes_no (can_be_safe_answer file) → Item6 file r
unfolding can_be_safe_answer
item_6 file r answer =
    rw answer (given file (can_be_safe_refusal file) (called file))
