-- Every open signal at stop. A signal at stop only takes moves away, so a safe setting stays safe with the open signals at stop (`stopped-safe`).
-- `AtStop s t` says that t is the situation s with its open signals at stop in the file: t's settings are those of s in which they are at stop
-- (`at_stop_tried`, `at_stop_setting`), and each is as safe in t as in s (`at_stop-safe`).
use mathlib.Core.Path.{◌≡◌, refl, sym, ap, subst, ◌∙◌}
use mathlib.Core.Bool.{true, false≢true}
use mathlib.Core.List.{List, [], ◌∷◌, map}
use mathlib.Mathlib.Data.Bool.Basic.{or_inr, and_intro}
use Prim.Native.Nat.{ℕ, zero, suc, ◌≤◌, ◌<◌}
use native.Mathlib.Omega.{arith}
use lib.Dec.{eqb}
use lib.ListN.{length, get_or, take}
use Rattle.meaning.specs.declared.Kind.{Kind}
use Rattle.meaning.specs.declared.Kind.TheVariants.{Signal, Turnout}
use Rattle.meaning.specs.declared.Element.{Element}
use Rattle.meaning.specs.declared.Move.{Move}
use Rattle.meaning.specs.declared.Situation.{Situation}
use Rattle.meaning.specs.Station.{plain_moves, elements_of, file_states, trains_of, moves_of}
use Rattle.meaning.specs.Verdict.{safe}
use Rattle.meaning.specs.Settings.{keeps, is_setting}
use Rattle.meaning.specs.File.{no_element}
use Rattle.basics.proofs.Tests.{and_both}
use Rattle.meaning.specs.Inside.{in_station}
use Rattle.meaning.proofs.Fewer.{Fewer, safe_fewer}
use Rattle.meaning.proofs.FixedMoves.{EachFewer, moves_fewer}
use Rattle.meaning.proofs.SameKinds.{kinds, SameButStates, same_inside, same_safe}
use Rattle.meaning.specs.Stopped.{at_stop, stop_state, stop, AtStop}

abbrev stopped_in : List Element → List ℕ → List ℕ
stopped_in [] σ = σ
stopped_in (e ∷ es) [] = []
stopped_in (e ∷ es) (x ∷ σ) = at_stop e.kind e.state x ∷ stopped_in es σ

-- The states σ, but every open signal at stop.
abbrev pub stopped : Situation → List ℕ → List ℕ
stopped s σ = stopped_in (elements_of s) σ

-- ---- a signal at stop takes moves away
-- What an element permits with the open signals at stop, it permits in any state.
stop_fewer : (k : Kind) (f x : ℕ) → Fewer (moves_of k (at_stop k f x)) (moves_of k x)
unfolding moves_of
stop_fewer (Signal m) zero x a b h = absurd (false≢true h)
stop_fewer (Signal m) (suc f) x a b h = h
stop_fewer (Turnout t) f x a b h = h

each_stopped : (es : List Element) (σ : List ℕ) → EachFewer es (stopped_in es σ) σ
each_stopped [] σ = tt
each_stopped (e ∷ es) [] = tt
each_stopped (e ∷ es) (x ∷ σ) = (stop_fewer e.kind e.state x, each_stopped es σ)

-- THE LAW THAT CARRIES ITEM 6: what is safe stays safe with the open signals at stop.
pub stopped-safe : (s : Situation) (σ : List ℕ) → safe s σ ≡ true → safe s (stopped s σ) ≡ true
stopped-safe s σ = safe_fewer s (stopped s σ) σ (moves_fewer s (stopped s σ) σ (each_stopped (elements_of s) σ))

-- ---- settings with the open signals at stop
abbrev states : List Element → List ℕ
states es = map (λ (e : Element). e.state) es

stop_kept : (k : Kind) (f x : ℕ) → keeps f x ≡ true → keeps (at_stop k f f) (at_stop k f x) ≡ true
stop_kept (Signal m) zero x h = refl
stop_kept (Signal m) (suc f) x h = h
stop_kept (Turnout t) f x h = h

kept_stop : (k : Kind) (f x : ℕ) → keeps (at_stop k f f) x ≡ true → keeps f x ≡ true
kept_stop (Signal m) zero x h = or_inr (eqb x 1) (eqb x 2) h
kept_stop (Signal m) (suc f) x h = h
kept_stop (Turnout t) f x h = h

stopped_in_lem : (es : List Element) (σ : List ℕ) → is_setting (states es) σ ≡ true → is_setting (map stop_state es) (stopped_in es σ) ≡ true
unfolding is_setting
stopped_in_lem [] σ h = h
stopped_in_lem (e ∷ es) [] h = h
stopped_in_lem (e ∷ es) (x ∷ σ) h =
    let w = and_both (keeps e.state x) (is_setting (states es) σ) h in
    and_intro (stop_kept e.kind e.state x w.0) (stopped_in_lem es σ w.1)

tried_in : (es : List Element) (σ : List ℕ) → is_setting (map stop_state es) σ ≡ true → is_setting (states es) σ ≡ true
unfolding is_setting
tried_in [] σ h = h
tried_in (e ∷ es) [] h = h
tried_in (e ∷ es) (x ∷ σ) h =
    let w = and_both (keeps (stop_state e) x) (is_setting (map stop_state es) σ) h in
    and_intro (kept_stop e.kind e.state x w.0) (tried_in es σ w.1)

-- A setting with its open signals at stop is a setting.
pub stopped_setting : (s : Situation) (σ : List ℕ) → is_setting (file_states s) σ ≡ true → is_setting (file_states s) (stopped s σ) ≡ true
unfolding file_states
stopped_setting s σ h = tried_in (elements_of s) (stopped s σ) (stopped_in_lem (elements_of s) σ h)

-- In it each open signal is at 2.
stopped_in_at : (es : List Element) (σ : List ℕ) (i : ℕ) (m : Move) → is_setting (states es) σ ≡ true → i < length es
    → get_or (states es) i 0 ≡ 0 → (get_or es i no_element).kind ≡ Signal m → get_or (stopped_in es σ) i 0 ≡ 2
unfolding is_setting
stopped_in_at [] σ i m h b o k = absurd (omega arith)
stopped_in_at (e ∷ es) [] i m h b o k = absurd (false≢true h)
stopped_in_at (e ∷ es) (x ∷ σ) zero m h b o k = go e.kind e.state o k
  where
    go : (k : Kind) (f : ℕ) → f ≡ 0 → k ≡ Signal m → at_stop k f x ≡ 2
    go k f o q = rw (o, q)
stopped_in_at (e ∷ es) (x ∷ σ) (suc i) m h b o k =
    stopped_in_at es σ i m (and_both (keeps e.state x) (is_setting (states es) σ) h).1 (omega arith) o k

pub stopped_at : (s : Situation) (σ : List ℕ) (i : ℕ) (m : Move) → is_setting (file_states s) σ ≡ true → i < length (elements_of s)
    → get_or (file_states s) i 0 ≡ 0 → (get_or (elements_of s) i no_element).kind ≡ Signal m → get_or (stopped s σ) i 0 ≡ 2
unfolding file_states
stopped_at s σ i m h b o k = stopped_in_at (elements_of s) σ i m h b o k

-- ---- the situation with its open signals at stop
stop_states : (es : List Element) → states (map stop es) ≡ map stop_state es
stop_states [] = refl
stop_states (e ∷ es) = ap (λ (l : List ℕ). stop_state e ∷ l) (stop_states es)

stop-kinds : (es : List Element) → kinds (map stop es) ≡ kinds es
stop-kinds [] = refl
stop-kinds (e ∷ es) = ap (λ (l : List Kind). e.kind ∷ l) (stop-kinds es)

-- No state above 2 comes in.
stop_within : (k : Kind) (f : ℕ) → f ≤ 2 → at_stop k f f ≤ 2
stop_within (Signal m) zero h = omega arith
stop_within (Signal m) (suc f) h = h
stop_within (Turnout t) f h = h

within : (es : List Element) (i : ℕ) → get_or (states es) i 0 ≤ 2 → get_or (map stop_state es) i 0 ≤ 2
within [] i h = h
within (e ∷ es) zero h = stop_within e.kind e.state h
within (e ∷ es) (suc i) h = within es i h

module _ {s t : Situation} (w : AtStop s t) where
  -- Only the turnouts are left open.
  pub at_stop_states : file_states t ≡ map stop_state (elements_of s)
  unfolding file_states
  at_stop_states = ap states w.elements ∙ stop_states (elements_of s)

  -- t differs from s in the states of its elements alone.
  at_stop_same : SameButStates t s
  unfolding plain_moves trains_of
  at_stop_same =
      record {
        header = w.header;
        plain = λ i. take (w.header i).plain (w.plain i);
        elements = ap kinds w.elements ∙ stop-kinds (elements_of s);
        trains = λ i. take (w.header i).trains (w.trains i);
      }

  -- t names the same sections as s.
  pub at_stop_inside : in_station t ≡ in_station s
  at_stop_inside = same_inside t s at_stop_same

  -- A setting is safe in t exactly where it is safe in s.
  pub at_stop-safe : (σ : List ℕ) → safe t σ ≡ safe s σ
  at_stop-safe = same_safe t s at_stop_same

  -- The states of t are at most 2 where those of s are.
  pub at_stop_within : (i : ℕ) → get_or (file_states s) i 0 ≤ 2 → get_or (file_states t) i 0 ≤ 2
  unfolding file_states
  at_stop_within i h = subst (λ (fs : List ℕ). get_or fs i 0 ≤ 2) (sym at_stop_states) (within (elements_of s) i h)

  -- A setting of s with its open signals at stop is a setting of t.
  pub at_stop_tried : (σ : List ℕ) → is_setting (file_states s) σ ≡ true → is_setting (file_states t) (stopped s σ) ≡ true
  unfolding file_states
  at_stop_tried σ h = subst (λ (fs : List ℕ). is_setting fs (stopped s σ) ≡ true) (sym at_stop_states) (stopped_in_lem (elements_of s) σ h)

  -- Each setting of t is a setting of s.
  pub at_stop_setting : (σ : List ℕ) → is_setting (file_states t) σ ≡ true → is_setting (file_states s) σ ≡ true
  unfolding file_states
  at_stop_setting σ h = tried_in (elements_of s) σ (subst (λ (fs : List ℕ). is_setting fs σ ≡ true) at_stop_states h)
