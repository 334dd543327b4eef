-- Impostors of 01 that do not meet the demands, whatever an operation's contract says, on files where they are wrong (the others are in Impostors): "a
-- settings reply of all stops", "made-up entries or looks", "paths never written" and "refusing everything", by the verdict, the reader and the writer.
use mathlib.Core.Path.{◌≡◌, refl, ap}
use mathlib.Core.Logic.{◌⊎◌, inl, inr}
use mathlib.Core.Bool.{true}
use mathlib.Core.List.{List, [], ◌∷◌, ◌++◌}
use Prim.Native.Nat.{ℕ, ◌≤◌}
use native.Mathlib.Omega.{arith}
use lib.ListN.{length, get_or, take}
use Rattle.std.specs.Prelude.{Result}
use Rattle.meaning.specs.declared.Refusal.{Refusal}
use Rattle.meaning.specs.declared.Situation.{Situation}
use Rattle.meaning.specs.declared.Verdict as defined
use Rattle.meaning.specs.declared.Verdict.TheVariants as found
use Rattle.meaning.specs.declared.ShownVerdict.{ShownVerdict}
use Rattle.meaning.specs.Station.{plain_moves, elements_of, file_states, trains_of, standing, moves_of, element_moves, forbidden, passing, agreed_moves, moves}
use Rattle.meaning.specs.Verdict.{verdict}
use Rattle.meaning.specs.Settings.{open_count, is_setting, proceed_count}
use Rattle.meaning.specs.Columns.{field_at, record_kind_at, well_formed, line_at, having}
use Rattle.basics.specs.Lists.{list_of, pad_to}
use Rattle.meaning.specs.File.{pairs_of, closed_to, clashes, line_cause, cause_after, first_refusal, refusal_of, situation_of, kind_at, file_line_in}
use Rattle.meaning.specs.File.{reading_under_in, reading_in}
use Rattle.meaning.specs.Accepted.{file_header, Accepted}
use Rattle.meaning.specs.Operations.{Answers}
use Rattle.worked_examples.proofs.Examples.{bytes, file_k}
use Rattle.meaning.specs.Inside.{in_station}
use Rattle.meaning.proofs.Accepted.{accepted_exactly}
use Rattle.meaning.proofs.AcceptedSituation.{accepted_inside}
use Rattle.c_layout.specs.declared.FlatRefusal.{FlatRefusal}
use Rattle.c_layout.specs.declared.FlatReading.{FlatReading}
use Rattle.c_layout.specs.declared.FlatReply.{FlatReply}
use Rattle.c_layout.specs.declared.FlatVerdict.{FlatVerdict}
use Rattle.c_layout.specs.Flat.{flat_situation, flat_verdict}
use Rattle.demands.specs.Words.{situation}
use Rattle.demands.specs.Reach.{Leads, SafeSetting}
use Rattle.demands.specs.OfVerdict.{Shows, SafeVerdict, DangerousVerdict, Verdict, Demand2}
use Rattle.demands.specs.OfSettings.{Best, Reply, Demand3}
use Rattle.demands.specs.Demand2.{Demand2Read, Demand2Write}
use Rattle.demands.proofs.Words.{of_lines}
use Rattle.demands.proofs.Reach.{one_train}
use Rattle.demands.proofs.VerdictExactly.{judged_back}

-- ---- an open signal, and no train
unfoldable pub one_signal : List ℕ
unfolding bytes
one_signal = bytes "S    2    0    1    0\nL    1    2    0     \n"

signal_accepted : Accepted one_signal
unfolding one_signal reading_in reading_under_in refusal_of first_refusal cause_after line_cause pairs_of closed_to clashes file_line_in kind_at line_at well_formed record_kind_at field_at having
signal_accepted = (accepted_exactly one_signal).0 refl

module _ (buffer buffer' : List ℕ) (r : FlatReply) (demand : Demand3 one_signal buffer buffer' r) (room : 1 ≤ length buffer) where
  signal_reply : Reply (situation one_signal) buffer buffer' r
  unfolding one_signal situation situation_of file_header file_line_in kind_at line_at well_formed record_kind_at field_at elements_of file_states open_count list_of pad_to
  signal_reply = demand.met signal_accepted (omega arith) room

  -- Both settings are safe.
  safe_at : (x : ℕ) → is_setting (0 ∷ []) (x ∷ []) ≡ true → SafeSetting (situation one_signal) (x ∷ [])
  unfolding one_signal situation situation_of file_header file_line_in kind_at line_at well_formed record_kind_at field_at elements_of file_states list_of pad_to
  safe_at x h = (h, one_train (situation one_signal) (x ∷ []) (omega arith))

  -- "A settings reply of all stops": the signal at proceed is safe too, and counts more.
  pub not_all_stops : take 1 buffer' ≡ 2 ∷ [] → ⊥
  unfolding one_signal situation situation_of file_header file_line_in kind_at line_at well_formed record_kind_at field_at elements_of file_states list_of pad_to is_setting proceed_count
  not_all_stops e =
      let some : r.safe ≡ 0 → ⊥ = λ z. (safe_at 1 refl).1 (signal_reply.none_exactly.0 z (1 ∷ []) refl) in
      let best : Best (situation one_signal) (2 ∷ []) r.proceed = rw e at (signal_reply.shown some) in
      let more = (best.others (1 ∷ []) (safe_at 1 refl) (λ q. grind arith)).0 in
      omega (arith, more)

-- ---- station K of 01
k_accepted : Accepted (bytes file_k)
unfolding bytes file_k reading_in reading_under_in refusal_of first_refusal cause_after line_cause pairs_of closed_to clashes file_line_in kind_at line_at well_formed record_kind_at field_at having
k_accepted = (accepted_exactly (bytes file_k)).0 refl

-- A list that shows a path of a train in section a begins with a.
starts : (s : Situation) (σ : List ℕ) (t a : ℕ) → standing s t ≡ a ∷ [] → {k n : ℕ} {list list' : List ℕ} → Shows s σ t k n list list' → get_or list' 0 0 ≡ a
starts s σ t a one {k} {n} {list} {list'} w = go _ w.path w.leads w.filled.is
  where
    go : (rest p : List ℕ) → Leads s σ t k p → list' ≡ p ++ rest → get_or list' 0 0 ≡ a
    go rest [] h e = absurd h
    go rest (b ∷ p) h e = grind arith

abbrev k : Situation
k = situation (bytes file_k)

stand_at : (standing k 1 ≡ 1 ∷ []) × (standing k 2 ≡ 4 ∷ [])
unfolding bytes file_k situation situation_of file_header file_line_in kind_at line_at well_formed record_kind_at field_at list_of pad_to trains_of standing
stand_at = (refl, refl)

module _ (first second first' second' : List ℕ) (r : FlatVerdict) (demand : Demand2 (bytes file_k) first second first' second' r)
    (some₁ : 5 ≤ length first) (some₂ : 5 ≤ length second) where
  k_verdict : Verdict k (file_states k) first second first' second' r
  unfolding bytes file_k situation situation_of file_header file_line_in kind_at line_at well_formed record_kind_at field_at elements_of file_states open_count list_of pad_to
  k_verdict = demand.met k_accepted (omega arith) some₁ some₂

  -- "V    1    6    6    5": the answer has the numbers of the definitions.
  abbrev KAnswer : defined.Verdict
  KAnswer = found.Dangerous (record { first = record { 0 = 1 }; second = record { 0 = 2 }; section = record { 0 = 5 } }) (record { entries = 6; looks = 6 })

  k_is : verdict k (file_states k) ≡ KAnswer
  unfolding bytes file_k situation situation_of file_header file_line_in kind_at line_at well_formed record_kind_at field_at file_states list_of pad_to plain_moves elements_of moves_of element_moves forbidden passing agreed_moves moves trains_of standing verdict
  k_is = refl

  k_answer : (v : Result ShownVerdict Refusal) × Answers k (file_states k) KAnswer first second first' second' v
      × (r ≡ flat_verdict v)
  k_answer =
      let inside = of_lines (bytes file_k) k_accepted (λ (s : Situation). in_station s ≡ true) (accepted_inside (bytes file_k) ((accepted_exactly (bytes file_k)).1 k_accepted)) in
      judged_back k inside (file_states k) first second first' second' r k_verdict KAnswer k_is

  -- "Made-up entries or looks": they are the printed ones.
  pub entries_are_6 : r.entries ≡ 6
  entries_are_6 = grind (arith, k_answer)

  pub looks_are_6 : r.looks ≡ 6
  looks_are_6 = grind (arith, k_answer)

  -- "Refusing everything."
  pub not-refused : (r.refusal.number ≡ 0 → ⊥) → ⊥
  not-refused n = n (ap (λ (q : FlatRefusal). q.number) k_verdict.no_refusal_lem)

  -- "Paths never written": afterwards each list begins with its train's section, whatever it held.
  pub written : (get_or first' 0 0 ≡ 1) × (get_or second' 0 0 ≡ 4)
  written = go k_verdict.answer
    where
      trains : (r.dangerous ≡ 1) × (r.first_train ≡ 1) × (r.second_train ≡ 2)
      trains = grind (arith, k_answer)

      go : SafeVerdict k (file_states k) first second first' second' r ⊎ DangerousVerdict k (file_states k) first second first' second' r
          → (get_or first' 0 0 ≡ 1) × (get_or second' 0 0 ≡ 4)
      go (inl w) = grind (arith, trains)
      go (inr w) = (
        starts k (file_states k) 1 1 stand_at.0 (rw trains.1 at w.first_path),
        starts k (file_states k) 2 4 stand_at.1 (rw trains.2 at w.second_path),
      )

-- "Refusing everything", by the reader and the writer.
pub read-not-refused : (r : FlatReading) → Demand2Read (bytes file_k) r → r.refusal.number ≡ 0
read-not-refused r demand = demand.accepts_exactly.1 k_accepted

pub write-not-refused : (buffer buffer' : List ℕ) (q : FlatRefusal) → Demand2Write (flat_situation k) buffer buffer' q → 176 ≤ length buffer
    → q.number ≡ 0
unfolding bytes file_k
write-not-refused buffer buffer' q demand room = ap (λ (x : FlatRefusal). x.number) (demand.met (bytes file_k) k_accepted refl room).0
