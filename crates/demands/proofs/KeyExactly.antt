-- A key meets demand 1 exactly when it is one that the definitions allow: `key_exactly`. The shown paths are free in both.
use mathlib.Core.Path.{◌≡◌, refl, ◌∙◌}
use mathlib.Core.Logic.{◌↔◌}
use mathlib.Core.Bool.{true, false, false≢true}
use mathlib.Core.List.{List}
use Prim.Native.Nat.{ℕ}
use native.Mathlib.Omega.{arith}
use lib.ListN.{length, take}
use borrow.Author.Tests.{eqb-true}
use Rattle.std.specs.Prelude.{Result, Ok, Err}
use Rattle.meaning.specs.declared.Situation.{Situation}
use Rattle.meaning.specs.declared.Refusal.{Refusal}
use Rattle.meaning.specs.declared.Output.{Output}
use Rattle.meaning.specs.Digits.{output_of}
use Rattle.meaning.specs.declared.Verdict as defined
use Rattle.meaning.specs.declared.Verdict.TheVariants as found
use Rattle.meaning.specs.declared.ShownVerdict.{ShownVerdict}
use Rattle.meaning.specs.Station.{file_states}
use Rattle.meaning.specs.Verdict.{verdict}
use Rattle.meaning.specs.Settings.{chosen, reply}
use Rattle.meaning.specs.File.{refusal, reading}
use Rattle.meaning.specs.Operations.{Answers}
use Rattle.meaning.specs.Key.{IsVerdictKey, question_key, key_refusal, KeyText, KeyIs}
use Rattle.meaning.specs.Inside.{in_station}
use Rattle.meaning.proofs.Accepted.{accepted_exactly}
use Rattle.meaning.proofs.AcceptedSituation.{accepted_inside, accepted_lengths}
use Rattle.meaning.proofs.Opens.{fewer_open}
use Rattle.c_layout.specs.declared.FlatVerdict.{FlatVerdict}
use Rattle.c_layout.specs.declared.FlatOutput.{FlatOutput}
use Rattle.c_layout.specs.Flat.{flat_verdict, flat_output, flat_refusal}
use Rattle.demands.specs.Words.{AtMostOpen}
use Rattle.demands.specs.Demand1.{requested, refused, CallCause, Short}
use Rattle.demands.specs.Keys.{verdict_text, VerdictKey, QuestionKey, Key, Demand1Key}
use Rattle.demands.proofs.Words.{of_lines, none_open, nothing_said}
use Rattle.demands.proofs.Causes.{Called, passes, refuses, called, call_with}
use Rattle.demands.proofs.OneCause.{call_cause_one, no_call_cause}
use Rattle.demands.proofs.CompleteKey.{question_keys}
use Rattle.demands.proofs.VerdictExactly.{judged_back}
use Rattle.demands.proofs.Keys.{question_key_lem, demand_1_key}

-- What the contract of the key says of a flat answer.
abbrev KeyGiven : List ℕ → List ℕ → List ℕ → FlatOutput → Type 0
KeyGiven file buffer left r = (k : Result Output Refusal) × KeyIs file buffer left k × (r ≡ flat_output k)

module _ (s : Situation) (text f g : List ℕ) (r : FlatVerdict) (printed : text ≡ verdict_text r f g) where
  verdict_text_lem : (first second : List ℕ) (w : defined.Verdict)
      → (v : Result ShownVerdict Refusal) × Answers s (file_states s) w first second f g v × (r ≡ flat_verdict v) → IsVerdictKey s (file_states s) w text
  unfolding verdict_text
  verdict_text_lem first second (found.Safe c) (v, a, e) = grind (arith, printed)
  verdict_text_lem first second (found.Dangerous m c) (v, (n, is, p, q), e) =
      (take n.first f, take n.second g, p.path, q.path, grind (arith, printed))

verdict_key_back : (s : Situation) → in_station s ≡ true → (text : List ℕ) → VerdictKey s text → IsVerdictKey s (file_states s) (verdict s (file_states s)) text
verdict_key_back s inside text k =
    verdict_text_lem s text k.3 k.4 k.5 k.7 k.1 k.2 (verdict s (file_states s))
    (judged_back s inside (file_states s) k.1 k.2 k.3 k.4 k.5 k.6 (verdict s (file_states s)) refl)

question_key_back : (s : Situation) → in_station s ≡ true → length (file_states s) ≡ s.header.elements → (text : List ℕ) → QuestionKey s text
    → text ≡ question_key (reply s) (chosen s)
question_key_back s inside lengths text k =
    question_keys s text _ k (question_key_lem s inside lengths _ k.0 k.1 (reply s) refl refl)

pub key_text : (file text : List ℕ) → Key file text → KeyText file text
unfolding key_refusal
key_text file text k = go k (called file 11 12 (omega arith) (omega arith) ⊥ false (λ a h. false≢true h))
  where
    s : Situation
    s = (reading file).situation

    q : Refusal
    q = key_refusal file

    -- The key lends the buffers itself.
    only_file : CallCause file 11 12 (Short ⊥) (flat_refusal q) → CallCause file 11 12 (λ p. ⊥) (flat_refusal q)
    only_file = call_with file 11 12 (Short ⊥) (λ p. ⊥) (flat_refusal q) (λ c. c.0)

    go : Key file text → Called file 11 12 ⊥ false q → KeyText file text
    go (Key.refused p c e) (passes a few h z) = absurd (no_call_cause file 11 12 (λ p. ⊥) p a (of_lines file a (AtMostOpen 12) few) (λ x. x) c)
    go (Key.refused p c e) (refuses n d) =
        let same : p ≡ flat_refusal q = call_cause_one file 11 12 (λ p. ⊥) p (flat_refusal q) (λ x y. absurd x) c (only_file d) in
        record {
          refused = λ z. e ∙ rw same refl;
          asked = λ z o. absurd (omega (arith, n.number, eqb-true q.number 0 z));
          judged = λ z o. absurd (omega (arith, n.number, eqb-true q.number 0 z));
        }
    go (Key.judged a v) (refuses n d) = absurd (no_call_cause file 11 12 (λ p. ⊥) (flat_refusal q) a (omega (arith, v.0)) (λ x. x) (only_file d))
    go (Key.judged a v) (passes b few h e) =
        let P : Situation → Type 0 = λ y. VerdictKey y text
        → (AtMostOpen 0 s) × IsVerdictKey s (file_states s) (verdict s (file_states s)) text in
        let w = of_lines file a P (λ k. (k.0, verdict_key_back s (accepted_inside file ((accepted_exactly file).1 a)) text k)) v in
        let none = none_open 1 (file_states s) (omega (arith, w.0)) in
        record { refused = λ z. grind (arith, e); asked = λ z o. grind (arith, none); judged = λ z o. w.1 }
    go (Key.asked a v) (refuses n d) = absurd (no_call_cause file 11 12 (λ p. ⊥) (flat_refusal q) a v.1 (λ x. x) (only_file d))
    go (Key.asked a v) (passes b few h e) =
        let z₁ = (accepted_exactly file).1 a in
        let P : Situation → Type 0 = λ y. QuestionKey y text → (AtMostOpen 0 s → ⊥) × (text ≡ question_key (reply s) (chosen s)) in
        let w = of_lines file a P (λ k. (k.0, question_key_back s (accepted_inside file z₁) (accepted_lengths file z₁) text k)) v in
        record {
          refused = λ z. grind (arith, e);
          asked = λ z o. w.1;
          judged = λ z o. absurd (w.0 (omega (arith, fewer_open 1 (file_states s) (omega arith) (eqb-true _ 0 o))));
        }

key_back : (file buffer left : List ℕ) (r : FlatOutput) → Demand1Key file buffer left r → KeyGiven file buffer left r
key_back file buffer left r (requested z p) = (
  Ok (output_of p.text),
  record { too_short = λ l. absurd (omega (arith, p.room)); written = λ l. (p.text, key_text file p.text p.key, refl, p.start) },
  grind (arith, p.handed_back),
)
key_back file buffer left r (refused n c u) =
    let none = nothing_said r u.1 in
    (Err (refusal 9 0), record { too_short = λ h. (refl, u.0); written = λ h. absurd (omega (arith, c.0)) }, grind (arith, none))

pub key_exactly : (file buffer left : List ℕ) (r : FlatOutput) → Demand1Key file buffer left r ↔ KeyGiven file buffer left r
key_exactly file buffer left r = (key_back file buffer left r, λ w. demand_1_key file buffer left r w.0 w.1 w.2)
