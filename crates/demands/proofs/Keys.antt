-- Demand 1, and so what the key is, holds of any operation with the contract of the key: `demand_1_key`.
use mathlib.Core.Path.{◌≡◌, refl, sym, ap, subst}
use mathlib.Core.Bool.{Bool, true, false, false≢true}
use mathlib.Core.List.{List, []}
use Prim.Native.Nat.{ℕ, ◌<◌}
use native.Mathlib.Decide.{dec_lt}
use native.Mathlib.Omega.{arith}
use lib.Dec.{eqb}
use lib.ListN.{length}
use lib.Seq.{take_all, take_at}
use borrow.Author.Tests.{eqb-true, eqb-false, ne_eqb}
use Rattle.std.specs.Prelude.{Result, Ok, Option}
use Rattle.meaning.specs.declared.Choice.{Choice}
use Rattle.meaning.specs.declared.Output.{Output}
use Rattle.meaning.specs.declared.Situation.{Situation}
use Rattle.meaning.specs.declared.Refusal.{Refusal}
use Rattle.meaning.specs.declared.PathLengths.{PathLengths}
use Rattle.meaning.specs.declared.Verdict as defined
use Rattle.meaning.specs.declared.Verdict.TheVariants as found
use Rattle.meaning.specs.declared.ShownVerdict.TheVariants as shown
use Rattle.meaning.specs.Station.{file_states}
use Rattle.meaning.specs.Inside.{in_station}
use Rattle.meaning.specs.Verdict.{verdict, shows}
use Rattle.meaning.specs.Settings.{chosen, reply}
use Rattle.meaning.specs.File.{reading, refusal}
use Rattle.meaning.specs.Accepted.{Accepted}
use Rattle.meaning.specs.Operations.{open_element, Shows}
use Rattle.meaning.specs.Key.{IsVerdictKey, question_key, key_refusal, KeyText, KeyIs}
use Rattle.meaning.proofs.Accepted.{accepted_exactly}
use Rattle.meaning.proofs.AcceptedSituation.{accepted_counts, accepted_inside, accepted_lengths, accepted_states}
use Rattle.meaning.proofs.Opens.{fewer_open}
use Rattle.c_layout.specs.declared.FlatOutput.{FlatOutput}
use Rattle.c_layout.specs.Flat.{flat_refusal, flat_verdict, flat_reply, flat_output}
use Rattle.demands.specs.Words.{AtMostOpen}
use Rattle.demands.specs.Demand1.{requested, refused, Short}
use Rattle.demands.specs.Keys.{verdict_text, question_text, VerdictKey, QuestionKey, Key, Demand1Key}
use Rattle.demands.proofs.Words.{of_lines, none_open}
use Rattle.demands.proofs.Causes.{Called, passes, refuses, called, call_with}
use Rattle.demands.proofs.Legible.{verdict_legible, question_legible, refusal_legible}
use Rattle.demands.proofs.Words.{nothing}
use Rattle.demands.proofs.Demand2 as d2
use Rattle.demands.proofs.Demand3 as d3
use Rattle.demands.specs.Laws.{LegibleLines}

module _ (s : Situation) (inside : in_station s ≡ true) where
  -- A list that holds nothing but a path shows that path.
  whole : (t k : ℕ) (p : List ℕ) → shows s (file_states s) t k p ≡ true → Shows s (file_states s) t k (length p) p p
  whole t k p h = grind (arith, take_all)

  verdict_key : (text : List ℕ) → AtMostOpen 0 s → (w : defined.Verdict) → verdict s (file_states s) ≡ w → IsVerdictKey s (file_states s) w text
      → VerdictKey s text
  unfolding verdict_text
  verdict_key text none (found.Safe c) e k = (
    none,
    [],
    [],
    [],
    [],
    flat_verdict (Ok (shown.Safe c)),
    d2.judged s inside (file_states s) [] [] [] [] (Ok (shown.Safe c)) (found.Safe c) e (refl, refl, refl),
    k,
  )
  verdict_key text none (found.Dangerous m c) e (p, q, hp, hq, k) =
      let n : PathLengths = record { first = length p; second = length q } in (
        none,
        p,
        q,
        p,
        q,
        flat_verdict (Ok (shown.Dangerous m c n)),
        d2.judged s inside (file_states s) p q p q (Ok (shown.Dangerous m c n)) (found.Dangerous m c) e
            (n, refl, whole m.first.0 m.section.0 p hp, whole m.second.0 m.section.0 q hq),
        rw (take_all (length p) p (omega arith), take_all (length q) q (omega arith)) k,
      )

  pub question_key_lem : length (file_states s) ≡ s.header.elements → (text : List ℕ) → (AtMostOpen 0 s → ⊥) → AtMostOpen 12 s
      → (a : Option Choice) → reply s ≡ a → text ≡ question_key a (chosen s) → QuestionKey s text
  unfolding question_text
  question_key_lem lengths text some few a e k =
      (some, few, [], d3.after s [], flat_reply (Ok a), d3.replied s inside lengths [] a e, grind (arith, d3.chosen-length, d3.some-safe, take_at))

-- A key of the definitions is one of the demands, and its lines are legible.
pub is_key : (file text : List ℕ) → KeyText file text → Key file text × LegibleLines text
unfolding key_refusal
is_key file text k = go (called file 11 12 (omega arith) (omega arith) ⊥ false (λ a h. false≢true h))
  where
    s : Situation
    s = (reading file).situation

    open_one : ℕ
    open_one = open_element 1 (file_states s)

    split : Accepted file → AtMostOpen 12 s → eqb (key_refusal file).number 0 ≡ true → (b : Bool) → eqb open_one 0 ≡ b → Key file text × LegibleLines text
    split a few z true h =
        let z₁ = (accepted_exactly file).1 a in
        let none : AtMostOpen 0 s = omega (arith, fewer_open 1 (file_states s) (omega arith) (eqb-true open_one 0 h)) in
        let inside = accepted_inside file z₁ in (
          Key.judged a (of_lines file a (λ x. VerdictKey x text) (verdict_key s inside text none (verdict s (file_states s)) refl (k.judged z h))),
          verdict_legible s inside (accepted_counts file z₁).limits (file_states s) text (verdict s (file_states s)) refl (k.judged z h),
        )
    split a few z false h =
        let z₁ = (accepted_exactly file).1 a in
        let some : AtMostOpen 0 s → ⊥ = λ l. eqb-false open_one 0 h (none_open 1 (file_states s) (omega arith)) in
        let lengths = accepted_lengths file z₁ in (
          Key.asked a (of_lines file a (λ x. QuestionKey x text)
              (question_key_lem s (accepted_inside file z₁) lengths text some few (reply s) refl (k.asked z h))),
          question_legible s (accepted_counts file z₁).limits lengths (accepted_states file z₁) few text (reply s) refl (k.asked z h),
        )

    go : Called file 11 12 ⊥ false (key_refusal file) → Key file text × LegibleLines text
    go (passes a few h e) = split a few (ap (λ (q : Refusal). eqb q.number 0) e) (eqb open_one 0) refl
    go (refuses n c) =
        let q = flat_refusal (key_refusal file) in
        let e = k.refused (ne_eqb (key_refusal file).number 0 (λ z. omega arith)) in
        let d = call_with file 11 12 (Short ⊥) (λ p. ⊥) q (λ w. w.0) c in
        (Key.refused q d e, subst LegibleLines (sym e) (refusal_legible file 11 12 q n.number.1 d))

pub demand_1_key : (file buffer buffer' : List ℕ) (r : FlatOutput) (k : Result Output Refusal) → KeyIs file buffer buffer' k → r ≡ flat_output k
    → Demand1Key file buffer buffer' r
demand_1_key file buffer buffer' r k contract e = go (dec_lt (length buffer) 22550)
  where
    go : Dec (length buffer < 22550) → Demand1Key file buffer buffer' r
    go (yes l) = let w = contract.too_short l in rw (e, w.0) (refused (omega arith) (l, (refl, refl)) (w.1, nothing (refusal 9 0)))
    go (no l) =
        let w = contract.written (omega arith) in
        let p = is_key file w.0 w.1 in
        rw (e, w.2) (requested refl (record { text = w.0; key = p.0; start = w.3; room = omega arith; handed_back = (refl, omega arith) }))
