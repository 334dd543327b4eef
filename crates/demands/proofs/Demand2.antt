-- Demand 2 holds of any operation with the contract of the verdict: `demand_2`; of the reader and of the writer: `demand_2_read`,
-- `demand_2_write`.
use mathlib.Core.Path.{◌≡◌, refl, sym, ap, subst⁻¹, ◌∙◌}
use mathlib.Core.Logic.{inl, inr}
use mathlib.Core.Bool.{Bool, true, false, cond, false≢true}
use mathlib.Core.List.{List, [], ◌++◌}
use Prim.Native.Nat.{ℕ, ◌*◌, ◌≤◌}
use native.Mathlib.Omega.{arith}
use lib.Dec.{eqb}
use lib.ListN.{length, drop}
use Rattle.meaning.specs.declared.Refusal.{Refusal}
use Rattle.std.specs.Prelude.{Result}
use Rattle.meaning.specs.declared.Situation.{Situation}
use Rattle.meaning.specs.File.{Reading}
use Rattle.meaning.specs.declared.Counts as carried
use Rattle.meaning.specs.declared.Meeting.{Meeting}
use Rattle.meaning.specs.declared.Verdict as defined
use Rattle.meaning.specs.declared.Verdict.TheVariants as found
use Rattle.meaning.specs.declared.ShownVerdict.{ShownVerdict}
use Rattle.meaning.specs.Station.{file_states, moves, permitted}
use Rattle.meaning.specs.Inside.{in_station}
use Rattle.meaning.specs.Verdict.{in_reach, outdegree, entries_of, looks_of, counts_to, meeting_of, verdict_for, verdict}
use Rattle.meaning.specs.File.{reading, file_text, write_refusal, after_writing}
use Rattle.meaning.specs.Accepted.{Accepted}
use Rattle.meaning.specs.Operations.{verdict_refusal, Answers, VerdictIs}
use Rattle.meaning.proofs.Accepted.{accepted_exactly, accepted_situation}
use Rattle.meaning.proofs.AcceptedSituation.{accepted_inside}
use Rattle.meaning.proofs.Inside.{moves_inside, reach_inside}
use Rattle.meaning.proofs.Danger as danger
use Rattle.file_meaning.proofs.RoundTrip.{read_then_write_accepted, read_then_write_buffer, written_again}
use Rattle.file_meaning.proofs.WrittenBytes.{written-bytes}
use Rattle.c_layout.specs.declared.FlatRefusal.{FlatRefusal}
use Rattle.c_layout.specs.declared.FlatSituation.{FlatSituation}
use Rattle.c_layout.specs.declared.FlatReading.{FlatReading}
use Rattle.c_layout.specs.declared.FlatVerdict.{FlatVerdict}
use Rattle.c_layout.specs.Flat.{no_refusal, flat_refusal, flat_situation, flat_reading, situation_from_c, flat_verdict}
use Rattle.c_layout.proofs.Back.{situation_back}
use Rattle.c_layout.proofs.Readings.{reading_whole}
use Rattle.demands.specs.Words.{situation, Filled, InOldForm, AtMostOpen, HowMany}
use Rattle.demands.specs.Reach.{Agreed, TwoTrainsMeet, Ends}
use Rattle.demands.specs.OfVerdict.{Names, Counts, Verdict, Demand2}
use Rattle.demands.specs.Demand2.{Demand2Read, Demand2Write}
use Rattle.demands.proofs.Words.{of_lines, verdict_passes}
use Rattle.demands.proofs.Reach.{agreed, leads_same, ends_same, meet, verdict_exact, shown}
use Rattle.demands.proofs.Counting.{how_many_same, total_is, count_is}
use Rattle.meaning.proofs.Bounds.{counts_of, permitted_moves, entries_bound, looks_bound}

module _ (s : Situation) (inside : in_station s ≡ true) (σ : List ℕ) where
  -- ---- the counts
  reached : (t : ℕ) → HowMany (Ends s σ t) (entries_of s σ t)
  unfolding entries_of
  reached t =
      how_many_same _ (Ends s σ t) _
      (λ k. (
        λ h. (ends_same s σ t k).0 (danger.reach_leads s σ t k h.1),
        λ e. let i = danger.leads-reach s σ t k e.0 ((leads_same s σ t k e.0).1 e.1) in (reach_inside s inside σ t k i, i),
      ))
      (count_is s.header.sections (in_reach s σ t))

  abbrev Leaves : ℕ → ℕ → ℕ → Type 0
  Leaves t a b = Ends s σ t a × Agreed s σ a b

  outdegree_one : (t a : ℕ) (b : Bool) → in_reach s σ t a ≡ b → HowMany (Leaves t a) (cond b (outdegree s σ a) 0)
  unfolding outdegree
  outdegree_one t a true e =
      how_many_same _ (Leaves t a) _
      (λ b. (
        λ h. ((ends_same s σ t a).0 (danger.reach_leads s σ t a e), (agreed a b s σ).0 h.1),
        λ h. let p = (agreed a b s σ).1 h.1 in ((moves_inside s inside σ a b p).1, p),
      ))
      (count_is s.header.sections (permitted (moves s σ) a))
  outdegree_one t a false e = record {
    all = [];
    once = tt;
    exactly = λ b. (λ i. absurd i, λ h. absurd (false≢true (sym e ∙ danger.leads-reach s σ t a h.0.0 ((leads_same s σ t a h.0.0).1 h.0.1))));
    number = refl;
  }

  looked : (t : ℕ) → HowMany {A = ℕ × ℕ} (λ (a, b). Leaves t a b) (looks_of s σ t)
  unfolding looks_of
  looked t =
      how_many_same _ (λ (x : ℕ × ℕ). Leaves t x.0 x.1) _
      (λ x. (λ h. h.1, λ h. ((moves_inside s inside σ x.0 x.1 ((agreed x.0 x.1 s σ).1 h.1)).0, h)))
      (total_is s.header.sections _ (Leaves t) (λ a. outdegree_one t a (in_reach s σ t a) refl))

  pub counts : (m : ℕ) → Counts s σ m (counts_to s σ m).entries (counts_to s σ m).looks
  unfolding counts_to
  counts m = record {
    entries_of_lem = total_is m (entries_of s σ) (Ends s σ) reached;
    looks_of_lem = total_is {B = ℕ × ℕ} m (looks_of s σ) (λ t. λ (a, b). Leaves t a b) looked;
  }

  -- The permitted moves, counted.
  abbrev Permitted : ℕ → ℕ → Type 0
  Permitted a b = Agreed s σ a b

  permitted_pairs : HowMany {A = ℕ × ℕ} (λ (a, b). Permitted a b) (permitted_moves s σ)
  unfolding permitted_moves outdegree
  permitted_pairs =
      how_many_same _ (λ (x : ℕ × ℕ). Permitted x.0 x.1) _
      (λ x. (λ h. h.1, λ h. ((moves_inside s inside σ x.0 x.1 ((agreed x.0 x.1 s σ).1 h)).0, h)))
      (total_is s.header.sections _ Permitted
      (λ a.
      how_many_same _ (Permitted a) _
      (λ b. (λ h. (agreed a b s σ).0 h.1, λ h. let p = (agreed a b s σ).1 h in ((moves_inside s inside σ a b p).1, p)))
      (count_is s.header.sections (permitted (moves s σ) a))))

  bounds : (c : carried.Counts) → counts_of (verdict s σ) ≡ c
      → (c.entries ≤ 2 * s.header.sections) × ((n : ℕ) × HowMany {A = ℕ × ℕ} (λ (a, b). Permitted a b) n × (c.looks ≤ 2 * n))
  bounds c e = (rw e at (entries_bound s σ), (permitted_moves s σ, permitted_pairs, rw e at (looks_bound s σ)))

  -- ---- the verdict
  pub safe-counts : (c : carried.Counts) → verdict s σ ≡ found.Safe c → counts_to s σ s.header.trains ≡ c
  unfolding verdict verdict_for
  safe-counts c = grind arith

  pub dangerous-counts : (w : Meeting) (c : carried.Counts) → verdict s σ ≡ found.Dangerous w c → counts_to s σ w.second.0 ≡ c
  unfolding verdict verdict_for meeting_of
  dangerous-counts w c = grind arith

  pub named : (w : Meeting) (c : carried.Counts) → verdict s σ ≡ found.Dangerous w c → Names s σ w.first.0 w.second.0 w.section.0
  named w c e =
      let n = danger.verdict_names s inside σ w c e in
      record {
        below = n.earlier;
        numbered = n.numbered;
        not-before = λ m l d. n.not-before m l ((meet s σ m).1 d);
        no_earlier = λ t a l p q. n.no_earlier t l (a, (ends_same s σ t a).1 p, (ends_same s σ w.second.0 a).1 q);
        in_first = (ends_same s σ w.first.0 w.section.0).0 n.first_ends;
        in_second = (ends_same s σ w.second.0 w.section.0).0 n.second_ends;
        no_lower = λ a l p q. n.no_lower a l ((ends_same s σ w.first.0 a).1 p) ((ends_same s σ w.second.0 a).1 q);
      }

  -- What the verdict answers and leaves.
  pub judged : (first second first' second' : List ℕ) (v : Result ShownVerdict Refusal) (w : defined.Verdict) → verdict s σ ≡ w
      → Answers s σ w first second first' second' v → Verdict s σ first second first' second' (flat_verdict v)
  judged first second first' second' v (found.Safe c) e a =
      let none : TwoTrainsMeet s σ → ⊥ = λ d. false≢true (sym (ap danger.says_dangerous e) ∙ (verdict_exact s σ inside).1 d) in
      subst⁻¹ (λ (x : Result ShownVerdict Refusal). Verdict s σ first second first' second' (flat_verdict x)) a.0
      (record {
        no_refusal_lem = refl;
        dangerous_exactly = (λ z. absurd (omega arith), λ d. absurd (none d));
        answer = inl (record {
          called_safe = refl;
          names_none = (refl, refl, refl, refl, refl);
          unchanged = (a.1, a.2);
          counts = rw (safe-counts c e) at (counts s.header.trains);
        });
        entries_bound = (bounds c (ap counts_of e)).0;
        looks_bound = (bounds c (ap counts_of e)).1;
      })
  judged first second first' second' v (found.Dangerous w c) e a =
      subst⁻¹ (λ (x : Result ShownVerdict Refusal). Verdict s σ first second first' second' (flat_verdict x)) a.1
      (record {
        no_refusal_lem = refl;
        dangerous_exactly = (λ z. (verdict_exact s σ inside).0 (ap danger.says_dangerous e), λ d. refl);
        answer = inr (record {
          called_dangerous = refl;
          names = named w c e;
          first_path = shown s σ w.first.0 w.section.0 _ first first' a.2;
          second_path = shown s σ w.second.0 w.section.0 _ second second' a.3;
          counts = rw (dangerous-counts w c e) at (counts w.second.0);
        });
        entries_bound = (bounds c (ap counts_of e)).0;
        looks_bound = (bounds c (ap counts_of e)).1;
      })

-- `contract` is that of the verdict.
pub demand_2 : (file first second first' second' : List ℕ) (r : FlatVerdict) (v : Result ShownVerdict Refusal)
    → VerdictIs file first second first' second' v → r ≡ flat_verdict v → Demand2 file first second first' second' r
demand_2 file first second first' second' r v contract e = record { met = λ a. of_lines file a Claim (met a) }
  where
    Claim : Situation → Type 0
    Claim s = AtMostOpen 0 s → s.header.sections ≤ length first → s.header.sections ≤ length second
        → Verdict s (file_states s) first second first' second' r

    met : Accepted file → Claim (reading file).situation
    met a none room₁ room₂ =
        let s : Situation = (reading file).situation in
        let passes : eqb (verdict_refusal file (length first) (length second)).number 0 ≡ true =
        ap (λ q. eqb q.number 0) (verdict_passes file (length first) (length second) a none room₁ room₂) in
        subst⁻¹ (Verdict s (file_states s) first second first' second') e
        (judged s (accepted_inside file ((accepted_exactly file).1 a)) (file_states s) first second first' second' v
        (verdict s (file_states s)) refl (contract.answers passes))

-- ---- the reader and the writer
-- What the writer makes of the situation of an accepted file is the file in the old form.
in_old_form : (file : List ℕ) → Accepted file → InOldForm file (file_text (reading file).situation)
unfolding situation
in_old_form file a =
    let z = (accepted_exactly file).1 a in
    let w = written_again file z in
    let text = file_text (reading file).situation in
    let n : (reading text).refusal.number ≡ 0 = ap (λ (r : Reading). r.refusal.number) w.same ∙ z in
    let values : Reading → Situation = λ r. r.situation in
    ((accepted_exactly text).0 n, w.old_form, ap values (sym (accepted_situation text n) ∙ w.same ∙ accepted_situation file z), w.as_long, written-bytes file z)

pub demand_2_read : (file : List ℕ) (r : FlatReading) → r ≡ flat_reading (reading file) → Demand2Read file r
unfolding flat_reading
demand_2_read file r answer = rw answer (record {
  accepts_exactly = accepted_exactly file;
  values = λ a. of_lines file a (λ (s : Situation). flat_situation (reading file).situation ≡ flat_situation s) refl;
})

pub demand_2_write : (values : FlatSituation) (buffer buffer' : List ℕ) (q : FlatRefusal)
    → q ≡ flat_refusal (write_refusal (situation_from_c values) (length buffer)) → buffer' ≡ after_writing (situation_from_c values) buffer
    → Demand2Write values buffer buffer' q
demand_2_write values buffer buffer' q answer left = record { met = λ file a. of_lines file a (Claim file) (met file a) }
  where
    Claim : List ℕ → Situation → Type 0
    Claim file s = values ≡ flat_situation s → length file ≤ length buffer
        → (q ≡ no_refusal) × ((text : List ℕ) × InOldForm file text × Filled text buffer buffer')

    met : (file : List ℕ) → Accepted file → Claim file (reading file).situation
    met file a e room =
        let z = (accepted_exactly file).1 a in
        let text : List ℕ = file_text (reading file).situation in
        let old = in_old_form file a in
        let same : situation_from_c values ≡ (reading file).situation = ap situation_from_c e ∙ situation_back (reading file).situation (reading_whole file) in (
          answer ∙ rw same (ap flat_refusal (read_then_write_accepted file z (length buffer) room)),
          (
            text,
            old,
            record {
              fits = omega (arith, old.3, room);
              is = left ∙ rw same (read_then_write_buffer file z buffer room) ∙ ap (λ (n : ℕ). text ++ drop n buffer) (sym old.3);
            },
          ),
        )
