-- A verdict meets demand 1 exactly when it is one that the definitions allow: `verdict_exactly`. The shown paths are free in both. A reply that meets it is
-- the one of the definitions: `settings_given`.
use mathlib.Core.Path.{◌≡◌, refl, sym, ap, ◌∙◌}
use mathlib.Core.Logic.{◌⊎◌, inl, inr, ◌↔◌}
use mathlib.Core.Bool.{true, false≢true}
use mathlib.Core.List.{List}
use Prim.Native.Nat.{ℕ}
use native.Mathlib.Omega.{arith}
use lib.ListN.{length}
use Rattle.std.specs.Prelude.{Result, Ok, Err}
use Rattle.meaning.specs.declared.Situation.{Situation}
use Rattle.meaning.specs.declared.Refusal.{Refusal}
use Rattle.meaning.specs.declared.PathLengths.{PathLengths}
use Rattle.meaning.specs.declared.Verdict as defined
use Rattle.meaning.specs.declared.Verdict.TheVariants as found
use Rattle.meaning.specs.declared.ShownVerdict.{ShownVerdict}
use Rattle.meaning.specs.declared.ShownVerdict.TheVariants as shown
use Rattle.meaning.specs.Station.{file_states}
use Rattle.meaning.specs.Verdict.{verdict}
use Rattle.meaning.specs.File.{reading}
use Rattle.meaning.specs.Operations.{Shows, verdict_refusal, Answers, VerdictIs, settings_answer, after_settings}
use Rattle.meaning.specs.Inside.{in_station}
use Rattle.meaning.proofs.Danger as danger
use Rattle.meaning.proofs.Accepted.{accepted_exactly}
use Rattle.meaning.proofs.AcceptedSituation.{accepted_inside}
use Rattle.c_layout.specs.declared.FlatVerdict.{FlatVerdict}
use Rattle.c_layout.specs.declared.FlatReply.{FlatReply}
use Rattle.c_layout.specs.Flat.{flat_verdict, flat_reply, flat_refusal}
use Rattle.demands.specs.Words.{situation, AtMostOpen}
use Rattle.demands.specs.Demand1.{requested, refused}
use Rattle.demands.specs.OfVerdict.{VerdictStatement, Counts, SafeVerdict, DangerousVerdict, Verdict}
use Rattle.demands.specs.OfSettings.{SettingsStatement}
use Rattle.demands.proofs.Words.{of_lines}
use Rattle.demands.proofs.Reach.{verdict_exact, shown_back}
use Rattle.demands.proofs.Causes.{Called, passes, refuses}
use Rattle.demands.proofs.OneCause.{short_cause_one, no_short_cause}
use Rattle.demands.proofs.Complete.{settings_pinned, names_one, counts_one}
use Rattle.demands.proofs.Demand1.{TooShort, short, verdict_called, long_enough, demand_1_verdict, demand_1_settings}
use Rattle.demands.proofs.Demand2 as d2
use Rattle.demands.proofs.Verdicts.{no_verdict, no_verdict_of}

-- What the contract of the verdict says of a flat answer.
abbrev pub VerdictGiven : List ℕ → List ℕ → List ℕ → List ℕ → List ℕ → FlatVerdict → Type 0
VerdictGiven file first second first' second' r = (v : Result ShownVerdict Refusal) × VerdictIs file first second first' second' v × (r ≡ flat_verdict v)

module _ (s : Situation) (inside : in_station s ≡ true) (σ first second f g : List ℕ) (r : FlatVerdict) where
  pub judged_back : Verdict s σ first second f g r → (w : defined.Verdict) → verdict s σ ≡ w
      → (v : Result ShownVerdict Refusal) × Answers s σ w first second f g v × (r ≡ flat_verdict v)
  judged_back h (found.Safe c) e = go h.answer
    where
      none : danger.says_dangerous (verdict s σ) ≡ true → ⊥
      none z = false≢true (sym (ap danger.says_dangerous e) ∙ z)

      go : SafeVerdict s σ first second f g r ⊎ DangerousVerdict s σ first second f g r
          → (v : Result ShownVerdict Refusal) × Answers s σ (found.Safe c) first second f g v × (r ≡ flat_verdict v)
      go (inr a) = absurd (none ((verdict_exact s σ inside).1 (h.dangerous_exactly.0 a.called_dangerous)))
      go (inl a) =
          let defined_counts : Counts s σ s.header.trains c.entries c.looks =
          rw (d2.safe-counts s inside σ c e) at (d2.counts s inside σ s.header.trains) in
          let n = a.names_none in
          let k = counts_one s σ _ _ r.entries r.looks c.entries c.looks refl a.counts defined_counts in
          (Ok (shown.Safe c), (refl, a.unchanged.0, a.unchanged.1), grind (arith, n, k, h.no_refusal_lem, a.called_safe))
  judged_back h (found.Dangerous w c) e = go h.answer
    where
      go : SafeVerdict s σ first second f g r ⊎ DangerousVerdict s σ first second f g r
          → (v : Result ShownVerdict Refusal) × Answers s σ (found.Dangerous w c) first second f g v × (r ≡ flat_verdict v)
      go (inl a) =
          let d = h.dangerous_exactly.1 ((verdict_exact s σ inside).0 (ap danger.says_dangerous e)) in absurd (omega (arith, d, a.called_safe))
      go (inr a) =
          let m = names_one s σ r.first_train r.second_train r.meeting _ _ _ a.names (d2.named s inside σ w c e) in
          let defined_counts : Counts s σ w.second.0 c.entries c.looks =
          rw (d2.dangerous-counts s inside σ w c e) at (d2.counts s inside σ w.second.0) in
          let k = counts_one s σ _ _ r.entries r.looks c.entries c.looks m.second a.counts defined_counts in
          let n : PathLengths = record { first = r.first_length; second = r.second_length } in
          let p : Shows s σ w.first.0 w.section.0 n.first first f = rw (m.first, m.meeting) at (shown_back s σ _ _ _ first f a.first_path) in
          let q : Shows s σ w.second.0 w.section.0 n.second second g = rw (m.second, m.meeting) at (shown_back s σ _ _ _ second g a.second_path) in (
            Ok (shown.Dangerous w c n),
            (n, refl, p, q),
            grind (arith, h.no_refusal_lem, a.called_dangerous, m.first, m.second, m.meeting, k),
          )

module _ (file first second f g : List ℕ) (r : FlatVerdict) where
  verdict_back : VerdictStatement file first second f g r → VerdictGiven file first second f g r
  verdict_back d = go d (verdict_called file first second)
    where
      q : Refusal
      q = verdict_refusal file (length first) (length second)

      go : VerdictStatement file first second f g r → Called file 10 0 (TooShort first second (situation file)) (short file first second) q → VerdictGiven file first second f g r
      go (requested z x) (refuses n c) = absurd (no_short_cause file 10 0 (TooShort first second (situation file)) (flat_refusal q) x.0 x.1 (λ h. grind (arith, x.3, x.4, h)) c)
      go (requested z x) (passes a few h e) =
          let s : Situation = (reading file).situation in
          let P : Situation → Type 0 = λ y. Verdict y (file_states y) first second f g r → VerdictGiven file first second f g r in
          of_lines file a P
          (λ v.
          let b = judged_back s (accepted_inside file ((accepted_exactly file).1 a)) (file_states s) first second f g r v (verdict s (file_states s)) refl in
          (b.0, record { refuses = λ k. grind (arith, e); answers = λ k. b.1 }, b.2))
          x.2
      go (refused n c u) (passes a few h e) =
          let room = long_enough file first second a h in
          absurd (no_short_cause file 10 0 (TooShort first second (situation file)) r.refusal a (of_lines file a (AtMostOpen 0) few) (λ x. grind (arith, room, x)) c)
      go (refused n c u) (refuses m k) =
          (Err q, record { refuses = λ x. (refl, u.0, u.1); answers = λ x. grind (arith, m.number) }, no_verdict_of u.2 ∙ ap no_verdict (short_cause_one file 10 0 (TooShort first second (situation file)) r.refusal (flat_refusal q) c k))

  pub verdict_exactly : VerdictStatement file first second f g r ↔ VerdictGiven file first second f g r
  verdict_exactly = (verdict_back, λ w. demand_1_verdict file first second f g r w.0 w.1 w.2)

-- ---- the settings question
pub settings_given : (file buffer left : List ℕ) (r : FlatReply) → SettingsStatement file buffer left r
    → (r ≡ flat_reply (settings_answer file (length buffer))) × (left ≡ after_settings file buffer)
settings_given file buffer left r d =
    let e = settings_pinned file buffer (r, left) (_, _) d (demand_1_settings file buffer _ _ refl refl) in
    (ap (λ (x : FlatReply × List ℕ). x.0) e, ap (λ (x : FlatReply × List ℕ). x.1) e)
