-- Demand 3 holds of any operation with the contract of the settings question: `demand_3`.
use mathlib.Core.Path.{◌≡◌, refl, sym, subst}
use mathlib.Core.Logic.{◌↔◌}
use mathlib.Core.Bool.{true}
use mathlib.Core.List.{List, ◌++◌}
use Prim.Native.Nat.{ℕ, ◌≤◌}
use native.Mathlib.Omega.{arith}
use lib.ListN.{length, take, drop}
use lib.Seq.{take_at, drop_at}
use Rattle.std.specs.Prelude.{Ok, Option, Some, None}
use Rattle.meaning.specs.declared.Choice.{Choice}
use Rattle.meaning.specs.declared.Situation.{Situation}
use Rattle.meaning.specs.Station.{file_states}
use Rattle.meaning.specs.Inside.{in_station}
use Rattle.meaning.specs.Settings.{safe_settings, chosen, reply}
use Rattle.meaning.specs.File.{reading}
use Rattle.meaning.specs.Operations.{settings_answer, after_settings}
use Rattle.meaning.proofs.Accepted.{accepted_exactly}
use Rattle.meaning.proofs.AcceptedSituation.{accepted_inside, accepted_lengths}
use Rattle.meaning.proofs.Settings.{setting_length}
use Rattle.meaning.proofs.Chosen.{none_chosen, safe_settings-once}
use Rattle.meaning.proofs.Question as question
use Rattle.c_layout.specs.declared.FlatReply.{FlatReply}
use Rattle.c_layout.specs.Flat.{flat_reply}
use Rattle.basics.specs.Lists.{In}
use Rattle.demands.specs.Words.{AtMostOpen, Setting, HowMany}
use Rattle.demands.specs.Reach.{TwoTrainsMeet, SafeSetting}
use Rattle.demands.specs.OfSettings.{SaysNone, Best, Reply, Demand3}
use Rattle.demands.proofs.Words.{of_lines, settings_passes, some_entry}
use Rattle.demands.proofs.Reach.{safe_same, meet}

-- The chosen setting and the buffer after it.
abbrev pub after : Situation → List ℕ → List ℕ
after s buffer = chosen s ++ drop (length (chosen s)) buffer

module _ (s : Situation) (inside : in_station s ≡ true) (lengths : length (file_states s) ≡ s.header.elements) where
  listed : (σ : List ℕ) → In σ (safe_settings s) ↔ SafeSetting s σ
  listed σ = grind (arith, question.safe_listed s inside σ, safe_same s σ)

  counted : (n : ℕ) → length (safe_settings s) ≡ n → HowMany (SafeSetting s) n
  counted n e = record { all = safe_settings s; once = safe_settings-once s; exactly = listed; number = e }

  best : (c : Choice) → question.Replies s c → Best s (chosen s) c.proceed
  best c w = grind (arith, safe_same s)

  -- A choice is made from a number of safe settings that is not 0, and has a state for each element.
  pub some-safe : (c : Choice) → reply s ≡ Some c → c.safe ≡ 0 → ⊥
  some-safe c e z = grind (arith, question.reply_exact, question.safe_listed, some_entry)

  pub chosen-length : (c : Choice) → reply s ≡ Some c → length (chosen s) ≡ s.header.elements
  chosen-length c e = grind (arith, question.reply_exact, setting_length)

  kept : (buffer : List ℕ) → reply s ≡ None → after s buffer ≡ buffer
  kept buffer e = rw (none_chosen s e).1

  no_safe : (reply s ≡ None) ↔ ((σ : List ℕ) → Setting s σ → TwoTrainsMeet s σ)
  no_safe =
      let w = question.no_safe_exactly s inside in
      (λ e σ h. (meet s σ s.header.trains).0 (w.0 e σ h), λ f. w.1 (λ σ h. (meet s σ s.header.trains).1 (f σ h)))

  none_said : (a : Option Choice) → reply s ≡ a → SaysNone (flat_reply (Ok a)) ↔ (reply s ≡ None)
  none_said a e = grind (arith, some-safe)

  taken : (buffer : List ℕ) (c : Choice) → reply s ≡ Some c → take s.header.elements (after s buffer) ≡ chosen s
  taken buffer c e = grind (arith, chosen-length c e, take_at)

  shown_best : (buffer : List ℕ) (a : Option Choice) → reply s ≡ a → (SaysNone (flat_reply (Ok a)) → ⊥)
      → Best s (take s.header.elements (after s buffer)) (flat_reply (Ok a)).proceed
  shown_best buffer None e n = absurd (n refl)
  shown_best buffer (Some c) e n =
      subst (λ (σ : List ℕ). Best s σ c.proceed) (sym (taken buffer c e)) (best c (question.reply_exact s inside c e))

  -- What the settings question replies and leaves.
  pub replied : (buffer : List ℕ) (a : Option Choice) → reply s ≡ a → Reply s buffer (after s buffer) (flat_reply (Ok a))
  replied buffer a e = record {
    no_refusal_lem = grind arith;
    none_exactly = (λ z. no_safe.0 ((none_said a e).0 z), λ f. (none_said a e).1 (no_safe.1 f));
    none_leaves = λ z. grind (arith, kept buffer, none_said a e);
    shown = shown_best buffer a e;
    rest = grind (arith, kept buffer, question.reply_exact, chosen-length, drop_at);
    number = grind (arith, none_chosen, question.reply_exact, counted);
  }

-- `answer` and `left` are the contract of the settings question.
pub demand_3 : (file buffer buffer' : List ℕ) (r : FlatReply)
    → r ≡ flat_reply (settings_answer file (length buffer)) → buffer' ≡ after_settings file buffer → Demand3 file buffer buffer' r
unfolding settings_answer after_settings
demand_3 file buffer buffer' r answer left = record {
  met = λ a. of_lines file a (λ s. AtMostOpen 12 s → s.header.elements ≤ length buffer → Reply s buffer buffer' r)
      (λ few room.
      let z = (accepted_exactly file).1 a in
      rw (answer, left, settings_passes file (length buffer) a few room)
      (replied (reading file).situation (accepted_inside file z) (accepted_lengths file z) buffer (reply (reading file).situation) refl));
}
