-- Demand 3 at the level of the definitions, said with paths, for every situation that names only its own sections.
-- `no_safe_exactly`: when the reply is "no safe setting". `reply_exact`: what any other reply and the chosen setting are.
use native.Mathlib.Omega.{arith}
use mathlib.Core.Path.{◌≡◌}
use mathlib.Core.Logic.{◌⊎◌, ◌↔◌}
use mathlib.Core.Bool.{true}
use mathlib.Core.List.{List}
use Prim.Native.Nat.{ℕ, ◌<◌}
use lib.ListN.{length}
use Rattle.std.specs.Prelude.{Some, None}
use Rattle.meaning.specs.declared.Choice.{Choice}
use Rattle.meaning.specs.declared.Situation.{Situation}
use Rattle.meaning.specs.Station.{file_states}
use Rattle.meaning.specs.Inside.{in_station}
use Rattle.meaning.specs.Verdict.{Danger}
use Rattle.meaning.specs.Settings.{is_setting, before, proceed_count, safe_settings, chosen, reply}
use Rattle.meaning.proofs.Danger.{safe_exact, unsafe_exact}
use Rattle.basics.specs.Lists.{In, Once}
use Rattle.meaning.proofs.Chosen.{in_safe_settings, safe_settings-once, none_exactly, chosen-best}

-- Under the setting σ two different trains have permitted paths that end in one section.
abbrev pub Unsafe : Situation → List ℕ → Type 0
Unsafe s σ = Danger s σ s.header.trains

-- σ gives each element 1 or 2 and keeps the fixed ones, and no two trains meet under it.
abbrev pub SafeSetting : Situation → List ℕ → Type 0
SafeSetting s σ = (is_setting (file_states s) σ ≡ true) × (Unsafe s σ → ⊥)

pub record Replies (s : Situation) (c : Choice) : Type 0 where
  -- The chosen setting keeps every fixed element and is safe.
  pub shown : SafeSetting s (chosen s)
  -- Every other safe setting has fewer open signals at proceed, or equally many and comes later.
  pub others : (τ : List ℕ) → SafeSetting s τ → (τ ≡ chosen s → ⊥)
      → (proceed_count s τ < proceed_count s (chosen s)) ⊎ ((proceed_count s τ ≡ proceed_count s (chosen s)) × (before (chosen s) τ ≡ true))
  -- The proceed count is that of the chosen setting.
  pub proceed : c.proceed ≡ proceed_count s (chosen s)
  -- The number is that of a list of the safe settings, each once and nothing else.
  pub number : c.safe ≡ length (safe_settings s)
  pub once : Once (safe_settings s)
  pub listed : (σ : List ℕ) → In σ (safe_settings s) ↔ SafeSetting s σ

module _ (s : Situation) (inside : in_station s ≡ true) where
  -- The reply is "no safe setting" exactly when under every setting two different trains have paths that end in one section.
  pub no_safe_exactly : (reply s ≡ None) ↔ ((σ : List ℕ) → is_setting (file_states s) σ ≡ true → Unsafe s σ)
  no_safe_exactly = grind (arith, none_exactly, unsafe_exact)

  -- The listed settings are the safe ones.
  pub safe_listed : (σ : List ℕ) → In σ (safe_settings s) ↔ SafeSetting s σ
  safe_listed σ =
      let exact = safe_exact s inside σ in
      let listed = in_safe_settings s σ in
      (λ i. let w = listed.0 i in (w.0, exact.0 w.1), λ h. listed.1 (h.0, exact.1 h.1))

  -- Any other reply is as `Replies` says.
  pub reply_exact : (c : Choice) → reply s ≡ Some c → Replies s c
  reply_exact c e =
      let w = chosen-best s c e in
      record {
        shown = (w.chosen_setting, (safe_exact s inside (chosen s)).0 w.chosen-safe);
        others = λ τ h n. w.others_below τ h.0 ((safe_exact s inside τ).1 h.1) n;
        proceed = w.proceed_count_lem;
        number = w.number;
        once = safe_settings-once s;
        listed = safe_listed;
      }
