-- The verdict and the settings question agree on a file without open elements: it is called dangerous exactly when there is no safe setting.
-- This follows from the demands alone, whatever the operations compute.
use mathlib.Core.Path.{◌≡◌}
use mathlib.Core.Logic.{◌↔◌}
use mathlib.Core.Bool.{true}
use mathlib.Core.List.{List}
use Prim.Native.Nat.{ℕ, ◌≤◌}
use native.Mathlib.Omega.{arith}
use lib.ListN.{length}
use Rattle.meaning.specs.declared.Situation.{Situation}
use Rattle.meaning.specs.Station.{file_states}
use Rattle.meaning.specs.Settings.{open_count, is_setting}
use Rattle.meaning.specs.Accepted.{Accepted}
use Rattle.meaning.proofs.Settings.{settings_sound, settings_complete}
use Rattle.meaning.proofs.Opens.{only_setting}
use Rattle.c_layout.specs.declared.FlatVerdict.{FlatVerdict}
use Rattle.c_layout.specs.declared.FlatReply.{FlatReply}
use Rattle.demands.specs.Words.{situation, AtMostOpen}
use Rattle.demands.specs.OfVerdict.{Demand2}
use Rattle.demands.specs.OfSettings.{Demand3}

-- Where no element is open, the file's states are a setting, and the only one.
own_setting : (fs : List ℕ) → open_count fs ≤ 0 → is_setting fs fs ≡ true
own_setting fs h = grind (arith, only_setting, settings_sound)

only_own : (fs σ : List ℕ) → open_count fs ≤ 0 → is_setting fs σ ≡ true → σ ≡ fs
only_own fs σ h k = grind (arith, only_setting, settings_complete)

pub agree : (file first second first' second' buffer buffer' : List ℕ) (v : FlatVerdict) (r : FlatReply)
    → Demand2 file first second first' second' v → Demand3 file buffer buffer' r → Accepted file → AtMostOpen 0 (situation file)
    → (situation file).header.sections ≤ length first → (situation file).header.sections ≤ length second
    → (situation file).header.elements ≤ length buffer → (v.dangerous ≡ 1) ↔ (r.safe ≡ 0)
agree file first second first' second' buffer buffer' v r d e a none room₁ room₂ room =
    let s : Situation = situation file in
    let verdict = (d.met a none room₁ room₂).dangerous_exactly in
    let reply = (e.met a (omega arith) room).none_exactly in (
      λ z. reply.1 (λ σ k. rw (only_own (file_states s) σ none k) (verdict.0 z)),
      λ z. verdict.1 (reply.0 z (file_states s) (own_setting (file_states s) none)),
    )
