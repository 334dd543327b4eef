-- The settings question: `file` is handed over with `buffer`; judge_settings answers r and leaves buffer'. What it answers and leaves is
-- `SettingsStatement`, which leaves nothing free (`SettingsPinned`, Complete); what follows are short laws, with those of Items 11 and 12.
use Rattle.std.specs.Prelude.{◌≡◌, ◌↔◌, true, List, ℕ, ◌/◌, ◌≤◌, ◌<◌, length, take, drop}
use Rattle.meaning.specs.declared.Situation.{Situation}
use Rattle.meaning.specs.Settings.{before, proceed_count}
use Rattle.meaning.specs.Accepted.{Accepted}
use Rattle.c_layout.specs.declared.FlatRefusal.{FlatRefusal}
use Rattle.c_layout.specs.declared.FlatReply.{FlatReply}
use Rattle.c_layout.specs.Flat.{no_refusal}
use Rattle.demands.specs.Words.{situation, AtMostOpen, Setting, HowMany, SameStation}
use Rattle.demands.specs.Reach.{TwoTrainsMeet, SafeSetting}
use Rattle.demands.specs.Demand1.{Answer, Short, CallCause}

-- ---- what is answered
-- 'No safe setting', as a C caller sees it.
abbrev pub SaysNone : FlatReply → Type 0
SaysNone r = r.safe ≡ 0

-- "The setting shown", σ, of the situation s, and the proceed count of the reply.
pub record Best (s : Situation) (σ : List ℕ) (proceed : ℕ) : Type 0 where
  -- "keeps every fixed element"
  pub keeps : Setting s σ
  -- "and is safe."
  pub safe : TwoTrainsMeet s σ → ⊥
  -- "Every other safe setting has at most as many of the open signals at proceed as the one shown, and where it has equally many it comes
  -- later in 01's order."
  pub others : (τ : List ℕ) → SafeSetting s τ → (τ ≡ σ → ⊥)
      → (proceed_count s τ ≤ proceed_count s σ) × (proceed_count s τ ≡ proceed_count s σ → before σ τ ≡ true)
  -- "The proceed count in the reply is how many open signals the shown setting has at proceed,"
  pub counted : proceed ≡ proceed_count s σ

pub record Reply (s : Situation) (buffer buffer' : List ℕ) (r : FlatReply) : Type 0 where
  -- "The settings question gives a reply and no refusal."
  pub no_refusal_lem : r.refusal ≡ no_refusal
  -- "The reply is 'no safe setting' exactly when under every setting two different trains have permitted paths ending in one section;"
  pub none_exactly : SaysNone r ↔ ((σ : List ℕ) → Setting s σ → TwoTrainsMeet s σ)
  -- "the proceed count is then 0 and the buffer is as it was."
  pub none_leaves : SaysNone r → (r.proceed ≡ 0) × (buffer' ≡ buffer)
  -- "Otherwise the setting shown, in the buffer's first bytes in element order, .."
  pub shown : (SaysNone r → ⊥) → Best s (take s.header.elements buffer') r.proceed
  -- "and the buffer past that setting is as it was."
  pub rest : drop s.header.elements buffer' ≡ drop s.header.elements buffer
  -- "In either case the number of safe settings in the reply is how many of all the settings are safe, each counted once."
  pub number : HowMany (SafeSetting s) r.safe

-- A refusal answers no reply: both numbers are 0.
abbrev pub no_reply : FlatRefusal → FlatReply
no_reply q = record { refusal = q; safe = 0; proceed = 0 }

-- ---- the statement
-- "Every accepted file with at most twelve open elements, and a long enough buffer", gets a reply: "the settings buffer a byte for each element".
abbrev pub SettingsStatement : List ℕ → List ℕ → List ℕ → FlatReply → Type 0
SettingsStatement file buffer buffer' r =
    let s : Situation = situation file in
    Answer r.refusal
    (Accepted file × AtMostOpen 12 s × Reply s buffer buffer' r × (s.header.elements ≤ length buffer))
    (CallCause file 11 12 (Short (length buffer < s.header.elements)) r.refusal)
    ((buffer' ≡ buffer) × (r ≡ no_reply r.refusal))

-- ---- laws
-- Demand 3: such a file gets its reply, and no refusal.
pub record Demand3 (file buffer buffer' : List ℕ) (r : FlatReply) : Type 0 where
  pub met : Accepted file → AtMostOpen 12 (situation file) → (situation file).header.elements ≤ length buffer → Reply (situation file) buffer buffer' r

-- Item 2, of which `Leads` has the paths and the reach: "Two sections of one train never make a danger between themselves", so each setting is safe.
abbrev pub Item2Settings : List ℕ → FlatReply → Type 0
Item2Settings file r = r.refusal ≡ no_refusal → (situation file).header.trains ≤ 1 → HowMany (Setting (situation file)) r.safe

-- Item 13: a padded file gets the reply and the setting that its old form gets with the same buffer.
abbrev pub Item13Settings : List ℕ → List ℕ → List ℕ → FlatReply → Type 0
Item13Settings file buffer buffer' r = (text : List ℕ) → SameStation file text → SettingsStatement text buffer buffer' r
