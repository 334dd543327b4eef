-- The loop of `try_places`: what is kept is the best of the settings tried (`Leads`), and each way through the body is a law.
use Rattle.std.proofs.Common.{◌≡◌, refl, sym, ap, ◌∙◌, inl, inr, true, false, List, [], ◌∷◌, ◌++◌, Option, Some, None, ℕ, ◌+◌, ◌*◌, ◌/◌, ◌%◌, ◌^◌, ◌≤◌, ◌<◌, arith}
use native.Mathlib.Decide.{dec_lt, ℕ_discrete}
use lib.Bits.{bit_xor, xor_shr}
use lib.Pow.{pow_mono}
use Rattle.meaning.specs.declared.Situation.{Situation}
use Rattle.meaning.specs.Station.{file_states}
use Rattle.meaning.specs.Verdict.{safe}
use Rattle.meaning.specs.Settings.{open_count, proceed_count}
use Rattle.meaning.specs.Frames.{halved_xor, frame_at}
use Rattle.basics.specs.Lists.{list_of}
use Rattle.meaning.proofs.FrameBits.{halved_lt}
use Rattle.bits.specs.Bits.{bit}
use Rattle.setting_order.specs.Order.{setting_at}
use Rattle.setting_order.proofs.Order.{places_shifted}
use Rattle.setting_safety.specs.Table.{SafeIn}
use Rattle.settings.specs.declared.Best.{Best}
use Rattle.settings.specs.Tried.{Better, IsBest}
use Rattle.settings.proofs.Tried.{Leads, leads_none, leads_unsafe, leads_better, leads_worse, frames_more, tried_all}

-- A place of at most twelve open elements is in the tables.
pub in_tables : {opens x : ℕ} → opens ≤ 12 → x < 2 ^ opens → x < 4096
in_tables few l = let h : _ ≤ 4096 = pow_mono {j = 12} few in omega arith

-- Place n is one of the code's.
pub is_place : {opens n : ℕ} → opens ≤ 12 → n < (1 * 2 ^ opens) % 2 ^ 64 → n < 2 ^ opens
is_place {opens} few l = omega (arith, places_shifted opens few)

-- The place of frame n is.
pub frame_inside : (opens : ℕ) {n x : ℕ} → n < 2 ^ opens → x ≡ halved_xor n → x < 2 ^ opens
frame_inside opens {n} l is = rw is (halved_lt opens n l)

-- ---- blocks
-- An aligned block of 64 frames is one of 64 places.
pub block_of : (n : ℕ) → halved_xor n / 64 ≡ halved_xor (n / 64)
unfolding halved_xor
block_of n =
    let half : n / 2 / 64 ≡ n / 64 / 2 = omega arith in
    xor_shr n (n / 2) 6 ∙ ap (bit_xor (n / 64)) half

-- Inside a block of frames, w has the safe settings of their block of places.
pub record Asked (s : Situation) (n w : ℕ) : Type 0 where
  pub safe_in : (n % 64 ≡ 0 → ⊥) → SafeIn s (halved_xor n / 64) w

pub asked_start : {s : Situation} → Asked s 0 0
asked_start = record { safe_in = λ h. absurd (h refl) }

pub asked_turn : {s : Situation} (n : ℕ) {x w : ℕ} → x ≡ halved_xor n → SafeIn s (x / 64) w → Asked s (n + 1) w
asked_turn n is a = record {
  safe_in = λ h.
      let same : (n + 1) / 64 ≡ n / 64 = omega arith in
      rw (block_of (n + 1), same, ← block_of n) (rw is at a);
}

-- What the bit of a place says.
module _ {s : Situation} (x : ℕ) {w : ℕ} (a : SafeIn s (x / 64) w) where
  here_is : x / 64 * 64 + x % 64 ≡ x
  here_is = omega arith

  pub bit_safe : bit w (x % 64) ≡ true → safe s (setting_at (file_states s) x) ≡ true
  bit_safe h = rw here_is at ((a.inside (x % 64) h).2)

  pub bit_unsafe : x < 2 ^ open_count (file_states s) → bit w (x % 64) ≡ false → safe s (setting_at (file_states s) x) ≡ false
  bit_unsafe l h = (rw here_is at (a.others (x % 64) (omega arith))) l h

-- ---- the best so far
-- Of the settings l the best is kept.
abbrev pub Leading : Situation → List (List ℕ) → Option Best → Type 0
Leading s l None = Leads s l 0 0 0
Leading s l (Some b) = (1 ≤ b.safe) × Leads s l b.safe b.proceed b.place

-- At most n are safe.
abbrev pub AtMost : ℕ → Option Best → Type 0
AtMost n None = Unit {0}
AtMost n (Some b) = b.safe ≤ n

-- The first n frames are tried.
pub record Looping (s : Situation) (best : Option Best) (n : ℕ) : Type 0 where
  pub leading : Leading s (list_of n (frame_at (file_states s))) best
  pub few : AtMost n best

module _ (s : Situation) where
  pub loop_start : Looping s None 0
  loop_start = record { leading = leads_none s; few = tt }

  module _ {n x : ℕ} (l : n < 2 ^ open_count (file_states s)) (is : x ≡ halved_xor n) where
    abbrev σ : List ℕ
    σ = setting_at (file_states s) x

    abbrev so_far : List (List ℕ)
    so_far = list_of n (frame_at (file_states s))

    here : x < 2 ^ open_count (file_states s)
    here = frame_inside _ l is

    more : list_of (n + 1) (frame_at (file_states s)) ≡ so_far ++ (σ ∷ [])
    more = rw is (frames_more s n l)

    -- The setting at the frame's place is not safe.
    pub loop_unsafe : {best : Option Best} → Looping s best n → safe s σ ≡ false → Looping s best (n + 1)
    loop_unsafe {best} w h = go best w
      where
        go : (best : Option Best) → Looping s best n → Looping s best (n + 1)
        go None w = record { leading = rw more (leads_unsafe s so_far 0 0 0 x w.leading here h); few = tt }
        go (Some b) w = record {
          leading = (w.leading.0, rw more (leads_unsafe s so_far b.safe b.proceed b.place x w.leading.1 here h));
          few = let f = w.few in omega arith;
        }

    module _ (h : safe s σ ≡ true) {q : ℕ} (c : q ≡ proceed_count s σ) where
      -- It is the first that is.
      pub loop_first : Looping s None n → Looping s (Some (record { safe = 1; proceed = q; place = x })) (n + 1)
      loop_first w =
          record { leading = (omega arith, rw more (leads_better s so_far 0 0 0 x w.leading here h q c (inl refl))); few = omega arith }

      -- It is not: the better one is kept.
      pub loop_with : {b : Best} → Looping s (Some b) n → (r : Best) → r.safe ≡ b.safe + 1
          → (Better b q x → (r.proceed ≡ q) × (r.place ≡ x)) → ((Better b q x → ⊥) → (r.proceed ≡ b.proceed) × (r.place ≡ b.place))
          → Looping s (Some r) (n + 1)
      loop_with {b} w r one better kept = record {
        leading = (omega arith, rw more (go (dec_lt b.proceed q) (ℕ_discrete b.proceed q) (dec_lt x b.place)));
        few = let f = w.few in omega arith;
      }
        where
          taken : Better b q x → Leads s (so_far ++ (σ ∷ [])) r.safe r.proceed r.place
          taken t = let e = better t in rw (one, e.0, e.1) (leads_better s so_far b.safe b.proceed b.place x w.leading.1 here h q c (inr t))

          left : (Better b q x → ⊥) → q ≤ b.proceed → (b.proceed ≡ q → b.place ≤ x) → Leads s (so_far ++ (σ ∷ [])) r.safe r.proceed r.place
          left not low later =
              let e = kept not in
              let some : 1 ≤ b.safe = w.leading.0 in
              rw (one, e.0, e.1) (leads_worse s so_far b.safe b.proceed b.place x w.leading.1 here h q c (λ z. omega arith) low later)

          go : Dec (b.proceed < q) → Dec (b.proceed ≡ q) → Dec (x < b.place) → Leads s (so_far ++ (σ ∷ [])) r.safe r.proceed r.place
          go (yes a) e d = taken (inl a)
          go (no a) (yes e) (yes d) = taken (inr (e, d))
          go (no a) (yes e) (no d) = left (elim [ inl z ↦ a z | inr z ↦ d z.1 ]) (omega arith) (λ z. omega arith)
          go (no a) (no e) d = left (elim [ inl z ↦ a z | inr z ↦ e z.0 ]) (omega arith) (λ z. absurd (e z))

  -- All frames are tried.
  pub loop_end : {best : Option Best} {n : ℕ} → Looping s best n → n ≡ 2 ^ open_count (file_states s) → IsBest s best
  loop_end {best} {n} w e = go best w
    where
      go : (best : Option Best) → Looping s best n → IsBest s best
      go None w = sym (tried_all s 0 0 0 n e w.leading).number
      go (Some b) w = (w.leading.0, tried_all s b.safe b.proceed b.place n e w.leading.1)
