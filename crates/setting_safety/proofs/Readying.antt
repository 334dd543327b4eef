-- What is the same in all blocks: its tables row by row, and how many blocks and settings there are.
use Rattle.std.proofs.Common.{◌≡◌, refl, sym, ap, ◌∙◌, ◌⊎◌, inl, inr, Bool, true, false, not, ◌&&◌, List, Option, Some, None, ℕ, ◌+◌, ◌-◌, ◌*◌, ◌/◌, ◌%◌, ◌^◌, ◌≤◌, ◌<◌, get_or, arith}
use mathlib.Core.Logic.{⊎_elim}
use mathlib.Core.Bool.{false≢true}
use native.Mathlib.Nat.{mod-lt, zero-add, mul-le-mul_right}
use native.Mathlib.Decide.{dec_lt}
use Rattle.std.proofs.lemmas.Nat.{pow-add, shr_below}
use lib.Pow.{pow_pos, pow_mono}
use Rattle.meaning.specs.declared.Move.{Move}
use Rattle.meaning.specs.declared.Situation.{Situation}
use Rattle.meaning.specs.Station.{file_states}
use Rattle.meaning.specs.Settings.{open_count}
use Rattle.bits.specs.Bits.{bit}
use Rattle.bits.proofs.Bits.{bit-zero, bit-shr, bit_not, bit_above}
use Rattle.reach.specs.Reach.{memb}
use Rattle.element_states.specs.Sound.{Sound}
use Rattle.setting_tables.specs.Masks.{Masked}
use Rattle.setting_tables.proofs.Opening.{opens, move_below}
use Rattle.setting_tables.specs.declared.Masks.{Masks}
use Rattle.setting_tables.specs.declared.Tables.{Tables}
use Rattle.setting_tables.specs.OpenMoves.{open_move_of}
use Rattle.setting_tables.specs.Prepared.{no_reach, Prepared, beyond}
use Rattle.setting_safety.specs.Table.{enabled_from, Filled, Meeting, Ready}
use Rattle.setting_safety.proofs.Places.{enabled_low}
use Rattle.setting_safety.proofs.Enabled.{splits, all_marked}
use Rattle.setting_safety.proofs.Gathering.{Tabled}

-- ---- the rows
-- Bit x of v is set where open move e is left at place x of n open elements, of which the q-th is the first.
abbrev pub PlaneOf : Situation → Masks → ℕ → ℕ → ℕ → ℕ → Type 0
PlaneOf s masks q n e v = (m : Move) → open_move_of s e ≡ Some m → (x : ℕ) → x < 2 ^ n → bit v x ≡ bit (enabled_from masks q n x) e

-- The bits of v are the open moves whose closures meet that of open move e.
abbrev pub OverlapOf : Tables → ℕ → ℕ → Type 0
OverlapOf tables e v = Meeting (memb (get_or tables.closures e no_reach).reach.words) tables.moves tables.closures v

-- They are those whose closures meet the base of another train than t, which an open move affects.
abbrev pub HarmOf : Tables → ℕ → ℕ → Type 0
HarmOf tables t v =
    bit tables.trains.affected t ≡ true
    → Meeting (λ c. memb tables.trains.reach.words c && not (memb (get_or tables.bases t no_reach).reach.words c)) tables.moves tables.closures v

module _ (s : Situation) (tables : Tables) (p : Prepared s tables) where
  -- There is no open move e.
  none_at : (e : ℕ) → e < 48 → bit tables.moves e ≡ false → (m : Move) → open_move_of s e ≡ Some m → ⊥
  none_at e l h m is = false≢true (sym h ∙ p.closures.all e m l is)

  pub no_plane : (masks : Masks) (q n e : ℕ) → e < 48 → bit tables.moves e ≡ false → PlaneOf s masks q n e 0
  no_plane masks q n e l h = λ m is. absurd (none_at e l h m is)

  pub no_overlap : (e : ℕ) → e < 48 → bit tables.moves e ≡ false → OverlapOf tables e 0
  no_overlap e l h = record {
    from = λ d k. absurd (false≢true (sym (bit-zero d) ∙ k));
    all = λ d c k low high a b. absurd (go (open_move_of s e) refl c (sym (p.closures.closure e c l) ∙ a));
  }
    where
      go : (o : Option Move) → open_move_of s e ≡ o → (c : ℕ) → beyond s o c ≡ true → ⊥
      go None is c a = false≢true a
      go (Some m) is c a = none_at e l h m is

  -- The base of a train that an open move affects is taken out of what all trains reach.
  pub harm_of : (t : ℕ) {set : ℕ → Bool} {v : ℕ}
      → ((c : ℕ) → (memb (get_or tables.bases t no_reach).reach.words c ≡ true → memb tables.trains.reach.words c ≡ true)
      → set c ≡ (memb tables.trains.reach.words c && not (memb (get_or tables.bases t no_reach).reach.words c)))
      → Meeting set tables.moves tables.closures v → HarmOf tables t v
  harm_of t is m affected = record {
    from = λ e h. let w = m.from e h in (w.0, sym (is w.0 (inside w.0)) ∙ w.1, w.2);
    all = λ e c k low high a b. m.all e c k low high (is c (inside c) ∙ a) b;
  }
    where
      inside : (c : ℕ) → memb (get_or tables.bases t no_reach).reach.words c ≡ true → memb tables.trains.reach.words c ≡ true
      inside c h =
          let low = p.affected.below t affected in
          p.bases.union.covers t c low (sym (p.bases.base t c low) ∙ h)

-- ---- the settings of a block
module _ (m n : ℕ) (six : (n ≡ 6) ⊎ ((m ≡ 0) × (n ≤ 6))) where
  abbrev all : ℕ
  all = (2 ^ 64 - 1) / 2 ^ (64 - 2 ^ n)

  few : 2 ^ n ≤ 64
  few = pow_mono {j = 6} (⊎_elim (λ e. omega arith) (λ e. e.1) six)

  pub in_block : (i : ℕ) → i < 2 ^ n → bit all i ≡ true
  in_block i l =
      let k : ℕ = 64 - 2 ^ n + i in
      let low : k < 64 = omega (arith, few) in
      bit-shr (2 ^ 64 - 1) (64 - 2 ^ n) i ∙ bit_not 64 0 k (omega arith) low ∙ ap not (bit-zero k)

  pub of_block : (i : ℕ) → bit all i ≡ true → i < 2 ^ n
  of_block i h = go (dec_lt i (2 ^ n))
    where
      go : Dec (i < 2 ^ n) → i < 2 ^ n
      go (yes l) = l
      go (no l) =
          let k : ℕ = 64 - 2 ^ n + i in
          let high : 64 ≤ k = omega (arith, few) in
          let big : 2 ^ 64 ≤ 2 ^ k = pow_mono high in
          absurd (false≢true (sym (bit_above (2 ^ 64 - 1) k (omega (arith, big))) ∙ (sym (bit-shr (2 ^ 64 - 1) (64 - 2 ^ n) i) ∙ h)))

  pub counted : (x : ℕ) → x < 2 ^ (m + n) → (x / 64 < 2 ^ m) × (bit all (x % 64) ≡ true)
  counted x l =
      let p = splits m n x six l in
      (rw p.high (shr_below x m n l), rw p.low (in_block (x % 2 ^ n) (mod-lt x (pow_pos n))))

  pub placed : (z i : ℕ) → z < 2 ^ m → bit all i ≡ true → (i < 64) × (z * 64 + i < 2 ^ (m + n))
  placed z i l h = go six (of_block i h)
    where
      go : (n ≡ 6) ⊎ ((m ≡ 0) × (n ≤ 6)) → i < 2 ^ n → (i < 64) × (z * 64 + i < 2 ^ (m + n))
      go (inl e) k =
          let low : i < 64 = omega (arith, few) in
          let all : (z + 1) * 64 ≤ 2 ^ m * 64 = mul-le-mul_right 64 (omega arith) in
          (low, rw (pow-add 2 m n, e) (omega (arith, all)))
      go (inr e) k =
          let none : z ≡ 0 = let o : z < 2 ^ 0 = rw e.0 at l in omega arith in
          (omega (arith, few), rw (e.0, none, zero-add n) (omega arith))

-- ---- all of it
pub ready : {s : Situation} {masks : Masks} {tables : Tables} {first planes overlaps harms : List ℕ} (m n : ℕ) → (n ≡ 6) ⊎ ((m ≡ 0) × (n ≤ 6))
    → m + n ≡ open_count (file_states s) → m + n ≤ 12 → Masked s masks → Prepared s tables → Sound s → Filled masks 0 m first
    → Tabled (PlaneOf s masks m n) 48 0 planes → Tabled (OverlapOf tables) 48 0 overlaps → Tabled (HarmOf tables) 64 0 harms
    → Ready s tables (record { count = 2 ^ m; all = (2 ^ 64 - 1) / 2 ^ (64 - 2 ^ n); first = first; planes = planes; overlaps = overlaps; harms = harms })
ready {s} {masks} {first = first} m n six is few masked p sound fill planes overlaps harms = record {
  prepared = p;
  sound = sound;
  few = λ z e l h.
      let b = masked.fixed_below e (enabled_low masks e 0 m z (sym (ap (λ (v : ℕ). bit v e) (fill z l)) ∙ h)) in
      omega (arith, is);
  marked =
      all_marked s masks m n first _ is few masked six fill
      (λ e v at x l. planes.row e (let b = move_below s e v at in omega (arith, is, opens s)) (bit-zero e) v at x l);
  overlaps = λ e l. overlaps.row e l (bit-zero e);
  harms = λ t h. harms.row t (let l = p.affected.below t h in omega (arith, sound.limits.trains)) (bit-zero t) h;
  counted = rw is at (counted m n six);
  placed = rw is at (placed m n six);
}
