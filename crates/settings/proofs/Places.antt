-- Whether some setting is safe, by the settings of all blocks (`saved`).
use Rattle.std.proofs.Common.{◌≡◌, refl, sym, ap, ◌∙◌, Bool, true, false, MatchBool, List, [], ℕ, ◌+◌, ◌*◌, ◌/◌, ◌%◌, ◌^◌, ◌≤◌, ◌<◌, length, zero-add, arith}
use Rattle.std.specs.List.{range_with_len, HoldsAt, AllWithin}
use Rattle.std.proofs.lemmas.List.FromFn.{length-range_with_len, get_or-range_with_len}
use mathlib.Core.Bool.{false≢true, true≢false, not}
use lib.Dec.{eqb}
use borrow.Author.Tests.{eqb-true}
use mathlib.Mathlib.Data.Bool.Basic.{eq-false_of_not-eq-true}
use Rattle.meaning.specs.declared.Situation.{Situation}
use Rattle.meaning.specs.Station.{file_states}
use Rattle.meaning.specs.Verdict.{safe}
use Rattle.meaning.specs.Settings.{open_count, settings}
use Rattle.meaning.specs.CanBeSafe.{can_be_safe}
use Rattle.meaning.proofs.Settings.{settings-length}
use Rattle.meaning.proofs.FixedMoves.{none_safe}
use Rattle.meaning.proofs.CanBeSafe.{some_at, none_at, yes_exactly}
use Rattle.element_states.specs.Sound.{Sound}
use Rattle.setting_order.specs.Order.{setting_at}
use Rattle.setting_order.proofs.Order.{setting_at_lem}
use lib.Count.{count_trailing_zeros}
use lib.Pow.{pow_pos, pow_mono}
use Rattle.bits.proofs.Bits.{bit-zero, tz_at}
use Rattle.setting_tables.specs.declared.Tables.{Tables}
use Rattle.setting_tables.specs.Trains.{FixedShared}
use Rattle.setting_safety.specs.declared.Blocks.{Blocks}
use Rattle.setting_safety.specs.Table.{Ready, SafeIn}
use Rattle.setting_safety.proofs.Safety.{shared_unsafe}

module _ (s : Situation) where
  abbrev fs : List ℕ
  fs = file_states s

  -- The setting at place x is safe.
  pub place_saved : {x : ℕ} → x < 2 ^ open_count fs → safe s (setting_at fs x) ≡ true → true ≡ can_be_safe s
  unfolding can_be_safe
  place_saved {x} l h =
      sym (some_at (safe s) (settings fs) x (omega (arith, settings-length fs)) (ap (safe s) (setting_at_lem fs x [] l) ∙ h))

  -- No setting is.
  pub none_placed : ((x : ℕ) → x < 2 ^ open_count fs → safe s (setting_at fs x) ≡ false) → false ≡ can_be_safe s
  unfolding can_be_safe
  none_placed none =
      sym (none_at (safe s) (settings fs) (λ y b.
      let h : y < 2 ^ open_count fs = omega (arith, settings-length fs) in
      ap (safe s) (setting_at_lem fs y [] h) ∙ none y h))

  module _ (tables : Tables) (blocks : Blocks) (ready : Ready s tables blocks) where
    -- There are at most 64 blocks.
    pub block_low : {z : ℕ} → open_count fs ≤ 12 → z < blocks.count → z < 64
    block_low {z} few l =
        let first = (ready.counted 0 (pow_pos (open_count fs))).1 in
        let most : 2 ^ open_count fs ≤ 4096 = pow_mono {j = 12} few in
        omega (arith, (ready.placed z 0 l first).1, most)

    -- Some setting of block z is safe, or none is, as b says.
    abbrev pub IsIn : Bool → ℕ → Type 0
    IsIn true z = z < blocks.count → true ≡ can_be_safe s
    IsIn false z = z < blocks.count → (i : ℕ) → i < 64 → z * 64 + i < 2 ^ open_count fs → safe s (setting_at fs (z * 64 + i)) ≡ false

    -- The word of its safe settings says which.
    pub told : (b : Bool) {z w : ℕ} → (z < blocks.count → SafeIn s z w) → w < 2 ^ 64 → b ≡ not (eqb w 0) → IsIn b z
    told true {w = w} a fits is = λ l.
        let some : w ≡ 0 → ⊥ = λ z. true≢false (is ∙ rw z refl) in
        let at = tz_at 64 w (omega (arith, some)) fits in
        let p = (a l).inside (count_trailing_zeros 64 w) at.1 in
        place_saved p.1 p.2
    told false {w = w} a fits is = λ l i low inside.
        let none : w ≡ 0 = eqb-true w 0 (not-false (eqb w 0) (sym is)) in
        (a l).others i low inside (rw none (bit-zero i))
      where
        not-false : (t : Bool) → not t ≡ false → t ≡ true
        not-false true h = refl
        not-false false h = absurd (true≢false h)

    -- Some setting of one of the blocks is safe or no setting of any block is.
    pub saved : (b : Bool)
        → MatchBool b ((z : ℕ) × (z < length (range_with_len 0 blocks.count)) × HoldsAt (IsIn true) (range_with_len 0 blocks.count) z)
        (AllWithin (IsIn false) (range_with_len 0 blocks.count) 0 (length (range_with_len 0 blocks.count))) → b ≡ can_be_safe s
    saved true h =
        let m : ℕ = blocks.count in
        let l : h.0 < m = omega (arith, h.1, length-range_with_len 0 m) in
        (rw (get_or-range_with_len 0 m h.0 0 l, zero-add h.0) at (h.2 0)) l
    saved false h = none_placed (λ x l.
        let m : ℕ = blocks.count in
        let z : ℕ = x / 64 in
        let low : z < m = (ready.counted x l).0 in
        let is : z * 64 + x % 64 ≡ x = omega arith in
        (rw is at ((rw (get_or-range_with_len 0 m z 0 low, zero-add z) at (h z 0 (omega arith) (omega (arith, low, length-range_with_len 0 m)))) low (x % 64) (omega arith))) l)

  -- Where two trains meet by the fixed moves alone, no setting is safe.
  pub none_saved : Sound s → FixedShared s → false ≡ can_be_safe s
  none_saved sound two =
      sym
      (eq-false_of_not-eq-true
      (λ h.
      let v = (yes_exactly s).0 h in
      false≢true (sym (none_safe s (shared_unsafe s sound.inside fs (λ t l. l) two) v.0 v.1) ∙ v.2)))
