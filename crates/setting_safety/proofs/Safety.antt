-- Where all trains are apart the setting is safe, and where two share a section it is not.
use mathlib.Core.Path.{◌≡◌, ap, subst}
use mathlib.Core.Logic.{⊎_elim}
use mathlib.Core.Bool.{Bool, true, false, not, ◌&&◌}
use mathlib.Core.List.{List}
use mathlib.Mathlib.Data.Bool.Basic.{and_intro, dichotomy}
use Prim.Native.Nat.{ℕ, suc, ◌-◌, ◌≤◌, ◌<◌}
use native.Mathlib.Decide.{dec_lt}
use native.Mathlib.Omega.{arith}
use Rattle.meaning.specs.declared.Situation.{Situation}
use Rattle.meaning.specs.Inside.{in_station}
use Rattle.basics.specs.Numbers.{found}
use Rattle.meaning.specs.Verdict.{in_reach, shared_section, earlier_train, dangerous, safe}
use Rattle.basics.proofs.Tests.{and_both}
use Rattle.basics.proofs.Numbers.{found-lowest, found_passes, none_lowest}
use Rattle.meaning.proofs.Inside.{reach_inside}
use Rattle.setting_tables.specs.Trains.{Apart, Shared}

-- What train t, from 0, reaches.
abbrev pub reaches : Situation → List ℕ → ℕ → ℕ → Bool
reaches s σ t = in_reach s σ (suc t)

module _ (s : Situation) (inside : in_station s ≡ true) (σ : List ℕ) where
  earlier : (i j c : ℕ) → 1 ≤ i → i < j → in_reach s σ i c ≡ true → in_reach s σ j c ≡ true → found (earlier_train s σ j) ≡ true
  unfolding earlier_train shared_section
  earlier i j c low less h k =
      let w = reach_inside s inside σ j c k in
      found-lowest (j - 1) (λ i. found (shared_section s σ i j)) i low (omega arith)
      (found-lowest s.header.sections (λ c. in_reach s σ i c && in_reach s σ j c) c w.0 w.1 (and_intro h k))

  from_earlier : (j : ℕ) → found (earlier_train s σ j) ≡ true
      → (i c : ℕ) × (1 ≤ i) × (i ≤ j - 1) × (in_reach s σ i c ≡ true) × (in_reach s σ j c ≡ true)
  unfolding earlier_train shared_section
  from_earlier j h =
      let i : ℕ = earlier_train s σ j in
      let w = found_passes (j - 1) (λ i. found (shared_section s σ i j)) h in
      let c : ℕ = shared_section s σ i j in
      let v = found_passes s.header.sections (λ c. in_reach s σ i c && in_reach s σ j c) w.2 in
      let k = and_both (in_reach s σ i c) (in_reach s σ j c) v.2 in
      (i, c, w.0, w.1, k.0, k.1)

  module _ {P : ℕ → Type 0} where
    no_earlier : ((t : ℕ) → t < s.header.trains → P t) → Apart (reaches s σ) P
        → (j : ℕ) → 1 ≤ j → j ≤ s.header.trains → found (earlier_train s σ j) ≡ true → ⊥
    no_earlier all a j low high h =
        let w = from_earlier j h in
        let i : w.0 ≡ suc (w.0 - 1) = omega (arith, w.2) in
        let k : j ≡ suc (j - 1) = omega arith in
        let same =
        a (w.0 - 1) (j - 1) w.1 (all (w.0 - 1) (omega (arith, w.2, w.3))) (all (j - 1) (omega arith))
        (subst (λ (n : ℕ). in_reach s σ n w.1 ≡ true) i w.4) (subst (λ (n : ℕ). in_reach s σ n w.1 ≡ true) k w.5) in
        omega (arith, w.2, w.3, same)

    -- All trains are apart: safe.
    pub apart_safe : ((t : ℕ) → t < s.header.trains → P t) → Apart (reaches s σ) P → safe s σ ≡ true
    unfolding safe dangerous
    apart_safe all a =
        ap (λ (l : ℕ). not (found l))
        (none_lowest s.header.trains (λ j. found (earlier_train s σ j)) (λ j low high.
        ⊎_elim (λ e. e) (λ e. absurd (no_earlier all a j low high e)) (dichotomy (found (earlier_train s σ j)))))

    -- Two share a section: not safe.
    pub shared_unsafe : ((t : ℕ) → P t → t < s.header.trains) → Shared (reaches s σ) P → safe s σ ≡ false
    unfolding safe dangerous
    shared_unsafe within w = go (dec_lt w.first w.second)
      where
        later : (t u : ℕ) → t < u → P u → in_reach s σ (suc t) w.section ≡ true → in_reach s σ (suc u) w.section ≡ true
            → safe s σ ≡ false
        later t u l p f g =
            ap not (found-lowest s.header.trains (λ j. found (earlier_train s σ j)) (suc u) (omega arith) (omega (arith, within u p))
            (earlier (suc t) (suc u) w.section (omega arith) (omega arith) f g))

        go : Dec (w.first < w.second) → safe s σ ≡ false
        go (yes l) = later w.first w.second l w.second_is w.first_reaches w.second_reaches
        go (no l) =
            let d : w.second < w.first = omega (arith, w.different) in
            later w.second w.first d w.first_is w.second_reaches w.first_reaches
