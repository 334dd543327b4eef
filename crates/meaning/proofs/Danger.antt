-- The verdict is the one of the paths. A section is in a train's reach exactly when one of the train's paths ends there (`leads-reach`,
-- `reach_leads`). `danger_exact`: trains 1 to m are called dangerous exactly when two of them have paths that end in one section.
-- `verdict_exact`: the verdict says so, with the trains and the section that 01 names.
use mathlib.Core.Path.{◌≡◌, refl, sym, ap, subst, ◌∙◌}
use mathlib.Core.Logic.{◌↔◌}
use mathlib.Core.Bool.{Bool, true, false, ◌&&◌, false≢true}
use mathlib.Core.List.{List}
use mathlib.Mathlib.Data.Bool.Basic.{and_intro}
use Prim.Native.Nat.{ℕ, zero, suc, ◌-◌, ◌≤◌, ◌<◌}
use native.Mathlib.Decide.{dec_lt}
use native.Mathlib.Omega.{arith}
use Rattle.meaning.specs.declared.Situation.{Situation}
use Rattle.meaning.specs.declared.Counts.{Counts}
use Rattle.meaning.specs.declared.Meeting.{Meeting}
use Rattle.meaning.specs.declared.Verdict.{Verdict}
use Rattle.meaning.specs.declared.Verdict.TheVariants.{Safe, Dangerous}
use Rattle.meaning.specs.Station.{moves, standing}
use Rattle.meaning.specs.Inside.{in_station}
use Rattle.meaning.specs.Paths.{path_to}
use Rattle.basics.specs.Numbers.{found, lowest}
use Rattle.meaning.specs.Verdict.{leads, Danger, in_reach, shared_section, earlier_train, dangerous, safe}
use Rattle.meaning.specs.Verdict.{later_train, meeting_of, verdict_for, verdict}
use Rattle.basics.proofs.Numbers.{None, IsLowest, lowest_is, lowest_first, found-lowest, found_passes}
use Rattle.meaning.proofs.Reach.{path_reach, reach_path}
use Rattle.meaning.proofs.Inside.{reach_inside}

-- A path of train t ends in section k.
abbrev pub Ends : Situation → List ℕ → ℕ → ℕ → Type 0
Ends s σ t k = (p : List ℕ) × (leads s σ t k p ≡ true)

-- Paths of trains i and j end in one section.
abbrev pub Meet : Situation → List ℕ → ℕ → ℕ → Type 0
Meet s σ i j = (k : ℕ) × Ends s σ i k × Ends s σ j k

module _ (s : Situation) (σ : List ℕ) where
  pub leads-reach : (t k : ℕ) (p : List ℕ) → leads s σ t k p ≡ true → in_reach s σ t k ≡ true
  unfolding leads in_reach
  leads-reach t k p h = path_reach (moves s σ) (standing s t) k p h

  pub reach_leads : (t k : ℕ) → in_reach s σ t k ≡ true → Ends s σ t k
  unfolding leads in_reach
  reach_leads t k h = reach_path (moves s σ) (standing s t) k h

  -- No train has the number 0.
  pub train_from_1 : (t k : ℕ) (p : List ℕ) → leads s σ t k p ≡ true → 1 ≤ t
  unfolding leads standing path_to
  train_from_1 t k p h = grind arith

  -- Train j is the first that shares a section with an earlier one.
  pub later_train_lem : later_train s σ ≡ lowest s.header.trains (λ j. found (earlier_train s σ j))
  unfolding later_train dangerous
  later_train_lem = lowest_first s.header.trains (λ j. found (earlier_train s σ j))

-- What a dangerous verdict names, said with paths.
pub record Names (s : Situation) (σ : List ℕ) (w : Meeting) : Type 0 where
  -- "Train j is the lowest for which trains 1 to j are already dangerous."
  pub numbered : w.second.0 ≤ s.header.trains
  pub dangerous_to : Danger s σ w.second.0
  pub not-before : (m : ℕ) → m < w.second.0 → Danger s σ m → ⊥
  -- "Train i is the first earlier train whose reach shares a section with its own."
  pub earlier : w.first.0 < w.second.0
  pub no_earlier : (t : ℕ) → t < w.first.0 → Meet s σ t w.second.0 → ⊥
  -- "The meeting section is the lowest number in both reaches."
  pub first_ends : Ends s σ w.first.0 w.section.0
  pub second_ends : Ends s σ w.second.0 w.section.0
  pub no_lower : (k : ℕ) → k < w.section.0 → Ends s σ w.first.0 k → Ends s σ w.second.0 k → ⊥

abbrev pub says_dangerous : Verdict → Bool
says_dangerous (Safe c) = false
says_dangerous (Dangerous w c) = true

module _ (s : Situation) (inside : in_station s ≡ true) (σ : List ℕ) where
  share : ℕ → ℕ → ℕ → Bool
  share i j k = in_reach s σ i k && in_reach s σ j k

  ends_share : (i j k : ℕ) → Ends s σ i k → Ends s σ j k → share i j k ≡ true
  unfolding share
  ends_share i j k p q = and_intro (leads-reach s σ i k p.0 p.1) (leads-reach s σ j k q.0 q.1)

  shared_meet : (i j : ℕ) → found (shared_section s σ i j) ≡ true
      → Ends s σ i (shared_section s σ i j) × Ends s σ j (shared_section s σ i j)
      × ((k : ℕ) → 1 ≤ k → k < shared_section s σ i j → share i j k ≡ false)
  unfolding shared_section share
  shared_meet i j h = grind (arith, found_passes, reach_leads)

  meet_shared : (i j : ℕ) → Meet s σ i j → found (shared_section s σ i j) ≡ true
  unfolding shared_section share
  meet_shared i j m =
      let r = reach_inside s inside σ i m.0 (leads-reach s σ i m.0 m.1.0 m.1.1) in
      found-lowest s.header.sections (λ k. in_reach s σ i k && in_reach s σ j k) m.0 r.0 r.1 (ends_share i j m.0 m.1 m.2)

  -- An earlier train is found exactly where one meets train j, and it is the first.
  earlier_meets : (j : ℕ) → found (earlier_train s σ j) ≡ true
      → (1 ≤ earlier_train s σ j) × (earlier_train s σ j < j) × (found (shared_section s σ (earlier_train s σ j) j) ≡ true)
      × ((t : ℕ) → 1 ≤ t → t < earlier_train s σ j → found (shared_section s σ t j) ≡ false)
  unfolding earlier_train
  earlier_meets j h = grind (arith, found_passes)

  meets_earlier : (i j : ℕ) → i < j → Meet s σ i j → found (earlier_train s σ j) ≡ true
  unfolding earlier_train
  meets_earlier i j l m =
      found-lowest (j - 1) (λ t. found (shared_section s σ t j)) i
      (train_from_1 s σ i m.0 m.1.0 m.1.1) (omega arith) (meet_shared i j m)

  -- ---- danger
  to_danger : (i j m : ℕ) → i < j → j ≤ m → Meet s σ i j → Danger s σ m
  to_danger i j m l h w = grind arith

  dangerous_danger : (m : ℕ) → dangerous s σ m ≡ true → Danger s σ m
  unfolding dangerous
  dangerous_danger m h = grind (arith, found_passes, shared_meet)

  ordered : (i j m : ℕ) → i < j → j ≤ m → Meet s σ i j → dangerous s σ m ≡ true
  unfolding dangerous
  ordered i j m l h w = found-lowest m (λ t. found (earlier_train s σ t)) j (omega arith) h (meets_earlier i j l w)

  danger_dangerous : (m : ℕ) → Danger s σ m → dangerous s σ m ≡ true
  danger_dangerous m d = go (dec_lt d.first d.second)
    where
      p : Ends s σ d.first d.section
      p = (d.first_path, d.first_leads)

      q : Ends s σ d.second d.section
      q = (d.second_path, d.second_leads)

      go : Dec (d.first < d.second) → dangerous s σ m ≡ true
      go (yes l) = ordered d.first d.second m l d.second_numbered (d.section, p, q)
      go (no l) = ordered d.second d.first m (later (dec_lt d.second d.first)) d.first_numbered (d.section, q, p)
        where
          later : Dec (d.second < d.first) → d.second < d.first
          later (yes g) = g
          later (no g) = absurd (d.different (omega arith))

  -- Trains 1 to m are called dangerous exactly when two different ones have permitted paths that end in one section.
  pub danger_exact : (m : ℕ) → (dangerous s σ m ≡ true) ↔ Danger s σ m
  danger_exact m = (dangerous_danger m, danger_dangerous m)

  -- ---- the verdict
  meets_one : ℕ → Bool
  meets_one j = found (earlier_train s σ j)

  -- Where no train up to m meets an earlier one, trains 1 to m are in no danger.
  none_meets : (m : ℕ) → None m meets_one → Danger s σ m → ⊥
  unfolding meets_one dangerous
  none_meets m none d =
      let w = found_passes m (λ t. found (earlier_train s σ t)) (danger_dangerous m d) in
      false≢true (sym (none (lowest m (λ t. found (earlier_train s σ t))) w.0 w.1) ∙ w.2)

  later_is : (l : ℕ) → later_train s σ ≡ l → IsLowest s.header.trains meets_one l
  unfolding meets_one
  later_is l e = subst (IsLowest s.header.trains meets_one) (sym (later_train_lem s σ) ∙ e) (lowest_is s.header.trains meets_one)

  names : (j : ℕ) → IsLowest s.header.trains meets_one (suc j) → Names s σ (meeting_of s σ (suc j))
  unfolding meets_one meeting_of share
  names j l =
      let i : ℕ = earlier_train s σ (suc j) in
      let e = earlier_meets (suc j) l.1 in
      let k = shared_meet i (suc j) e.2 in
      record {
        numbered = l.0;
        dangerous_to = to_danger i (suc j) (suc j) e.1 (omega arith) (shared_section s σ i (suc j), k.0, k.1);
        not-before = λ m h d. none_meets m (λ t low high. l.2 t low (omega arith)) d;
        earlier = e.1;
        no_earlier = λ t h w.
            false≢true (sym (e.3 t (train_from_1 s σ t w.0 w.1.0 w.1.1) h) ∙ meet_shared t (suc j) w);
        first_ends = k.0;
        second_ends = k.1;
        no_lower = λ a h p q.
            let r = reach_inside s inside σ i a (leads-reach s σ i a p.0 p.1) in
            false≢true (sym (k.2 a r.0 h) ∙ ends_share i (suc j) a p q);
      }

  -- The verdict is dangerous exactly when two different trains have permitted paths that end in one section.
  pub verdict_exact : (says_dangerous (verdict s σ) ≡ true) ↔ Danger s σ s.header.trains
  unfolding verdict verdict_for dangerous meets_one
  verdict_exact = go (later_train s σ) (later_is (later_train s σ) refl)
    where
      go : (l : ℕ) → IsLowest s.header.trains meets_one l → (says_dangerous (verdict_for s σ l) ≡ true) ↔ Danger s σ s.header.trains
      go zero none = (λ e. absurd (false≢true e), λ d. absurd (none_meets s.header.trains none d))
      go (suc j) l =
          let n = s.header.trains in
          (λ e. dangerous_danger n (found-lowest n meets_one (suc j) (omega arith) l.0 l.1), λ d. refl)

  -- A dangerous verdict names the trains and the section of 01.
  pub verdict_names : (w : Meeting) (c : Counts) → verdict s σ ≡ Dangerous w c → Names s σ w
  unfolding verdict verdict_for
  verdict_names w c = go (later_train s σ) (later_is (later_train s σ) refl)
    where
      go : (l : ℕ) → IsLowest s.header.trains meets_one l → verdict_for s σ l ≡ Dangerous w c → Names s σ w
      go zero none e = absurd (false≢true (ap says_dangerous e))
      go (suc j) l e = let q : meeting_of s σ (suc j) ≡ w = cc in subst (Names s σ) q (names j l)

  -- A situation is unsafe exactly when two different trains have permitted paths that end in one section, and safe exactly when not.
  pub unsafe_exact : (safe s σ ≡ false) ↔ Danger s σ s.header.trains
  unfolding safe
  unsafe_exact = grind (arith, danger_dangerous, dangerous_danger)

  pub safe_exact : (safe s σ ≡ true) ↔ (Danger s σ s.header.trains → ⊥)
  safe_exact = grind (arith, unsafe_exact)
