-- The words of specs/Reach are those of the definitions: a permitted move (`agreed`), a path of a train (`leads_same`), two trains that meet
-- (`meet`), what a lent list shows (`shown`, `shown_back`); and the laws that the definitions have in these words.
use mathlib.Core.Path.{◌≡◌, refl, sym, ◌∙◌}
use mathlib.Core.Logic.{⊎_elim, ◌↔◌}
use mathlib.Core.Bool.{true, false, ◌&&◌, false≢true}
use mathlib.Core.List.{List, [], ◌∷◌}
use mathlib.Mathlib.Data.Bool.Basic.{or_inl}
use Prim.Native.Nat.{ℕ, zero, suc, ◌≤◌, ◌<◌}
use native.Mathlib.Omega.{arith}
use lib.Dec.{eqb}
use lib.ListN.{length, get_or, take, drop, length-append, length-take, length-drop, take-append-drop}
use lib.Seq.{take_at, drop_at}
use Rattle.meaning.specs.declared.Kind.{Kind}
use Rattle.meaning.specs.declared.Element.{Element}
use Rattle.meaning.specs.declared.Situation.{Situation}
use Rattle.meaning.specs.Station.{file_states, moves_of, pairs_over, permitted, forbids, forbidden, moves, standing}
use Rattle.meaning.specs.Paths.{once, steps, end_of, path_to}
use Rattle.meaning.specs.Verdict.{leads, shows, safe, verdict, Danger}
use Rattle.meaning.specs.File.{no_element}
use Rattle.meaning.specs.Settings.{is_setting}
use Rattle.meaning.specs.Operations as operations
use Rattle.basics.proofs.Tests.{or_cases, and_both}
use Rattle.meaning.proofs.Reach.{permitted-append, member, once_same}
use Rattle.meaning.proofs.Agreed.{over, over_cases, agreed_over}
use Rattle.meaning.specs.Inside.{in_station}
use Rattle.meaning.proofs.Danger as danger
use Rattle.basics.specs.Lists.{Once}
use Rattle.demands.specs.Reach.{Agreed, Steps, Leads, Ends, Meet, TwoTrainsMeet, SafeSetting}
use Rattle.demands.specs.OfVerdict.{Shows}

-- ---- the elements over a pair, by their numbers
module _ (a b : ℕ) where
  abbrev OverPair : List Element → ℕ → Type 0
  OverPair es i = (i < length es) × (permitted (pairs_over (get_or es i no_element).kind) a b ≡ true)

  abbrev PermitsPair : List Element → List ℕ → ℕ → Type 0
  PermitsPair es σ i = permitted (moves_of (get_or es i no_element).kind (get_or σ i 0)) a b ≡ true

  over_of : (es : List Element) → over es a b ≡ true → (i : ℕ) × OverPair es i
  over_of [] h = absurd (false≢true h)
  over_of (e ∷ es) h =
      ⊎_elim (λ p. (0, (omega arith, p))) (λ p. let r = over_of es p in (suc r.0, (omega arith, r.1.1)))
      (or_cases (permitted (pairs_over e.kind) a b) (over es a b) (sym (over_cases e es a b) ∙ h))

  over_in : (es : List Element) (i : ℕ) → OverPair es i → over es a b ≡ true
  over_in [] i h = absurd (omega arith)
  over_in (e ∷ es) zero h = over_cases e es a b ∙ or_inl (permitted (pairs_over e.kind) a b) (over es a b) h.1
  over_in (e ∷ es) (suc i) h = grind (arith, over_in es i (omega arith, h.1))

  -- An element that does not forbid what it stands over permits it.
  lets : (k : Kind) (x : ℕ) → forbids k x a b ≡ false → permitted (pairs_over k) a b ≡ true → permitted (moves_of k x) a b ≡ true
  lets k x f p = grind arith

  let_free : (k : Kind) (x : ℕ) → (permitted (pairs_over k) a b ≡ true → permitted (moves_of k x) a b ≡ true) → forbids k x a b ≡ false
  let_free k x h = grind arith

  none_forbids : (es : List Element) (σ : List ℕ) → forbidden es σ a b ≡ false → (j : ℕ) → OverPair es j → PermitsPair es σ j
  unfolding forbidden
  none_forbids [] σ f j h = absurd (omega arith)
  none_forbids (e ∷ es) [] f zero h = grind (arith, lets e.kind 0)
  none_forbids (e ∷ es) [] f (suc j) h = grind (arith, λ (f : forbidden es [] a b ≡ false). none_forbids es [] f j (omega arith, h.1))
  none_forbids (e ∷ es) (x ∷ σ) f zero h = grind (arith, lets e.kind x)
  none_forbids (e ∷ es) (x ∷ σ) f (suc j) h = grind (arith, λ (f : forbidden es σ a b ≡ false). none_forbids es σ f j (omega arith, h.1))

  all_let : (es : List Element) (σ : List ℕ) → ((j : ℕ) → OverPair es j → PermitsPair es σ j) → forbidden es σ a b ≡ false
  unfolding forbidden
  all_let [] σ h = refl
  all_let (e ∷ es) [] h = grind (arith, let_free e.kind 0 (λ p. h 0 (omega arith, p)), all_let es [] (λ j s. h (suc j) (omega arith, s.1)))
  all_let (e ∷ es) (x ∷ σ) h = grind (arith, let_free e.kind x (λ p. h 0 (omega arith, p)), all_let es σ (λ j s. h (suc j) (omega arith, s.1)))

  pub agreed : (s : Situation) (σ : List ℕ) → (permitted (moves s σ) a b ≡ true) ↔ Agreed s σ a b
  unfolding moves
  agreed s σ = grind (arith, agreed_over, all_let, none_forbids, over_in, over_of, permitted-append)

-- ---- paths
module _ (s : Situation) (σ : List ℕ) where
  steps_same : (a : ℕ) (p : List ℕ) (k : ℕ) → ((steps (moves s σ) a p && eqb (end_of a p) k) ≡ true) ↔ Steps s σ a p k
  steps_same a [] k = grind arith
  steps_same a (b ∷ p) k = grind (arith, agreed a b s σ, steps_same b p k)

  pub leads_same : (t k : ℕ) (p : List ℕ) → (leads s σ t k p ≡ true) ↔ Leads s σ t k p
  unfolding leads path_to
  leads_same t k [] = grind arith
  leads_same t k (a ∷ p) = grind (arith, member a (standing s t), steps_same a p k)

  pub ends_same : (t k : ℕ) → danger.Ends s σ t k ↔ Ends s σ t k
  ends_same t k = (λ e. (e.0, (leads_same t k e.0).0 e.1), λ e. (e.0, (leads_same t k e.0).1 e.1))

  -- Two trains that meet are a danger.
  pub meet : (m : ℕ) → Danger s σ m ↔ Meet s σ m
  meet m = (
    λ d. (
      d.first,
      d.second,
      d.section,
      d.different,
      d.first_numbered,
      d.second_numbered,
      (ends_same d.first d.section).0 (d.first_path, d.first_leads),
      (ends_same d.second d.section).0 (d.second_path, d.second_leads),
    ),
    λ w.
        let p = (ends_same w.0 w.2).1 w.6 in
        let q = (ends_same w.1 w.2).1 w.7 in
        record {
          first = w.0;
          second = w.1;
          section = w.2;
          different = w.3;
          first_numbered = w.4;
          second_numbered = w.5;
          first_path = p.0;
          first_leads = p.1;
          second_path = q.0;
          second_leads = q.1;
        },
  )

  pub train_from_1 : (t k : ℕ) → Ends s σ t k → 1 ≤ t
  train_from_1 t k e = danger.train_from_1 s σ t k e.0 ((leads_same t k e.0).1 e.1)

  -- The settings of the definitions that are safe are the safe settings.
  pub safe_same : ((is_setting (file_states s) σ ≡ true) × (Danger s σ s.header.trains → ⊥)) ↔ SafeSetting s σ
  safe_same = grind (arith, meet s.header.trains)

  module _ (inside : in_station s ≡ true) where
    -- The verdict is dangerous exactly when two trains meet.
    pub verdict_exact : (danger.says_dangerous (verdict s σ) ≡ true) ↔ TwoTrainsMeet s σ
    verdict_exact = grind (arith, danger.verdict_exact s inside σ, meet s.header.trains)

    pub safe_exact : (safe s σ ≡ true) ↔ (TwoTrainsMeet s σ → ⊥)
    safe_exact = grind (arith, danger.safe_exact s inside σ, meet s.header.trains)

    pub unsafe_exact : (safe s σ ≡ false) ↔ TwoTrainsMeet s σ
    unsafe_exact = grind (arith, danger.unsafe_exact s inside σ, meet s.header.trains)

  -- Where at most one train stands, none meet.
  pub one_train : s.header.trains ≤ 1 → TwoTrainsMeet s σ → ⊥
  one_train few m =
      m.3 (omega (arith, train_from_1 m.0 m.2 m.6, train_from_1 m.1 m.2 m.7))

  -- ---- what a lent list shows
  pub shown : (t k n : ℕ) (list list' : List ℕ) → operations.Shows s σ t k n list list' → Shows s σ t k n list list'
  unfolding shows
  shown t k n list list' h =
      let p : List ℕ = take n list' in
      let w = and_both (leads s σ t k p) (once p) h.path in
      record {
        path = p;
        leads = (leads_same t k p).0 w.0;
        once = (once_same p).0 w.1;
        counted = h.counted;
        filled = grind (arith, h.counted, h.kept, length-take n list', h.same_length, take-append-drop n list');
      }

  pub shown_take : (t k n : ℕ) (list list' : List ℕ) → (h : Shows s σ t k n list list') → take n list' ≡ h.path
  shown_take t k n list list' h = grind (arith, take_at h.path (drop (length h.path) list) n h.counted)

  pub shown_kept : (t k n : ℕ) (list list' : List ℕ) → Shows s σ t k n list list' → drop n list' ≡ drop n list
  shown_kept t k n list list' h = grind (arith, drop_at h.path (drop (length h.path) list) n h.counted)

  pub shown_length : (t k n : ℕ) (list list' : List ℕ) → Shows s σ t k n list list' → length list' ≡ length list
  shown_length t k n list list' h = grind (arith, length-append h.path (drop (length h.path) list), length-drop (length h.path) list)

  pub shown_back : (t k n : ℕ) (list list' : List ℕ) → Shows s σ t k n list list' → operations.Shows s σ t k n list list'
  unfolding shows
  shown_back t k n list list' h =
      grind (arith, shown_take t k n list list' h, shown_kept t k n list list' h, shown_length t k n list list' h, leads_same t k h.path, once_same h.path)
