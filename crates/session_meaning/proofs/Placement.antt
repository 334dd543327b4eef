-- The draw is one of the n sections. The sections of the trains: as many as trains, each one of the n sections, all different.
use mathlib.Core.Path.{◌≡◌, refl, sym, ap, ◌∙◌}
use mathlib.Core.Bool.{Bool, true, false, ◌||◌, false≢true, or-true}
use mathlib.Core.List.{List, [], ◌∷◌, ◌++◌}
use mathlib.Core.Logic.{⊎_elim, ◌↔◌}
use Prim.Native.Nat.{ℕ, zero, suc, ◌*◌, ◌/◌, ◌^◌, ◌≤◌, ◌<◌}
use native.Mathlib.Omega.{arith}
use native.Mathlib.Nat.{eq-or-lt_of_le}
use lib.Dec.{eqb}
use lib.ListN.{length, get_or, length-append, get_or-append}
use lib.Seq.{get_or_at}
use borrow.Author.Tests.{eqb-true, eq-eqb}
use Rattle.meaning.specs.Paths.{mem}
use Rattle.session_meaning.specs.Placement.{draw, state_after, gives_way, placement, unplaceable}
use Rattle.basics.proofs.Tests.{or_cases}
use Rattle.meaning.proofs.Reach.{mem_snoc}
use Rattle.session_meaning.proofs.FreeSections.{Free, Way, way_free, count-mem, gives_way_is}

-- ---- the draw
-- The upper 32 bits of a state times the number of sections.
pub product : (s n : ℕ) → s < 2 ^ 64 → s / 2 ^ 32 * n ≤ 4294967295 * n
product s n fits = grind arith

-- A draw is at least 1 and at most the number of sections.
pub draw_within : (s n : ℕ) → s < 2 ^ 64 → 1 ≤ n → (1 ≤ draw s n) × (draw s n ≤ n)
draw_within s n fits some = omega (arith, product s n fits)

-- ---- the trains
-- Trains are not refused with 21 exactly for 1 to 512 sections, and no more trains than sections or than 64.
pub placeable : (n m : ℕ) → (unplaceable n m ≡ false) ↔ ((1 ≤ n) × (n ≤ 512) × (m ≤ n) × (m ≤ 64))
placeable n m = grind arith

module _ (p n : ℕ) where
  -- The section of train m + 1.
  abbrev pub next_of : ℕ → ℕ
  next_of m = gives_way n (λ t. mem t (placement p n m)) (draw (state_after p (suc m)) n)

  pub placement_more : (m : ℕ) → placement p n (suc m) ≡ placement p n m ++ (next_of m ∷ [])
  unfolding placement
  placement_more m = refl

  -- One section for each train.
  pub placement-length : (m : ℕ) → length (placement p n m) ≡ m
  unfolding placement
  placement-length zero = refl
  placement-length (suc m) = length-append (placement p n m) (next_of m ∷ []) ∙ omega (arith, placement-length m)

  -- With fewer trains than sections so far, the draw of the next train gives way to a free section.
  pub next_way : (m : ℕ) → m < n → Way n (λ t. mem t (placement p n m)) (draw (state_after p (suc m)) n) (next_of m)
  next_way m room =
      gives_way_is n (λ t. mem t (placement p n m)) (draw (state_after p (suc m)) n) (omega arith)
      (omega (arith, count-mem n (placement p n m), placement-length m))

  pub next_free : (m : ℕ) → m < n → Free n (λ t. mem t (placement p n m)) (next_of m)
  next_free m room = way_free n (λ t. mem t (placement p n m)) (draw (state_after p (suc m)) n) (next_of m) (next_way m room)

  -- The section of a train stays the same with more trains.
  pub placement_at : (m i : ℕ) → i < m → get_or (placement p n m) i 0 ≡ next_of i
  placement_at zero i l = absurd (omega arith)
  placement_at (suc m) i l =
      ap (λ (xs : List ℕ). get_or xs i 0) (placement_more m)
      ∙ ⊎_elim
      (λ e. rw e (get_or_at (placement p n m) (next_of m) [] 0 m (placement-length m)))
      (λ k. get_or-append (placement p n m) (next_of m ∷ []) 0 i (rw (placement-length m) k) ∙ placement_at m i k)
      (eq-or-lt_of_le (omega arith))

  -- A section is taken exactly where an earlier train has it.
  pub taken_exactly : (m k : ℕ) → (mem k (placement p n m) ≡ true) ↔ ((i : ℕ) × (i < m) × (next_of i ≡ k))
  unfolding placement
  taken_exactly zero k = (λ e. absurd (false≢true e), λ w. absurd (omega arith))
  taken_exactly (suc m) k = (
    λ e.
        ⊎_elim
        (λ q. (m, omega arith, sym (eqb-true k (next_of m) q)))
        (λ q. let w = (taken_exactly m k).0 q in (w.0, omega arith, w.2))
        (or_cases (eqb k (next_of m)) (mem k (placement p n m)) (sym (mem_snoc k (next_of m) (placement p n m)) ∙ e)),
    λ w.
        mem_snoc k (next_of m) (placement p n m)
        ∙ ⊎_elim
        (λ q. ap (λ (b : Bool). b || mem k (placement p n m)) (eq-eqb k (next_of m) (sym w.2 ∙ ap next_of q)))
        (λ l. ap (λ (b : Bool). eqb k (next_of m) || b) ((taken_exactly m k).1 (w.0, l, w.2)) ∙ or-true (eqb k (next_of m)))
        (eq-or-lt_of_le (omega arith)),
  )

  -- Two trains have two sections.
  pub trains_apart : (i j : ℕ) → i < j → j < n → next_of i ≡ next_of j → ⊥
  trains_apart i j less room e = false≢true (sym (next_free j room).2 ∙ (taken_exactly j (next_of j)).1 (i, less, e))
