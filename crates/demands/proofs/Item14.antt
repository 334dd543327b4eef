-- Item 14 holds of any operation with the contract that `judge_place` has: `item_14`.
use mathlib.Core.Path.{◌≡◌, refl, sym, ap, subst, ◌∙◌}
use mathlib.Core.Logic.{◌↔◌}
use mathlib.Core.Bool.{Bool, true, false, false≢true}
use mathlib.Core.List.{List, [], ◌∷◌, ◌++◌}
use Prim.Native.Nat.{ℕ, zero, suc, ◌+◌, ◌-◌, ◌^◌, ◌≤◌, ◌<◌}
use native.Mathlib.Omega.{arith}
use lib.ListN.{length, get_or, drop}
use lib.Dec.{ltb}
use borrow.Author.Tests.{ltb-true, ltb-false}
use Rattle.meaning.specs.Paths.{mem}
use Rattle.session_meaning.specs.Placement.{unplaceable, state_after, draw, placement, placement_refusal, placement_answer, after_placement}
use Rattle.session_meaning.proofs.Period.{full_period, state_fits, state_returns, state_chains}
use Rattle.session_meaning.proofs.FreeSections.{Way, above, after_last}
use Rattle.session_meaning.proofs.Placement.{placeable, draw_within, next_of, placement-length, next_way, placement_at, taken_exactly}
use Rattle.c_layout.specs.declared.FlatPlaced.{FlatPlaced}
use Rattle.c_layout.specs.Flat.{no_refusal, flat_placed}
use Rattle.demands.specs.Item14.{section_at, Taken, GivesWay, States, Placeable, PlacesTrains, Item14}
use Rattle.demands.proofs.Words.{filled_of}
use Rattle.demands.specs.Laws.{FullPeriod, Apart, PlacedApart, NoneToPlace}
use Rattle.demands.proofs.TrainLines.{takes_trains}
use Rattle.demands.specs.Demand1.{requested, refused, fails, holds}

-- ---- the states
states_of : (p : ℕ) → States p (state_after p)
unfolding state_after
states_of p =
    (refl, λ i. refl)

-- ---- the sections
module _ (p n m : ℕ) (ok : Placeable n m) (list list' : List ℕ) (room : m ≤ length list)
    (left : list' ≡ placement p n m ++ drop m list) where
  abbrev xs : List ℕ
  xs = placement p n m

  -- The section of train i + 1.
  section_is : (i : ℕ) → i < m → section_at xs (suc i) ≡ next_of p n i
  section_is i l = grind (arith, placement_at)

  -- A section is taken before train i + 1 is placed exactly where one of the i trains before it has it.
  taken_is : (i k : ℕ) → i < m → (mem k (placement p n i) ≡ true) ↔ Taken xs (suc i) k
  taken_is i k l = (
    λ e.
        let w = (taken_exactly p n i k).0 e in
        (suc w.0, omega arith, omega arith, section_is w.0 (omega arith) ∙ w.2),
    λ w. earlier w.0 w.1 w.2 w.3,
  )
    where
      earlier : (u : ℕ) → 1 ≤ u → u < suc i → section_at xs u ≡ k → mem k (placement p n i) ≡ true
      earlier zero low less e = absurd (omega arith)
      earlier (suc u) low less e = (taken_exactly p n i k).1 (u, omega arith, sym (section_is u (omega arith)) ∙ e)

  -- The section that train i + 1 has is what its draw gives way to.
  way_is : (i : ℕ) → i < m → GivesWay n (Taken xs (suc i)) (draw (state_after p (suc i)) n) (section_at xs (suc i))
  way_is i l = subst (GivesWay n (Taken xs (suc i)) d) (sym (section_is i l)) (go (next_way p n i (omega arith)))
    where
      d : ℕ
      d = draw (state_after p (suc i)) n

      free : mem (next_of p n i) (placement p n i) ≡ false → Taken xs (suc i) (next_of p n i) → ⊥
      free e w = false≢true (sym e ∙ (taken_is i (next_of p n i) l).1 w)

      go : Way n (λ k. mem k (placement p n i)) d (next_of p n i) → GivesWay n (Taken xs (suc i)) d (next_of p n i)
      go (above f low passed) = GivesWay.above (free f.2) low f.1 (λ a h k. (taken_is i a l).0 (passed a h k))
      go (after_last f passed again) =
          GivesWay.after_last (free f.2) f.0 f.1 (λ a h k. (taken_is i a l).0 (passed a h k)) (λ a h k. (taken_is i a l).0 (again a h k))

  places : (r : FlatPlaced) → r.state ≡ state_after p m → PlacesTrains p n m list list' r
  unfolding state_after placement
  places r e =
      record {
        state = state_after p;
        states = states_of p;
        xs = xs;
        gives_way = gives;
        all = placement-length p n m;
        filled = filled_of (placement p n m) list list' m (placement-length p n m) room left;
        last_state = e;
      }
    where
      gives : (t : ℕ) → 1 ≤ t → t ≤ m → GivesWay n (Taken xs t) (draw (state_after p t) n) (section_at xs t)
      gives zero low high = absurd (omega arith)
      gives (suc i) low high = way_is i high

-- ---- the operation
-- `answer` and `left` are its contract.
pub item_14 : (p n m : ℕ) (list list' : List ℕ) (r : FlatPlaced) → p < 2 ^ 64
    → r ≡ flat_placed (placement_answer p n m (length list)) → list' ≡ after_placement p n m list → Item14 p n m list list' r
unfolding placement_answer after_placement placement_refusal
item_14 p n m list list' r fits answer left = go (unplaceable n m) refl (ltb (length list) m) refl
  where
    fine : unplaceable n m ≡ false → Placeable n m
    fine e = let ok = (placeable n m).0 e in (ok.0, ok.1, ok.2, omega (arith, ok.3))

    go : (b : Bool) → unplaceable n m ≡ b → (c : Bool) → ltb (length list) m ≡ c → Item14 p n m list list' r
    go true e c h =
        rw (answer, left, e) (refused (omega arith) (fails (λ ok. false≢true (sym ((placeable n m).1 (ok.0, ok.1, ok.2, omega (arith, ok.3))) ∙ e)) (refl, refl)) (refl, refl))
    go false e true h = rw (answer, left, e, h) (refused (omega arith) (holds (fine e) (ltb-true (length list) m h, (refl, refl))) (refl, refl))
    go false e false h =
        let is : r ≡ record { refusal = no_refusal; state = state_after p m } = answer ∙ rw (e, h) in
        requested (ap (λ (x : FlatPlaced). x.refusal) is)
        (fine e, places p n m (fine e) list list' (ltb-false (length list) m h) (left ∙ rw (e, h)) r (ap (λ (x : FlatPlaced). x.state) is))

-- ---- what follows
-- The states are those of the definition.
pub states_one : (paper : ℕ) (f g : ℕ → ℕ) → States paper f → States paper g → (i : ℕ) → f i ≡ g i
states_one paper f g a b zero = a.0 ∙ sym b.0
states_one paper f g a b (suc i) = a.1 i ∙ rw (states_one paper f g a b i) (sym (b.1 i))

state_is : (paper : ℕ) (state : ℕ → ℕ) → States paper state → (i : ℕ) → state i ≡ state_after paper i
state_is paper state w = states_one paper state (state_after paper) w (states_of paper)

pub full_periods : FullPeriod
full_periods paper state fits w = (
  λ i j low high e. full_period paper i j low (omega arith) (sym (state_is paper state w i) ∙ e ∙ state_is paper state w j),
  λ i.
      state_is paper state w (i + 2 ^ 64) ∙ sym (state_chains paper i (2 ^ 64)) ∙ state_returns (state_after paper i) (state_fits paper i fits)
      ∙ sym (state_is paper state w i),
)

-- A free section of the station.
given_way : (n : ℕ) (T : ℕ → Type 0) (d k : ℕ) → 1 ≤ d → GivesWay n T d k → (T k → ⊥) × (1 ≤ k) × (k ≤ n)
given_way n T d k low (GivesWay.above f a b p) = (f, omega arith, b)
given_way n T d k low (GivesWay.after_last f a b p q) = (f, a, b)

module _ (paper sections trains : ℕ) (list list' : List ℕ) (r : FlatPlaced) (fits : paper < 2 ^ 64) (ok : Placeable sections trains)
    (w : PlacesTrains paper sections trains list list' r) where
  drawn : (t : ℕ) → (1 ≤ draw (w.state t) sections) × (draw (w.state t) sections ≤ sections)
  drawn t = rw (state_is paper w.state w.states t) (draw_within (state_after paper t) sections (state_fits paper t fits) ok.0)

  way : (t : ℕ) → 1 ≤ t → t ≤ trains → (Taken w.xs t (section_at w.xs t) → ⊥) × (1 ≤ section_at w.xs t) × (section_at w.xs t ≤ sections)
  way t low high = given_way sections (Taken w.xs t) (draw (w.state t) sections) (section_at w.xs t) (drawn t).0 (w.gives_way t low high)

  inside : (i : ℕ) → i < trains → (1 ≤ get_or w.xs i 0) × (get_or w.xs i 0 ≤ sections)
  inside i l =
      let e : suc i - 1 ≡ i = omega arith in
      subst (λ (k : ℕ). (1 ≤ get_or w.xs k 0) × (get_or w.xs k 0 ≤ sections)) e ((way (suc i) (omega arith) l).1, (way (suc i) (omega arith) l).2)

  placed_apart_lem : Apart sections trains w.state w.xs
  placed_apart_lem = record {
    draw_within = λ t low. drawn t;
    different = λ t u low less high e. (way u (omega arith) high).0 (t, low, less, e);
    within = λ t low high. ((way t low high).1, (way t low high).2);
    accepted = λ file a e. takes_trains file w.xs a (omega (arith, w.all, ok.3)) (λ i l. rw e (inside i (omega (arith, w.all))));
  }

pub placed_apart : PlacedApart
placed_apart paper sections trains list list' r fits ok w = placed_apart_lem paper sections trains list list' r fits ok w

pub none_to_place : NoneToPlace
none_to_place paper sections list list' r w = (w.last_state ∙ w.states.0, w.filled.is ∙ empty w.xs w.all)
  where
    empty : (xs : List ℕ) → length xs ≡ 0 → xs ++ drop (length xs) list ≡ list
    empty [] e = refl
    empty (x ∷ xs) e = absurd (omega arith)
