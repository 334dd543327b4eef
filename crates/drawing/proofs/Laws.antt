-- A drawing's mark by a table of the moves: `marked_by_table`.
use mathlib.Core.Path.{◌≡◌, refl, sym, ap, ◌∙◌, ap₂}
use mathlib.Core.Bool.{true, false, not, ◌&&◌, ◌||◌, false≢true, Bool}
use mathlib.Core.List.{List, [], ◌∷◌}
use Prim.Native.Nat.{ℕ, ◌-◌, ◌≤◌}
use native.Mathlib.Omega.{arith}
use lib.Dec.{eqb}
use lib.ListN.{get_or}
use borrow.Author.Tests.{eqb-true, eq-eqb, ne_eqb}
use Rattle.std.specs.List.{list_any}
use Rattle.std.specs.Option.{option_eq}
use Rattle.std.specs.Prelude.{Option, Some, None, MatchOption, is_some}
use Rattle.meaning.specs.declared.Train.{Train}
use Rattle.meaning.specs.declared.Situation.{Situation}
use Rattle.meaning.specs.Station.{no_train, standing, moves}
use Rattle.meaning.specs.Paths.{mem, path_to}
use Rattle.meaning.specs.Verdict.{leads}
use Rattle.meaning.specs.Drawing.{drawn}
use Rattle.basics.proofs.Tests.{and_both, same_test}
use Rattle.meaning.proofs.Danger.{leads-reach}
use Rattle.meaning.proofs.Drawing.{drawn_exactly}
use Rattle.meaning.specs.Inside.{in_station}
use Rattle.meaning.proofs.Inside.{reach_inside}
use Rattle.pairs.specs.Pairs.{Rows, edge, Represents}
use Rattle.moves.specs.Standing.{places_of}
use Rattle.moves.proofs.Where.{standing_at_lem}
use Rattle.drawing.specs.Walk.{path_end}
use Rattle.drawing.proofs.Walked.{path_end_is}

-- ---- where a train stands
-- A list has a number where it is one of its entries.
pub one_of : (a : ℕ) (l : List ℕ) → list_any (λ y. eqb y a) l ≡ mem a l
one_of a [] = refl
one_of a (b ∷ l) = ap₂ (λ (x y : Bool). x || y) (same_test (eqb b a) (eqb a b) (λ h. eq-eqb a b (sym (eqb-true b a h))) (λ h. eq-eqb b a (sym (eqb-true a b h)))) (one_of a l)

-- Where a list leads: nowhere, or to a section.
abbrev pub Leads : Option ℕ → ℕ → Type 0
Leads r x = MatchOption r (x ≡ 0) (λ k. (k ≡ x) × (1 ≤ k))

pub same_end : (o p : Option ℕ) (x y : ℕ) → Leads o x → Leads p y → (b : Bool)
    → ((b && is_some o) && option_eq eqb o p) ≡ ((b && not (eqb x 0)) && eqb x y)
same_end None p x y h k true = rw h refl
same_end None p x y h k false = refl
same_end (Some a) None x y h k b = rw (k, ne_eqb x 0 (λ z. omega (arith, h))) refl
same_end (Some a) (Some c) x y h k b = rw (← h.0, ← k.0, ne_eqb a 0 (λ z. omega (arith, h.1))) refl

-- Train t of the situation.
standing_of : (s : Situation) (t : ℕ) → 1 ≤ t → t ≤ s.header.trains → places_of (get_or s.trains (t - 1) no_train) ≡ standing s t
standing_of s t low high = standing_at_lem s (t - 1) (omega arith) ∙ ap (standing s) (omega arith)

-- In a situation with a table of its moves.
module _ (s : Situation) (inside : in_station s ≡ true) (σ : List ℕ) (table : Rows) (represents : Represents table (moves s σ)) where
  -- A list is a path of train t to a section exactly where it leads there.
  module _ (t : ℕ) (at : Train) (low : 1 ≤ t) (high : t ≤ s.header.trains) (is : at ≡ get_or s.trains (t - 1) no_train) where
    leads_is : (k : ℕ) (p : List ℕ) → 1 ≤ k → eqb (path_end (edge table) (places_of at) p) k ≡ leads s σ t k p
    unfolding leads
    leads_is k p h =
        path_end_is (edge table) (moves s σ) represents k h (places_of at) p
        ∙ ap (λ (S : List ℕ). path_to (moves s σ) S k p) (ap places_of is ∙ standing_of s t low high)

    leads_there : (k : ℕ) (p : List ℕ) → leads s σ t k p ≡ true → (path_end (edge table) (places_of at) p ≡ k) × (1 ≤ k)
    leads_there k p h =
        let w = reach_inside s inside σ t k (leads-reach s σ t k p h) in
        (eqb-true (path_end (edge table) (places_of at) p) k (leads_is k p w.0 ∙ h), w.0)

    leads_back : (p : List ℕ) → (path_end (edge table) (places_of at) p ≡ 0 → ⊥) → leads s σ t (path_end (edge table) (places_of at) p) p ≡ true
    leads_back p n =
        sym (leads_is (path_end (edge table) (places_of at) p) p (omega arith)) ∙ eq-eqb (path_end (edge table) (places_of at) p) (path_end (edge table) (places_of at) p) refl

  -- The test of `mark`: x and y are where the lists lead.
  pub marked_by_table : (i j : ℕ) (a b : Train) → 1 ≤ i → i ≤ s.header.trains → 1 ≤ j → j ≤ s.header.trains
      → a ≡ get_or s.trains (i - 1) no_train → b ≡ get_or s.trains (j - 1) no_train
      → (first second : List ℕ) (x y : ℕ) → x ≡ path_end (edge table) (places_of a) first → y ≡ path_end (edge table) (places_of b) second
      → ((not (eqb i j) && not (eqb x 0)) && eqb x y) ≡ drawn s σ i j first second
  marked_by_table i j a b li hi lj hj ea eb first second x y ex ey =
      same_test ((not (eqb i j) && not (eqb x 0)) && eqb x y) (drawn s σ i j first second) there back
    where
      there : ((not (eqb i j) && not (eqb x 0)) && eqb x y) ≡ true → drawn s σ i j first second ≡ true
      there h =
          let w = and_both (not (eqb i j) && not (eqb x 0)) (eqb x y) h in
          let v = and_both (not (eqb i j)) (not (eqb x 0)) w.0 in
          let some : x ≡ 0 → ⊥ = λ e. false≢true (sym (ap not (eq-eqb x 0 e)) ∙ v.1) in
          let same : x ≡ y = eqb-true x y w.1 in
          (drawn_exactly s σ i j first second).1
          (record {
            different = λ e. false≢true (sym (ap not (eq-eqb i j e)) ∙ v.0);
            section = x;
            first_leads = rw ex (leads_back i a li hi ea first (λ e. some (ex ∙ e)));
            second_leads = rw (same ∙ ey) (leads_back j b lj hj eb second (λ e. some (same ∙ ey ∙ e)));
          })

      back : drawn s σ i j first second ≡ true → ((not (eqb i j) && not (eqb x 0)) && eqb x y) ≡ true
      back h =
          let d = (drawn_exactly s σ i j first second).0 h in
          let p = leads_there i a li hi ea d.section first d.first_leads in
          let q = leads_there j b lj hj eb d.section second d.second_leads in
          rw (ne_eqb i j d.different, ne_eqb x 0 (λ e. omega (arith, p.0, p.1, ex))) (eq-eqb x y (ex ∙ p.0 ∙ sym q.0 ∙ sym ey))
