-- A situation permits at most one move for each P line and two for each element: `moves_few`. So the counts of a verdict have at most five digits
-- (`counts_fit`).
use mathlib.Core.Bool.{Bool, true, false, not, ◌&&◌, cond}
use mathlib.Core.List.{List, [], ◌∷◌}
use Prim.Native.Nat.{ℕ, ◌+◌, ◌*◌, ◌≤◌}
use native.Mathlib.Omega.{arith}
use lib.Dec.{eqb}
use lib.ListN.{length, length-append, length-take}
use Rattle.meaning.specs.declared.Move.{Move}
use Rattle.meaning.specs.declared.Kind.{Kind}
use Rattle.meaning.specs.declared.Element.{Element}
use Rattle.meaning.specs.declared.Situation.{Situation}
use Rattle.meaning.specs.Station.{plain_moves, elements_of, moves_of, element_moves, forbidden, passing, agreed_moves, moves, permitted}
use Rattle.basics.specs.Numbers.{total, count}
use Rattle.meaning.specs.Verdict.{outdegree, verdict}
use Rattle.meaning.specs.File.{Limits}
use Rattle.basics.proofs.Numbers.{total_mono, total_const, total-add, count_none, count_either, count_one}
use Rattle.meaning.proofs.Bounds.{counts_of, permitted_moves, entries_bound, looks_bound}

abbrev one : Bool → ℕ
one b = cond b 1 0

module _ (n : ℕ) where
  -- One move is one pair.
  one_pair : (x y : ℕ) → total n (λ a. count n (λ b. eqb a x && eqb b y)) ≤ 1
  unfolding count
  one_pair x y =
      let each = total_mono n (λ a. count n (λ b. eqb a x && eqb b y)) (λ a. one (eqb a x)) (λ a low high. at (eqb a x)) in
      omega (arith, each, counted)
    where
      at : (t : Bool) → count n (λ b. t && eqb b y) ≤ one t
      at true = count_one n y
      at false = omega (arith, count_none n)

      counted : total n (λ a. one (eqb a x)) ≤ 1
      counted = count_one n x

  -- A list of moves permits at most as many pairs as it has entries.
  pairs_few : (ms : List Move) → total n (λ a. count n (permitted ms a)) ≤ length ms
  pairs_few [] =
      let none = total_mono n (λ a. count n (λ b. false)) (λ a. 0) (λ a low high. omega (arith, count_none n)) in
      omega (arith, none, total_const n 0)
  pairs_few (m ∷ ms) =
      let here : ℕ → ℕ → Bool = λ a b. eqb a m.from.0 && eqb b m.to.0 in
      let split = total_mono n (λ a. count n (permitted (m ∷ ms) a)) (λ a. count n (here a) + count n (permitted ms a))
      (λ a low high. count_either n (here a) (permitted ms a)) in
      omega (
        arith,
        split,
        total-add n (λ a. count n (here a)) (λ a. count n (permitted ms a)),
        one_pair m.from.0 m.to.0,
        pairs_few ms,
      )

-- ---- the moves of the elements
pub moves_of_few : (k : Kind) (x : ℕ) → length (moves_of k x) ≤ 2
unfolding moves_of
moves_of_few k x = grind arith

element_moves_few : (es : List Element) (σ : List ℕ) → length (element_moves es σ) ≤ 2 * length es
unfolding element_moves
element_moves_few [] σ = omega arith
element_moves_few (e ∷ es) [] = omega arith
element_moves_few (e ∷ es) (x ∷ σ) = grind (arith, element_moves_few es σ)

passing_few : (f : ℕ → ℕ → Bool) (ms : List Move) → length (passing f ms) ≤ length ms
unfolding passing
passing_few f [] = omega arith
passing_few f (m ∷ ms) = grind (arith, passing_few f ms)

pub moves_few : (s : Situation) (σ : List ℕ) → permitted_moves s σ ≤ s.header.plain + 2 * s.header.elements
unfolding permitted_moves outdegree moves agreed_moves plain_moves elements_of
moves_few s σ =
    omega (
      arith,
      pairs_few s.header.sections (moves s σ),
      length-append (plain_moves s) (agreed_moves (elements_of s) σ),
      passing_few (λ a b. not (forbidden (elements_of s) σ a b)) (element_moves (elements_of s) σ),
      element_moves_few (elements_of s) σ,
      length-take s.header.plain s.plain,
      length-take s.header.elements s.elements,
    )

pub counts_fit : (s : Situation) → Limits s.header → (σ : List ℕ)
    → ((counts_of (verdict s σ)).entries ≤ 99999) × ((counts_of (verdict s σ)).looks ≤ 99999)
counts_fit s limits σ = grind (arith, entries_bound, looks_bound, moves_few)
