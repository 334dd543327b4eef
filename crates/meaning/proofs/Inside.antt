-- In a station that names only its own sections, every permitted move and every train's reach stays inside: `reach_inside`.
use native.Mathlib.Omega.{arith}
use mathlib.Core.Path.{◌≡◌, refl}
use mathlib.Core.Logic.{⊎_elim}
use mathlib.Core.Bool.{true, ◌&&◌, false≢true}
use mathlib.Core.List.{List, [], ◌∷◌, ◌++◌, map}
use mathlib.Mathlib.Data.Bool.Basic.{and_intro}
use Prim.Native.Nat.{ℕ, zero, suc}
use lib.Dec.{leb}
use lib.ListN.{get_or}
use Rattle.meaning.specs.declared.Section.{Section}
use Rattle.meaning.specs.declared.Move.{Move}
use Rattle.meaning.specs.declared.Kind.{Kind}
use Rattle.meaning.specs.declared.Kind.TheVariants as kind
use Rattle.meaning.specs.declared.Element.{Element}
use Rattle.meaning.specs.declared.Train.{Train}
use Rattle.meaning.specs.declared.Situation.{Situation}
use Rattle.meaning.specs.Station.{plain_moves, elements_of, trains_of, standing, both_ways, moves_of, element_moves, agreed_moves, moves, permitted}
use Rattle.meaning.specs.Station.{no_train, sections_of_train}
use Rattle.meaning.specs.Paths.{mem, steps}
use Rattle.meaning.specs.Verdict.{leads, in_reach}
use Rattle.basics.proofs.Tests.{and_both}
use Rattle.meaning.proofs.Agreed.{agreed_some}
use Rattle.meaning.proofs.Reach.{mem_cases, permitted_cases, permitted-append, least}
use Rattle.meaning.specs.Inside.{sections_of, sections_named, sections_of_trains, all_inside, in_station, Inside}

-- Each of the moves leads from and to sections from 1 to n.
abbrev MovesInside : ℕ → List Move → Type 0
MovesInside n ms = (a b : ℕ) → permitted ms a b ≡ true → Inside n a × Inside n b

module _ (n : ℕ) where
  -- Where all sections of a list are inside, the first is and so are the others.
  pub inside_cons : (a : Section) (l : List Section) → all_inside n (a ∷ l) ≡ true → Inside n a.0 × (all_inside n l ≡ true)
  unfolding all_inside
  inside_cons a l h = grind arith

  none_inside : MovesInside n []
  none_inside a b h = absurd (false≢true h)

  more_inside : (m : Move) (ms : List Move) → Inside n m.from.0 → Inside n m.to.0 → MovesInside n ms → MovesInside n (m ∷ ms)
  more_inside m ms f t i a b h = ⊎_elim (λ e. (rw e.0 f, rw e.1 t)) (λ e. i a b e) (permitted_cases m ms a b h)

  join_inside : (ms ns : List Move) → MovesInside n ms → MovesInside n ns → MovesInside n (ms ++ ns)
  join_inside ms ns i j a b h = grind (arith, permitted-append)

  two_inside : (a b : Section) → Inside n a.0 → Inside n b.0 → MovesInside n (both_ways a b)
  two_inside a b i j = grind arith

  -- An element permits only moves between its own sections.
  element_inside : (k : Kind) (x : ℕ) (l : List Section) → all_inside n (sections_of k ++ l) ≡ true
      → MovesInside n (moves_of k x) × (all_inside n l ≡ true)
  unfolding moves_of
  element_inside k x l h = grind (arith, inside_cons, two_inside)

  elements_inside : (es : List Element) (σ : List ℕ) (l : List Section) → all_inside n (sections_named [] es l) ≡ true
      → MovesInside n (element_moves es σ) × (all_inside n l ≡ true)
  unfolding sections_named element_moves
  elements_inside [] σ l h = (none_inside, h)
  elements_inside (e ∷ es) [] l h = (none_inside, (elements_inside es [] l (element_inside e.kind 0 (sections_named [] es l) h).1).1)
  elements_inside (e ∷ es) (x ∷ σ) l h =
      let here = element_inside e.kind x (sections_named [] es l) h in
      let rest = elements_inside es σ l here.1 in
      (join_inside (moves_of e.kind x) (element_moves es σ) here.0 rest.0, rest.1)

  plain_inside : (ms : List Move) (es : List Element) (l : List Section) → all_inside n (sections_named ms es l) ≡ true
      → MovesInside n ms × (all_inside n (sections_named [] es l) ≡ true)
  unfolding sections_named
  plain_inside [] es l h = (none_inside, h)
  plain_inside (m ∷ ms) es l h =
      let from = inside_cons m.from (m.to ∷ sections_named ms es l) h in
      let to = inside_cons m.to (sections_named ms es l) from.1 in
      let rest = plain_inside ms es l to.1 in
      (more_inside m ms from.0 to.0 rest.0, rest.1)

  -- Where all sections of a list are inside, each member is.
  inside_mem : (l : List Section) (k : ℕ) → all_inside n l ≡ true → mem k (map (λ (a : Section). a.0) l) ≡ true → Inside n k
  inside_mem [] k i h = absurd (false≢true h)
  inside_mem (a ∷ l) k i h =
      let w = inside_cons a l i in
      ⊎_elim (λ e. rw e w.0) (inside_mem l k w.1) (mem_cases k a.0 (map (λ (a : Section). a.0) l) h)

  -- Where all sections of two joined lists are inside, those of each are.
  pub inside_split : (l m : List Section) → all_inside n (l ++ m) ≡ true → (all_inside n l ≡ true) × (all_inside n m ≡ true)
  unfolding all_inside
  inside_split [] m h = (refl, h)
  inside_split (a ∷ l) m h =
      let w = and_both (leb 1 a.0 && leb a.0 n) (all_inside n (l ++ m)) h in
      let v = inside_split l m w.1 in
      (and_intro w.0 v.0, v.1)

  place_inside : (l : List Train) (t k : ℕ) → all_inside n (sections_of_trains l) ≡ true
      → mem k (map (λ (a : Section). a.0) (sections_of_train (get_or l t no_train))) ≡ true → Inside n k
  unfolding sections_of_trains
  place_inside [] t k i h = absurd (false≢true h)
  place_inside (a ∷ l) zero k i h = inside_mem (sections_of_train a) k (inside_split (sections_of_train a) (sections_of_trains l) i).0 h
  place_inside (a ∷ l) (suc t) k i h = place_inside l t k (inside_split (sections_of_train a) (sections_of_trains l) i).1 h

module _ (s : Situation) (i : in_station s ≡ true) where
  parts : (σ : List ℕ)
      → MovesInside s.header.sections (plain_moves s)
      × (MovesInside s.header.sections (element_moves (elements_of s) σ) × (all_inside s.header.sections (sections_of_trains (trains_of s)) ≡ true))
  unfolding in_station
  parts σ =
      let plain = plain_inside s.header.sections (plain_moves s) (elements_of s) (sections_of_trains (trains_of s)) i in
      (plain.0, elements_inside s.header.sections (elements_of s) σ (sections_of_trains (trains_of s)) plain.1)

  -- Every permitted move is between sections of the station.
  pub moves_inside : (σ : List ℕ) (a b : ℕ) → permitted (moves s σ) a b ≡ true → Inside s.header.sections a × Inside s.header.sections b
  unfolding moves
  moves_inside σ =
      join_inside s.header.sections (plain_moves s) (agreed_moves (elements_of s) σ) (parts σ).0
      (λ a b h. (parts σ).1.0 a b (agreed_some (elements_of s) σ a b h))

  -- Every train stands in a section of the station.
  pub standing_inside : (t k : ℕ) → mem k (standing s t) ≡ true → Inside s.header.sections k
  unfolding standing
  standing_inside zero k h = absurd (false≢true h)
  standing_inside (suc t) k h = place_inside s.header.sections (trains_of s) t k (parts []).1.1 h

  -- Every section of a reach is one of the station.
  pub reach_inside : (σ : List ℕ) (t k : ℕ) → in_reach s σ t k ≡ true → Inside s.header.sections k
  unfolding in_reach
  reach_inside σ t =
      least (moves s σ) (standing s t) (Inside s.header.sections) (standing_inside t) (λ a b h j. (moves_inside σ a b h).1)

  steps_inside : (σ : List ℕ) (a : ℕ) (p : List ℕ) → steps (moves s σ) a p ≡ true → (k : ℕ) → mem k p ≡ true → Inside s.header.sections k
  steps_inside σ a [] h k i = absurd (false≢true i)
  steps_inside σ a (b ∷ p) h k i =
      let w = and_both (permitted (moves s σ) a b) (steps (moves s σ) b p) h in
      let rest = steps_inside σ b p w.1 k in
      ⊎_elim (λ e. rw e (moves_inside σ a b w.0).1) rest (mem_cases k b p i)

  -- Every section of a train's path is one of the station.
  pub path_inside : (σ : List ℕ) (t k : ℕ) (p : List ℕ) → leads s σ t k p ≡ true → (a : ℕ) → mem a p ≡ true → Inside s.header.sections a
  unfolding leads
  path_inside σ t k p h a h2 = grind (arith, standing_inside, steps_inside)
