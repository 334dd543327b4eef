-- Two situations that differ in the states of their elements alone: a setting permits the same moves in both (`same_moves`), two trains
-- meet under it in both or in neither (`same_danger`), and it is as safe in one as in the other (`same_safe`). What is permitted goes by the
-- setting's states, not by the file's.
use mathlib.Core.Path.{◌≡◌, refl, ap, ap₂}
use mathlib.Core.Bool.{Bool, ◌||◌}
use mathlib.Core.List.{List, [], ◌∷◌, ◌++◌, map}
use Prim.Native.Nat.{ℕ}
use native.Mathlib.Omega.{arith}
use Rattle.meaning.specs.declared.Kind.{Kind}
use Rattle.meaning.specs.declared.Element.{Element}
use Rattle.meaning.specs.declared.Move.{Move}
use Rattle.meaning.specs.declared.Section.{Section}
use Rattle.meaning.specs.declared.Situation.{Situation}
use Rattle.meaning.specs.Station.{plain_moves, elements_of, trains_of, standing, moves_of, element_moves, forbids, forbidden, agreed_moves, moves}
use Rattle.meaning.specs.Paths.{mem, path_to, reach}
use Rattle.meaning.specs.Verdict.{leads, Danger, in_reach, safe}
use Rattle.meaning.specs.Inside.{sections_of, sections_named, in_station}
use Rattle.meaning.proofs.Fewer.{safe_more}

-- The kinds of a list of elements.
abbrev pub kinds : List Element → List Kind
kinds es = map (λ (e : Element). e.kind) es

-- Two situations differ in the states of their elements alone.
pub record SameButStates (s t : Situation) : Type 0 where
  pub header : s.header ≡ t.header
  pub plain : plain_moves s ≡ plain_moves t
  pub elements : kinds (elements_of s) ≡ kinds (elements_of t)
  pub trains : trains_of s ≡ trains_of t

-- What is made of each element's kind is the same.
kinds-moves : (es ds : List Element) (σ : List ℕ) → kinds es ≡ kinds ds → element_moves es σ ≡ element_moves ds σ
unfolding element_moves
kinds-moves [] [] σ h = refl
kinds-moves [] (d ∷ ds) σ h = let z : ◌≡◌ {A = ℕ} 0 1 = cc in absurd (omega arith)
kinds-moves (e ∷ es) [] σ h = let z : ◌≡◌ {A = ℕ} 0 1 = cc in absurd (omega arith)
kinds-moves (e ∷ es) (d ∷ ds) [] h = refl
kinds-moves (e ∷ es) (d ∷ ds) (x ∷ σ) h =
    let k : e.kind ≡ d.kind = cc in
    let r : kinds es ≡ kinds ds = cc in
    ap₂ (λ (k : Kind) (l : List Move). moves_of k x ++ l) k (kinds-moves es ds σ r)

kinds_named : (ms : List Move) (es ds : List Element) (ts : List Section) → kinds es ≡ kinds ds → sections_named ms es ts ≡ sections_named ms ds ts
unfolding sections_named
kinds_named [] [] [] ts h = refl
kinds_named [] [] (d ∷ ds) ts h = let z : ◌≡◌ {A = ℕ} 0 1 = cc in absurd (omega arith)
kinds_named [] (e ∷ es) [] ts h = let z : ◌≡◌ {A = ℕ} 0 1 = cc in absurd (omega arith)
kinds_named [] (e ∷ es) (d ∷ ds) ts h =
    let k : e.kind ≡ d.kind = cc in
    let r : kinds es ≡ kinds ds = cc in
    ap₂ (λ (k : Kind) (l : List Section). sections_of k ++ l) k (kinds_named [] es ds ts r)
kinds_named (m ∷ ms) es ds ts h = ap (λ (l : List Section). m.from ∷ m.to ∷ l) (kinds_named ms es ds ts h)

kinds-forbidden : (es ds : List Element) (σ : List ℕ) (a b : ℕ) → kinds es ≡ kinds ds → forbidden es σ a b ≡ forbidden ds σ a b
unfolding forbidden
kinds-forbidden [] [] σ a b h = refl
kinds-forbidden [] (d ∷ ds) σ a b h = let z : ◌≡◌ {A = ℕ} 0 1 = cc in absurd (omega arith)
kinds-forbidden (e ∷ es) [] σ a b h = let z : ◌≡◌ {A = ℕ} 0 1 = cc in absurd (omega arith)
kinds-forbidden (e ∷ es) (d ∷ ds) [] a b h = grind (arith, kinds-forbidden es ds)
kinds-forbidden (e ∷ es) (d ∷ ds) (x ∷ σ) a b h =
    let k : e.kind ≡ d.kind = cc in
    let r : kinds es ≡ kinds ds = cc in
    ap₂ (λ (k : Kind) (t : Bool). forbids k x a b || t) k (kinds-forbidden es ds σ a b r)

kinds_agreed : (es ds : List Element) (σ : List ℕ) → kinds es ≡ kinds ds → agreed_moves es σ ≡ agreed_moves ds σ
unfolding agreed_moves
kinds_agreed es ds σ h = grind (arith, kinds-forbidden, kinds-moves)

module _ (s t : Situation) (same : SameButStates s t) where
  -- A setting permits the same moves. THE LAW THAT GOES BY WHAT `moves` IS.
  pub same_moves : (σ : List ℕ) → moves s σ ≡ moves t σ
  unfolding moves
  same_moves σ = ap₂ (λ (ms ns : List Move). ms ++ ns) same.plain (kinds_agreed (elements_of s) (elements_of t) σ same.elements)

  same_standing : (i : ℕ) → standing s i ≡ standing t i
  unfolding standing
  same_standing i = grind arith

  -- A path of a train is one in both.
  same_leads : (σ : List ℕ) (i k : ℕ) (p : List ℕ) → leads s σ i k p ≡ leads t σ i k p
  unfolding leads
  same_leads σ i k p = ap₂ (λ (ms : List Move) (S : List ℕ). path_to ms S k p) (same_moves σ) (same_standing i)

  -- Two trains meet in one situation where they meet in the other.
  pub same_danger : (σ : List ℕ) → Danger s σ s.header.trains → Danger t σ t.header.trains
  same_danger σ d = grind (arith, same_leads)

  -- A train's reach is the same in both.
  same_reach : (σ : List ℕ) (i k : ℕ) → in_reach s σ i k ≡ in_reach t σ i k
  unfolding in_reach
  same_reach σ i k = ap₂ (λ (ms : List Move) (S : List ℕ). mem k (reach ms S)) (same_moves σ) (same_standing i)

  -- A setting is safe in one where it is safe in the other.
  pub same_safe : (σ : List ℕ) → safe s σ ≡ safe t σ
  same_safe σ = grind (arith, safe_more, same_reach)

  -- Both situations name the same sections.
  pub same_inside : in_station s ≡ in_station t
  unfolding in_station
  same_inside = grind (arith, kinds_named)
