-- The moves of a situation line by line, and that each line names sections of the station: by induction on the lines.
use mathlib.Core.Path.{◌≡◌, refl, sym, ap, subst, ◌∙◌}
use mathlib.Core.Bool.{Bool, true, ◌||◌, or-false, or_assoc}
use mathlib.Core.List.{List, [], ◌∷◌, ◌++◌, append_assoc, append-nil}
use mathlib.Mathlib.Data.Bool.Basic.{and_intro}
use Prim.Native.Nat.{ℕ, zero, suc, ◌≤◌, ◌<◌}
use native.Mathlib.Omega.{arith}
use lib.ListN.{length, take, get_or, get_or-map, length-map}
use lib.Seq.{get_or-take, length-take-le}
use borrow.Author.Tests.{le-leb}
use Rattle.meaning.specs.declared.Section.{Section}
use Rattle.meaning.specs.declared.Move.{Move}
use Rattle.meaning.specs.declared.Kind.TheVariants.{Signal}
use Rattle.meaning.specs.declared.Element.{Element}
use Rattle.meaning.specs.declared.Situation.{Situation}
use Rattle.meaning.specs.Station.{plain_moves, elements_of, file_states, trains_of, moves_of, element_moves, forbids, forbidden}
use Rattle.meaning.specs.File.{no_element}
use Rattle.meaning.specs.Inside.{sections_of, sections_named, sections_of_trains, all_inside, in_station}
use Rattle.meaning.proofs.Inside.{inside_cons, inside_split}
use Rattle.element_states.specs.Sound.{Sound}

-- ---- one element more
-- With one element more, its moves come last.
pub element_moves_next :
    (es : List Element) (σ : List ℕ) (d : Element) (i : ℕ)
    → i < length es
    → i < length σ
    → element_moves (take (suc i) es) σ ≡ element_moves (take i es) σ ++ moves_of (get_or es i d).kind (get_or σ i 0)
unfolding element_moves
element_moves_next [] σ d i h k = absurd (omega arith)
element_moves_next (e ∷ es) [] d i h k = absurd (omega arith)
element_moves_next (e ∷ es) (x ∷ σ) d zero h k = append-nil (moves_of e.kind x)
element_moves_next (e ∷ es) (x ∷ σ) d (suc i) h k =
    ap (λ (ms : List Move). moves_of e.kind x ++ ms) (element_moves_next es σ d i (omega arith) (omega arith))
    ∙ sym (append_assoc (moves_of e.kind x) (element_moves (take i es) σ) (moves_of (get_or es i d).kind (get_or σ i 0)))

-- With one element more, what it forbids is forbidden too.
pub forbidden_next :
    (es : List Element) (σ : List ℕ) (d : Element) (i : ℕ)
    → i < length es
    → i < length σ
    → (a b : ℕ)
    → forbidden (take (suc i) es) σ a b ≡ (forbidden (take i es) σ a b || forbids (get_or es i d).kind (get_or σ i 0) a b)
unfolding forbidden
forbidden_next [] σ d i h k a b = absurd (omega arith)
forbidden_next (e ∷ es) [] d i h k a b = absurd (omega arith)
forbidden_next (e ∷ es) (x ∷ σ) d zero h k a b = or-false (forbids e.kind x a b)
forbidden_next (e ∷ es) (x ∷ σ) d (suc i) h k a b =
    ap (λ (t : Bool). forbids e.kind x a b || t) (forbidden_next es σ d i (omega arith) (omega arith) a b)
    ∙ sym (or_assoc (forbids e.kind x a b) (forbidden (take i es) σ a b) (forbids (get_or es i d).kind (get_or σ i 0) a b))

-- The state of element i.
pub state_at : (s : Situation) (i : ℕ) → get_or (file_states s) i 0 ≡ (get_or (elements_of s) i no_element).state
unfolding file_states
state_at s i = get_or-map (λ (e : Element). e.state) (elements_of s) i no_element

-- Each element has a state.
pub states-length : (s : Situation) → length (file_states s) ≡ length (elements_of s)
unfolding file_states
states-length s = length-map (elements_of s) (λ (e : Element). e.state)

-- ---- section numbers
-- What is from 1 to m is from 1 to any higher number.
inside_higher : (m n : ℕ) → m ≤ n → (l : List Section) → all_inside m l ≡ true → all_inside n l ≡ true
unfolding all_inside
inside_higher m n up [] h = refl
inside_higher m n up (a ∷ l) h =
    let w = inside_cons m a l h in
    and_intro (and_intro (le-leb 1 a.0 w.0.0) (le-leb a.0 n (omega arith))) (inside_higher m n up l w.1)

module _ (n : ℕ) where
  named_move :
      (ms : List Move) (es : List Element) (l : List Section) (d : Move) (i : ℕ)
      → all_inside n (sections_named ms es l) ≡ true
      → i < length ms
      → all_inside n (sections_of (Signal (get_or ms i d))) ≡ true
  unfolding sections_named
  named_move [] es l d i h k = absurd (omega arith)
  named_move (m ∷ ms) es l d zero h k = (inside_split n (m.from ∷ m.to ∷ []) (sections_named ms es l) h).0
  named_move (m ∷ ms) es l d (suc i) h k =
      named_move ms es l d i (inside_split n (m.from ∷ m.to ∷ []) (sections_named ms es l) h).1 (omega arith)

  named_element :
      (ms : List Move) (es : List Element) (l : List Section) (d : Element) (i : ℕ)
      → all_inside n (sections_named ms es l) ≡ true
      → i < length es
      → all_inside n (sections_of (get_or es i d).kind) ≡ true
  unfolding sections_named
  named_element [] [] l d i h k = absurd (omega arith)
  named_element [] (e ∷ es) l d zero h k = (inside_split n (sections_of e.kind) (sections_named [] es l) h).0
  named_element [] (e ∷ es) l d (suc i) h k =
      named_element [] es l d i (inside_split n (sections_of e.kind) (sections_named [] es l) h).1 (omega arith)
  named_element (m ∷ ms) es l d i h k =
      named_element ms es l d i (inside_split n (m.from ∷ m.to ∷ []) (sections_named ms es l) h).1 k

-- The lines of a sound situation within its counts.
module _ (s : Situation) (sound : Sound s) where
  -- The sections of P line i are from 1 to 512.
  pub move_inside : (d : Move) (i : ℕ) → i < length (plain_moves s) → all_inside 512 (sections_of (Signal (get_or (plain_moves s) i d))) ≡ true
  unfolding in_station
  move_inside d i h =
      inside_higher s.header.sections 512 sound.limits.sections (sections_of (Signal (get_or (plain_moves s) i d)))
      (named_move s.header.sections (plain_moves s) (elements_of s) (sections_of_trains (trains_of s)) d i sound.inside h)

  pub plain_inside :
      (d : Move) (i : ℕ)
      → i < s.header.plain
      → s.header.plain ≤ length s.plain
      → all_inside 512 (sections_of (Signal (get_or s.plain i d))) ≡ true
  unfolding plain_moves
  plain_inside d i h k =
      let n : ℕ = s.header.plain in
      let count : length (take n s.plain) ≡ n = length-take-le n s.plain k in
      subst (λ (m : Move). all_inside 512 (sections_of (Signal m)) ≡ true) (get_or-take n s.plain i d h) (move_inside d i (omega arith))

  -- The sections of element i are from 1 to 512.
  pub kind_inside : (d : Element) (i : ℕ) → i < length (elements_of s) → all_inside 512 (sections_of (get_or (elements_of s) i d).kind) ≡ true
  unfolding in_station
  kind_inside d i h =
      inside_higher s.header.sections 512 sound.limits.sections (sections_of (get_or (elements_of s) i d).kind)
      (named_element s.header.sections (plain_moves s) (elements_of s) (sections_of_trains (trains_of s)) d i sound.inside h)

  pub element_inside :
      (d : Element) (i : ℕ)
      → i < s.header.elements
      → s.header.elements ≤ length s.elements
      → all_inside 512 (sections_of (get_or s.elements i d).kind) ≡ true
  unfolding elements_of
  element_inside d i h k =
      let n : ℕ = s.header.elements in
      let count : length (take n s.elements) ≡ n = length-take-le n s.elements k in
      subst (λ (e : Element). all_inside 512 (sections_of e.kind) ≡ true) (get_or-take n s.elements i d h) (kind_inside d i (omega arith))
