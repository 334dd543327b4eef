-- Where a train stands: the first numbers of four, and the train at its place in the array.
use mathlib.Core.Bool.{true}
use mathlib.Core.Path.{◌≡◌, sym, ap, ◌∙◌}
use mathlib.Core.List.{List, [], ◌∷◌, map}
use Prim.Native.Nat.{ℕ, zero, suc, ◌≤◌, ◌<◌}
use native.Mathlib.Decide.{dec_lt}
use native.Mathlib.Omega.{arith}
use lib.ListN.{length, get_or, take}
use lib.Seq.{take_all, get_or-take}
use Rattle.meaning.specs.declared.Section.{Section}
use Rattle.meaning.specs.declared.Train.{Train}
use Rattle.meaning.specs.declared.Situation.{Situation}
use Rattle.meaning.specs.Station.{sections_of_train, no_train, trains_of, standing}
use Rattle.meaning.specs.Paths.{mem}
use Rattle.basics.proofs.Lists.{mapped_take}
use Rattle.meaning.proofs.Reach.{mem_head, mem_tail}
use Rattle.meaning.proofs.Inside.{standing_inside}
use Rattle.element_states.specs.Sound.{Sound}
use Rattle.moves.specs.Standing.{places_of}

-- A train stands in the first n of its four sections, where n is its count, or 4 where that is more.
pub standing_of : (t : Train) (n : ℕ) → n ≤ 4 → n ≤ t.count → (n < 4 → n ≡ t.count)
    → take n (t.first.0 ∷ t.second.0 ∷ t.third.0 ∷ t.fourth.0 ∷ []) ≡ places_of t
unfolding sections_of_train
standing_of t n few within is = go (dec_lt n 4)
  where
    four : List Section
    four = t.first ∷ t.second ∷ t.third ∷ t.fourth ∷ []

    number : Section → ℕ
    number a = a.0

    go : Dec (n < 4) → take n (t.first.0 ∷ t.second.0 ∷ t.third.0 ∷ t.fourth.0 ∷ []) ≡ map number (take t.count four)
    go (yes l) = mapped_take number n four ∙ ap (λ (k : ℕ). map number (take k four)) (is l)
    go (no l) =
        take_all n (t.first.0 ∷ t.second.0 ∷ t.third.0 ∷ t.fourth.0 ∷ []) (omega arith)
        ∙ sym (ap (map number) (take_all t.count four (omega arith)))

-- The train at place i of the array has the number i + 1.
pub standing_at_lem : (s : Situation) (i : ℕ) → i < s.header.trains → places_of (get_or s.trains i no_train) ≡ standing s (suc i)
unfolding standing trains_of
standing_at_lem s i l = ap places_of (sym (get_or-take s.header.trains s.trains i no_train l))

entry_mem : (xs : List ℕ) (i : ℕ) → i < length xs → mem (get_or xs i 0) xs ≡ true
entry_mem [] i l = absurd (omega arith)
entry_mem (x ∷ xs) zero l = mem_head x xs
entry_mem (x ∷ xs) (suc i) l = mem_tail (get_or xs i 0) x xs (entry_mem xs i (omega arith))

-- A train of a sound situation stands in sections from 1 to 512.
pub places_inside : (s : Situation) → Sound s → (i : ℕ) → i < s.header.trains → (starts : List ℕ)
    → starts ≡ places_of (get_or s.trains i no_train) → (k : ℕ) → k < length starts → (1 ≤ get_or starts k 0) × (get_or starts k 0 ≤ 512)
places_inside s sound i l starts at k h =
    let represents : starts ≡ standing s (suc i) = at ∙ standing_at_lem s i l in
    let w = standing_inside s sound.inside (suc i) (get_or starts k 0) (ap (mem (get_or starts k 0)) (sym represents) ∙ entry_mem starts k h) in
    (w.0, omega (arith, w.1, sound.limits.sections))
