-- The places of `four_each`: train i, counted from 0, has those at 4 × i and after it.
use mathlib.Core.Path.{◌≡◌, refl, sym, ◌∙◌}
use mathlib.Core.List.{List, [], ◌∷◌, map}
use Prim.Native.Nat.{ℕ, zero, suc, ◌+◌, ◌*◌, ◌/◌, ◌%◌, ◌≤◌, ◌<◌}
use native.Mathlib.Nat.{add-zero}
use native.Mathlib.Omega.{arith}
use lib.ListN.{length, get_or, take, drop}
use lib.Seq.{take_all, take-append-le}
use Rattle.meaning.specs.declared.Section.{Section}
use Rattle.meaning.specs.declared.Train.{Train}
use Rattle.meaning.specs.Station.{sections_of_train, no_train}
use Rattle.basics.specs.Lists.{list_of}
use Rattle.basics.proofs.Lists.{mapped_take, list_of-take}
use Rattle.c_layout.specs.Flat.{four_each}

four_length : (ts : List Train) → length (four_each ts) ≡ 4 * length ts
unfolding four_each
four_length [] = refl
four_length (t ∷ ts) = omega (arith, four_length ts)

-- The four places hold the sections of the train.
pub record FourAt (l : List ℕ) (i : ℕ) (t : Train) : Type 0 where
  pub first : get_or l (4 * i) 0 ≡ t.first.0
  pub second : get_or l (4 * i + 1) 0 ≡ t.second.0
  pub third : get_or l (4 * i + 2) 0 ≡ t.third.0
  pub fourth : get_or l (4 * i + 3) 0 ≡ t.fourth.0

pub four_at : (ts : List Train) (i : ℕ) → FourAt (four_each ts) i (get_or ts i no_train)
unfolding four_each
four_at [] i = record { first = refl; second = refl; third = refl; fourth = refl }
four_at (t ∷ ts) zero = record { first = refl; second = refl; third = refl; fourth = refl }
four_at (t ∷ ts) (suc i) =
    let w = four_at ts i in
    let e : (j : ℕ) → 4 * suc i + j ≡ suc (suc (suc (suc (4 * i + j)))) = λ j. omega arith in
    let f : 4 * suc i ≡ suc (suc (suc (suc (4 * i)))) = omega arith in
    record { first = rw f w.first; second = rw (e 1) w.second; third = rw (e 2) w.third; fourth = rw (e 3) w.fourth }

-- The first of the four places, as many as the train's count, are its sections.
pub four_part : (ts : List Train) (i : ℕ) → i < length ts → (get_or ts i no_train).count ≤ 4
    → take (get_or (map (λ (t : Train). t.count) ts) i 0) (drop (4 * i) (four_each ts)) ≡ map (λ (a : Section). a.0) (sections_of_train (get_or ts i no_train))
unfolding four_each sections_of_train
four_part [] i h few = absurd (omega arith)
four_part (t ∷ ts) zero h few =
    let four : List Section = t.first ∷ t.second ∷ t.third ∷ t.fourth ∷ [] in
    take-append-le t.count (map (λ (a : Section). a.0) four) (four_each ts) few ∙ mapped_take (λ (a : Section). a.0) t.count four
four_part (t ∷ ts) (suc i) h few =
    let f : 4 * suc i ≡ suc (suc (suc (suc (4 * i)))) = omega arith in
    rw f (four_part ts i (omega arith) few)

-- The place with number j is the train with j / 4, in its place j % 4.
pub four_of : (ts : List Train) (j : ℕ) → let t : Train = get_or ts (j / 4) no_train in
    (get_or (t.first ∷ t.second ∷ t.third ∷ t.fourth ∷ []) (j % 4) (record { 0 = 0 })).0 ≡ get_or (four_each ts) j 0
four_of ts j =
    let e : 4 * (j / 4) + j % 4 ≡ j = omega arith in
    rw e at (go (j % 4) (omega arith))
  where
    t : Train
    t = get_or ts (j / 4) no_train

    w : FourAt (four_each ts) (j / 4) t
    w = four_at ts (j / 4)

    go : (r : ℕ) → r < 4 → (get_or (t.first ∷ t.second ∷ t.third ∷ t.fourth ∷ []) r (record { 0 = 0 })).0 ≡ get_or (four_each ts) (4 * (j / 4) + r) 0
    go zero h = rw add-zero (sym w.first)
    go (suc zero) h = sym w.second
    go (suc (suc zero)) h = sym w.third
    go (suc (suc (suc zero))) h = sym w.fourth
    go (suc (suc (suc (suc r)))) h = absurd (omega arith)

-- An array that holds the place with number j at j, for every j, is that of all.
pub four_all : (ts : List Train) → length ts ≡ 64 → list_of 256 (λ j. get_or (four_each ts) j 0) ≡ four_each ts
four_all ts size =
    let n = four_length ts in
    list_of-take (four_each ts) 0 256 (omega arith) ∙ take_all 256 (four_each ts) (omega arith)
