-- `Holds file at bytes`: the file has these bytes from an offset on. It stands between bytes and values: the laws of a field and of a
-- line give it or take it, and this module has what holds for any bytes.
use mathlib.Core.Path.{◌≡◌, refl, sym, ap, ◌∙◌}
use mathlib.Core.List.{List, [], ◌∷◌, ◌++◌}
use Prim.Native.Nat.{ℕ, suc, ◌+◌, ◌≤◌, ◌<◌}
use native.Mathlib.Omega.{arith}
use native.Mathlib.Nat.{add-zero}
use lib.ListN.{length, get_or, take, drop, get_or-append}
use lib.Seq.{drop-cons, get_or-append-add, get_or-drop, get_or-take}

-- The bytes stand one after the other from the offset on.
abbrev pub Holds : List ℕ → ℕ → List ℕ → Type 0
Holds file at [] = Unit {0}
Holds file at (b ∷ bytes) = (get_or file at 0 ≡ b) × Holds file (suc at) bytes

-- A file that holds two runs of bytes one behind the other holds the two joined.
pub holds_append : (file : List ℕ) (at : ℕ) (xs ys : List ℕ) → Holds file at xs → Holds file (at + length xs) ys → Holds file at (xs ++ ys)
holds_append file at [] ys h k = rw add-zero at k
holds_append file at (x ∷ xs) ys h k =
    let e : at + suc (length xs) ≡ suc at + length xs = omega arith in
    (h.0, holds_append file (suc at) xs ys h.1 (rw e at k))

-- A file that holds two runs joined holds each of them.
pub holds_split : (file : List ℕ) (at : ℕ) (xs ys : List ℕ) → Holds file at (xs ++ ys) → Holds file at xs × Holds file (at + length xs) ys
holds_split file at [] ys h = (tt, rw add-zero h)
holds_split file at (x ∷ xs) ys h = grind (arith, holds_split file (suc at) xs ys h.1)

-- What a list holds, it holds with more bytes behind it.
pub holds_longer : (xs ys : List ℕ) (at : ℕ) (v : List ℕ) → at + length v ≤ length xs → Holds xs at v → Holds (xs ++ ys) at v
holds_longer xs ys at [] l h = tt
holds_longer xs ys at (x ∷ v) l h = grind (arith, get_or-append, holds_longer xs ys (suc at) v (omega arith) h.1)

-- A file holds bytes that it agrees with.
holds_by : (file : List ℕ) (at : ℕ) (v : List ℕ) → ((m : ℕ) → get_or file (at + m) 0 ≡ get_or v m 0) → Holds file at v
holds_by file at [] f = tt
holds_by file at (x ∷ v) f =
    (rw add-zero at (f 0), holds_by file (suc at) v (λ m. let e : suc at + m ≡ at + suc m = omega arith in rw e (f (suc m))))

-- A list holds what is put behind it.
pub holds_behind : (xs v : List ℕ) → Holds (xs ++ v) (length xs) v
holds_behind xs v = holds_by (xs ++ v) (length xs) v (λ m. get_or-append-add xs v m 0)

-- What a file holds is that part of it.
pub holds_part : (file : List ℕ) (at : ℕ) (v : List ℕ) → Holds file at v → at + length v ≤ length file → take (length v) (drop at file) ≡ v
holds_part file at [] h l = refl
holds_part file at (x ∷ v) h l = grind (arith, drop-cons, holds_part file (suc at) v h.1 (omega arith))

-- A part of the file with these bytes is what the file holds there.
pub part_holds : (file : List ℕ) (at : ℕ) (v : List ℕ) → take (length v) (drop at file) ≡ v → Holds file at v
part_holds file at v e = go v at (λ m l. sym (get_or-drop at file m 0) ∙ sym (get_or-take (length v) (drop at file) m 0 l) ∙ ap (λ (t : List ℕ). get_or t m 0) e)
  where
    go : (w : List ℕ) (k : ℕ) → ((m : ℕ) → m < length w → get_or file (k + m) 0 ≡ get_or w m 0) → Holds file k w
    go [] k f = tt
    go (x ∷ w) k f = (
      rw add-zero at (f 0 (omega arith)),
      go w (suc k) (λ m l. let e : suc k + m ≡ k + suc m = omega arith in rw e (f (suc m) (omega arith))),
    )
