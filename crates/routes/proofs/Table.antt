-- The bytes of all pairs, stored row by row.
use mathlib.Core.Path.{◌≡◌, refl, ap, ◌∙◌}
use mathlib.Core.List.{List, [], ◌++◌}
use Prim.Native.Nat.{ℕ, ◌+◌, ◌*◌, ◌-◌, ◌≤◌, ◌<◌}
use native.Mathlib.Nat.{suc-mul, mul-le-mul_right}
use native.Mathlib.Numerals.{add-one}
use native.Mathlib.Omega.{arith}
use lib.ListN.{length, set, take, drop, length-drop}
use lib.Seq.{take_all, take-suc-set, length-take-le}
use borrow.Rule.Slice.PartMut.{put_mid}
use Rattle.std.proofs.lemmas.Slice.{take-put_mid}
use Rattle.basics.specs.Lists.{list_of}
use Rattle.route_meaning.specs.Routes.{Route, pair_byte, table_of}
use Rattle.basics.proofs.Lists.{list_of-length, list_of-append, list_of_ext}
use Rattle.std.proofs.lemmas.Nat.{div-mul-add, mod-mul-add}
use Rattle.routes.specs.Sets.{byte_at}

-- No value.
pub list_of_none : (f : ℕ → ℕ) → [] ≡ list_of 0 f
unfolding list_of
list_of_none f = refl

-- The next value, stored behind the first k.
pub list_of_next : (f : ℕ → ℕ) (l : List ℕ) (k v : ℕ) → k < length l → v ≡ f k → take k l ≡ list_of k f → take (k + 1) (set l k v) ≡ list_of (k + 1) f
unfolding list_of
list_of_next f l k v room is e = rw (add-one, take-suc-set l k v room, is, e) refl

module _ (rs : List Route) (n : ℕ) (count : length rs ≡ n) (table : List ℕ) (size : length table ≡ n * n) where
  -- The row of route a, stored behind those before it: the part that is lent for it has n bytes.
  module _ (a : ℕ) (inside : a < n) where
    next : (a + 1) * n ≡ a * n + n
    next = rw add-one (suc-mul a n)

    room : a * n + n ≤ n * n
    room = let more : a + 1 ≤ n = omega (arith, inside) in rw next at (mul-le-mul_right n more)

    long : length (take ((a + 1) * n - a * n) (drop (a * n) table)) ≡ n
    long = length-take-le ((a + 1) * n - a * n) (drop (a * n) table) (rw length-drop (omega (arith, room, next, size))) ∙ omega (arith, next)

    pub row_next : (row : List ℕ) → row ≡ list_of (length (take ((a + 1) * n - a * n) (drop (a * n) table))) (λ b. pair_byte rs (a + 1) (b + 1))
        → take (a * n) table ≡ list_of (a * n) (byte_at rs)
        → take ((a + 1) * n) (put_mid (a * n) ((a + 1) * n - a * n) table row) ≡ list_of ((a + 1) * n) (byte_at rs)
    row_next row is e =
        let f : ℕ → ℕ = λ b. pair_byte rs (a + 1) (b + 1) in
        let row_is : row ≡ list_of n f = is ∙ ap (λ (k : ℕ). list_of k f) long in
        take-put_mid (a * n) ((a + 1) * n - a * n) table row ((a + 1) * n) (next ∙ rw (row_is, list_of-length n f) refl) (omega (arith, room, size))
        ∙ rw (e, row_is, next, list_of-append (a * n) n (byte_at rs))
        (ap (λ (l : List ℕ). list_of (a * n) (byte_at rs) ++ l) (list_of_ext n f _ (λ b h. rw (count, div-mul-add a n b h, mod-mul-add a n b h))))

  -- All rows.
  pub row_all : (a : ℕ) → a ≡ n → take (a * n) table ≡ list_of (a * n) (byte_at rs) → table ≡ table_of rs
  unfolding table_of
  row_all a all e = rw (all, take_all (n * n) table (omega (arith, size))) at e ∙ rw (← count) refl

-- What storing the table goes by.
pub ruleset storing = (list_of_none, list_of_next, row_next, row_all)
