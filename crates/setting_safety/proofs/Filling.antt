-- The table of what some open elements leave: `Filling` is the loop of `fill`.
use Rattle.std.proofs.Common.{◌≡◌, refl, ap, ◌∙◌, List, ℕ, suc, ◌+◌, ◌-◌, ◌^◌, ◌<◌, bit_and, get_or, arith, add-one}
use native.Mathlib.Nat.{two-pow-succ}
use lib.ListN.{replicate}
use borrow.Author.Tests.{lt-ltb, le-ltb}
use native.Mathlib.Decide.{dec_lt}
use Rattle.setting_order.specs.Doubled.{Doubled}
use Rattle.setting_tables.specs.declared.Masks.{Masks}
use Rattle.setting_tables.specs.Masks.{mask}
use Rattle.setting_safety.specs.Table.{enabled_from, Filled}

-- The open moves by the last i of n open elements are there, of which the q-th is the first, at as many places as these i have settings.
pub record Filling (masks : Masks) (q n : ℕ) (enabled : List ℕ) (i : ℕ) : Type 0 where
  pub filled : Filled masks (q + (n - i)) i enabled

module _ {masks : Masks} {q n : ℕ} where
  -- Behind the last element there is one place, with the open moves that the fixed elements leave.
  pub filling_start : Filling masks q n (replicate {A = ℕ} 64 masks.fixed) 0
  unfolding enabled_from
  filling_start = record { filled = λ x l. let z : x ≡ 0 = omega arith in rw z refl }

  -- With one element more.
  pub filling_turn : {i k half : ℕ} {enabled enabled' : List ℕ} → Filling masks q n enabled i → i < n → k ≡ q + (n - 1 - i) → half ≡ 2 ^ i
      → Doubled (λ w v. v ≡ bit_and w (mask masks k 0)) (λ w v. v ≡ bit_and w (mask masks k 1)) half enabled enabled'
      → Filling masks q n enabled' (i + 1)
  unfolding enabled_from
  filling_turn {i} {k} {half} {enabled} {enabled'} f l is places d = record { filled = λ x a. go x (omega (arith, twice)) (dec_lt x (2 ^ i)) }
    where
      twice : 2 ^ (i + 1) ≡ 2 ^ i + 2 ^ i
      twice = rw add-one (omega (arith, two-pow-succ i))

      from : q + (n - i) ≡ suc k
      from = omega arith

      to : q + (n - (i + 1)) ≡ k
      to = omega arith

      go : (x : ℕ) → x < 2 ^ i + 2 ^ i → Dec (x < 2 ^ i) → get_or enabled' x 0 ≡ enabled_from masks (q + (n - (i + 1))) (i + 1) x
      go x a (yes b) = rw (to, add-one, lt-ltb x (2 ^ i) b) (d.first x 0 (omega (arith, places)) ∙ ap (λ (w : ℕ). bit_and w (mask masks k 0)) (rw from at (f.filled x b)))
      go x a (no b) =
          let y : ℕ = x - 2 ^ i in
          let c : y < 2 ^ i = omega arith in
          let z : 2 ^ i + y ≡ x = omega arith in
          rw (to, add-one, le-ltb x (2 ^ i) (omega arith))
          ((rw (places, z) at (d.second y 0 (omega (arith, places)))) ∙ ap (λ (w : ℕ). bit_and w (mask masks k 1)) (rw from at (f.filled y c)))

  -- All elements are done at the end.
  pub filling_end : {enabled : List ℕ} → Filling masks q n enabled n → Filled masks q n enabled
  filling_end f = let z : q + (n - n) ≡ q = omega arith in rw z at f.filled
