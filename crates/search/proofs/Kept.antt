-- The path by which a section of the set is found: it stays where the set grows, has no section twice, and can be read back.
use mathlib.Core.Path.{◌≡◌, refl, sym, ap, ◌∙◌}
use mathlib.Core.Logic.{⊎_elim}
use mathlib.Core.Bool.{Bool, true, false, not, ◌||◌, false≢true}
use mathlib.Core.List.{List, [], ◌∷◌, ◌++◌}
use mathlib.Mathlib.Data.Bool.Basic.{and_intro, or-eq-false-eq-eq-false-and-eq-false as neither}
use Prim.Native.Nat.{ℕ, zero, suc, ◌+◌, ◌≤◌}
use native.Mathlib.Omega.{arith}
use lib.Dec.{eqb}
use lib.ListN.{length, get_or, length-append}
use borrow.Author.Tests.{eqb-true, eqb-false, ne_eqb}
use Rattle.meaning.specs.declared.Move.{Move}
use Rattle.meaning.specs.Station.{permitted}
use Rattle.meaning.specs.Paths.{mem, path_to, once}
use Rattle.basics.proofs.Tests.{or_cases, and_both}
use Rattle.meaning.proofs.Reach.{mem_cases, mem_snoc, path_of, path_more}
use Rattle.search.specs.Read.{path_back, Back}
use Rattle.search.specs.Search.{FoundBy}

-- ---- the set grows, and the entries of its sections stay
module _ (move : ℕ → ℕ → Bool) (has has' : ℕ → Bool) (before before' : List ℕ) (more : (k : ℕ) → has k ≡ true → has' k ≡ true)
    (same : (k : ℕ) → has k ≡ true → get_or before' k 0 ≡ get_or before k 0) where
  pub path_same : (n k : ℕ) → FoundBy move has before n k → path_back before' n k ≡ path_back before n k
  path_same zero k w = refl
  path_same (suc n) k w =
      ap (λ (p : List ℕ). p ++ (k ∷ [])) (ap (path_back before' n) (same k w.0) ∙ path_same n (get_or before k 0) w.3)

  pub found_kept : (n k : ℕ) → FoundBy move has before n k → FoundBy move has' before' n k
  found_kept zero k w = (more k w.0, same k w.0 ∙ w.1)
  found_kept (suc n) k w = rw (same k w.0) (
    more k w.0,
    w.1,
    ap (mem k) (path_same n (get_or before k 0) w.3) ∙ w.2,
    found_kept n (get_or before k 0) w.3,
  )

module _ (move : ℕ → ℕ → Bool) (has : ℕ → Bool) (before : List ℕ) where
  found_in : (n k : ℕ) → FoundBy move has before n k → has k ≡ true
  found_in zero k w = w.0
  found_in (suc n) k w = w.0

  -- The sections of the path are in the set.
  pub path_members : (n k : ℕ) → FoundBy move has before n k → (x : ℕ) → mem x (path_back before n k) ≡ true → has x ≡ true
  path_members zero k w x h = ⊎_elim (λ e. ap has e ∙ w.0) (λ e. absurd (false≢true e)) (mem_cases x k [] h)
  path_members (suc n) k w x h =
      ⊎_elim
      (λ e. ap has (eqb-true x k e) ∙ w.0)
      (path_members n (get_or before k 0) w.3 x)
      (or_cases (eqb x k) (mem x (path_back before n (get_or before k 0))) (sym (mem_snoc x k (path_back before n (get_or before k 0))) ∙ h))

  -- The path can be read back.
  pub found_back : ((k : ℕ) → has k ≡ true → (1 ≤ k) × (k ≤ 512)) → (n k : ℕ) → FoundBy move has before n k → Back before n k
  found_back within zero k w = ((within k w.0).1, w.1)
  found_back within (suc n) k w = (
    (within k w.0).1,
    (within (get_or before k 0) (found_in n (get_or before k 0) w.3)).0,
    found_back within n (get_or before k 0) w.3,
  )

  -- What holds for the starts and is kept by moves holds for the end of the path.
  pub found_least : (P : ℕ → Bool) → ((k : ℕ) → has k ≡ true → get_or before k 0 ≡ 0 → P k ≡ true)
      → ((a b : ℕ) → move a b ≡ true → P a ≡ true → P b ≡ true) → (n k : ℕ) → FoundBy move has before n k → P k ≡ true
  found_least P h c zero k w = h k w.0 w.1
  found_least P h c (suc n) k w = c (get_or before k 0) k w.1 (found_least P h c n (get_or before k 0) w.3)

  -- The path begins in a start.
  pub found_path : (ms : List Move) (S : List ℕ) → ((a b : ℕ) → move a b ≡ permitted ms a b)
      → ((k : ℕ) → has k ≡ true → get_or before k 0 ≡ 0 → mem k S ≡ true) → (n k : ℕ) → FoundBy move has before n k → path_to ms S k (path_back before n k) ≡ true
  found_path ms S same roots zero k w = path_of ms S k k [] (roots k w.0 w.1, refl, refl)
  found_path ms S same roots (suc n) k w =
      path_more ms S (get_or before k 0) k (path_back before n (get_or before k 0)) (sym (same (get_or before k 0) k) ∙ w.1)
      (found_path ms S same roots n (get_or before k 0) w.3)

  -- The path has no section twice.
  pub found-once : (n k : ℕ) → FoundBy move has before n k → once (path_back before n k) ≡ true
  found-once zero k w = refl
  found-once (suc n) k w = once_snoc k (path_back before n (get_or before k 0)) (found-once n (get_or before k 0) w.3) w.2
    where
      once_snoc : (x : ℕ) (xs : List ℕ) → once xs ≡ true → mem x xs ≡ false → once (xs ++ (x ∷ [])) ≡ true
      once_snoc x [] h n = refl
      once_snoc x (y ∷ xs) h n =
          let a = and_both (not (mem y xs)) (once xs) h in
          let b = (neither (eqb x y) (mem x xs)).0 n in
          and_intro
          (ap not (mem_snoc y x xs) ∙ other (eqb y x) (ne_eqb y x (λ e. eqb-false x y b.0 (sym e))) (mem y xs) a.0)
          (once_snoc x xs a.1 b.1)
        where
          other : (a : Bool) → a ≡ false → (b : Bool) → not b ≡ true → not (a || b) ≡ true
          other true e b h = absurd (false≢true (sym e))
          other false e b h = h

-- The path has one section more than moves.
pub path_back-length : (before : List ℕ) (n k : ℕ) → length (path_back before n k) ≡ n + 1
path_back-length before zero k = refl
path_back-length before (suc n) k =
    length-append (path_back before n (get_or before k 0)) (k ∷ []) ∙ omega (arith, path_back-length before n (get_or before k 0))
