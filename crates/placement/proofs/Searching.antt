-- The loop of `free_from` passes taken sections only, and ends at the first free one.
use Rattle.std.proofs.Common.{◌≡◌, ℕ, zero, suc, ◌+◌, ◌<◌, ◌≤◌, Bool, true, false, not, ◌&&◌, leb, refl, ⊎_elim, eq-or-lt_of_le, arith, le-leb, leb-true}
use mathlib.Core.Bool.{and-false}
use Rattle.std.specs.Prelude.{Option, Some, None, MatchOption, IsSome}
use Rattle.meaning.specs.declared.Section.{Section}
use Rattle.session_meaning.specs.Placement.{free_from, or_else, gives_way}
use Rattle.basics.proofs.Numbers.{lowest_unique}
use Rattle.placement.specs.Placing.{IsNumbered}

module _ (taken : ℕ → Bool) (start : ℕ) where
  -- Every section from the start and below k is taken.
  abbrev pub Passed : ℕ → Type 0
  Passed k = (start ≤ k) × ((t : ℕ) → start ≤ t → t < k → taken t ≡ true)

  pub passed_start : Passed start
  passed_start = (omega arith, λ t low high. absurd (omega arith))

  pub passed_more : (k : ℕ) → Passed k → taken k ≡ true → Passed (k + 1)
  passed_more k h e =
      (omega arith, λ t low high. ⊎_elim (λ q. rw q e) (λ l. h.1 t low l) (eq-or-lt_of_le (omega arith)))

  -- None of the sections below k passes the test of a free section from the start on.
  none_free : (k : ℕ) → Passed k → (t : ℕ) → t < k → (b : Bool) → leb start t ≡ b → (leb start t && not (taken t)) ≡ false
  none_free k h t l true e = rw (h.1 t (leb-true start t e) l) (and-false (leb start t))
  none_free k h t l false e = rw e refl

  -- The loop ends at a free section.
  pub free_here : (n k : ℕ) → 1 ≤ start → k ≤ n → Passed k → taken k ≡ false → free_from n taken start ≡ k
  unfolding free_from
  free_here n zero some within h e = absurd (omega (arith, h.0))
  free_here n (suc k) some within h e =
      lowest_unique n (λ t. leb start t && not (taken t)) (suc k)
      (within, rw (le-leb start (suc k) h.0, e) refl, λ t low high. none_free (suc k) h t (omega arith) (leb start t) refl)

  -- The loop passes the last section.
  pub free_none : (n k : ℕ) → n < k → Passed k → free_from n taken start ≡ 0
  unfolding free_from
  free_none n k past h =
      lowest_unique n (λ t. leb start t && not (taken t)) 0 (λ t low high. none_free k h t (omega arith) (leb start t) refl)

-- What section k gives way to: the first search's section, or else that of a second search, which has been made where P holds.
pub way_is : (n : ℕ) (taken : ℕ → Bool) (k : ℕ) (r q : Option Section) {P : Type 0} → (P → IsNumbered q (free_from n taken 1))
    → IsNumbered r (free_from n taken k) → MatchOption r P (λ s. q ≡ Some s) → IsNumbered q (gives_way n taken k)
unfolding gives_way
way_is n taken k None q second none made = rw none (second made)
way_is n taken k (Some s) q second h is = rw is (above s.0 (free_from n taken k) h)
  where
    above : (l m : ℕ) → (l ≡ m) × (1 ≤ l) → (l ≡ or_else m (free_from n taken 1)) × (1 ≤ l)
    above l zero h = absurd (omega arith)
    above l (suc m) h = h

-- A search for a section finds it.
pub found : (r : Option Section) (k : ℕ) → IsNumbered r k → 1 ≤ k → IsSome r
found None k h low = absurd (omega arith)
found (Some s) k h low = refl
