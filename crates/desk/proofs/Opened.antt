-- When command 1 succeeds, by the place of its element: k is one less than the element's number.
use mathlib.Core.Path.{◌≡◌, refl}
use mathlib.Core.Bool.{false, ◌&&◌, ◌||◌}
use Prim.Native.Nat.{ℕ, ◌+◌, ◌≤◌, ◌<◌}
use native.Mathlib.Numerals.{add-one}
use lib.Dec.{eqb}
use lib.ListN.{length, get_or}
use borrow.Author.Tests.{lt-ltb, le-ltb}
use Rattle.session_meaning.specs.declared.Desk.{Desk}
use Rattle.session_meaning.specs.Desk.{element_number, was_open, can_set, desk_states, settable}

module _ (d : Desk) where
  -- 0 is no element.
  pub not-zero : element_number d.number_low d.number_high ≡ 0 → settable d ≡ false
  unfolding settable can_set was_open
  not-zero e = rw e refl

  module _ (k : ℕ) (number : k + 1 ≡ element_number d.number_low d.number_high) where
    -- Nor is a number above the elements.
    pub not_past : length (desk_states d) ≤ k → settable d ≡ false
    unfolding settable can_set was_open
    not_past h = rw (← number, add-one, le-ltb k (length (desk_states d)) h) refl

    -- The state of an element, in the file and at address 4.
    pub by_states : (x : ℕ) → k < length (desk_states d) → x ≡ get_or (desk_states d) k 0
        → (eqb x 0 && (eqb d.state 1 || eqb d.state 2)) ≡ settable d
    unfolding settable can_set was_open
    by_states x h e = rw (← number, add-one, lt-ltb k (length (desk_states d)) h, e) refl
