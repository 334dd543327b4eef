-- One write more: where a desk's bytes, bits and elements are what the first n writes of a list say, those of the desk after the next write
-- are what the first n + 1 say.
use mathlib.Core.Path.{◌≡◌, sym, ap, ◌∙◌}
use mathlib.Core.Bool.{Bool, true, ◌&&◌, ◌||◌, cond}
use mathlib.Core.List.{List, map}
use Prim.Native.Nat.{ℕ, zero, suc, ◌+◌, ◌*◌, ◌-◌, ◌≤◌, ◌<◌}
use native.Mathlib.Omega.{arith}
use lib.Dec.{eqb}
use lib.ListN.{length, get_or, set, length-map, length-take}
use lib.Seq.{get_or-set_same, get_or-set_other, get_or-take}
use Rattle.meaning.specs.declared.Element.{Element}
use Rattle.meaning.specs.declared.Situation.{Situation}
use Rattle.session_meaning.specs.declared.Desk.{Desk}
use Rattle.meaning.specs.Station.{elements_of, file_states}
use Rattle.session_meaning.specs.Desk.{state_in, was_open, can_set, desk_of, desk_states, state_of, settable, status_after, states_after}
use Rattle.session_meaning.specs.Desk.{written, Write, last_where, last_byte, is_command, number_at}
use Rattle.session_meaning.specs.Desk.{succeeds, fails, sets_element, held_state, pending_bit, failed_bit}
use Rattle.basics.proofs.Tests.{and_both}
use Rattle.meaning.proofs.Elements.{states_taken}
use Rattle.session_meaning.proofs.Last.{last_none}

-- ---- which elements can be set
-- An element that was open has a number from 1 to the number of elements, and the file's state 0.
open_range : (fs : List ℕ) (e : ℕ) → was_open fs e ≡ true → (1 ≤ e) × (e ≤ length fs) × (state_in fs e ≡ 0)
unfolding was_open state_in
open_range fs e h = grind arith

-- No other number can be set.
pub set_range : (fs : List ℕ) (e x : ℕ) → can_set fs e x ≡ true → (1 ≤ e) × (e ≤ length fs) × (state_in fs e ≡ 0)
unfolding can_set
set_range fs e x h = open_range fs e (and_both (was_open fs e) (eqb x 1 || eqb x 2) h).0

-- ---- a start
module _ (s : Situation) where
  pub start_states : desk_states (desk_of s) ≡ file_states s
  unfolding desk_of
  start_states = states_taken s

  few : length (file_states s) ≤ s.header.elements
  unfolding file_states elements_of
  few = simp (length-map, length-take) (omega arith)

  pub start_element : (e : ℕ) → 1 ≤ e → e ≤ length (file_states s) → state_of (desk_of s) e ≡ state_in (file_states s) e
  unfolding desk_of state_in
  start_element zero h l = absurd (omega arith)
  start_element (suc i) h l =
      let k : i < s.header.elements = omega (arith, few) in
      sym (get_or-take s.header.elements (map (λ (e : Element). e.state) s.elements) i 0 k) ∙ ap (λ (xs : List ℕ). get_or xs i 0) (states_taken s)

-- ---- one write
-- a is whether it is a command, t whether that is command 1, k whether it can set element `number` to x, which has its place in xs.
set-step : (a t k : Bool) (xs : List ℕ) (number x i y : ℕ) → (k ≡ true → 1 ≤ number) → i < length xs → get_or xs i 0 ≡ y
    → get_or (cond a (cond (t && k) (set xs (number - 1) x) xs) xs) i 0 ≡ cond (((a && t) && k) && eqb number (suc i)) x y
set-step a t k xs number x i y h h2 h3 = grind (arith, get_or-set_other, get_or-set_same)

small_step : (t u : Bool) (p : ℕ) → p ≤ 1 → cond t (cond u 1 0) p ≤ 1
small_step t u p h = grind arith

-- ---- the list
module _ (fs : List ℕ) (ws : ℕ → Write) where
  pub pending_small : (n : ℕ) → pending_bit fs ws n ≤ 1
  unfolding pending_bit last_where
  pending_small zero = omega arith
  pending_small (suc n) = small_step (succeeds fs ws n || is_command ws 2 n) (succeeds fs ws n) (pending_bit fs ws n) (pending_small n)

  pub failed_small : (n : ℕ) → failed_bit fs ws n ≤ 1
  unfolding failed_bit last_where
  failed_small zero = omega arith
  failed_small (suc n) = small_step (is_command ws 1 n || is_command ws 2 n) (fails fs ws n) (failed_bit fs ws n) (failed_small n)

  -- A list sets no element that the file fixed.
  pub fixed_held : (e n : ℕ) → (state_in fs e ≡ 0 → ⊥) → held_state fs ws e n ≡ state_in fs e
  unfolding held_state sets_element succeeds
  fixed_held e n fixed = grind (arith, last_none, set_range)

  -- The desk d holds what the first n writes say, and write n follows.
  module _ (n : ℕ) (d : Desk) where
    abbrev next : Desk
    next = written d (ws n).address (ws n).byte

    -- Addresses 0, 2, 3 and 4 hold the last byte written there, or 0.
    pub control_next : d.control ≡ last_byte ws 0 n → next.control ≡ last_byte ws 0 (suc n)
    unfolding written last_byte last_where
    control_next h = ap (λ (x : ℕ). cond (eqb (ws n).address 0) (ws n).byte x) h

    pub low_next : d.number_low ≡ last_byte ws 2 n → next.number_low ≡ last_byte ws 2 (suc n)
    unfolding written last_byte last_where
    low_next h = ap (λ (x : ℕ). cond (eqb (ws n).address 2) (ws n).byte x) h

    pub high_next : d.number_high ≡ last_byte ws 3 n → next.number_high ≡ last_byte ws 3 (suc n)
    unfolding written last_byte last_where
    high_next h = ap (λ (x : ℕ). cond (eqb (ws n).address 3) (ws n).byte x) h

    pub state_next : d.state ≡ last_byte ws 4 n → next.state ≡ last_byte ws 4 (suc n)
    unfolding written last_byte last_where
    state_next h = ap (λ (x : ℕ). cond (eqb (ws n).address 4) (ws n).byte x) h

    module _ (filed : desk_states d ≡ fs) (low : d.number_low ≡ last_byte ws 2 n) (high : d.number_high ≡ last_byte ws 3 n) (state : d.state ≡ last_byte ws 4 n) where
      settable_is : settable d ≡ can_set fs (number_at ws n) (last_byte ws 4 n)
      unfolding settable
      settable_is = rw (filed, low, high, state)

      pub status_next : d.status ≡ pending_bit fs ws n + failed_bit fs ws n * 2 → next.status ≡ pending_bit fs ws (suc n) + failed_bit fs ws (suc n) * 2
      unfolding written status_after pending_bit failed_bit last_where succeeds fails
      status_next h = grind (arith, pending_small, settable_is)

      -- "Each element holds the state of the last successful set of it, or else its file state."
      pub element_next : (e : ℕ) → 1 ≤ e → e ≤ length d.element_state → state_of d e ≡ held_state fs ws e n → state_of next e ≡ held_state fs ws e (suc n)
      unfolding written states_after settable held_state last_where state_in sets_element succeeds
      element_next e h h2 h3 = grind (arith, set-step, set_range)
