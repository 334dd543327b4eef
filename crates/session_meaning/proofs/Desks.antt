-- What a list of writes says, by places in the list and with no recursion; what any desk refuses; and `run` is writing one by one.
use mathlib.Core.Path.{◌≡◌, refl, sym, ap, ◌∙◌}
use mathlib.Core.Logic.{◌↔◌, ⊎_elim}
use mathlib.Core.Bool.{Bool, true, false, ◌||◌, cond, false≢true}
use mathlib.Core.List.{List, [], ◌∷◌, ◌++◌}
use Prim.Native.Nat.{ℕ, zero, suc, ◌≤◌, ◌<◌}
use native.Mathlib.Omega.{arith}
use native.Mathlib.Nat.{eq-or-lt_of_le}
use mathlib.Mathlib.Data.Bool.Basic.{or-eq-false-eq-eq-false-and-eq-false as neither}
use lib.Dec.{eqb, ltb}
use lib.ListN.{get_or}
use borrow.Author.Tests.{ltb-true, ne_eqb, lt-ltb, le-ltb}
use Rattle.std.specs.Prelude.{Ok, Err}
use Rattle.std.proofs.lemmas.Bool.{cases_lt}
use Rattle.session_meaning.specs.declared.Desk.{Desk}
use Rattle.basics.specs.Lists.{list_of}
use Rattle.meaning.specs.File.{refusal}
use Rattle.session_meaning.specs.Desk.{state_in, was_open, can_set, written, write_answer, byte_at, read_answer, Write, desk_after}
use Rattle.session_meaning.specs.Desk.{last_where, last_byte, is_command, succeeds, fails, sets_element, held_state, pending_bit, failed_bit, IsLast, Uncleared, LastFailed}
use Rattle.basics.proofs.Tests.{or_cases}
use Rattle.session_meaning.proofs.Last.{Never, last_none, last_found, last_cases}

-- ---- tests
one : (t : Bool) → ◌≡◌ {A = ℕ} (cond t 1 0) 1 → t ≡ true
one t h = grind arith

-- ---- a list of writes
module _ (fs : List ℕ) (ws : ℕ → Write) (n : ℕ) where
  -- The last byte written at an address, by its place.
  pub byte_last : (a i : ℕ) → IsLast (λ j. eqb (ws j).address a) n i → last_byte ws a n ≡ (ws i).byte
  unfolding last_byte
  byte_last a i last = last_found (λ j. eqb (ws j).address a) (λ j. (ws j).byte) 0 n i last

  pub byte_none : (a : ℕ) → Never (λ j. eqb (ws j).address a) n → last_byte ws a n ≡ 0
  unfolding last_byte
  byte_none a never = last_none (λ j. eqb (ws j).address a) (λ j. (ws j).byte) 0 n never

  -- "Each element holds the state of the last successful set of it ..": the byte last written at 4 before that set.
  pub held_last : (e i : ℕ) → IsLast (sets_element fs ws e) n i → held_state fs ws e n ≡ last_byte ws 4 i
  unfolding held_state
  held_last e i last = last_found (sets_element fs ws e) (last_byte ws 4) (state_in fs e) n i last

  -- ".. or else its file state."
  pub held_none : (e : ℕ) → Never (sets_element fs ws e) n → held_state fs ws e n ≡ state_in fs e
  unfolding held_state
  held_none e never = last_none (sets_element fs ws e) (last_byte ws 4) (state_in fs e) n never

  abbrev f : ℕ → Bool
  f i = succeeds fs ws i || is_command ws 2 i

  abbrev v : ℕ → ℕ
  v i = cond (succeeds fs ws i) 1 0

  abbrev g : ℕ → Bool
  g i = is_command ws 1 i || is_command ws 2 i

  abbrev w : ℕ → ℕ
  w i = cond (fails fs ws i) 1 0

  -- "Pending" is 1 exactly when there was a successful set after the last clear.
  pub uncleared_exactly : (pending_bit fs ws n ≡ 1) ↔ ((i : ℕ) × Uncleared fs ws n i)
  unfolding pending_bit
  uncleared_exactly = (there, back)
    where
      there : last_where f v 0 n ≡ 1 → (i : ℕ) × Uncleared fs ws n i
      there h =
          ⊎_elim
          (λ (no : Never f n). absurd (omega (arith, last_none f v 0 n no)))
          (λ (l : (i : ℕ) × IsLast f n i).
          let i = l.0 in (
            i,
            record {
              below = l.1.below;
              succeeded = one (succeeds fs ws i) (sym (last_found f v 0 n i l.1) ∙ h);
              uncleared = λ j a b. ((neither (succeeds fs ws j) (is_command ws 2 j)).0 (l.1.later j a b)).1;
            },
          ))
          (last_cases f v 0 n)

      -- The last successful set or clear is not before i, so it is no clear.
      set_last : (i k : ℕ) → Uncleared fs ws n i → IsLast f n k → succeeds fs ws k ≡ true
      set_last i k u l =
          ⊎_elim
          (λ (b : k < i). absurd (false≢true (sym ((neither (succeeds fs ws i) (is_command ws 2 i)).0 (l.later i b u.below)).0 ∙ u.succeeded)))
          (λ (b : i ≤ k).
          ⊎_elim
          (λ (e : i ≡ k). rw e at u.succeeded)
          (λ (b : i < k).
          ⊎_elim
          (λ (e : succeeds fs ws k ≡ true). e)
          (λ (e : is_command ws 2 k ≡ true). absurd (false≢true (sym (u.uncleared k b l.below) ∙ e)))
          (or_cases (succeeds fs ws k) (is_command ws 2 k) l.holds))
          (eq-or-lt_of_le b))
          (cases_lt k i)

      back : (i : ℕ) × Uncleared fs ws n i → last_where f v 0 n ≡ 1
      back u =
          ⊎_elim
          (λ (no : Never f n).
          let i = u.0 in
          absurd (false≢true (sym ((neither (succeeds fs ws i) (is_command ws 2 i)).0 (no i u.1.below)).0 ∙ u.1.succeeded)))
          (λ (l : (k : ℕ) × IsLast f n k). last_found f v 0 n l.0 l.1 ∙ rw (set_last u.0 l.0 u.1 l.1))
          (last_cases f v 0 n)

  -- "Last set failed" is 1 exactly when the last set or clear was a failed set.
  pub last_failed_exactly : (failed_bit fs ws n ≡ 1) ↔ ((i : ℕ) × LastFailed fs ws n i)
  unfolding failed_bit
  last_failed_exactly = (there, back)
    where
      there : last_where g w 0 n ≡ 1 → (i : ℕ) × LastFailed fs ws n i
      there h =
          ⊎_elim
          (λ (no : Never g n). absurd (omega (arith, last_none g w 0 n no)))
          (λ (l : (i : ℕ) × IsLast g n i).
          (l.0, record { last = l.1; failure = one (fails fs ws l.0) (sym (last_found g w 0 n l.0 l.1) ∙ h) }))
          (last_cases g w 0 n)

      back : (i : ℕ) × LastFailed fs ws n i → last_where g w 0 n ≡ 1
      back u = last_found g w 0 n u.0 u.1.last ∙ rw u.1.failure

-- ---- any desk
past_5 : {a : ℕ} → 5 < a → (k : ℕ) → ltb k 6 ≡ true → eqb a k ≡ false
past_5 {a} h k l = ne_eqb a k (λ e. omega (arith, ltb-true k 6 l))

-- "It refuses with 20 a read or write at an address above 5, which changes no byte and no element." No other is refused.
pub write_refused : (d : Desk) (a b : ℕ) → 5 < a → (write_answer a ≡ Err (refusal 20 0)) × (written d a b ≡ d)
unfolding written
write_refused d a b h = grind arith

pub read-refused : (d : Desk) (a : ℕ) → 5 < a → read_answer d a ≡ Err (refusal 20 0)
unfolding read_answer
read-refused d a h = simp (lt-ltb 5 a h)

pub byte_above : (d : Desk) (a : ℕ) → 5 < a → byte_at d a ≡ 0
unfolding byte_at
byte_above d a h = simp (past_5 h 0 refl, past_5 h 1 refl, past_5 h 2 refl, past_5 h 3 refl, past_5 h 4 refl)

pub not-refused : (d : Desk) (a : ℕ) → a ≤ 5 → (write_answer a ≡ Ok tt) × (read_answer d a ≡ Ok (byte_at d a))
unfolding read_answer
not-refused d a h = (simp (le-ltb 5 a h), simp (le-ltb 5 a h))

-- ---- writing one by one
-- A list of writes, each as the operation `write` makes it, whatever it answers.
unfoldable pub write_all : Desk → List Write → Desk
write_all d [] = d
write_all d (w ∷ ws) = write_all (written d w.address w.byte) ws

-- What `run` gives is `write` after `write`.
pub run_one_by_one : (d : Desk) (ws : ℕ → Write) (n : ℕ) → desk_after d ws n ≡ write_all d (list_of n ws)
unfolding write_all desk_after list_of
run_one_by_one d ws zero = refl
run_one_by_one d ws (suc n) =
    ap (λ (e : Desk). written e (ws n).address (ws n).byte) (run_one_by_one d ws n) ∙ sym (go d (list_of n ws))
  where
    go : (d : Desk) (xs : List Write) → write_all d (xs ++ (ws n ∷ [])) ≡ written (write_all d xs) (ws n).address (ws n).byte
    go d [] = refl
    go d (x ∷ xs) = go (written d x.address x.byte) xs

-- ---- an example
-- Element 1 is open, element 2 is fixed at 1. Element 1 is set to 2; a write at 9 is refused; a set of element 2 fails; the interrupt is
-- enabled; address 1 ignores a write.
example : ℕ → Write
example i =
    get_or
    (record { address = 2; byte = 1 }
    ∷ record { address = 4; byte = 2 }
    ∷ record { address = 5; byte = 1 }
    ∷ record { address = 9; byte = 7 }
    ∷ record { address = 2; byte = 2 }
    ∷ record { address = 5; byte = 1 }
    ∷ record { address = 0; byte = 129 }
    ∷ record { address = 1; byte = 0 }
    ∷ [])
    i (record { address = 1; byte = 0 })

said : (ℕ → Write) → ℕ → List ℕ
unfolding held_state pending_bit failed_bit last_byte last_where sets_element succeeds fails can_set was_open state_in
said ws n =
    let fs : List ℕ = 0 ∷ 1 ∷ [] in
    held_state fs ws 1 n ∷ held_state fs ws 2 n ∷ pending_bit fs ws n ∷ failed_bit fs ws n ∷ last_byte ws 0 n ∷ last_byte ws 5 n ∷ []

example_said : said example 8 ≡ 2 ∷ 1 ∷ 1 ∷ 1 ∷ 129 ∷ 1 ∷ []
unfolding said example
example_said = refl
