-- The bits of a word as sections: taken off from the lowest they are pushed, and the new bits of a row's word join the queue.
use mathlib.Core.Path.{◌≡◌, refl, sym, ap, ◌∙◌, subst, fun_ext}
use mathlib.Core.Bool.{Bool, true, false, not, ◌&&◌, ◌||◌, false≢true, and-true, and-false, and-not_self}
use mathlib.Core.List.{List}
use Prim.Native.Nat.{ℕ, zero, suc, ◌+◌, ◌-◌, ◌*◌, ◌/◌, ◌%◌, ◌≤◌, ◌<◌}
use native.Mathlib.Omega.{arith}
use lib.Dec.{eqb}
use lib.ListN.{length, set}
use borrow.Author.Tests.{eqb-true, eq-eqb}
use Rattle.basics.specs.Numbers.{count}
use Rattle.basics.proofs.Tests.{and_both, same_test}
use Rattle.basics.proofs.Numbers.{count_more, count_mono}
use Rattle.bits.specs.Bits.{bit, LowestBit}
use Rattle.bits.proofs.Bits.{bit-zero}
use Rattle.search.specs.Steps.{in_word, Pushed}
use Rattle.search.proofs.Grow.{Plus, pushed_none, pushed_more}

-- ---- the sections of a word
-- Section 64 * i + z + 1 is bit z of word i.
pub in_word-bit : (i w z k : ℕ) → z < 64 → k ≡ 64 * i + z + 1 → in_word i w k ≡ bit w z
unfolding in_word
in_word-bit i w z zero l e = absurd (omega arith)
in_word-bit i w z (suc q) l e =
    let d : q / 64 ≡ i = omega arith in
    let r : q % 64 ≡ z = omega arith in
    rw (eq-eqb (q / 64) i d, r)

-- What is a section of word i is one of its 64, and a bit.
pub in_word_at : (i w k : ℕ) → in_word i w k ≡ true → (64 * i < k) × (k ≤ 64 * i + 64) × (bit w (k - 64 * i - 1) ≡ true)
unfolding in_word
in_word_at i w zero h = absurd (false≢true h)
in_word_at i w (suc q) h =
    let b = and_both (eqb (q / 64) i) (bit w (q % 64)) h in
    let d : q / 64 ≡ i = eqb-true (q / 64) i b.0 in
    let r : q % 64 ≡ suc q - 64 * i - 1 = omega arith in
    (omega arith, omega arith, rw r at b.1)

-- The word 0 has no section.
pub in_word-zero : (i k : ℕ) → in_word i 0 k ≡ false
unfolding in_word
in_word-zero i zero = refl
in_word-zero i (suc q) = rw (bit-zero (q % 64)) (and-false (eqb (q / 64) i))

-- The section of bit z of word i.
abbrev pub section_of : ℕ → ℕ → ℕ
section_of i z = i * 64 + z + 1

-- What a word has without its lowest bit: its sections but that one's.
pub in_word_rest : (i w z v k : ℕ) → LowestBit w z v → in_word i v k ≡ (in_word i w k && not (eqb k (section_of i z)))
unfolding in_word
in_word_rest i w z v zero l = refl
in_word_rest i w z v (suc q) l = go (eqb (q / 64) i) refl
  where
    go : (t : Bool) → eqb (q / 64) i ≡ t → (t && bit v (q % 64)) ≡ ((t && bit w (q % 64)) && not (eqb (suc q) (section_of i z)))
    go false e = refl
    go true e =
        let d : q / 64 ≡ i = eqb-true (q / 64) i e in
        let s : eqb (q % 64) z ≡ eqb (suc q) (section_of i z) =
        same_test (eqb (q % 64) z) (eqb (suc q) (section_of i z))
        (λ x. let y : q % 64 ≡ z = eqb-true (q % 64) z x in eq-eqb (suc q) (section_of i z) (omega arith))
        (λ x. let y : suc q ≡ section_of i z = eqb-true (suc q) (section_of i z) x in eq-eqb (q % 64) z (omega (arith, l.within))) in
        l.rest (q % 64) ∙ ap (λ (b : Bool). bit w (q % 64) && not b) s

-- ---- the bits of a word pushed
-- All bits of w are pushed but those of `left`.
pub record Pushing (i w a : ℕ) (queue before : List ℕ) (n left : ℕ) (queue' before' : List ℕ) (m : ℕ) : Type 0 where
  pub part : (k : ℕ) → in_word i left k ≡ true → in_word i w k ≡ true
  pub pushed : Pushed (λ k. in_word i w k && not (in_word i left k)) a queue before n queue' before' m

module _ (i w a : ℕ) (queue before : List ℕ) (n : ℕ) where
  -- At first none is pushed.
  pub pushing_start : Pushing i w a queue before n w queue before n
  pushing_start =
      record {
        part = λ k h. h;
        pushed = pushed_none (λ k. in_word i w k && not (in_word i w k)) a queue before n (λ k. and-not_self (in_word i w k));
      }

  -- At last all are.
  pub pushing_end : (left : ℕ) (queue' before' : List ℕ) (m : ℕ) → Pushing i w a queue before n left queue' before' m → left ≡ 0
      → Pushed (in_word i w) a queue before n queue' before' m
  pushing_end left queue' before' m r z =
      subst (λ (f : ℕ → Bool). Pushed f a queue before n queue' before' m)
      (fun_ext (λ k. ap (λ (b : Bool). in_word i w k && not b) (ap (λ (x : ℕ). in_word i x k) z ∙ in_word-zero i k) ∙ and-true (in_word i w k)))
      r.pushed

  module _ (room : n + count 512 (in_word i w) ≤ 512) (li : i < 8) (left z rest : ℕ) (queue' before' : List ℕ) (m : ℕ)
      (r : Pushing i w a queue before n left queue' before' m) (l : LowestBit left z rest) where
    abbrev b : ℕ
    b = section_of i z

    here : in_word i left b ≡ true
    here = in_word-bit i left z b l.within (omega arith) ∙ l.here

    abbrev f : ℕ → Bool
    f k = in_word i w k && not (in_word i left k)

    abbrev g : ℕ → Bool
    g k = in_word i w k && not (in_word i rest k)

    new : f b ≡ false
    new = rw (here, r.part b here)

    plus : Plus f b g
    plus k =
        rw (in_word_rest i left z rest k l)
        (more (eqb k b) (in_word i w k) (in_word i left k) (λ e. rw (eqb-true k b e) (r.part b here)))
      where
        more : (e a l : Bool) → (e ≡ true → a ≡ true) → (a && not (l && not e)) ≡ (e || (a && not l))
        more true a true h = rw (h refl)
        more true a false h = rw (h refl)
        more false a true h = refl
        more false a false h = refl

    -- The lowest bit left names a section, and there is room for it.
    pub pushing_room : (section_of i z ≤ 512) × (m < 512)
    pushing_room = (
      omega (arith, l.within),
      omega (
        arith,
        l.within,
        r.pushed.size,
        count_more 512 f g b (omega arith) (omega (arith, l.within)) new (λ k h e. plus k),
        count_mono 512 g (in_word i w) (λ k h. (and_both (in_word i w k) (not (in_word i rest k)) h).0),
      ),
    )

    -- The lowest bit left is pushed and taken off.
    pub pushing_turn : length queue ≡ 512 → length before ≡ 513
        → Pushing i w a queue before n rest (set queue' m (section_of i z)) (set before' (section_of i z) a) (m + 1)
    pushing_turn lq lb =
        record {
          part = λ k h. r.part k (and_both (in_word i left k) (not (eqb k b)) (sym (in_word_rest i left z rest k l) ∙ h)).0;
          pushed = pushed_more f g a queue before n queue' before' m b r.pushed (omega arith) pushing_room.0 new plus
              (omega (arith, pushing_room.1)) (omega (arith, pushing_room.0));
        }
