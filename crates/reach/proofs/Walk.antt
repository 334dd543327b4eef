-- The numbers that a list has for the sections of a set, added up: in a word the bits are taken off from the lowest, and from word to word
-- the walk goes to the next section.
use mathlib.Core.Bool.{Bool, true, false, not, cond, ◌&&◌, ◌||◌, and-false}
use mathlib.Core.List.{List}
use mathlib.Core.Path.{◌≡◌, refl, sym, ap, ◌∙◌}
use Prim.Native.Nat.{ℕ, ◌+◌, ◌-◌, ◌*◌, ◌/◌, ◌%◌, ◌<◌, ◌≤◌}
use native.Mathlib.Omega.{arith}
use lib.Dec.{eqb, ltb}
use lib.ListN.{get_or}
use borrow.Author.Tests.{eqb-true, eq-eqb}
use Rattle.std.specs.Prelude.{Option, Some, None}
use Rattle.meaning.specs.declared.Section.{Section}
use Rattle.basics.specs.Numbers.{lowest, total}
use Rattle.meaning.specs.Sections.{IsSection}
use Rattle.basics.proofs.Tests.{same_test}
use Rattle.basics.proofs.Numbers.{total_ext, total_mono, total_const, total-after, total-part-le, total_more}
use Rattle.basics.proofs.UpTo.{total_up_to}
use Rattle.bits.specs.Bits.{bit, LowestBit}
use Rattle.bits.proofs.Bits.{bit-zero}
use Rattle.reach.specs.Reach.{memb, IsLowestSection}
use Rattle.reach.proofs.Laws.{memb_word, next_at, no_next, next_zero}

-- ---- the bits of a word
-- The numbers of the bits of a word: bit k - 1 has number w k.
abbrev pub of_bits : (ℕ → ℕ) → ℕ → ℕ
of_bits w x = total 64 (λ k. cond (bit x (k - 1)) (w k) 0)

-- 0 has no bit to add.
pub of_bits_none : (w : ℕ → ℕ) {x : ℕ} → x ≡ 0 → of_bits w x ≡ 0
of_bits_none w {x} e =
    total_ext 64 (λ k. cond (bit x (k - 1)) (w k) 0) (λ k. 0)
    (λ k low high. ap (λ (b : Bool). cond b (w k) 0) (ap (λ (y : ℕ). bit y (k - 1)) e ∙ bit-zero (k - 1))) ∙ total_const 64 0

-- Without its lowest bit a word has that bit's number less.
pub of_bits_rest : (w : ℕ → ℕ) {x b y : ℕ} → LowestBit x b y → of_bits w x ≡ of_bits w y + w (b + 1)
of_bits_rest w {x} {b} {y} l =
    total_more 64 (λ k. bit y (k - 1)) (λ k. bit x (k - 1)) w (b + 1) (omega arith) (omega (arith, l.within)) gone plus
  where
    back : b + 1 - 1 ≡ b
    back = omega arith

    gone : bit y (b + 1 - 1) ≡ false
    gone = rw back (l.rest b ∙ ap (λ (t : Bool). bit x b && not t) (eq-eqb b b refl) ∙ and-false (bit x b))

    more : (e t : Bool) → (e ≡ true → t ≡ true) → t ≡ (e || (t && not e))
    more true t h = h refl
    more false true h = refl
    more false false h = refl

    plus : (k : ℕ) → 1 ≤ k → k ≤ 64 → bit x (k - 1) ≡ (eqb k (b + 1) || bit y (k - 1))
    plus k low high =
        let s : eqb k (b + 1) ≡ eqb (k - 1) b =
        same_test (eqb k (b + 1)) (eqb (k - 1) b)
        (λ h. let e : k ≡ b + 1 = eqb-true k (b + 1) h in eq-eqb (k - 1) b (omega arith))
        (λ h. let e : k - 1 ≡ b = eqb-true (k - 1) b h in eq-eqb k (b + 1) (omega arith)) in
        rw (s, l.rest (k - 1))
        (more (eqb (k - 1) b) (bit x (k - 1)) (λ h. ap (bit x) (eqb-true (k - 1) b h) ∙ l.here))

-- The sum stays small.
pub of_bits_small : (w : ℕ → ℕ) (x : ℕ) → ((k : ℕ) → w k ≤ 65535) → of_bits w x ≤ 4194240
of_bits_small w x few =
    omega (
      arith,
      total-part-le 64 (λ k. bit x (k - 1)) w,
      total_mono 64 w (λ k. 65535) (λ k low high. few k),
      total_const 64 65535,
    )

-- ---- the sections of a set
-- Section s of the set has the number at place s - 1 of the list.
abbrev pub number_of : List ℕ → List ℕ → ℕ → ℕ
number_of ws of s = cond (memb ws s) (get_or of (s - 1) 0) 0

-- The numbers of the sections in word i.
pub word_total_is : (ws of : List ℕ) (i : ℕ) → of_bits (λ k. get_or of (64 * i + k - 1) 0) (get_or ws i 0) ≡ total 64 (λ k. number_of ws of (64 * i + k))
word_total_is ws of i =
    total_ext 64 (λ k. cond (bit (get_or ws i 0) (k - 1)) (get_or of (64 * i + k - 1) 0) 0) (λ k. number_of ws of (64 * i + k))
    (λ k low high. ap (λ (b : Bool). cond b (get_or of (64 * i + k - 1) 0) 0)
    (sym (memb_word ws i (k - 1) (64 * i + k) (omega arith) (omega arith))))

-- What is lowest by one test is so by another with the same lowest number.
pub is_lowest_same : (f g : ℕ → Bool) → lowest 512 f ≡ lowest 512 g → (o : Option Section) → IsLowestSection f o → IsLowestSection g o
is_lowest_same f g e None h = sym e ∙ h
is_lowest_same f g e (Some s) h = (h.0, h.1 ∙ e)

-- The numbers of the sections up to a word's end are added, and `next` is the first section after it.
pub record Walked (ws of : List ℕ) (n : ℕ) (next : Option Section) : Type 0 where
  pub upto : ℕ
  pub within : upto ≤ 512
  pub words : upto % 64 ≡ 0
  pub lowest : IsLowestSection (λ t. ltb upto t && memb ws t) next
  pub sum : n ≡ total upto (number_of ws of)

-- Before the lowest section.
pub walked_start : (ws of : List ℕ) (next : Option Section) → IsLowestSection (memb ws) next → Walked ws of 0 next
unfolding total
walked_start ws of next h = record {
  upto = 0;
  within = omega arith;
  words = refl;
  lowest = is_lowest_same (memb ws) (λ t. ltb 0 t && memb ws t) (sym (next_zero 512 (memb ws))) next h;
  sum = refl;
}

-- How far the sections go from the next one to the last.
abbrev pub left_from : Option Section → ℕ
left_from None = 0
left_from (Some s) = 513 - s.0

-- What the set does not have adds nothing.
absent : (ws of : List ℕ) (t : ℕ) → memb ws t ≡ false → number_of ws of t ≡ 0
absent ws of t e = ap (λ (b : Bool). cond b (get_or of (t - 1) 0) 0) e

-- No section is left.
pub walked_end : {ws of : List ℕ} {n : ℕ} → Walked ws of n None → n ≡ total 512 (number_of ws of)
walked_end {ws} {of} {n} d =
    d.sum
    ∙ sym (total_up_to 512 d.upto (number_of ws of) d.within
    (λ t low high. absent ws of t (no_next 512 d.upto (memb ws) d.lowest t low high)))

-- A section is left.
module _ {ws of : List ℕ} {n : ℕ} {s : Section} (d : Walked ws of n (Some s)) where
  here : (d.upto < s.0) × (s.0 ≤ 512) × ((t : ℕ) → d.upto < t → t < s.0 → memb ws t ≡ false)
  here = next_at 512 d.upto (memb ws) s.0 d.lowest.1 (let l : 1 ≤ s.0 = d.lowest.0 in λ e. omega arith)

  pub walked_at : IsSection s
  walked_at = (d.lowest.0, here.1)

  -- The numbers of its word are added.
  module _ {m : ℕ} (em : m ≡ total 64 (λ k. number_of ws of (64 * ((s.0 - 1) / 64) + k))) where
    sum : n + m ≡ total (((s.0 - 1) / 64 + 1) * 64) (number_of ws of)
    sum =
        let i : ℕ = (s.0 - 1) / 64 in
        let e : 64 * i + 64 ≡ (i + 1) * 64 = omega arith in
        omega (
          arith,
          d.sum,
          em,
          total_up_to (64 * i) d.upto (number_of ws of) (omega (arith, here.0, d.words))
              (λ t low high. absent ws of t (here.2 t low (omega arith))),
          total-after (64 * i) 64 (number_of ws of),
          ap (λ (x : ℕ). total x (number_of ws of)) e,
        )

    -- The sum stays small.
    pub walked_small : ((k : ℕ) → get_or of k 0 ≤ 65535) → n + m ≤ 33553920
    walked_small few =
        let upto : ℕ = ((s.0 - 1) / 64 + 1) * 64 in
        omega (
          arith,
          sum,
          here.1,
          total-part-le upto (memb ws) (λ t. get_or of (t - 1) 0),
          total_mono upto (λ t. get_or of (t - 1) 0) (λ t. 65535) (λ t low high. few (t - 1)),
          total_const upto 65535,
        )

    -- The next section after that word follows: it is higher, or there is none.
    module _ (after : Option Section) (es : IsLowestSection (λ t. ltb (((s.0 - 1) / 64 + 1) * 64) t && memb ws t) after) where
      pub walked_turn : Walked ws of (n + m) after
      walked_turn = record { upto = ((s.0 - 1) / 64 + 1) * 64; within = omega (arith, here.1); words = omega arith; lowest = es; sum = sum }

      pub walked_on : left_from after < left_from (Some s)
      walked_on = go after es
        where
          go : (o : Option Section) → IsLowestSection (λ t. ltb (((s.0 - 1) / 64 + 1) * 64) t && memb ws t) o → left_from o < left_from (Some s)
          go None h = omega (arith, here.1)
          go (Some u) h =
              let w = next_at 512 (((s.0 - 1) / 64 + 1) * 64) (memb ws) u.0 h.1 (let l : 1 ≤ u.0 = h.0 in λ e. omega arith) in
              omega (arith, here.1, w.0, w.1)
