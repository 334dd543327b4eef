-- Item 5 holds of any operation with the contract of the converter: `item_5`.
use mathlib.Core.Path.{◌≡◌, refl, sym, ap, subst, ◌∙◌}
use mathlib.Core.Logic.{◌↔◌}
use mathlib.Core.Bool.{Bool, true, false, cond}
use mathlib.Core.List.{List, ◌++◌, [], ◌∷◌}
use Prim.Native.Nat.{ℕ, zero, suc, ◌+◌, ◌≤◌}
use native.Mathlib.Omega.{arith}
use lib.Dec.{eqb, ltb}
use lib.ListN.{length, get_or, set, drop, length-set}
use lib.Seq.{get_or-set_same, take_at}
use borrow.Author.Tests.{eqb-true, eqb-false, ne_eqb, ltb-true, ltb-false}
use Rattle.std.specs.Prelude.{Result}
use Rattle.meaning.proofs.Refused.{refused_with}
use Rattle.meaning.specs.declared.Letter.{Letter}
use Rattle.meaning.specs.declared.Letter.TheVariants as letter
use Rattle.meaning.specs.declared.Situation.{Situation}
use Rattle.meaning.specs.declared.Refusal.{Refusal}
use Rattle.meaning.specs.File.{Reading, unless_refused}
use Rattle.meaning.specs.Station.{standing}
use Rattle.meaning.specs.File.{refusal, reading}
use Rattle.meaning.specs.Accepted.{Accepted}
use Rattle.meaning.specs.Operations.{first_of}
use Rattle.file_meaning.specs.Converter.{byte_of, with_letter, first_long, train_line, long_refusal, conversion_refusal, conversion_answer, after_conversion}
use Rattle.file_meaning.proofs.UnderLetter.{situation_under}
use Rattle.basics.proofs.Numbers.{IsLowest, lowest_is, lowest_none}
use Rattle.meaning.proofs.Accepted.{accepted_exactly, accepted_situation}
use Rattle.file_meaning.proofs.Letters.{first_letter, none_long, letter_stays, converted_reading}
use Rattle.file_meaning.proofs.UnderLetter.{same_standing, Alike, settings_carried, after_settings_carried, verdict_carried}
use Rattle.c_layout.specs.declared.FlatRefusal.{FlatRefusal}
use Rattle.c_layout.specs.declared.FlatFilled.{FlatFilled}
use Rattle.c_layout.specs.Flat.{no_refusal, flat_refusal, flat_filled}
use Rattle.demands.specs.Words.{situation, Filled}
use Rattle.demands.specs.Demand1.{requested, refused, fails, holds}
use Rattle.demands.specs.Item05.{Several, NoneSeveral, ConversionCause, Item5}
use Rattle.demands.specs.ThereAndBack.{Begins, SameAnswers, out, ComesOut}
use Rattle.demands.proofs.Words.{of_lines, filled_of}
use Rattle.demands.proofs.Causes.{refused_file}
use Rattle.demands.proofs.Verdicts.{verdicts_same}
use Rattle.demands.proofs.VerdictExactly.{verdict_exactly, settings_given}

-- ---- letters
-- Of two letters one is S.
other_letter : (x y z : Letter) → (y ≡ x → ⊥) → (byte_of z ≡ byte_of x → ⊥) → z ≡ y
other_letter x y z h h2 = grind arith

-- ---- trains in more than one section
-- As the situation that is read has them.
abbrev long : Situation → ℕ → Bool
long s t = ltb 1 (length (standing s t))

module _ (file : List ℕ) (a : Accepted file) where
  read_is : (reading file).situation ≡ situation file
  read_is = of_lines file a (λ s. (reading file).situation ≡ s) refl

  several_of : (t : ℕ) → 1 ≤ t → t ≤ (reading file).situation.header.trains → long (reading file).situation t ≡ true → Several file t
  several_of t low high e = grind (arith, read_is)

  -- A train below the first long one is none.
  not_several : (n : ℕ) → ((k : ℕ) → 1 ≤ k → k ≤ n → long (reading file).situation k ≡ false) → (t : ℕ) → t ≤ n → Several file t → ⊥
  not_several n none t h w = grind (arith, read_is)

  none_several_of : first_long (reading file).situation ≡ 0 → (t : ℕ) → Several file t → ⊥
  unfolding first_long
  none_several_of e t w =
      let s = (reading file).situation in
      not_several s.header.trains (lowest_none s.header.trains (long s) e) t
      (subst (λ (s : Situation). t ≤ s.header.trains) (sym read_is) w.1) w

  -- An S file has no train in more than one section.
  none_under_s : (reading file).situation.header.letter ≡ letter.S → (t : ℕ) → Several file t → ⊥
  none_under_s e = none_several_of (none_long file ((accepted_exactly file).1 a) e)

-- ---- the causes of refusal
module _ (x : Letter) (file : List ℕ) (room : ℕ) where
  -- Why the converter refuses, or that it does not.
  data Refuses (q : Refusal) : Type 0 where
    none : Accepted file → (long_refusal x (reading file).situation).number ≡ 0 → NoneSeveral x file → length file ≤ room → q ≡ refusal 0 0 → Refuses q
    some : (q.number ≡ 0 → ⊥) → ConversionCause x file room (flat_refusal q) → Refuses q

  -- The last test.
  by_room : Accepted file → (long_refusal x (reading file).situation).number ≡ 0 → NoneSeveral x file → (b : Bool) → ltb room (length file) ≡ b
      → Refuses (cond b (refusal 9 0) (refusal 0 0))
  by_room a l n true e = some (λ z. omega arith) (holds a (holds n (ltb-true room (length file) e, (refl, refl))))
  by_room a l n false e = none a l n (ltb-false room (length file) e) refl

  -- The test of 13.
  by_long : Accepted file → (y : Letter) → x ≡ y
      → Refuses (first_of (long_refusal y (reading file).situation) (cond (ltb room (length file)) (refusal 9 0) (refusal 0 0)))
  unfolding first_long
  by_long a letter.U e = grind (arith, by_room)
  by_long a letter.S e = go (first_long s) refl
    where
      s : Situation
      s = (reading file).situation

      last : Refusal
      last = cond (ltb room (length file)) (refusal 9 0) (refusal 0 0)

      go : (t : ℕ) → first_long s ≡ t → Refuses (first_of (cond (eqb t 0) (refusal 0 0) (refusal 13 (train_line s t))) last)
      go zero f = by_room a (rw (e, f)) (λ g. none_several_of file a f) (ltb room (length file)) refl
      go (suc t) f =
          let w = subst (IsLowest s.header.trains (long s)) f (lowest_is s.header.trains (long s)) in
          let line : train_line s (suc t) ≡ 1 + (situation file).header.plain + (situation file).header.elements + suc t =
          ap (λ (s : Situation). train_line s (suc t)) (read_is file a) in
          let many = several_of file a (suc t) (omega arith) w.0 w.1 in
          rw (ne_eqb (suc t) 0 (λ z. omega arith))
          (some (λ z. omega arith)
          (holds a (fails (λ none. none e (suc t) many) (suc t, many, λ u h. not_several file a t w.2 u (omega arith), (refl, line)))))

  refuses : Refuses (conversion_refusal x file room)
  unfolding conversion_refusal
  refuses = go (eqb (reading file).refusal.number 0) refl
    where
      last : Refusal
      last = first_of (long_refusal x (reading file).situation) (cond (ltb room (length file)) (refusal 9 0) (refusal 0 0))

      go : (b : Bool) → eqb (reading file).refusal.number 0 ≡ b → Refuses (cond b last (reading file).refusal)
      go true e = by_long ((accepted_exactly file).0 (eqb-true (reading file).refusal.number 0 e)) x refl
      go false e =
          let n = eqb-false (reading file).refusal.number 0 e in
          let w = refused_file file n in
          some n (fails w.not_accepted w.cause)

set_back : (l : List ℕ) (a b : ℕ) → b ≡ get_or l 0 0 → set (set l 0 a) 0 b ≡ l
set_back [] a b e = refl
set_back (x ∷ l) a b e = ap (λ (y : ℕ). y ∷ l) e

-- ---- the converted file
module _ (x : Letter) (file : List ℕ) (a : Accepted file) (short : (long_refusal x (reading file).situation).number ≡ 0) where
  abbrev text : List ℕ
  text = with_letter x file

  abbrev z : Letter
  z = (reading file).situation.header.letter

  number : (reading file).refusal.number ≡ 0
  number = (accepted_exactly file).1 a

  reads : reading (with_letter x file) ≡ record { refusal = refusal 0 0; situation = situation_under x (reading file).situation }
  reads = converted_reading x file number short

  text_accepted : Accepted (with_letter x file)
  text_accepted = (accepted_exactly text).0 (ap (λ (r : Reading). r.refusal.number) reads)

  refusals_same : (reading (with_letter x file)).refusal ≡ (reading file).refusal
  refusals_same = ap (λ (r : Reading). r.refusal) reads ∙ sym (ap (λ (r : Reading). r.refusal) (accepted_situation file number))

  there : Alike x file (with_letter x file)
  there = record { refusal = refusals_same; situation = ap (λ (r : Reading). r.situation) reads }

  and_back : Alike (reading file).situation.header.letter (with_letter x file) file
  and_back = grind (arith, there)

  same_answers_of : SameAnswers file (with_letter x file)
  same_answers_of =
      record {
        verdict = λ first second first' second' third fourth third' fourth' r r' n m d d'.
            let g = (verdict_exactly file first second first' second' r).0 d in
            let h = (verdict_exactly text third fourth third' fourth' r').0 d' in
            rw (g.2, h.2)
            (verdicts_same file file first second first' second' third fourth third' fourth' g.0 h.0 refl n m g.1
            (verdict_carried z text file and_back third fourth third' fourth' h.0 h.1));
        shown = λ first second first' second' r.
            let here = verdict_exactly file first second first' second' r in
            let over = verdict_exactly text first second first' second' r in (
              λ d. let g = here.0 d in over.1 (g.0, verdict_carried x file text there first second first' second' g.0 g.1, g.2),
              λ d. let g = over.0 d in here.1 (g.0, verdict_carried z text file and_back first second first' second' g.0 g.1, g.2),
            );
        settings = λ buffer after after' r r' d d'.
            let g = settings_given file buffer after r d in
            let h = settings_given text buffer after' r' d' in
            grind (arith, g, h, settings_carried x file text there (length buffer), after_settings_carried x file text there buffer);
      }

  -- ---- its bytes
  text_length : length (with_letter x file) ≡ length file
  unfolding with_letter
  text_length = length-set file 0 (byte_of x)

  text_letter : get_or (with_letter x file) 0 0 ≡ byte_of x
  unfolding with_letter
  text_letter = get_or-set_same file 0 (byte_of x) 0 (omega arith)

  -- ---- its trains
  several_carried : (t : ℕ) → Several (with_letter x file) t → Several file t
  several_carried t w = grind (arith, read_is, same_standing, text_accepted, there)

  -- ---- there and back
  own_letter : Begins (reading file).situation.header.letter file
  own_letter = first_letter file number

  back : (Begins x file → ⊥) → (y : Letter) → (y ≡ x → ⊥) → (buffer buffer' : List ℕ) (r : FlatFilled) → length file ≤ length buffer
      → Item5 y (with_letter x file) buffer buffer' r → (r.refusal ≡ no_refusal) × Filled file buffer buffer'
  unfolding with_letter
  back d y e buffer buffer' r room c = go c
    where
      was : (reading file).situation.header.letter ≡ y
      was = other_letter x y z e (λ f. d (own_letter ∙ f))

      go : Item5 y (with_letter x file) buffer buffer' r → (r.refusal ≡ no_refusal) × Filled file buffer buffer'
      go (refused i (fails n f) u) = absurd (n text_accepted)
      go (refused i (holds b (fails n (t, w, first, is))) u) = absurd (n (λ f t w. none_under_s file a (was ∙ f) t (several_carried t w)))
      go (refused i (holds b (holds n (h, is))) u) = absurd (omega (arith, text_length))
      go (requested z w) = (z, rw changed_back at w.filled)
        where
          changed_back : set (with_letter x file) 0 (byte_of y) ≡ file
          changed_back = set_back file (byte_of x) (byte_of y) (ap byte_of (sym was) ∙ sym own_letter)

  text_comes_out : ComesOut x file (with_letter x file)
  text_comes_out =
      record { accepted = text_accepted; stays = λ e. letter_stays x file e; back = back; same = same_answers_of }

-- ---- the operation
-- The law of refusal 13, from what is said of the answer.
pub thirteen : (x : Letter) (file buffer buffer' : List ℕ) (r : FlatFilled) → Item5 x file buffer buffer' r → Accepted file
    → (r.refusal.number ≡ 13) ↔ ((x ≡ letter.S) × ((t : ℕ) × Several file t))
thirteen x file buffer buffer' r h h2 = grind arith

module _ (x : Letter) (file buffer : List ℕ) where
  abbrev given : Refusal → FlatFilled
  given q = flat_filled (unless_refused q (length file))

  abbrev after : Refusal → List ℕ
  after q = cond (eqb q.number 0) (with_letter x file ++ drop (length file) buffer) buffer

  meets : (q : Refusal) → Refuses x file (length buffer) q → Item5 x file buffer (after q) (given q)
  unfolding with_letter
  meets q (some n c) = rw (ne_eqb q.number 0 n) (refused (omega (arith, n)) c (refl, refl))
  meets q (none a l s room e) = grind (arith, filled_of, text_length)

  came_out : (q : Refusal) → Refuses x file (length buffer) q → (given q).refusal ≡ no_refusal → ComesOut x file (out file (after q))
  came_out q (some n c) e =
      absurd (n (ap (λ (q : FlatRefusal). q.number) (ap (λ (r : Result ℕ Refusal). (flat_filled r).refusal) (refused_with q (length file) n) ∙ e)))
  came_out q (none a l s room e) z = grind (arith, take_at, text_comes_out, text_length)

-- Item 5, from the contract.
pub item_5 : (x : Letter) (file buffer buffer' : List ℕ) (r : FlatFilled) → r ≡ flat_filled (conversion_answer x file (length buffer))
    → buffer' ≡ after_conversion x file buffer → Item5 x file buffer buffer' r
unfolding conversion_answer after_conversion
item_5 x file buffer buffer' r e f = rw (e, f) (meets x file buffer (conversion_refusal x file (length buffer)) (refuses x file (length buffer)))

-- What comes out of it, from the contract.
pub comes_out_of : (x : Letter) (file buffer : List ℕ) → (flat_filled (conversion_answer x file (length buffer))).refusal ≡ no_refusal
    → ComesOut x file (out file (after_conversion x file buffer))
unfolding conversion_answer after_conversion
comes_out_of x file buffer = came_out x file buffer (conversion_refusal x file (length buffer)) (refuses x file (length buffer))
