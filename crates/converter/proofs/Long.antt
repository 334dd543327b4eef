-- The first train in more than one section, by its place in the list of trains.
use mathlib.Core.Path.{◌≡◌, refl, sym, ap, ◌∙◌}
use mathlib.Core.Bool.{Bool, true, false, cond}
use mathlib.Core.List.{List}
use mathlib.Core.Logic.{◌⊎◌, inl, inr, ⊎_elim}
use Prim.Native.Nat.{ℕ, zero, suc, ◌+◌, ◌≤◌, ◌<◌}
use native.Mathlib.Numerals.{add-one}
use native.Mathlib.Omega.{arith}
use lib.Dec.{ltb}
use lib.ListN.{length, length-take}
use borrow.Author.Tests.{ltb-true, ltb-false, ne_eqb}
use Rattle.std.specs.Prelude.{Option, Some, None, MatchOption}
use Rattle.std.specs.List.{position, position_or_len}
use Rattle.std.proofs.lemmas.Bool.{cases_lt}
use Rattle.std.proofs.lemmas.List.{get_or_past}
use Rattle.std.proofs.lemmas.List.Sums.{fails_before_first, passes_at_first}
use Rattle.meaning.specs.declared.Letter.TheVariants as letter
use Rattle.meaning.specs.declared.Situation.{Situation}
use Rattle.meaning.specs.declared.Train.{Train}
use Rattle.meaning.specs.Station.{no_train, trains_of, standing}
use Rattle.basics.specs.Numbers.{lowest}
use Rattle.meaning.specs.File.{refusal}
use Rattle.file_meaning.specs.Converter.{first_long, train_line, long_refusal}
use Rattle.basics.proofs.Numbers.{lowest_unique, none_lowest}
use Rattle.file_meaning.proofs.Letters.{long-count}
use Rattle.converter.specs.Long.{is_long}

module _ (s : Situation) where
  abbrev xs : List Train
  xs = trains_of s

  abbrev at : ℕ
  at = position_or_len is_long xs

  -- None before the first place is in more than one section, and what stands past the list is in none.
  none_before : (t : ℕ) → 1 ≤ t → (length xs < t) ⊎ (t ≤ at) → ltb 1 (length (standing s t)) ≡ false
  none_before zero low h = absurd (omega arith)
  none_before (suc j) low h =
      long-count s j
      ∙ ⊎_elim
      (λ (l : length xs < suc j). ap is_long (get_or_past xs j no_train (omega arith)))
      (λ (l : suc j ≤ at). fails_before_first is_long xs j no_train l)
      h

  -- The place of the first long train gives its number.
  first_long_is : MatchOption (position is_long xs) (first_long s ≡ 0) (λ k. k + 1 ≡ first_long s)
  unfolding first_long trains_of
  first_long_is = go (ltb at (length xs)) refl
    where
      f : ℕ → Bool
      f t = ltb 1 (length (standing s t))

      go : (b : Bool) → ltb at (length xs) ≡ b → MatchOption (cond b (Some at) None) (lowest s.header.trains f ≡ 0) (λ k. k + 1 ≡ lowest s.header.trains f)
      go true e =
          let here = ltb-true at (length xs) e in
          add-one at
          ∙ sym (lowest_unique s.header.trains f (suc at)
          (omega (arith, length-take s.header.trains s.trains), long-count s at ∙ passes_at_first is_long xs no_train here, λ t low high. none_before t low (inr high)))
      go false e =
          let past = ltb-false at (length xs) e in
          none_lowest s.header.trains f
          (λ t low high. none_before t low (⊎_elim (λ (l : length xs < t). inl l) (λ (l : t ≤ length xs). inr (omega arith)) (cases_lt (length xs) t)))

  -- On the way to S it is refused by its line.
  pub long_to_s : (o : Option ℕ) → o ≡ position is_long xs
      → MatchOption o (long_refusal letter.S s ≡ refusal 0 0) (λ k. long_refusal letter.S s ≡ refusal 13 (train_line s (k + 1)))
  long_to_s o is = go o (rw (← is) at first_long_is)
    where
      go : (o : Option ℕ) → MatchOption o (first_long s ≡ 0) (λ k. k + 1 ≡ first_long s)
          → MatchOption o (long_refusal letter.S s ≡ refusal 0 0) (λ k. long_refusal letter.S s ≡ refusal 13 (train_line s (k + 1)))
      go None e = rw e refl
      go (Some k) e = rw (← e, ne_eqb (k + 1) 0 (λ h. omega arith)) refl
