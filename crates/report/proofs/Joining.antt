-- Joining the keys of one candidate, from the last key to the first.
use Rattle.std.proofs.Common.{◌≡◌, ℕ, suc, ◌+◌, ◌-◌, ◌%◌, ◌^◌, ◌<◌, ◌≤◌, true, false, List, [], ◌∷◌, length, get_or, take, drop, set, sym, refl, ap, ◌∙◌, ap₂, arith, length-set, drop_of_length-le, drop-cons, get_or-take, take-take, add-one}
use Rattle.std.proofs.lemmas.List.{drop-set}
use mathlib.Core.Bool.{false≢true}
use native.Mathlib.Decide.{dec_lt}
use lib.Seq.{drop-length, take-set-le}
use Rattle.report.specs.Gathering.{same_first, joined_one, joined}

-- ---- the first key from j on
pub same_within : (keys : List ℕ) (j x : ℕ) → same_first x (drop j keys) ≡ true → j < length keys
same_within keys j x e = elim (dec_lt j (length keys)) [
  | yes h ↦ h
  | no h ↦ absurd (false≢true (let past = drop_of_length-le keys {i = j} (omega (arith, h)) in rw past at e))
]

-- ---- one key before others
one_same : (x y : ℕ) (l : List ℕ) → same_first x (y ∷ l) ≡ true → joined_one x (y ∷ l) ≡ (y + x % 17179869184) % 2 ^ 64 ∷ l
unfolding joined_one
one_same x y l f = rw f

one_other : (x : ℕ) (keys : List ℕ) → same_first x keys ≡ false → joined_one x keys ≡ x ∷ keys
unfolding joined_one
one_other x [] f = refl
one_other x (y ∷ l) f = rw f

-- ---- the loop: keys before i are as they were, and from j on are those from i on, joined
pub record Joined (keys₀ keys : List ℕ) (i j : ℕ) : Type 0 where
  pub same_length : length keys ≡ length keys₀
  pub ahead : i ≤ j
  pub within : j ≤ length keys₀
  pub unread : take i keys ≡ take i keys₀
  pub whole : drop j keys ≡ joined (drop i keys₀)

pub joined_none : (keys : List ℕ) (n : ℕ) → n ≡ length keys → Joined keys keys n n
unfolding joined
joined_none keys n e =
    record {
      same_length = refl;
      ahead = omega arith;
      within = omega arith;
      unread = refl;
      whole = rw (e, drop-length keys);
    }

module _ {keys₀ keys : List ℕ} {i j : ℕ} (s : Joined keys₀ keys i j) (h : 0 < i) where
  abbrev x : ℕ
  x = get_or keys (i - 1) 0

  x_is : x ≡ get_or keys₀ (i - 1) 0
  x_is =
      sym (get_or-take i keys (i - 1) 0 (omega arith)) ∙ ap (λ (w : List ℕ). get_or w (i - 1) 0) s.unread
      ∙ get_or-take i keys₀ (i - 1) 0 (omega arith)

  next : joined (drop (i - 1) keys₀) ≡ joined_one x (drop j keys)
  unfolding joined
  next =
      let back : suc (i - 1) ≡ i = omega arith in
      ap joined (drop-cons keys₀ (i - 1) 0 (omega (arith, s.ahead, s.within)))
      ∙ ap₂ joined_one (sym x_is) (ap (λ (k : ℕ). joined (drop k keys₀)) back ∙ sym s.whole)

  unread_set : (k a : ℕ) → i - 1 ≤ k → take (i - 1) (set keys k a) ≡ take (i - 1) keys₀
  unread_set k a l =
      take-set-le (i - 1) keys k a l ∙ sym (take-take (i - 1) i keys (omega arith)) ∙ ap (take (i - 1)) s.unread
      ∙ take-take (i - 1) i keys₀ (omega arith)

  pub joined_same : same_first x (drop j keys) ≡ true → {keys' : List ℕ} → keys' ≡ set keys j ((get_or keys j 0 + x % 17179869184) % 2 ^ 64)
      → Joined keys₀ keys' (i - 1) j
  joined_same f e =
      let w = same_within keys j x f in
      let first = drop-cons keys j 0 w in
      let a = (get_or keys j 0 + x % 17179869184) % 2 ^ 64 in
      rw e
      (record {
        same_length = length-set keys j a ∙ s.same_length;
        ahead = omega (arith, s.ahead);
        within = s.within;
        unread = unread_set j a (omega (arith, s.ahead));
        whole = (rw add-one at (drop-set keys j a w)) ∙ sym (next ∙ rw first (one_same x (get_or keys j 0) (drop (suc j) keys) (rw first at f)));
      })

  pub joined_other : same_first x (drop j keys) ≡ false → {keys' : List ℕ} → keys' ≡ set keys (j - 1) x → Joined keys₀ keys' (i - 1) (j - 1)
  joined_other f e =
      let back : suc (j - 1) ≡ j = omega (arith, s.ahead) in
      rw e
      (record {
        same_length = length-set keys (j - 1) x ∙ s.same_length;
        ahead = omega (arith, s.ahead);
        within = omega (arith, s.within);
        unread = unread_set (j - 1) x (omega (arith, s.ahead));
        whole =
            (rw add-one at (drop-set keys (j - 1) x (omega (arith, s.ahead, s.within, s.same_length))))
            ∙ rw back (sym (next ∙ one_other x (drop j keys) f));
      })
