-- The two scans of keys in order: the first repeated sequence, and the keys that stand, moved to the start.
use mathlib.Core.Path.{◌≡◌, refl, sym, ap, ap₂, ◌∙◌}
use mathlib.Core.Bool.{Bool, true, false, not, ◌&&◌, cond}
use mathlib.Core.List.{List, [], ◌∷◌, ◌++◌, append_assoc, append-nil}
use Prim.Native.Nat.{ℕ, ◌+◌, ◌-◌, ◌≤◌, ◌<◌}
use native.Mathlib.Numerals.{add-one}
use native.Mathlib.Omega.{arith}
use lib.Dec.{eqb}
use mathlib.Core.Logic.{◌⊎◌, inl, inr}
use lib.ListN.{length, take, drop, get_or, set, length-set, length-drop, drop_of_length-le}
use lib.Seq.{drop-cons, drop-drop, take-suc-set, drop-set-lt, length-take-le}
use Rattle.std.specs.Prelude.{Option, Some, None}
use Rattle.answers.specs.Keys.{repeat_of, least, first_repeat, last_of_run, answer_of, picks}

-- ---- the first repeated sequence
least_assoc : (a b c : Option ℕ) → least (least a b) c ≡ least a (least b c)
least_assoc None b c = refl
least_assoc (Some x) None c = refl
least_assoc (Some x) (Some y) None = refl
least_assoc (Some x) (Some y) (Some z) = ap Some (omega arith)

least_none : (a : Option ℕ) → least a None ≡ a
least_none None = refl
least_none (Some x) = refl

-- The first repeat so far, and that from the key before i on, are the first of all.
pub record Scanned (keys : List ℕ) (r : Option ℕ) (i : ℕ) : Type 0 where
  pub all : least r (first_repeat (drop (i - 1) keys)) ≡ first_repeat keys

rest : (keys : List ℕ) (i : ℕ) → i < length keys → drop i keys ≡ get_or keys i 0 ∷ drop (i + 1) keys
rest keys i h = rw (add-one) (drop-cons keys i 0 h)

none : (l : List ℕ) → length l ≤ 1 → first_repeat l ≡ None
unfolding first_repeat
none [] g = refl
none (x ∷ []) g = refl
none (x ∷ y ∷ l) g = absurd (omega arith)

module _ {keys : List ℕ} {r : Option ℕ} {i : ℕ} (s : Scanned keys r i) where
  abbrev repeat_here : Option ℕ
  repeat_here = repeat_of (get_or keys (i - 1) 0) (get_or keys i 0)

  pub scanned_more : 1 ≤ i → i < length keys → Scanned keys (least r repeat_here) (i + 1)
  unfolding first_repeat
  scanned_more a b =
      let back : i - 1 + 1 ≡ i = omega arith in
      let this = rw back at (rest keys (i - 1) (omega arith)) in
      let next = rest keys i b in
      let same : i + 1 - 1 ≡ i = omega arith in
      record { all = rw (same, next) (least_assoc r _ _ ∙ rw (this, next) at s.all) }

  pub scanned_skip : 1 ≤ i → i < length keys → repeat_here ≡ None → Scanned keys r (i + 1)
  scanned_skip a b e = rw (e, least_none r) at (scanned_more a b)

  pub scanned_all : length keys ≤ i → r ≡ first_repeat keys
  scanned_all h =
      let rest_none = none (drop (i - 1) keys) (omega (arith, length-drop (i - 1) keys)) in
      sym (least_none r) ∙ rw rest_none at s.all

-- ---- moving the keys that stand
pub record Kept (keys₀ keys : List ℕ) (i k : ℕ) : Type 0 where
  pub same_length : length keys ≡ length keys₀
  pub behind : k ≤ i
  pub within : i ≤ length keys₀
  pub unread : drop i keys ≡ drop i keys₀
  pub whole : take k keys ++ picks (drop i keys₀) ≡ picks keys₀

module _ {keys₀ keys : List ℕ} {i k : ℕ} (s : Kept keys₀ keys i k) (h : i < length keys) where
  abbrev x : ℕ
  x = get_or keys i 0

  unread_more : drop (i + 1) keys ≡ drop (i + 1) keys₀
  unread_more = sym (drop-drop 1 i keys) ∙ ap (drop 1) s.unread ∙ drop-drop 1 i keys₀

  abbrev test : Bool
  test = last_of_run x (drop (i + 1) keys) && not (eqb (answer_of x) 0)

  next_pick : (t : Bool) → test ≡ t → picks (drop i keys₀) ≡ cond t (x ∷ picks (drop (i + 1) keys₀)) (picks (drop (i + 1) keys₀))
  unfolding picks
  next_pick t e = rw (← s.unread, rest keys i h, e, unread_more)

  -- One turn of the loop, where last and answered are tested.
  pub kept_step : {t u : Bool} {keys' : List ℕ} {k' : ℕ} → t ≡ last_of_run x (drop (i + 1) keys) → u ≡ not (eqb (answer_of x) 0)
      → (((t && u) ≡ true) × (keys' ≡ set keys k x) × (k' ≡ k + 1)) ⊎ (((t && u) ≡ false) × (keys' ≡ keys) × (k' ≡ k))
      → Kept keys₀ keys' (i + 1) k'
  kept_step e f (inl w) =
      rw (w.1, w.2)
      (record {
        same_length = simp length-set s.same_length;
        behind = omega (arith, s.behind);
        within = omega (arith, s.same_length);
        unread = drop-set-lt (i + 1) keys k x (omega (arith, s.behind)) ∙ unread_more;
        whole =
            rw (add-one k, take-suc-set keys k x (omega (arith, s.behind)), append_assoc)
            (rw (next_pick true (ap₂ ◌&&◌ (sym e) (sym f) ∙ w.0)) at s.whole);
      })
  kept_step e f (inr w) =
      rw (w.1, w.2)
      (record {
        same_length = s.same_length;
        behind = omega (arith, s.behind);
        within = omega (arith, s.same_length);
        unread = unread_more;
        whole = rw (next_pick false (ap₂ ◌&&◌ (sym e) (sym f) ∙ w.0)) at s.whole;
      })

pub kept_all : {keys₀ keys : List ℕ} {i k : ℕ} → Kept keys₀ keys i k → length keys ≤ i
    → (k ≡ length (picks keys₀)) × (take k keys ≡ picks keys₀)
unfolding picks
kept_all {keys₀} {keys} {i} {k} s h =
    let n : drop i keys₀ ≡ [] = drop_of_length-le keys₀ {i = i} (omega (arith, s.same_length)) in
    let e : take k keys ≡ picks keys₀ = sym (append-nil (take k keys)) ∙ (rw n at s.whole) in
    (sym (length-take-le k keys (omega (arith, s.same_length, s.behind, s.within))) ∙ ap length e, e)
