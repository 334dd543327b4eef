-- The loop of `put_setting`: what is written so far, followed by the setting of the rest at what is left of the place, is the whole
-- setting. One law for each way through the body.
use mathlib.Core.Path.{◌≡◌, refl, sym, ap, ap₂, ◌∙◌}
use mathlib.Core.List.{List, [], ◌∷◌, ◌++◌, append-nil}
use Prim.Native.Nat.{ℕ, zero, suc, ◌+◌, ◌-◌, ◌*◌, ◌/◌, ◌%◌, ◌^◌, ◌≤◌, ◌<◌}
use native.Mathlib.Nat.{pow-suc}
use native.Mathlib.Numerals.{add-one}
use native.Mathlib.Omega.{arith}
use lib.ListN.{length, get_or, set, take, drop, length-set, take-append-drop}
use lib.Seq.{drop-cons, drop-length, drop-drop, drop-set-lt, take-suc-set, append_snoc}
use Rattle.meaning.specs.Settings.{open_count}
use Rattle.setting_order.specs.Order.{setting_at}
use Rattle.setting_order.proofs.Order.{places_shifted, at_fixed, at_one, at_two}

-- ---- the element at i, and those behind it
split : (fs : List ℕ) (i : ℕ) → i < length fs → drop i fs ≡ get_or fs i 0 ∷ drop (i + 1) fs
split fs i l = drop-cons fs i 0 l ∙ ap (λ (n : ℕ). get_or fs i 0 ∷ drop n fs) (sym (add-one i))

pub count-fixed : (f : ℕ) (fs : List ℕ) → (f ≡ 0 → ⊥) → open_count (f ∷ fs) ≡ open_count fs
unfolding open_count
count-fixed zero fs n = absurd (n refl)
count-fixed (suc f) fs n = refl

pub count_open : (f : ℕ) (fs : List ℕ) → f ≡ 0 → open_count (f ∷ fs) ≡ suc (open_count fs)
unfolding open_count
count_open f fs e = rw e

-- ---- the loop over the elements fs, for place x₀
pub record Put (fs : List ℕ) (x₀ : ℕ) (out₀ out : List ℕ) (p x i : ℕ) : Type 0 where
  pub within : i ≤ length fs
  pub power : p ≡ 2 ^ open_count (drop i fs)
  pub less : x < p
  pub same_length : length out ≡ length out₀
  pub made : take i out ++ setting_at (drop i fs) x ≡ setting_at fs x₀
  pub rest : drop i out ≡ drop i out₀

module _ (fs : List ℕ) (x₀ : ℕ) (out₀ : List ℕ) (room : length fs ≤ length out₀) where
  -- Nothing is written at the start, and 2 to the power k places are left.
  pub put_start : (k : ℕ) → k ≡ open_count fs → k ≤ 12 → x₀ < 2 ^ k → Put fs x₀ out₀ out₀ ((1 * 2 ^ k) % 2 ^ 64) x₀ 0
  put_start k e h l =
      let q : (1 * 2 ^ k) % 2 ^ 64 ≡ 2 ^ k = places_shifted k h in
      record { within = omega arith; power = q ∙ ap (λ (j : ℕ). 2 ^ j) e; less = omega arith; same_length = refl; made = refl; rest = refl }

  module _ (out : List ℕ) (p x i : ℕ) (w : Put fs x₀ out₀ out p x i) (l : i < length fs) where
    -- One state more, v.
    step : (v p' x' : ℕ) → p' ≡ 2 ^ open_count (drop (i + 1) fs) → x' < p'
        → setting_at (drop i fs) x ≡ v ∷ setting_at (drop (i + 1) fs) x' → Put fs x₀ out₀ (set out i v) p' x' (i + 1)
    step v p' x' ep lx e =
        let li : i < length out = omega (arith, w.same_length) in
        record {
          within = omega arith;
          power = ep;
          less = lx;
          same_length = length-set out i v ∙ w.same_length;
          made =
              ap (λ (y : List ℕ). y ++ setting_at (drop (i + 1) fs) x')
              (ap (λ (n : ℕ). take n (set out i v)) (add-one i) ∙ take-suc-set out i v li)
              ∙ append_snoc (take i out) v (setting_at (drop (i + 1) fs) x')
              ∙ ap (λ (y : List ℕ). take i out ++ y) (sym e)
              ∙ w.made;
          rest =
              drop-set-lt (i + 1) out i v (omega arith)
              ∙ sym (drop-drop 1 i out)
              ∙ ap (drop 1) w.rest
              ∙ drop-drop 1 i out₀;
        }

    -- A fixed element: its own state.
    pub put-fixed : (v : ℕ) → v ≡ get_or fs i 0 → (v ≡ 0 → ⊥) → Put fs x₀ out₀ (set out i v) p x (i + 1)
    put-fixed v e n =
        let f : open_count (drop i fs) ≡ open_count (drop (i + 1) fs) =
        ap open_count (split fs i l) ∙ rw (← e) (count-fixed v (drop (i + 1) fs) n) in
        step v p x (w.power ∙ ap (λ (k : ℕ). 2 ^ k) f) w.less
        (ap (λ (y : List ℕ). setting_at y x) (split fs i l) ∙ rw (← e) (at_fixed v (drop (i + 1) fs) x n))

    half : get_or fs i 0 ≡ 0 → 2 ^ open_count (drop i fs) ≡ 2 ^ open_count (drop (i + 1) fs) * 2
    half e =
        ap (λ (k : ℕ). 2 ^ k) (ap open_count (split fs i l) ∙ count_open (get_or fs i 0) (drop (i + 1) fs) e)
        ∙ pow-suc 2 (open_count (drop (i + 1) fs))

    -- An open element in the first half: 1.
    pub put_one : get_or fs i 0 ≡ 0 → x < p / 2 → Put fs x₀ out₀ (set out i 1) (p / 2) x (i + 1)
    put_one e lx =
        let h : p / 2 ≡ 2 ^ open_count (drop (i + 1) fs) = omega (arith, half e, w.power) in
        step 1 (p / 2) x h lx
        (ap (λ (y : List ℕ). setting_at y x) (split fs i l) ∙ at_one (get_or fs i 0) (drop (i + 1) fs) x e (omega arith))

    -- An open element in the second half: 2.
    pub put_two : get_or fs i 0 ≡ 0 → p / 2 ≤ x → Put fs x₀ out₀ (set out i 2) (p / 2) (x - p / 2) (i + 1)
    put_two e lx =
        let h : p / 2 ≡ 2 ^ open_count (drop (i + 1) fs) = omega (arith, half e, w.power) in
        step 2 (p / 2) (x - p / 2) h (omega (arith, half e, w.less, w.power))
        (ap (λ (y : List ℕ). setting_at y x) (split fs i l)
        ∙ at_two (get_or fs i 0) (drop (i + 1) fs) x e (omega arith)
        ∙ ap (λ (y : ℕ). 2 ∷ setting_at (drop (i + 1) fs) (x - y)) (sym h))

  -- All elements are written.
  pub put_end : {out : List ℕ} {p x i : ℕ} → Put fs x₀ out₀ out p x i → length fs ≤ i → out ≡ setting_at fs x₀ ++ drop (length fs) out₀
  unfolding setting_at
  put_end {out} {p} {x} {i} w l =
      let e : i ≡ length fs = omega (arith, w.within) in
      let none : setting_at (drop i fs) x ≡ [] = ap (λ (y : List ℕ). setting_at y x) (ap (λ (k : ℕ). drop k fs) e ∙ drop-length fs) in
      sym (take-append-drop i out)
      ∙ ap₂ (λ (a b : List ℕ). a ++ b)
      (sym (append-nil (take i out)) ∙ ap (λ (y : List ℕ). take i out ++ y) (sym none) ∙ w.made)
      (w.rest ∙ ap (λ (k : ℕ). drop k out₀) e)
