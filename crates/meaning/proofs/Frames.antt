-- The frames of the walk through all settings. With one open element more in front, the first half of a round has 1 in front of each frame
-- (`first_half`), and the second goes back through them with 2 in front (`second_half`). By induction on the elements from these two:
-- `frame_exactly`, with `frame_setting`: each setting is just one frame of a round, and each frame a setting;
-- `neighbours`: frame n and frame n + 1 differ in just one element, for every n, so the last and the first too (`last_and_first`);
-- `starts_over`: n past the last starts over.
use mathlib.Core.Path.{◌≡◌, refl, sym, ap, ap₂, ◌∙◌}
use mathlib.Core.Logic.{◌⊎◌, inl, inr}
use mathlib.Core.Bool.{true, false≢true}
use mathlib.Core.List.{List, [], ◌∷◌}
use Prim.Native.Nat.{ℕ, zero, suc, ◌+◌, ◌-◌, ◌%◌, ◌^◌, ◌<◌, suc-le-suc}
use native.Mathlib.Nat.{pow-suc, mod-lt, mod-eq_of_lt, add-mod_right, mod-add-mod}
use native.Mathlib.Numerals.{add-one}
use native.Mathlib.Omega.{arith}
use native.Mathlib.Decide.{dec_lt}
use lib.Pow.{pow_pos}
use lib.ListN.{length, get_or}
use borrow.Author.Tests.{eqb-true}
use Rattle.meaning.specs.Settings.{open_count, is_setting}
use Rattle.meaning.specs.Frames.{halved_xor, by_bits, frame_at, OneChanges}
use Rattle.meaning.proofs.Settings.{setting_length, one_or_two, head_kept, tail_setting}
use Rattle.meaning.proofs.FrameBits.{halved_lt, halved_mirror, by_bits_one, by_bits_two, by_bits_setting}

-- ---- a frame, by the first element
-- How many open elements there are with one more in front.
pub open_in_front : (fs : List ℕ) → 2 ^ open_count (0 ∷ fs) ≡ 2 ^ open_count fs + 2 ^ open_count fs
unfolding open_count
open_in_front fs = pow-suc 2 (open_count fs) ∙ omega arith

-- A frame of the round.
pub frame_round : (fs : List ℕ) (n : ℕ) → n < 2 ^ open_count fs → frame_at fs n ≡ by_bits fs (halved_xor n)
unfolding frame_at
frame_round fs n h = ap (λ (m : ℕ). by_bits fs (halved_xor m)) (mod-eq_of_lt h)

-- In the first half of a round an open element in front is at 1, and the others are at their frame.
pub first_half : (fs : List ℕ) (n : ℕ) → n < 2 ^ open_count fs → frame_at (0 ∷ fs) n ≡ 1 ∷ frame_at fs n
first_half fs n h = grind (arith, by_bits_one, frame_round, halved_lt, open_in_front)

-- In the second half the open element in front is at 2, and the others go back through their frames: frame n has frame m of the others, where n and m stand at
-- the same distance from the middle of the round.
pub second_half : (fs : List ℕ) (n m : ℕ) → m < 2 ^ open_count fs → suc (n + m) ≡ 2 ^ open_count fs + 2 ^ open_count fs
    → frame_at (0 ∷ fs) n ≡ 2 ∷ frame_at fs m
second_half fs n m l e =
    let k = open_count fs in
    let j : ℕ = n - 2 ^ k in
    let a : n ≡ 2 ^ k + j = omega arith in
    let b : 2 ^ k - 1 - j ≡ m = omega arith in
    frame_round (0 ∷ fs) n (omega (arith, open_in_front fs))
    ∙ ap (by_bits (0 ∷ fs)) (ap halved_xor a ∙ halved_mirror k j (omega arith) ∙ ap (λ (x : ℕ). 2 ^ k + halved_xor x) b)
    ∙ by_bits_two fs (halved_xor m) (halved_lt k m l)
    ∙ ap (λ (σ : List ℕ). 2 ∷ σ) (sym (frame_round fs m l))

-- A fixed element keeps its state.
fixed-front : (f : ℕ) (fs : List ℕ) (n : ℕ) → frame_at (suc f ∷ fs) n ≡ suc f ∷ frame_at fs n
unfolding frame_at
fixed-front f fs n = refl

frame_empty : (n : ℕ) → frame_at [] n ≡ []
unfolding frame_at
frame_empty n = refl

fixed-count : (f : ℕ) (fs : List ℕ) (n : ℕ) → n < 2 ^ open_count fs → n < 2 ^ open_count (suc f ∷ fs)
unfolding open_count
fixed-count f fs n h = h

-- ---- a frame is a setting, and n past the last starts over
pub frame_setting : (fs : List ℕ) (n : ℕ) → is_setting fs (frame_at fs n) ≡ true
unfolding frame_at
frame_setting fs n = by_bits_setting fs (halved_xor (n % 2 ^ open_count fs))

pub frame_length : (fs : List ℕ) (n : ℕ) → length (frame_at fs n) ≡ length fs
frame_length fs n = setting_length fs (frame_at fs n) (frame_setting fs n)

pub starts_over : (fs : List ℕ) (n : ℕ) → frame_at fs (n + 2 ^ open_count fs) ≡ frame_at fs n
unfolding frame_at
starts_over fs n = ap (λ (m : ℕ). by_bits fs (halved_xor m)) (add-mod_right n (2 ^ open_count fs))

-- ---- each setting is one frame of a round
-- A place of a round stands in its first half, or mirrors one that does.
data Half (h n : ℕ) : Type 0 where
  lower : n < h → Half h n
  upper : (m : ℕ) → m < h → suc (n + m) ≡ h + h → Half h n

half_of : (h n : ℕ) → n < h + h → Half h n
half_of h n l = go (dec_lt n h)
  where
    go : Dec (n < h) → Half h n
    go (yes b) = lower b
    go (no b) = upper (h + h - suc n) (omega arith) (omega arith)

pub frame_found : (fs σ : List ℕ) → is_setting fs σ ≡ true → (n : ℕ) × (n < 2 ^ open_count fs) × (frame_at fs n ≡ σ)
unfolding is_setting
frame_found [] [] h = (0, pow_pos (open_count []), frame_empty 0)
frame_found [] (x ∷ σ) h = absurd (false≢true h)
frame_found (zero ∷ fs) [] h = absurd (false≢true h)
frame_found (suc f ∷ fs) [] h = absurd (false≢true h)
frame_found (zero ∷ fs) (x ∷ σ) h = go (one_or_two x (head_kept 0 x fs σ h)) (frame_found fs σ (tail_setting 0 x fs σ h))
  where
    go : (x ≡ 1) ⊎ (x ≡ 2) → (n : ℕ) × (n < 2 ^ open_count fs) × (frame_at fs n ≡ σ)
        → (n : ℕ) × (n < 2 ^ open_count (0 ∷ fs)) × (frame_at (0 ∷ fs) n ≡ x ∷ σ)
    go (inl e) w = (w.0, omega (arith, open_in_front fs, w.1), first_half fs w.0 w.1 ∙ ap₂ (λ (y : ℕ) (l : List ℕ). y ∷ l) (sym e) w.2)
    go (inr e) w =
        let h : ℕ = 2 ^ open_count fs in
        let l : w.0 < h = w.1 in
        let n : ℕ = h + h - suc w.0 in (
          n,
          omega (arith, open_in_front fs),
          second_half fs n w.0 l (omega arith) ∙ ap₂ (λ (y : ℕ) (τ : List ℕ). y ∷ τ) (sym e) w.2,
        )
frame_found (suc f ∷ fs) (x ∷ σ) h =
    let w = frame_found fs σ (tail_setting (suc f) x fs σ h) in (
      w.0,
      fixed-count f fs w.0 w.1,
      fixed-front f fs w.0 ∙ ap₂ (λ (y : ℕ) (τ : List ℕ). y ∷ τ) (sym (eqb-true x (suc f) (head_kept (suc f) x fs σ h))) w.2,
    )

same_head : (x y : ℕ) (σ τ : List ℕ) → x ∷ σ ≡ y ∷ τ → x ≡ y
same_head x y σ τ e = cc

same_tail : (x y : ℕ) (σ τ : List ℕ) → x ∷ σ ≡ y ∷ τ → σ ≡ τ
same_tail x y σ τ e = cc

-- No two frames of a round are the same setting.
frame_once : (fs : List ℕ) (m n : ℕ) → m < 2 ^ open_count fs → n < 2 ^ open_count fs → frame_at fs m ≡ frame_at fs n → m ≡ n
unfolding open_count
frame_once [] m n a b e = omega arith
frame_once (zero ∷ fs) m n a b e =
    go (half_of (2 ^ open_count fs) m (omega (arith, open_in_front fs))) (half_of (2 ^ open_count fs) n (omega (arith, open_in_front fs)))
    (λ i j p q r. frame_once fs i j p q r) e
  where
    go : Half (2 ^ open_count fs) m → Half (2 ^ open_count fs) n
        → ((i j : ℕ) → i < 2 ^ open_count fs → j < 2 ^ open_count fs → frame_at fs i ≡ frame_at fs j → i ≡ j)
        → frame_at (0 ∷ fs) m ≡ frame_at (0 ∷ fs) n → m ≡ n
    go (lower p) (lower q) r e = r m n p q (same_tail _ _ _ _ (sym (first_half fs m p) ∙ e ∙ first_half fs n q))
    go (lower p) (upper j q d) r e = absurd (omega (arith, same_head _ _ _ _ (sym (first_half fs m p) ∙ e ∙ second_half fs n j q d)))
    go (upper i p c) (lower q) r e = absurd (omega (arith, same_head _ _ _ _ (sym (second_half fs m i p c) ∙ e ∙ first_half fs n q)))
    go (upper i p c) (upper j q d) r e =
        omega (arith, r i j p q (same_tail _ _ _ _ (sym (second_half fs m i p c) ∙ e ∙ second_half fs n j q d)))
frame_once (suc f ∷ fs) m n a b e = frame_once fs m n a b (same_tail _ _ _ _ (sym (fixed-front f fs m) ∙ e ∙ fixed-front f fs n))

-- Each setting is just one frame of a round.
pub frame_exactly : (fs σ : List ℕ) → is_setting fs σ ≡ true
    → (n : ℕ) × (n < 2 ^ open_count fs) × (frame_at fs n ≡ σ) × ((m : ℕ) → m < 2 ^ open_count fs → frame_at fs m ≡ σ → m ≡ n)
frame_exactly fs σ h = let w = frame_found fs σ h in (w.0, w.1, w.2, λ m l e. frame_once fs m w.0 l w.1 (e ∙ sym w.2))

-- ---- neighbouring frames
-- One element changes, too, with an element more in front, and the other way round.
more_changes : (f x : ℕ) (fs σ τ : List ℕ) → OneChanges fs σ τ → OneChanges (f ∷ fs) (x ∷ σ) (x ∷ τ)
more_changes f x fs σ τ w = record {
  element = suc w.element;
  within = suc-le-suc w.within;
  is_open = w.is_open;
  differs = w.differs;
  others = others;
}
  where
    others : (j : ℕ) → (j ≡ suc w.element → ⊥) → get_or (x ∷ σ) j 0 ≡ get_or (x ∷ τ) j 0
    others zero n = refl
    others (suc j) n = w.others j (λ e. n (ap suc e))

back_changes : (fs σ τ : List ℕ) → OneChanges fs σ τ → OneChanges fs τ σ
back_changes fs σ τ w = grind arith

-- The element in front alone changes.
front_changes : (x y : ℕ) (fs σ : List ℕ) → (x ≡ y → ⊥) → OneChanges (0 ∷ fs) (x ∷ σ) (y ∷ σ)
front_changes x y fs σ d = grind arith

-- Two frames of a round that follow one another.
next_changes : (fs : List ℕ) (n : ℕ) → suc n < 2 ^ open_count fs → OneChanges fs (frame_at fs n) (frame_at fs (suc n))
unfolding open_count
next_changes [] n h = absurd (omega arith)
next_changes (zero ∷ fs) n h =
    go (half_of (2 ^ open_count fs) n (omega (arith, open_in_front fs))) (half_of (2 ^ open_count fs) (suc n) (omega (arith, open_in_front fs)))
    (λ m l. next_changes fs m l)
  where
    go : Half (2 ^ open_count fs) n → Half (2 ^ open_count fs) (suc n)
        → ((m : ℕ) → suc m < 2 ^ open_count fs → OneChanges fs (frame_at fs m) (frame_at fs (suc m)))
        → OneChanges (0 ∷ fs) (frame_at (0 ∷ fs) n) (frame_at (0 ∷ fs) (suc n))
    go (lower p) (lower q) r = rw (first_half fs n p, first_half fs (suc n) q) (more_changes 0 1 fs _ _ (r n q))
    go (lower p) (upper j q d) r =
        let e : j ≡ n = omega arith in
        rw (first_half fs n p, second_half fs (suc n) j q d, e) (front_changes 1 2 fs (frame_at fs n) (λ z. omega arith))
    go (upper i p c) (lower q) r = absurd (omega arith)
    go (upper i p c) (upper j q d) r =
        let e : i ≡ suc j = omega arith in
        rw (second_half fs n i p c, second_half fs (suc n) j q d, e) (more_changes 0 2 fs _ _ (back_changes fs _ _ (r j (omega arith))))
next_changes (suc f ∷ fs) n h = rw (fixed-front f fs n, fixed-front f fs (suc n)) (more_changes (suc f) (suc f) fs _ _ (next_changes fs n h))

-- The last frame of a round and the first.
last_changes : (fs : List ℕ) (n : ℕ) → 0 < open_count fs → suc n ≡ 2 ^ open_count fs → OneChanges fs (frame_at fs n) (frame_at fs 0)
unfolding open_count
last_changes [] n some e = absurd (omega arith)
last_changes (zero ∷ fs) n some e = grind (arith, first_half, second_half)
last_changes (suc f ∷ fs) n some e = grind (arith, fixed-front, more_changes, last_changes fs n some e)

-- "The last and first, differ in just one."
pub last_and_first : (fs : List ℕ) → 0 < open_count fs → OneChanges fs (frame_at fs (2 ^ open_count fs - 1)) (frame_at fs 0)
last_and_first fs some = last_changes fs (2 ^ open_count fs - 1) some (omega (arith, pow_pos (open_count fs)))

-- A frame goes by what is left of n past whole rounds.
frame_rest : (fs : List ℕ) (m n : ℕ) → m % 2 ^ open_count fs ≡ n % 2 ^ open_count fs → frame_at fs m ≡ frame_at fs n
unfolding frame_at
frame_rest fs m n e = ap (λ (x : ℕ). by_bits fs (halved_xor x)) e

-- With at least one open element, frame n and frame n + 1 differ in just one, for every n: where n is the last of a round, n + 1 is
-- the first.
pub neighbours : (fs : List ℕ) (n : ℕ) → 0 < open_count fs → OneChanges fs (frame_at fs n) (frame_at fs (n + 1))
neighbours fs n some = go (dec_lt (suc m) h)
  where
    h : ℕ
    h = 2 ^ open_count fs

    m : ℕ
    m = n % h

    l : m < h
    l = mod-lt n (pow_pos (open_count fs))

    here : frame_at fs n ≡ frame_at fs m
    here = sym (frame_rest fs m n (mod-eq_of_lt l))

    there : frame_at fs (n + 1) ≡ frame_at fs (m + 1)
    there = sym (frame_rest fs (m + 1) (n + 1) (mod-add-mod n h 1))

    go : Dec (suc m < h) → OneChanges fs (frame_at fs n) (frame_at fs (n + 1))
    go (yes b) = rw (here, there, add-one m) (next_changes fs m b)
    go (no b) =
        let e : m + 1 ≡ 0 + h = omega (arith, l) in
        let z : frame_at fs (m + 1) ≡ frame_at fs 0 = ap (frame_at fs) e ∙ starts_over fs 0 in
        rw (here, there, z) (last_changes fs m some (omega arith))
