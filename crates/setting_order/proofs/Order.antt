-- `setting_at fs x` is entry x of the list `settings fs` (`setting_at_lem`), and the setting by the bits of x (`by_bits_at`), so `frame_at_lem` gives
-- the place of a frame, and `place-before` compares two settings by their places. By induction on the elements: an open one splits the
-- places in two halves.
use mathlib.Core.Path.{◌≡◌, refl, sym, ap, ◌∙◌}
use mathlib.Core.Bool.{Bool, true, false, cond}
use mathlib.Core.List.{List, [], ◌∷◌, ◌++◌, map}
use Prim.Native.Nat.{ℕ, zero, suc, ◌+◌, ◌-◌, ◌*◌, ◌%◌, ◌^◌, ◌≤◌, ◌<◌}
use native.Mathlib.Nat.{pow-suc, one-mul, mod-lt, not-suc-le-zero, le_of_suc-le-suc}
use native.Mathlib.Omega.{arith}
use native.Mathlib.Decide.{dec_lt}
use lib.Dec.{ltb, lit<}
use lib.Pow.{pow_pos, shl_exact}
use lib.ListN.{length, get_or, length-map, get_or-append}
use lib.Seq.{get_or-append-add}
use borrow.Author.Tests.{lt-ltb, le-ltb}
use Rattle.meaning.specs.Settings.{open_count, before, settings}
use Rattle.meaning.specs.Frames.{halved_xor, by_bits, frame_at}
use Rattle.meaning.proofs.Settings.{settings-length, settings-sorted, sorted_get}
use Rattle.meaning.proofs.FrameBits.{halved_lt, by_bits_one, by_bits_two}
use Rattle.meaning.proofs.Frames.{open_in_front}
use Rattle.setting_order.specs.Order.{setting_at}

-- ---- the number of places
-- 2 to the power of up to 12 open elements, as a shift makes it.
pub places_shifted : (k : ℕ) → k ≤ 12 → (1 * 2 ^ k) % 2 ^ 64 ≡ 2 ^ k
places_shifted k l = shl_exact 1 k 64 (lit< tt) (omega arith) ∙ one-mul (2 ^ k)

-- ---- the first element
-- A fixed element keeps its state.
pub at_fixed : (f : ℕ) (fs : List ℕ) (x : ℕ) → (f ≡ 0 → ⊥) → setting_at (f ∷ fs) x ≡ f ∷ setting_at fs x
unfolding setting_at
at_fixed zero fs x n = absurd (n refl)
at_fixed (suc f) fs x n = refl

-- An open element is at 1 in the first half of the places.
pub at_one : (f : ℕ) (fs : List ℕ) (x : ℕ) → f ≡ 0 → x < 2 ^ open_count fs → setting_at (f ∷ fs) x ≡ 1 ∷ setting_at fs x
unfolding setting_at
at_one f fs x e l = rw (e, lt-ltb x (2 ^ open_count fs) l)

-- It is at 2 in the second half.
pub at_two : (f : ℕ) (fs : List ℕ) (x : ℕ) → f ≡ 0 → 2 ^ open_count fs ≤ x → setting_at (f ∷ fs) x ≡ 2 ∷ setting_at fs (x - 2 ^ open_count fs)
unfolding setting_at
at_two f fs x e l = rw (e, le-ltb x (2 ^ open_count fs) l)

-- ---- the list of settings
-- The settings l, each with the state y of one more element in front.
abbrev starting : ℕ → List (List ℕ) → List (List ℕ)
starting y l = map (λ (σ : List ℕ). y ∷ σ) l

starting_get : (y : ℕ) (l : List (List ℕ)) (n : ℕ) (d : List ℕ) → n < length l → get_or (starting y l) n d ≡ y ∷ get_or l n d
starting_get y [] n d h = absurd (not-suc-le-zero h)
starting_get y (σ ∷ l) zero d h = refl
starting_get y (σ ∷ l) (suc n) d h = starting_get y l n d (le_of_suc-le-suc h)

starting_length : (y : ℕ) (l : List (List ℕ)) → length (starting y l) ≡ length l
starting_length y l = length-map l (λ (σ : List ℕ). y ∷ σ)

-- The setting at place x is entry x of the list of settings.
pub setting_at_lem : (fs : List ℕ) (x : ℕ) (d : List ℕ) → x < 2 ^ open_count fs → get_or (settings fs) x d ≡ setting_at fs x
unfolding settings setting_at open_count
setting_at_lem [] zero d h = refl
setting_at_lem [] (suc x) d h = absurd (omega arith)
setting_at_lem (zero ∷ fs) x d h = go (dec_lt x n) (λ y l. setting_at_lem fs y d l)
  where
    n : ℕ
    n = 2 ^ open_count fs

    l : List (List ℕ)
    l = settings fs

    go : Dec (x < n) → ((y : ℕ) → y < n → get_or l y d ≡ setting_at fs y)
        → get_or (starting 1 l ++ starting 2 l) x d ≡ cond (ltb x n) (1 ∷ setting_at fs x) (2 ∷ setting_at fs (x - n))
    go (yes b) r =
        get_or-append (starting 1 l) (starting 2 l) d x (omega (arith, starting_length 1 l, settings-length fs))
        ∙ starting_get 1 l x d (omega (arith, settings-length fs))
        ∙ rw (lt-ltb x n b) (ap (λ (σ : List ℕ). 1 ∷ σ) (r x b))
    go (no b) r =
        let u : x - n < n = omega (arith, pow-suc 2 (open_count fs)) in
        ap (λ (y : ℕ). get_or (starting 1 l ++ starting 2 l) y d) (omega (arith, starting_length 1 l, settings-length fs))
        ∙ get_or-append-add (starting 1 l) (starting 2 l) (x - n) d
        ∙ starting_get 2 l (x - n) d (omega (arith, settings-length fs))
        ∙ rw (le-ltb x n (omega arith)) (ap (λ (σ : List ℕ). 2 ∷ σ) (r (x - n) u))
setting_at_lem (suc f ∷ fs) x d h =
    starting_get (suc f) (settings fs) x d (omega (arith, settings-length fs))
    ∙ ap (λ (σ : List ℕ). suc f ∷ σ) (setting_at_lem fs x d h)

-- It has a state for each element.
pub setting_at-length : (fs : List ℕ) (x : ℕ) → length (setting_at fs x) ≡ length fs
unfolding setting_at
setting_at-length [] x = refl
setting_at-length (zero ∷ fs) x =
    let n : ℕ = 2 ^ open_count fs in
    go (ltb x n) (setting_at-length fs x) (setting_at-length fs (x - n))
  where
    go : (t : Bool) → length (setting_at fs x) ≡ length fs → length (setting_at fs (x - 2 ^ open_count fs)) ≡ length fs
        → length (cond t (1 ∷ setting_at fs x) (2 ∷ setting_at fs (x - 2 ^ open_count fs))) ≡ suc (length fs)
    go true a b = ap suc a
    go false a b = ap suc b
setting_at-length (suc f ∷ fs) x = ap suc (setting_at-length fs x)

-- It is the setting by the bits of x.
pub by_bits_at : (fs : List ℕ) (x : ℕ) → x < 2 ^ open_count fs → by_bits fs x ≡ setting_at fs x
unfolding by_bits setting_at open_count
by_bits_at [] x h = refl
by_bits_at (zero ∷ fs) x h = go (dec_lt x n) (λ y l. by_bits_at fs y l)
  where
    n : ℕ
    n = 2 ^ open_count fs

    go : Dec (x < n) → ((y : ℕ) → y < n → by_bits fs y ≡ setting_at fs y) → by_bits (0 ∷ fs) x ≡ setting_at (0 ∷ fs) x
    go (yes l) r = by_bits_one fs x l ∙ ap (λ (σ : List ℕ). 1 ∷ σ) (r x l) ∙ sym (at_one 0 fs x refl l)
    go (no l) r =
        let u : x - n < n = omega (arith, open_in_front fs) in
        let e : x ≡ n + (x - n) = omega arith in
        ap (by_bits (0 ∷ fs)) e ∙ by_bits_two fs (x - n) u ∙ ap (λ (σ : List ℕ). 2 ∷ σ) (r (x - n) u) ∙ sym (at_two 0 fs x refl (omega arith))
by_bits_at (suc f ∷ fs) x h = ap (λ (σ : List ℕ). suc f ∷ σ) (by_bits_at fs x h)

-- The place of frame n, and its setting.
pub frame_place : (fs : List ℕ) (n : ℕ) → halved_xor (n % 2 ^ open_count fs) < 2 ^ open_count fs
frame_place fs n = halved_lt (open_count fs) (n % 2 ^ open_count fs) (mod-lt n (pow_pos (open_count fs)))

pub frame_at_lem : (fs : List ℕ) (n : ℕ) → frame_at fs n ≡ setting_at fs (halved_xor (n % 2 ^ open_count fs))
unfolding frame_at
frame_at_lem fs n = by_bits_at fs (halved_xor (n % 2 ^ open_count fs)) (frame_place fs n)

-- The setting at an earlier place comes before that at a later one.
pub place-before : (fs : List ℕ) (x y : ℕ) → x < y → y < 2 ^ open_count fs → before (setting_at fs x) (setting_at fs y) ≡ true
place-before fs x y a b =
    rw (setting_at_lem fs x [] (omega arith), setting_at_lem fs y [] b) at
    (sorted_get (settings fs) (settings-sorted fs) x y [] a (omega (arith, settings-length fs)))
