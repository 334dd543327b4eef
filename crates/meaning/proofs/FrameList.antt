-- The list of frames: `frames_open` is the list by reflection, the frames with 1 in front and then in reverse with 2 in front. Its entries are
-- the settings (`frames_sound`, `frames_complete`), and as many of them pass a test as settings do (`frames-count`).
use mathlib.Core.Path.{◌≡◌, refl, sym, ap, ap₂, ◌∙◌}
use mathlib.Core.Bool.{Bool, true}
use mathlib.Core.List.{List, [], ◌∷◌, ◌++◌, map, reverse, reverse-cons}
use Prim.Native.Nat.{ℕ, zero, suc, ◌+◌, ◌-◌, ◌^◌}
use native.Mathlib.Omega.{arith}
use lib.ListN.{length, length-append}
use Rattle.meaning.specs.Settings.{open_count, is_setting, settings, keep}
use Rattle.basics.specs.Lists.{list_of, In}
use Rattle.meaning.specs.Frames.{frame_at, frames}
use Rattle.basics.proofs.Members.{in_list_of, list_of_in}
use Rattle.basics.proofs.Lists.{list_of_ext, list_of-append, list_of-map, list_of-reverse}
use Rattle.meaning.proofs.Frames.{open_in_front, first_half, second_half, frame_setting, frame_found}

-- ---- the list of frames
abbrev starting : ℕ → List (List ℕ) → List (List ℕ)
starting x l = map (λ (σ : List ℕ). x ∷ σ) l

-- Without elements there is one frame, the first and last.
frames_none : frames [] ≡ [] ∷ []
unfolding frames
frames_none = refl

-- With a fixed element in front: its state in front of each.
frames-fixed : (f : ℕ) (fs : List ℕ) → frames (suc f ∷ fs) ≡ map (λ (σ : List ℕ). suc f ∷ σ) (frames fs)
unfolding frames
frames-fixed f fs = list_of-map (λ (σ : List ℕ). suc f ∷ σ) (2 ^ open_count fs) (frame_at fs)

-- With an open element in front: the frames with 1 in front, and then, from the last to the first, with 2 in front.
frames_open : (fs : List ℕ)
    → frames (0 ∷ fs) ≡ map (λ (σ : List ℕ). 1 ∷ σ) (frames fs) ++ map (λ (σ : List ℕ). 2 ∷ σ) (reverse (frames fs))
unfolding frames
frames_open fs =
    let h : ℕ = 2 ^ open_count fs in
    let f : ℕ → List ℕ = frame_at fs in
    ap (λ (n : ℕ). list_of n (frame_at (0 ∷ fs))) (open_in_front fs)
    ∙ list_of-append h h (frame_at (0 ∷ fs))
    ∙ ap₂ (λ (a b : List (List ℕ)). a ++ b)
    (list_of_ext h (frame_at (0 ∷ fs)) (λ n. 1 ∷ f n) (first_half fs) ∙ list_of-map (λ (σ : List ℕ). 1 ∷ σ) h f)
    (list_of_ext h (λ j. frame_at (0 ∷ fs) (h + j)) (λ j. 2 ∷ f (h - 1 - j)) (λ j l. second_half fs (h + j) (h - 1 - j) (omega arith) (omega arith))
    ∙ list_of-map (λ (σ : List ℕ). 2 ∷ σ) h (λ j. f (h - 1 - j))
    ∙ ap (starting 2) (list_of-reverse h f))

-- ---- its entries are the settings
pub frames_sound : (fs σ : List ℕ) → In σ (frames fs) → is_setting fs σ ≡ true
unfolding frames
frames_sound fs σ h = let w = in_list_of (2 ^ open_count fs) (frame_at fs) σ h in rw w.2 (frame_setting fs w.0)

pub frames_complete : (fs σ : List ℕ) → is_setting fs σ ≡ true → In σ (frames fs)
unfolding frames
frames_complete fs σ h = let w = frame_found fs σ h in rw w.2 at (list_of_in (2 ^ open_count fs) (frame_at fs) w.0 w.1)

-- ---- how many frames pass a test
keep_append : (test : List ℕ → Bool) (l m : List (List ℕ)) → keep test (l ++ m) ≡ keep test l ++ keep test m
unfolding keep
keep_append test [] m = refl
keep_append test (σ ∷ l) m = grind (arith, keep_append test l m)

-- The entries of two joined lists that pass are those of each.
count-append : (test : List ℕ → Bool) (l m : List (List ℕ)) → length (keep test (l ++ m)) ≡ length (keep test l) + length (keep test m)
count-append test l m = ap length (keep_append test l m) ∙ length-append (keep test l) (keep test m)

-- As many entries pass in a reversed list.
count-reverse : (test : List ℕ → Bool) (l : List (List ℕ)) → length (keep test (reverse l)) ≡ length (keep test l)
count-reverse test [] = refl
count-reverse test (σ ∷ l) =
    ap (λ (k : List (List ℕ)). length (keep test k)) (reverse-cons σ l)
    ∙ omega (arith, count-append test (reverse l) (σ ∷ []), count-append test (σ ∷ []) l, count-reverse test l)

-- As many entries pass with a state in front, by the test of the whole.
count_starting : (test : List ℕ → Bool) (x : ℕ) (l : List (List ℕ))
    → length (keep test (map (λ (σ : List ℕ). x ∷ σ) l)) ≡ length (keep (λ σ. test (x ∷ σ)) l)
unfolding keep
count_starting test x [] = refl
count_starting test x (σ ∷ l) = grind (arith, count_starting test x l)

-- As many frames, from 0 to the last, pass a test as settings.
pub frames-count : (fs : List ℕ) (test : List ℕ → Bool) → length (keep test (frames fs)) ≡ length (keep test (settings fs))
unfolding settings
frames-count [] test = ap (λ (k : List (List ℕ)). length (keep test k)) frames_none
frames-count (zero ∷ fs) test =
    let l = frames fs in
    let m = settings fs in
    let one : List ℕ → Bool = λ σ. test (1 ∷ σ) in
    let two : List ℕ → Bool = λ σ. test (2 ∷ σ) in
    ap (λ (k : List (List ℕ)). length (keep test k)) (frames_open fs)
    ∙ omega (
      arith,
      count-append test (starting 1 l) (starting 2 (reverse l)),
      count_starting test 1 l,
      count_starting test 2 (reverse l),
      count-reverse two l,
      frames-count fs one,
      frames-count fs two,
      count-append test (starting 1 m) (starting 2 m),
      count_starting test 1 m,
      count_starting test 2 m,
    )
frames-count (suc f ∷ fs) test =
    ap (λ (k : List (List ℕ)). length (keep test k)) (frames-fixed f fs)
    ∙ count_starting test (suc f) (frames fs)
    ∙ frames-count fs (λ σ. test (suc f ∷ σ))
    ∙ sym (count_starting test (suc f) (settings fs))
