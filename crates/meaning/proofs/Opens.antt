-- The open elements among the states of a file: which element `open_element` gives (`open_at`), what it means that it gives none
-- (`fewer_open`), and the one setting that there is where none is open (`only_setting`).
use mathlib.Core.Path.{◌≡◌, refl, sym, ap, ◌∙◌}
use mathlib.Core.Logic.{◌⊎◌, inl, inr, ⊎_elim}
use mathlib.Core.List.{List, [], ◌∷◌}
use Prim.Native.Nat.{ℕ, zero, suc, ◌+◌, ◌-◌, ◌≤◌, ◌<◌}
use native.Mathlib.Omega.{arith}
use lib.Dec.{eqb}
use lib.ListN.{length, get_or, take}
use lib.Seq.{take_all}
use borrow.Author.Tests.{eqb-true, eqb-false}
use Rattle.meaning.specs.Settings.{open_count, settings}
use Rattle.meaning.specs.Operations.{open_element}
use Rattle.basics.proofs.Numbers.{IsLowest, lowest_is, lowest_none}

-- One state more in front counts one where it is open, and nothing where not.
one_more : (fs : List ℕ) (e : ℕ) → e < length fs
    → ((get_or fs e 0 ≡ 0) × (open_count (take (suc e) fs) ≡ suc (open_count (take e fs)))) ⊎ (open_count (take (suc e) fs) ≡ open_count (take e fs))
unfolding open_count
one_more [] e b = absurd (omega arith)
one_more (zero ∷ fs) zero b = inl (refl, refl)
one_more (suc f ∷ fs) zero b = inr refl
one_more (zero ∷ fs) (suc e) b = ⊎_elim (λ w. inl (w.0, ap suc w.1)) (λ w. inr (ap suc w)) (one_more fs e (omega arith))
one_more (suc f ∷ fs) (suc e) b = one_more fs e (omega arith)

-- Where there is no m-th open element, fewer than m are open.
pub fewer_open : (m : ℕ) (fs : List ℕ) → 1 ≤ m → open_element m fs ≡ 0 → open_count fs < m
unfolding open_element open_count
fewer_open m fs l h = rw (take_all (length fs) fs (omega arith)) at (go (length fs) (omega arith))
  where
    go : (e : ℕ) → e ≤ length fs → open_count (take e fs) < m
    go zero b = l
    go (suc e) b =
        let other = lowest_none (length fs) (λ e. eqb (open_count (take e fs)) m) h (suc e) (omega arith) b in
        let n = eqb-false (open_count (take (suc e) fs)) m other in
        ⊎_elim (λ w. omega (arith, w.1, go e (omega arith))) (λ w. omega (arith, w, go e (omega arith))) (one_more fs e b)

-- Element e is the m-th open one.
pub record OpenAt (fs : List ℕ) (m e : ℕ) : Type 0 where
  pub numbered : (1 ≤ e) × (e ≤ length fs)
  pub is_open : get_or fs (e - 1) 0 ≡ 0
  pub earlier : open_count (take (e - 1) fs) + 1 ≡ m

-- Where `open_element` gives an element, it is the m-th open one.
pub open_at : (m : ℕ) (fs : List ℕ) → 1 ≤ m → (open_element m fs ≡ 0 → ⊥) → OpenAt fs m (open_element m fs)
unfolding open_element open_count
open_at m fs l n = go (open_element m fs) (lowest_is (length fs) (λ e. eqb (open_count (take e fs)) m)) n
  where
    last : (k : ℕ) → IsLowest (length fs) (λ e. eqb (open_count (take e fs)) m) (suc k) → open_count (take k fs) ≡ m → ⊥
    last zero h e = omega arith
    last (suc k) h e = eqb-false (open_count (take (suc k) fs)) m (h.2 (suc k) (omega arith) (omega arith)) e

    go : (e : ℕ) → IsLowest (length fs) (λ e. eqb (open_count (take e fs)) m) e → (e ≡ 0 → ⊥) → OpenAt fs m e
    go zero h z = absurd (z refl)
    go (suc k) h z =
        let c = eqb-true (open_count (take (suc k) fs)) m h.1 in
        let p : suc k - 1 ≡ k = omega arith in
        ⊎_elim
        (λ w. record { numbered = (omega arith, h.0); is_open = rw p w.0; earlier = rw p (omega (arith, c, w.1)) })
        (λ w. absurd (last k h (sym w ∙ c)))
        (one_more fs k h.0)

-- Where no element is open, the file's states are the only setting.
pub only_setting : (fs : List ℕ) → open_count fs ≡ 0 → settings fs ≡ fs ∷ []
unfolding open_count settings
only_setting [] e = refl
only_setting (zero ∷ fs) e = absurd (omega arith)
only_setting (suc f ∷ fs) e = rw (only_setting fs e)
