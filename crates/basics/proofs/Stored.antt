-- Texts stored one behind the other at the start of a buffer: what was put in front, then what the buffer had.
use mathlib.Core.Path.{◌≡◌, refl, sym, ap, ◌∙◌}
use mathlib.Core.List.{List, [], ◌∷◌, ◌++◌, append_assoc, append-nil}
use Prim.Native.Nat.{ℕ, ◌+◌, ◌*◌, ◌≤◌, ◌<◌}
use native.Mathlib.Numerals.{add-one}
use native.Mathlib.Omega.{arith}
use lib.ListN.{take, drop, get_or, length, length-append, length-drop}
use lib.Seq.{sets, sets-eq, length-sets, take_at, take-suc, length-take-le, drop-append-add, drop-drop}

-- Past what was put in front, a list keeps its entries.
drop_past : (p b : List ℕ) (n k : ℕ) → length p ≡ n → drop (n + k) (p ++ drop n b) ≡ drop (n + k) b
drop_past p b n k e = ap (λ m. drop (m + k) (p ++ drop n b)) (sym e) ∙ drop-append-add p (drop n b) k ∙ drop-drop k n b

-- Storing v behind the text p, which was put in front, gives p and v in front.
pub splice : (p v b : List ℕ) (n m : ℕ) → length p ≡ n → length v ≡ m → n + m ≤ length b
    → sets (p ++ drop n b) n v ≡ (p ++ v) ++ drop (n + m) b
splice p v b n m lp lv h = grind (arith, drop_past, length-append, length-drop, sets-eq, take_at)

-- ---- lines of 22 bytes, one for each key, stored one after the other
pub record Lined (line : ℕ → List ℕ) (text : List ℕ → List ℕ) : Type 0 where
  pub none : text [] ≡ []
  pub next : (x : ℕ) (l : List ℕ) → text (x ∷ l) ≡ line x ++ text l
  pub size : (x : ℕ) → length (line x) ≡ 22

-- The lines of the first i keys stand at the start of the buffer b, which is then d.
pub record Put (text : List ℕ → List ℕ) (keys b d : List ℕ) (i : ℕ) : Type 0 where
  pub same_length : length d ≡ length b
  pub start : d ≡ text (take i keys) ++ drop (i * 22) b

module _ (line : ℕ → List ℕ) (text : List ℕ → List ℕ) (w : Lined line text) where
  pub lined_length : (l : List ℕ) → length (text l) ≡ length l * 22
  lined_length [] = ap length w.none
  lined_length (x ∷ l) = ap length (w.next x l) ∙ length-append (line x) (text l) ∙ omega (arith, w.size x, lined_length l)

  lined_more : (l : List ℕ) (x : ℕ) → text (l ++ (x ∷ [])) ≡ text l ++ line x
  lined_more [] x = grind (arith, append-nil)
  lined_more (y ∷ l) x = grind (arith, append_assoc, lined_more l x)

  pub put_none : (keys b : List ℕ) → Put text keys b b 0
  put_none keys b = record { same_length = refl; start = ap (λ (t : List ℕ). t ++ b) (sym w.none) }

  pub put_more : (keys b d f : List ℕ) (i : ℕ) → Put text keys b d i → i < length keys → length keys * 22 ≤ length b
      → f ≡ sets d (i * 22) (line (get_or keys i 0)) → Put text keys b f (i + 1)
  put_more keys b d f i s h room e =
      let x = get_or keys i 0 in
      let front = text (take i keys) in
      let n : length front ≡ i * 22 = lined_length (take i keys) ∙ ap (λ (k : ℕ). k * 22) (length-take-le i keys (omega arith)) in
      let step : i * 22 + 22 ≡ (i + 1) * 22 = omega arith in
      let more : text (take (i + 1) keys) ≡ front ++ line x = rw (add-one i, take-suc keys i 0 h) (lined_more (take i keys) x) in
      record {
        same_length = ap length e ∙ length-sets d (i * 22) (line x) ∙ s.same_length;
        start =
            e ∙ ap (λ (t : List ℕ). sets t (i * 22) (line x)) s.start ∙ splice front (line x) b (i * 22) 22 n (w.size x) (omega arith)
            ∙ rw (step, more);
      }
