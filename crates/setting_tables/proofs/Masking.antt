-- The masks, element by element.
use Rattle.std.proofs.Common.{◌≡◌, sym, ap, ap₂, ◌∙◌, Bool, not, ◌&&◌, ◌||◌, List, [], ◌∷◌, ◌++◌, Option, Some, None, ℕ, zero, suc, ◌+◌, ◌-◌, ◌*◌, ◌^◌, ◌≤◌, ◌<◌, bit_and, bit_or, length, get_or, take, arith, add-one}
use Rattle.std.proofs.lemmas.Option.{slice_get-get_or}
use mathlib.Core.Bool.{or-false, or_assoc}
use mathlib.Core.Logic.{⊎_elim}
use native.Mathlib.Nat.{eq-or-lt_of_le}
use native.Mathlib.Decide.{dec_lt}
use lib.Bits.{or_lt}
use lib.Dec.{eqb, ltb}
use lib.ListN.{set, length-set}
use lib.Pow.{pow_pos, pow_mono}
use lib.Seq.{get_or-set_same, get_or-set_other, take-suc, take_all}
use borrow.Author.Tests.{eq-eqb, ne_eqb, lt-ltb, le-ltb, ltb-true}
use Rattle.meaning.specs.declared.Move.{Move}
use Rattle.meaning.specs.declared.Kind.{Kind}
use Rattle.meaning.specs.declared.Element.{Element}
use Rattle.meaning.specs.declared.Situation.{Situation}
use Rattle.meaning.specs.Station.{elements_of, file_states, forbids}
use Rattle.meaning.specs.Settings.{open_count}
use Rattle.basics.proofs.Tests.{and_both}
use Rattle.bits.specs.Bits.{bit}
use Rattle.bits.proofs.Bits.{bit-zero, bit_and_lem, bit_not, bit_above}
use Rattle.setting_tables.specs.declared.Ends.{Ends}
use Rattle.setting_tables.specs.OpenMoves.{open_kinds, default_kind, AreOpenKinds, at, IsOpenMoves}
use Rattle.setting_tables.specs.Masks.{fixed_forbid, Indexed, Selects, Masked}
use Rattle.setting_tables.proofs.Opening.{opens, move_below}
use Rattle.setting_tables.proofs.Selecting.{selects_same, either_selects, not_selects}

fixed-append : (es : List Element) (e : Element) (a b : ℕ)
    → fixed_forbid (es ++ (e ∷ [])) a b ≡ (fixed_forbid es a b || (not (eqb e.state 0) && forbids e.kind e.state a b))
unfolding fixed_forbid
fixed-append [] e a b = or-false (not (eqb e.state 0) && forbids e.kind e.state a b)
fixed-append (d ∷ es) e a b =
    ap (λ (t : Bool). (not (eqb d.state 0) && forbids d.kind d.state a b) || t) (fixed-append es e a b)
    ∙ sym (or_assoc (not (eqb d.state 0) && forbids d.kind d.state a b) (fixed_forbid es a b)
    (not (eqb e.state 0) && forbids e.kind e.state a b))

-- A row has the open moves that an element leaves, at 1 and at 2.
abbrev pub Leaves : Ends → Kind → List ℕ → Type 0
Leaves ends k row = (y : ℕ) → y < 2 → Selects ends (λ a b. not (forbids k (suc y) a b)) (get_or row y 0)

leaves_two : {ends : Ends} (k : Kind) {one two : ℕ} → one < 2 ^ 64 → two < 2 ^ 64 → Selects ends (forbids k 1) one → Selects ends (forbids k 2) two
    → Leaves ends k (((2 ^ 64 - 1) - one) ∷ ((2 ^ 64 - 1) - two) ∷ [])
leaves_two k a b p r zero l = not_selects (forbids k 1) a p
leaves_two k a b p r (suc zero) l = not_selects (forbids k 2) b r
leaves_two k a b p r (suc (suc y)) l = absurd (omega arith)

-- The first i of the kinds have their rows.
pub record Masking (ends : Ends) (kinds : List (Option Kind)) (rows : List (List ℕ)) (i : ℕ) : Type 0 where
  pub size : length rows ≡ 12
  pub row : (p : ℕ) (k : Kind) → p < i → get_or kinds p None ≡ Some k → Leaves ends k (get_or rows p [])

module _ {ends : Ends} {kinds : List (Option Kind)} where
  module _ {rows : List (List ℕ)} {i : ℕ} (o : Masking ends kinds rows i) where
    pub masking_open : {k : Kind} {one two : ℕ} → i < 12 → get_or kinds i None ≡ Some k → one < 2 ^ 64 → two < 2 ^ 64 → Selects ends (forbids k 1) one
        → Selects ends (forbids k 2) two → Masking ends kinds (set rows i (((2 ^ 64 - 1) - one) ∷ ((2 ^ 64 - 1) - two) ∷ [])) (i + 1)
    masking_open {k} {one} {two} low is a b p r = record {
      size = length-set rows i v ∙ o.size;
      row = λ j m l h.
          ⊎_elim
          (λ (z : j ≡ i).
          let same : k ≡ m = let e : Some k ≡ Some m = sym is ∙ (rw z at h) in cc in
          rw (z, get_or-set_same rows i v [] (omega (arith, o.size)), ← same) (leaves_two k a b p r))
          (λ (z : j < i). rw (get_or-set_other rows i j v [] (λ e. omega arith)) (o.row j m z h))
          (eq-or-lt_of_le (omega arith));
    }
      where
        v : List ℕ
        v = ((2 ^ 64 - 1) - one) ∷ ((2 ^ 64 - 1) - two) ∷ []

    pub masking_none : ((k : Kind) → get_or kinds i None ≡ Some k → ⊥) → Masking ends kinds rows (i + 1)
    masking_none none = record {
      size = o.size;
      row = λ j m l h.
          ⊎_elim (λ (z : j ≡ i). absurd (none m (rw z at h))) (λ (z : j < i). o.row j m z h) (eq-or-lt_of_le (omega arith));
    }

-- `blocked` has the open moves that the fixed ones among the first k elements forbid.
pub record Blocking (es : List Element) (ends : Ends) (blocked k : ℕ) : Type 0 where
  pub fits : blocked < 2 ^ 64
  pub by_fixed : Selects ends (fixed_forbid (take k es)) blocked

pub blocking_start : {es : List Element} {ends : Ends} → Blocking es ends 0 0
unfolding fixed_forbid
blocking_start = record { fits = pow_pos 64; by_fixed = record { exactly = λ f ix e m l at. bit-zero e } }

module _ {es : List Element} {ends : Ends} {blocked k : ℕ} (d : Element) (o : Blocking es ends blocked k) (l : k < length es) where
  abbrev here : Element
  here = get_or es k d

  fixed_next : (a b : ℕ) → fixed_forbid (take (k + 1) es) a b
      ≡ (fixed_forbid (take k es) a b || (not (eqb here.state 0) && forbids here.kind here.state a b))
  fixed_next a b = ap (λ (y : List Element). fixed_forbid y a b) (rw add-one (take-suc es k d l)) ∙ fixed-append (take k es) here a b

  pub blocking_open : here.state ≡ 0 → Blocking es ends blocked (k + 1)
  blocking_open h = record {
    fits = o.fits;
    by_fixed =
        selects_same (fixed_forbid (take k es)) (fixed_forbid (take (k + 1) es))
        (λ a b. sym (fixed_next a b
        ∙ ap (λ (t : Bool). fixed_forbid (take k es) a b || (not t && forbids here.kind here.state a b)) (eq-eqb here.state 0 h)
        ∙ or-false (fixed_forbid (take k es) a b)))
        o.by_fixed;
  }

  pub blocking_fixed : {w : ℕ} → (here.state ≡ 0 → ⊥) → w < 2 ^ 64 → Selects ends (forbids here.kind here.state) w
      → Blocking es ends (bit_or blocked w) (k + 1)
  blocking_fixed {w} h fits sel = record {
    fits = or_lt 64 blocked w o.fits fits;
    by_fixed =
        selects_same (λ a b. fixed_forbid (take k es) a b || forbids here.kind here.state a b) (fixed_forbid (take (k + 1) es))
        (λ a b. sym (fixed_next a b
        ∙ ap (λ (t : Bool). fixed_forbid (take k es) a b || (not t && forbids here.kind here.state a b)) (ne_eqb here.state 0 h)))
        (either_selects (fixed_forbid (take k es)) (forbids here.kind here.state) o.by_fixed sel);
  }

-- The bits below bit n.
bit_below : (n e : ℕ) → bit (2 ^ n - 1) e ≡ ltb e n
bit_below n e = go (dec_lt e n)
  where
    go : Dec (e < n) → bit (2 ^ n - 1) e ≡ ltb e n
    go (yes l) =
        let z : (2 ^ n - 1) - 0 ≡ 2 ^ n - 1 = omega arith in
        (rw z at (bit_not n 0 e (pow_pos n) l)) ∙ ap not (bit-zero e) ∙ sym (lt-ltb e n l)
    go (no l) =
        bit_above (2 ^ n - 1) e (omega (arith, pow_pos n, pow_mono {i = n} {j = e} (omega arith))) ∙ sym (le-ltb e n (omega arith))

-- All masks: those of the open elements are below bit 4 n.
pub masking_end : (s : Situation) (l : List (List (Option Move))) {ends : Ends} (kinds : List (Option Kind)) {rows : List (List ℕ)} {i blocked k all : ℕ} → AreOpenKinds s kinds
    → open_count (file_states s) ≤ 12 → 12 ≤ i → Masking ends kinds rows i
    → Blocking (elements_of s) ends blocked k → length (elements_of s) ≤ k → IsOpenMoves s l → Indexed (at l) 48 ends
    → all ≡ 2 ^ (open_count (file_states s) * 4) - 1 → Masked s (record { opens = rows; fixed = bit_and all ((2 ^ 64 - 1) - blocked) })
masking_end s l {ends} kinds {rows} {i} {blocked} {k} {all} collected few done o f past are ix is_all = rw is_all (record {
  by_open = λ q y e m low y2 h is.
      let here = collected q None (omega arith) ∙ slice_get-get_or (open_kinds (elements_of s)) q default_kind (omega (arith, opens s)) in
      (o.row q _ (omega arith) here y y2).exactly (at l) ix e m h (are e h ∙ is);
  by_fixed = λ e m h is.
      bit_and_lem (2 ^ (n * 4) - 1) ((2 ^ 64 - 1) - blocked) e
      ∙ ap₂ ◌&&◌ (bit_below (n * 4) e ∙ lt-ltb e (n * 4) (let b = move_below s e m is in omega (arith, opens s)))
      (bit_not 64 blocked e f.fits (omega arith)
      ∙ ap not (f.by_fixed.exactly (at l) ix e m h (are e h ∙ is) ∙ ap (λ (y : List Element). fixed_forbid y m.from.0 m.to.0) (take_all k (elements_of s) past)));
  fixed_below = λ e h.
      ltb-true e (n * 4) (sym (bit_below (n * 4) e)
      ∙ (and_both (bit (2 ^ (n * 4) - 1) e) (bit ((2 ^ 64 - 1) - blocked) e) (sym (bit_and_lem (2 ^ (n * 4) - 1) ((2 ^ 64 - 1) - blocked) e) ∙ h)).0);
})
  where
    n : ℕ
    n = open_count (file_states s)
