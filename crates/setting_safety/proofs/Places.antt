-- What is forbidden in the setting at a place of the order: what the fixed elements forbid, and what the open elements forbid in the states that
-- the place gives them (`forbidden_at`). And which open element stands over a pair.
use mathlib.Core.Path.{◌≡◌, refl, sym, ap, ap₂, ◌∙◌}
use mathlib.Core.Logic.{⊎_elim}
use mathlib.Core.Bool.{Bool, true, false, not, ◌&&◌, ◌||◌, cond, or_assoc, false≢true}
use mathlib.Core.List.{List, [], ◌∷◌}
use mathlib.Mathlib.Data.Bool.Basic.{or_inl, or_inr}
use Prim.Native.Nat.{ℕ, zero, suc, ◌+◌, ◌-◌, ◌*◌, ◌/◌, ◌%◌, ◌^◌, ◌<◌}
use native.Mathlib.Nat.{zero-add, two-pow-succ, mod-eq_of_lt, mul-add-div_right, mul-add-mod_self_right}
use Rattle.std.proofs.lemmas.Nat.{pow-add, shr_below}
use native.Mathlib.Decide.{dec_lt}
use native.Mathlib.Omega.{arith}
use lib.Bits.{bit_and}
use lib.Dec.{eqb, ltb, eqb-suc-zero}
use lib.ListN.{length, get_or}
use lib.Pow.{pow_pos}
use borrow.Author.Tests.{eq-eqb, lt-ltb, le-ltb}
use Rattle.meaning.specs.declared.Kind.{Kind}
use Rattle.meaning.specs.declared.Element.{Element}
use Rattle.meaning.specs.Station.{permitted, pairs_over, forbids, forbidden}
use Rattle.meaning.specs.Settings.{open_count, is_setting}
use Rattle.basics.proofs.Tests.{or_cases, and_both, or_swap}
use Rattle.meaning.proofs.FixedMoves.{open_over}
use Rattle.bits.specs.Bits.{bit}
use Rattle.bits.proofs.Bits.{bit_and_lem}
use Rattle.element_states.specs.Collected.{states_of}
use Rattle.setting_order.specs.Order.{setting_at}
use Rattle.setting_tables.specs.declared.Masks.{Masks}
use Rattle.setting_tables.specs.OpenMoves.{open_kinds, default_kind}
use Rattle.setting_tables.specs.Masks.{fixed_forbid, mask}
use Rattle.setting_tables.proofs.Opening.{open_kinds-length}
use Rattle.setting_safety.specs.Table.{enabled_from}

-- ---- the setting at a place
-- It is a setting.
pub setting_at-keeps : (fs : List ℕ) (x : ℕ) → is_setting fs (setting_at fs x) ≡ true
unfolding is_setting setting_at
setting_at-keeps [] x = refl
setting_at-keeps (zero ∷ fs) x = go (ltb x (2 ^ open_count fs)) (setting_at-keeps fs x) (setting_at-keeps fs (x - 2 ^ open_count fs))
  where
    go : (t : Bool) → is_setting fs (setting_at fs x) ≡ true → is_setting fs (setting_at fs (x - 2 ^ open_count fs)) ≡ true
        → is_setting (zero ∷ fs) (cond t (1 ∷ setting_at fs x) (2 ∷ setting_at fs (x - 2 ^ open_count fs))) ≡ true
    go true g h = g
    go false g h = h
setting_at-keeps (suc f ∷ fs) x = rw (eq-eqb (suc f) (suc f) refl) (setting_at-keeps fs x)

-- One of some open elements forbids a move, in the states that place x gives them.
unfoldable pub placed_forbid : List Kind → ℕ → ℕ → ℕ → Bool
placed_forbid [] x a b = false
placed_forbid (k ∷ ks) x a b =
    cond (ltb x (2 ^ length ks)) (forbids k 1 a b || placed_forbid ks x a b) (forbids k 2 a b || placed_forbid ks (x - 2 ^ length ks) a b)

pub forbidden_at : (es : List Element) (x a b : ℕ)
    → forbidden es (setting_at (states_of es) x) a b ≡ (fixed_forbid es a b || placed_forbid (open_kinds es) x a b)
unfolding forbidden setting_at fixed_forbid open_kinds placed_forbid
forbidden_at [] x a b = refl
forbidden_at (e ∷ es) x a b = go e.state (forbidden_at es)
  where
    fs : List ℕ
    fs = states_of es

    r : ℕ
    r = open_count fs

    At : ℕ → Type 0
    At y = forbidden es (setting_at fs y) a b ≡ (fixed_forbid es a b || placed_forbid (open_kinds es) y a b)

    one : (y z : ℕ) → At y → (forbids e.kind z a b || forbidden es (setting_at fs y) a b)
        ≡ (fixed_forbid es a b || (forbids e.kind z a b || placed_forbid (open_kinds es) y a b))
    one y z h =
        ap (λ (t : Bool). forbids e.kind z a b || t) h
        ∙ or_swap (forbids e.kind z a b) (fixed_forbid es a b) (placed_forbid (open_kinds es) y a b)

    open_case : (t : Bool) → At x → At (x - 2 ^ r)
        → forbidden (record { kind = e.kind; state = 0 } ∷ es) (cond t (1 ∷ setting_at fs x) (2 ∷ setting_at fs (x - 2 ^ r))) a b
        ≡ (fixed_forbid es a b || cond t (forbids e.kind 1 a b || placed_forbid (open_kinds es) x a b)
        (forbids e.kind 2 a b || placed_forbid (open_kinds es) (x - 2 ^ r) a b))
    open_case true g h = one x 1 g
    open_case false g h = one (x - 2 ^ r) 2 h

    go : (f : ℕ) → ((y a b : ℕ) → forbidden es (setting_at fs y) a b ≡ (fixed_forbid es a b || placed_forbid (open_kinds es) y a b))
        → forbidden (record { kind = e.kind; state = f } ∷ es) (setting_at (f ∷ fs) x) a b
        ≡ (fixed_forbid (record { kind = e.kind; state = f } ∷ es) a b || placed_forbid (open_kinds (record { kind = e.kind; state = f } ∷ es)) x a b)
    go zero h = rw (open_kinds-length es) (open_case (ltb x (2 ^ r)) (h x a b) (h (x - 2 ^ r) a b))
    go (suc f) h =
        rw (eqb-suc-zero f) (
        ap (λ (t : Bool). forbids e.kind (suc f) a b || t) (h x a b)
        ∙ sym (or_assoc (forbids e.kind (suc f) a b) (fixed_forbid es a b) (placed_forbid (open_kinds es) x a b)))

-- ---- the open moves at a place
-- An open move of the move a to b is left at place x where it is left by the fixed elements and no open one forbids the move.
pub enabled_left : (masks : Masks) (e a b : ℕ) (ks : List Kind) (q : ℕ)
    → ((i y : ℕ) → i < length ks → y < 2 → bit (mask masks (q + i) y) e ≡ not (forbids (get_or ks i default_kind) (suc y) a b))
    → (x : ℕ) → bit (enabled_from masks q (length ks) x) e ≡ (bit masks.fixed e && not (placed_forbid ks x a b))
unfolding enabled_from placed_forbid
enabled_left masks e a b [] q left x = and_none (bit masks.fixed e)
  where
    and_none : (t : Bool) → t ≡ (t && true)
    and_none true = refl
    and_none false = refl
enabled_left masks e a b (k ∷ ks) q left x = go (ltb x (2 ^ length ks)) (enabled_left masks e a b ks (suc q) rest)
  where
    rest : (i y : ℕ) → i < length ks → y < 2 → bit (mask masks (suc q + i) y) e ≡ not (forbids (get_or ks i default_kind) (suc y) a b)
    rest i y l h =
        let z : suc q + i ≡ q + suc i = omega arith in
        ap (λ (n : ℕ). bit (mask masks n y) e) z ∙ left (suc i) y (omega arith) h

    here : (y : ℕ) → y < 2 → bit (mask masks q y) e ≡ not (forbids k (suc y) a b)
    here y l = let z : q ≡ q + 0 = omega arith in ap (λ (n : ℕ). bit (mask masks n y) e) z ∙ left 0 y (omega arith) l

    both : (f p g : Bool) → ((f && not p) && not g) ≡ (f && not (g || p))
    both true true true = refl
    both true true false = refl
    both true false true = refl
    both true false false = refl
    both false p g = refl

    one : (w v p : ℕ) (y : ℕ) → bit w e ≡ (bit masks.fixed e && not (placed_forbid ks p a b)) → bit v e ≡ not (forbids k y a b)
        → bit (bit_and w v) e ≡ (bit masks.fixed e && not (forbids k y a b || placed_forbid ks p a b))
    one w v p y g h = bit_and_lem w v e ∙ ap₂ ◌&&◌ g h ∙ both (bit masks.fixed e) (placed_forbid ks p a b) (forbids k y a b)

    go : (t : Bool) → ((y : ℕ) → bit (enabled_from masks (suc q) (length ks) y) e ≡ (bit masks.fixed e && not (placed_forbid ks y a b)))
        → bit (cond t (bit_and (enabled_from masks (suc q) (length ks) x) (mask masks q 0))
        (bit_and (enabled_from masks (suc q) (length ks) (x - 2 ^ length ks)) (mask masks q 1))) e
        ≡ (bit masks.fixed e && not (cond t (forbids k 1 a b || placed_forbid ks x a b) (forbids k 2 a b || placed_forbid ks (x - 2 ^ length ks) a b)))
    go true h = one (enabled_from masks (suc q) (length ks) x) (mask masks q 0) x 1 (h x) (here 0 (omega arith))
    go false h =
        let y : ℕ = x - 2 ^ length ks in
        one (enabled_from masks (suc q) (length ks) y) (mask masks q 1) y 2 (h y) (here 1 (omega arith))

-- What is left at a place the fixed elements leave.
pub enabled_low : (masks : Masks) (e q n x : ℕ) → bit (enabled_from masks q n x) e ≡ true → bit masks.fixed e ≡ true
unfolding enabled_from
enabled_low masks e q zero x h = h
enabled_low masks e q (suc n) x h = go (ltb x (2 ^ n)) h (enabled_low masks e (suc q) n)
  where
    one : (w v : ℕ) → bit (bit_and w v) e ≡ true → bit w e ≡ true
    one w v h = (and_both (bit w e) (bit v e) (sym (bit_and_lem w v e) ∙ h)).0

    go : (t : Bool) → bit (cond t (bit_and (enabled_from masks (suc q) n x) (mask masks q 0))
        (bit_and (enabled_from masks (suc q) n (x - 2 ^ n)) (mask masks q 1))) e ≡ true
        → ((y : ℕ) → bit (enabled_from masks (suc q) n y) e ≡ true → bit masks.fixed e ≡ true) → bit masks.fixed e ≡ true
    go true h rest = rest x (one (enabled_from masks (suc q) n x) (mask masks q 0) h)
    go false h rest = rest (x - 2 ^ n) (one (enabled_from masks (suc q) n (x - 2 ^ n)) (mask masks q 1) h)

-- ---- the first of some open elements, and those after them
-- The high bits of a place are the place of the first m of m + n open elements, its low bits the place of the last n.
pub enabled_split : (masks : Masks) (e q m n x : ℕ) → x < 2 ^ (m + n)
    → bit (enabled_from masks q (m + n) x) e ≡ (bit (enabled_from masks q m (x / 2 ^ n)) e && bit (enabled_from masks (q + m) n (x % 2 ^ n)) e)
unfolding enabled_from
enabled_split masks e q zero n x l =
    let k : 0 + n ≡ n = zero-add n in
    let small : x < 2 ^ n = rw k at l in
    let z : q + 0 ≡ q = omega arith in
    rw (k, z, mod-eq_of_lt small) (all (bit masks.fixed e) (bit (enabled_from masks q n x) e) (enabled_low masks e q n x))
  where
    all : (f b : Bool) → (b ≡ true → f ≡ true) → b ≡ (f && b)
    all f true h = rw (h refl) refl
    all true false h = refl
    all false false h = refl
enabled_split masks e q (suc m) n x l = rw (more, next) (go (dec_lt x (2 ^ (m + n))) (enabled_split masks e (suc q) m n))
  where
    more : suc m + n ≡ suc (m + n)
    more = omega arith

    next : q + suc m ≡ suc q + m
    next = omega arith

    power : 2 ^ (m + n) ≡ 2 ^ m * 2 ^ n
    power = pow-add 2 m n

    twice : 2 ^ suc (m + n) ≡ 2 ^ (m + n) + 2 ^ (m + n)
    twice = two-pow-succ (m + n)

    one : (w v t r : ℕ) → bit w e ≡ (bit v e && bit r e) → bit (bit_and w t) e ≡ (bit (bit_and v t) e && bit r e)
    one w v t r h = bit_and_lem w t e ∙ ap (λ (b : Bool). b && bit t e) h ∙ swapped (bit v e) (bit r e) (bit t e) ∙ ap (λ (b : Bool). b && bit r e) (sym (bit_and_lem v t e))
      where
        swapped : (a b c : Bool) → ((a && b) && c) ≡ ((a && c) && b)
        swapped true true true = refl
        swapped true true false = refl
        swapped true false true = refl
        swapped true false false = refl
        swapped false b c = refl

    first : ℕ
    first = x / 2 ^ n

    go : Dec (x < 2 ^ (m + n))
        → ((y : ℕ) → y < 2 ^ (m + n)
        → bit (enabled_from masks (suc q) (m + n) y) e ≡ (bit (enabled_from masks (suc q) m (y / 2 ^ n)) e && bit (enabled_from masks (suc q + m) n (y % 2 ^ n)) e))
        → bit (cond (ltb x (2 ^ (m + n))) (bit_and (enabled_from masks (suc q) (m + n) x) (mask masks q 0))
        (bit_and (enabled_from masks (suc q) (m + n) (x - 2 ^ (m + n))) (mask masks q 1))) e
        ≡ (bit (cond (ltb first (2 ^ m)) (bit_and (enabled_from masks (suc q) m first) (mask masks q 0))
        (bit_and (enabled_from masks (suc q) m (first - 2 ^ m)) (mask masks q 1))) e
        && bit (enabled_from masks (suc q + m) n (x % 2 ^ n)) e)
    go (yes b) h =
        let low : first < 2 ^ m = shr_below x m n b in
        rw (lt-ltb x (2 ^ (m + n)) b, lt-ltb first (2 ^ m) low)
        (one (enabled_from masks (suc q) (m + n) x) (enabled_from masks (suc q) m first) (mask masks q 0)
        (enabled_from masks (suc q + m) n (x % 2 ^ n)) (h x b))
    go (no b) h =
        let y : ℕ = x - 2 ^ (m + n) in
        let is : x ≡ 2 ^ m * 2 ^ n + y = omega (arith, power) in
        let high : first ≡ 2 ^ m + y / 2 ^ n = ap (λ (v : ℕ). v / 2 ^ n) is ∙ mul-add-div_right (pow_pos n) (2 ^ m) y in
        let same : x % 2 ^ n ≡ y % 2 ^ n = ap (λ (v : ℕ). v % 2 ^ n) is ∙ mul-add-mod_self_right (2 ^ m) (2 ^ n) y in
        let rest : first - 2 ^ m ≡ y / 2 ^ n = omega (arith, high) in
        let inside : y < 2 ^ (m + n) = omega (arith, twice, rw more at l) in
        rw (le-ltb x (2 ^ (m + n)) (omega arith), le-ltb first (2 ^ m) (omega (arith, high)), rest, same)
        (one (enabled_from masks (suc q) (m + n) y) (enabled_from masks (suc q) m (y / 2 ^ n)) (mask masks q 1)
        (enabled_from masks (suc q + m) n (y % 2 ^ n)) (h y inside))

-- ---- the open elements over a pair
-- One of them is the q-th open one.
pub over_of : (es : List Element) (a b : ℕ) → open_over es a b ≡ true
    → (q : ℕ) × (q < length (open_kinds es)) × (permitted (pairs_over (get_or (open_kinds es) q default_kind)) a b ≡ true)
unfolding open_over open_kinds
over_of [] a b h = absurd (false≢true h)
over_of (e ∷ es) a b h = go e.state h (over_of es a b)
  where
    Found : List Kind → Type 0
    Found ks = (q : ℕ) × (q < length ks) × (permitted (pairs_over (get_or ks q default_kind)) a b ≡ true)

    go : (f : ℕ) → ((eqb f 0 && permitted (pairs_over e.kind) a b) || open_over es a b) ≡ true
        → (open_over es a b ≡ true → Found (open_kinds es)) → Found (open_kinds (record { kind = e.kind; state = f } ∷ es))
    go zero h rest =
        ⊎_elim (λ p. (0, omega arith, p)) (λ p. let r = rest p in (suc r.0, omega (arith, r.1), r.2))
        (or_cases (permitted (pairs_over e.kind) a b) (open_over es a b) h)
    go (suc f) h rest = rest (rw (eqb-suc-zero f) at h)

pub over_in : (es : List Element) (a b q : ℕ) → q < length (open_kinds es) → permitted (pairs_over (get_or (open_kinds es) q default_kind)) a b ≡ true
    → open_over es a b ≡ true
unfolding open_over open_kinds
over_in [] a b q l h = absurd (omega arith)
over_in (e ∷ es) a b q l h = go e.state q l h (over_in es a b)
  where
    go : (f q : ℕ) → q < length (open_kinds (record { kind = e.kind; state = f } ∷ es))
        → permitted (pairs_over (get_or (open_kinds (record { kind = e.kind; state = f } ∷ es)) q default_kind)) a b ≡ true
        → ((q : ℕ) → q < length (open_kinds es) → permitted (pairs_over (get_or (open_kinds es) q default_kind)) a b ≡ true → open_over es a b ≡ true)
        → ((eqb f 0 && permitted (pairs_over e.kind) a b) || open_over es a b) ≡ true
    go zero zero l h rest = or_inl (permitted (pairs_over e.kind) a b) (open_over es a b) h
    go zero (suc q) l h rest = or_inr (permitted (pairs_over e.kind) a b) (open_over es a b) (rest q (omega arith) h)
    go (suc f) q l h rest = rw (eqb-suc-zero f) (rest q l h)
