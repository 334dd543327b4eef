-- The list of settings: it has each setting of the file's states fs once, in the order of 01, and 2 ^ open_count fs of them.
-- `settings_sound` and `settings_complete` say what its entries are; `settings-once` follows from `settings-sorted`, as no setting comes
-- before itself. The laws of `keep` carry all this to the settings that pass a test.
use mathlib.Core.Path.{◌≡◌, refl, sym, ap, ap₂, ◌∙◌}
use mathlib.Core.Logic.{◌⊎◌, inl, inr, ⊎_elim}
use mathlib.Core.Bool.{Bool, true, false, cond, false≢true}
use mathlib.Core.List.{List, [], ◌∷◌, map}
use mathlib.Mathlib.Data.Bool.Basic.{and_elim_left, and_elim_right}
use Prim.Native.Nat.{ℕ, zero, suc, ◌^◌, ◌<◌}
use native.Mathlib.Nat.{pow-suc, not-suc-le-zero, le_of_suc-le-suc}
use native.Mathlib.Omega.{arith}
use lib.Dec.{eqb}
use lib.ListN.{length, get_or, length-append, length-map}
use borrow.Author.Tests.{eqb-true, eqb-false, eq-eqb, ne_eqb}
use Rattle.meaning.specs.Settings.{open_count, keeps, is_setting, before, settings, keep}
use Rattle.basics.proofs.Tests.{or_cases}
use Rattle.basics.specs.Lists.{In, Once, Pairwise}
use Rattle.basics.proofs.Members.{in_left, in_right, in_append, in_get, in_map, map_in, pairwise_append, pairwise_map}

-- ---- what is said of a list of settings
abbrev Before : List ℕ → List ℕ → Type 0
Before σ τ = before σ τ ≡ true

-- Each entry comes before each later one, in the order of settings.
abbrev pub Sorted : List (List ℕ) → Type 0
Sorted = Pairwise Before

-- The settings l, each with the state x of one more element in front.
abbrev starting : ℕ → List (List ℕ) → List (List ℕ)
starting x l = map (◌∷◌ x) l

-- ---- the order
before_same : (x : ℕ) (σ τ : List ℕ) → before (x ∷ σ) (x ∷ τ) ≡ before σ τ
unfolding before
before_same x σ τ = rw (eq-eqb x x refl)

before_first : (x y : ℕ) (σ τ : List ℕ) → (x ≡ y → ⊥) → x ≡ 1 → before (x ∷ σ) (y ∷ τ) ≡ true
unfolding before
before_first x y σ τ n e = rw (ne_eqb x y n) (eq-eqb x 1 e)

before_cases : (x y : ℕ) (σ τ : List ℕ) → before (x ∷ σ) (y ∷ τ) ≡ true
    → ((x ≡ y) × (before σ τ ≡ true)) ⊎ ((x ≡ y → ⊥) × (x ≡ 1))
unfolding before
before_cases x y σ τ = grind arith

-- Nothing comes before itself.
pub before_irreflexive : (σ : List ℕ) → before σ σ ≡ false
unfolding before
before_irreflexive [] = refl
before_irreflexive (x ∷ σ) = before_same x σ σ ∙ before_irreflexive σ

-- Of two settings, one at most comes before the other.
pub before_asymmetric : (σ τ : List ℕ) → before σ τ ≡ true → before τ σ ≡ false
unfolding before
before_asymmetric [] τ h = absurd (false≢true h)
before_asymmetric (x ∷ σ) [] h = refl
before_asymmetric (x ∷ σ) (y ∷ τ) h = go (before_cases x y σ τ h) (λ i. before_asymmetric σ τ i)
  where
    go : ((x ≡ y) × (before σ τ ≡ true)) ⊎ ((x ≡ y → ⊥) × (x ≡ 1)) → (before σ τ ≡ true → before τ σ ≡ false)
        → before (y ∷ τ) (x ∷ σ) ≡ false
    go (inl c) r = rw c.0 (before_same y τ σ ∙ r c.1)
    go (inr c) r = rw (ne_eqb y x (λ e. c.0 (sym e))) (ne_eqb y 1 (λ e. c.0 (c.1 ∙ sym e)))

-- What comes before an earlier one comes before a later one.
pub before_transitive : (σ τ ρ : List ℕ) → before σ τ ≡ true → before τ ρ ≡ true → before σ ρ ≡ true
unfolding before
before_transitive [] τ ρ h k = absurd (false≢true h)
before_transitive (x ∷ σ) [] ρ h k = absurd (false≢true h)
before_transitive (x ∷ σ) (y ∷ τ) [] h k = absurd (false≢true k)
before_transitive (x ∷ σ) (y ∷ τ) (z ∷ ρ) h k =
    go (before_cases x y σ τ h) (before_cases y z τ ρ k) (λ i j. before_transitive σ τ ρ i j)
  where
    go : ((x ≡ y) × (before σ τ ≡ true)) ⊎ ((x ≡ y → ⊥) × (x ≡ 1)) → ((y ≡ z) × (before τ ρ ≡ true)) ⊎ ((y ≡ z → ⊥) × (y ≡ 1))
        → (before σ τ ≡ true → before τ ρ ≡ true → before σ ρ ≡ true) → before (x ∷ σ) (z ∷ ρ) ≡ true
    go (inl a) (inl b) r = rw (a.0, b.0) (before_same z σ ρ ∙ r a.1 b.1)
    go (inl a) (inr b) r = before_first x z σ ρ (λ e. b.0 (sym a.0 ∙ e)) (a.0 ∙ b.1)
    go (inr a) (inl b) r = before_first x z σ ρ (λ e. a.0 (e ∙ sym b.0)) a.1
    go (inr a) (inr b) r = absurd (a.0 (a.1 ∙ sym b.1))

-- ---- one state of a setting
pub one_or_two : (x : ℕ) → keeps 0 x ≡ true → (x ≡ 1) ⊎ (x ≡ 2)
one_or_two x h = ⊎_elim (λ e. inl (eqb-true x 1 e)) (λ e. inr (eqb-true x 2 e)) (or_cases (eqb x 1) (eqb x 2) h)

pub head_kept : (f x : ℕ) (fs σ : List ℕ) → is_setting (f ∷ fs) (x ∷ σ) ≡ true → keeps f x ≡ true
unfolding is_setting
head_kept f x fs σ h = and_elim_left (keeps f x) (is_setting fs σ) h

pub tail_setting : (f x : ℕ) (fs σ : List ℕ) → is_setting (f ∷ fs) (x ∷ σ) ≡ true → is_setting fs σ ≡ true
unfolding is_setting
tail_setting f x fs σ h = and_elim_right (keeps f x) (is_setting fs σ) h

-- Two states that an element may have: they are the same, or one of them is 1.
one_of_two : (f x y : ℕ) → keeps f x ≡ true → keeps f y ≡ true → (x ≡ y → ⊥) → (x ≡ 1) ⊎ (y ≡ 1)
one_of_two zero x y h k n = go (one_or_two x h) (one_or_two y k)
  where
    go : (x ≡ 1) ⊎ (x ≡ 2) → (y ≡ 1) ⊎ (y ≡ 2) → (x ≡ 1) ⊎ (y ≡ 1)
    go (inl a) b = inl a
    go (inr a) (inl b) = inr b
    go (inr a) (inr b) = absurd (n (a ∙ sym b))
one_of_two (suc f) x y h k n = absurd (n (eqb-true x (suc f) h ∙ sym (eqb-true y (suc f) k)))

-- Of two different settings, one comes before the other.
pub before-total : (fs σ τ : List ℕ) → is_setting fs σ ≡ true → is_setting fs τ ≡ true → (σ ≡ τ → ⊥)
    → (before σ τ ≡ true) ⊎ (before τ σ ≡ true)
unfolding is_setting
before-total [] [] [] h k n = absurd (n refl)
before-total [] [] (y ∷ τ) h k n = absurd (false≢true k)
before-total [] (x ∷ σ) τ h k n = absurd (false≢true h)
before-total (f ∷ fs) [] τ h k n = absurd (false≢true h)
before-total (f ∷ fs) (x ∷ σ) [] h k n = absurd (false≢true k)
before-total (f ∷ fs) (x ∷ σ) (y ∷ τ) h k n =
    go (eqb x y) refl (λ m. before-total fs σ τ (tail_setting f x fs σ h) (tail_setting f y fs τ k) m)
  where
    go : (t : Bool) → eqb x y ≡ t → ((σ ≡ τ → ⊥) → (before σ τ ≡ true) ⊎ (before τ σ ≡ true))
        → (before (x ∷ σ) (y ∷ τ) ≡ true) ⊎ (before (y ∷ τ) (x ∷ σ) ≡ true)
    go true e r =
        let q : x ≡ y = eqb-true x y e in
        ⊎_elim
        (λ i. inl (rw q (before_same y σ τ ∙ i)))
        (λ i. inr (rw q (before_same y τ σ ∙ i)))
        (r (λ m. n (ap₂ (λ (a : ℕ) (l : List ℕ). a ∷ l) q m)))
    go false e r =
        let d : x ≡ y → ⊥ = eqb-false x y e in
        ⊎_elim
        (λ i. inl (before_first x y σ τ d i))
        (λ i. inr (before_first y x τ σ (λ q. d (sym q)) i))
        (one_of_two f x y (head_kept f x fs σ h) (head_kept f y fs τ k) d)

-- ---- a setting, element by element
-- A setting has a state for each element.
pub setting_length : (fs σ : List ℕ) → is_setting fs σ ≡ true → length σ ≡ length fs
unfolding is_setting
setting_length [] [] h = refl
setting_length [] (x ∷ σ) h = absurd (false≢true h)
setting_length (f ∷ fs) [] h = absurd (false≢true h)
setting_length (f ∷ fs) (x ∷ σ) h = ap suc (setting_length fs σ (tail_setting f x fs σ h))

-- Each state of a setting is one that the file allows.
pub setting_keeps : (fs σ : List ℕ) → is_setting fs σ ≡ true → (i : ℕ) → i < length fs → keeps (get_or fs i 0) (get_or σ i 0) ≡ true
unfolding is_setting
setting_keeps [] σ h i b = absurd (not-suc-le-zero b)
setting_keeps (f ∷ fs) [] h i b = absurd (false≢true h)
setting_keeps (f ∷ fs) (x ∷ σ) h zero b = head_kept f x fs σ h
setting_keeps (f ∷ fs) (x ∷ σ) h (suc i) b = setting_keeps fs σ (tail_setting f x fs σ h) i (le_of_suc-le-suc b)

-- The open elements are at 1 or 2.
pub gives_open : (fs σ : List ℕ) → is_setting fs σ ≡ true → (i : ℕ) → i < length fs → get_or fs i 0 ≡ 0
    → (get_or σ i 0 ≡ 1) ⊎ (get_or σ i 0 ≡ 2)
gives_open fs σ h i b e = one_or_two (get_or σ i 0) (rw e at (setting_keeps fs σ h i b))

-- ---- the list of all settings
starting_length : (x : ℕ) (l : List (List ℕ)) → length (starting x l) ≡ length l
starting_length x l = length-map l (λ (σ : List ℕ). x ∷ σ)

-- There are 2 to the power of the number of open elements settings.
pub settings-length : (fs : List ℕ) → length (settings fs) ≡ 2 ^ open_count fs
unfolding settings open_count
settings-length [] = refl
settings-length (zero ∷ fs) =
    let l = settings fs in
    length-append (starting 1 l) (starting 2 l)
    ∙ omega (arith, settings-length fs, pow-suc 2 (open_count fs), starting_length 1 l, starting_length 2 l)
settings-length (suc f ∷ fs) = starting_length (suc f) (settings fs) ∙ settings-length fs

-- A setting with one element more in front.
setting_more : (f x : ℕ) (fs σ : List ℕ) → keeps f x ≡ true → ((τ : List ℕ) → In τ (settings fs) → is_setting fs τ ≡ true)
    → In σ (starting x (settings fs)) → is_setting (f ∷ fs) σ ≡ true
unfolding is_setting
setting_more f x fs σ k r h = let m = in_map (◌∷◌ x) (settings fs) σ h in rw (m.2, k) (r m.0 m.1)

-- Each entry is a setting.
pub settings_sound : (fs σ : List ℕ) → In σ (settings fs) → is_setting fs σ ≡ true
unfolding settings is_setting
settings_sound [] σ (inl e) = rw e
settings_sound [] σ (inr h) = absurd h
settings_sound (zero ∷ fs) σ h =
    ⊎_elim
    (setting_more 0 1 fs σ refl (λ τ i. settings_sound fs τ i))
    (setting_more 0 2 fs σ refl (λ τ i. settings_sound fs τ i))
    (in_append σ (starting 1 (settings fs)) (starting 2 (settings fs)) h)
settings_sound (suc f ∷ fs) σ h =
    setting_more (suc f) (suc f) fs σ (eq-eqb (suc f) (suc f) refl) (λ τ i. settings_sound fs τ i) h

-- Each setting is an entry.
pub settings_complete : (fs σ : List ℕ) → is_setting fs σ ≡ true → In σ (settings fs)
unfolding settings is_setting
settings_complete [] [] h = inl refl
settings_complete [] (x ∷ σ) h = absurd (false≢true h)
settings_complete (zero ∷ fs) [] h = absurd (false≢true h)
settings_complete (suc f ∷ fs) [] h = absurd (false≢true h)
settings_complete (zero ∷ fs) (x ∷ σ) h = grind (arith, in_left, in_right, map_in, settings_complete fs σ (tail_setting 0 x fs σ h))
settings_complete (suc f ∷ fs) (x ∷ σ) h = grind (arith, map_in, settings_complete fs σ (tail_setting (suc f) x fs σ h))

sorted_starting : (x : ℕ) (l : List (List ℕ)) → Sorted l → Sorted (starting x l)
sorted_starting x = pairwise_map Before Before (◌∷◌ x) (λ σ τ b. before_same x σ τ ∙ b)

-- The entries come in the order of settings.
pub settings-sorted : (fs : List ℕ) → Sorted (settings fs)
unfolding settings
settings-sorted [] = (λ τ i. absurd i, tt)
settings-sorted (zero ∷ fs) =
    let l = settings fs in
    pairwise_append Before (starting 1 l) (starting 2 l) (sorted_starting 1 l (settings-sorted fs)) (sorted_starting 2 l (settings-sorted fs))
    λ σ τ i j.
    let m = in_map (◌∷◌ 1) l σ i in
    let n = in_map (◌∷◌ 2) l τ j in
    rw (m.2, n.2) (before_first 1 2 m.0 n.0 (λ e. omega arith) refl)
settings-sorted (suc f ∷ fs) = sorted_starting (suc f) (settings fs) (settings-sorted fs)

-- In a list in order, entry i comes before a later one.
pub sorted_get : (l : List (List ℕ)) → Sorted l → (i j : ℕ) (d : List ℕ) → i < j → j < length l → before (get_or l i d) (get_or l j d) ≡ true
sorted_get [] h i j d a b = absurd (not-suc-le-zero b)
sorted_get (σ ∷ l) h i zero d a b = absurd (not-suc-le-zero a)
sorted_get (σ ∷ l) h zero (suc j) d a b = h.0 (get_or l j d) (in_get l j d (le_of_suc-le-suc b))
sorted_get (σ ∷ l) h (suc i) (suc j) d a b = sorted_get l h.1 i j d (le_of_suc-le-suc a) (le_of_suc-le-suc b)

-- What is in order has no entry twice.
pub sorted-once : (l : List (List ℕ)) → Sorted l → Once l
sorted-once [] h = h
sorted-once (σ ∷ l) h = (λ i. false≢true (sym (before_irreflexive σ) ∙ h.0 σ i), sorted-once l h.1)

-- No setting comes twice.
pub settings-once : (fs : List ℕ) → Once (settings fs)
settings-once fs = sorted-once (settings fs) (settings-sorted fs)

-- ---- the settings that pass a test
-- An entry that is kept was there, and passes the test.
pub of_keep : (f : List ℕ → Bool) (l : List (List ℕ)) (σ : List ℕ) → In σ (keep f l) → In σ l × (f σ ≡ true)
unfolding keep
of_keep f [] σ h = absurd h
of_keep f (τ ∷ l) σ h = go (f τ) refl h (λ i. of_keep f l σ i)
  where
    go : (t : Bool) → f τ ≡ t → In σ (cond t (τ ∷ keep f l) (keep f l)) → (In σ (keep f l) → In σ l × (f σ ≡ true))
        → ((σ ≡ τ) ⊎ In σ l) × (f σ ≡ true)
    go true e (inl q) r = (inl q, rw q e)
    go true e (inr i) r = (inr (r i).0, (r i).1)
    go false e i r = (inr (r i).0, (r i).1)

-- An entry that passes the test is kept.
pub in_keep : (f : List ℕ → Bool) (l : List (List ℕ)) (σ : List ℕ) → In σ l → f σ ≡ true → In σ (keep f l)
unfolding keep
in_keep f [] σ h k = h
in_keep f (τ ∷ l) σ (inl e) k = rw (← e, k) (inl refl)
in_keep f (τ ∷ l) σ (inr h) k = grind (arith, in_keep f l σ h k)

-- What is kept stays in order.
pub keep-sorted : (f : List ℕ → Bool) (l : List (List ℕ)) → Sorted l → Sorted (keep f l)
unfolding keep
keep-sorted f [] h = h
keep-sorted f (σ ∷ l) h = grind (arith, of_keep, keep-sorted f l h.1)
