-- The answer to a settings question, at the level of definitions: `none_exactly` says when it is "no safe setting", and `chosen-best` that
-- otherwise it has the number of safe settings and the proceed count of the chosen one, which is the first of those with the highest count.
-- `choose_in` and `choose-best` say this of any list in order and any count; `safe` is used only as a test.
use mathlib.Core.Path.{◌≡◌, refl, sym, ap, ◌∙◌}
use mathlib.Core.Logic.{◌⊎◌, inl, inr, ⊎_elim, ◌↔◌}
use mathlib.Core.Bool.{Bool, true, false, cond, false≢true}
use mathlib.Core.List.{List, [], ◌∷◌}
use Prim.Native.Nat.{ℕ, ◌≤◌, ◌<◌}
use native.Mathlib.Omega.{arith}
use lib.Dec.{ltb}
use lib.ListN.{length}
use borrow.Author.Tests.{ltb-true, ltb-false}
use Rattle.std.specs.Prelude.{Some, None}
use Rattle.meaning.specs.declared.Choice.{Choice}
use Rattle.meaning.specs.declared.Situation.{Situation}
use Rattle.meaning.specs.Station.{file_states}
use Rattle.meaning.specs.Verdict.{safe}
use Rattle.meaning.specs.Settings.{is_setting, before, settings, proceed_count, safe_settings, best, choose, chosen, reply_of, reply}
use Rattle.basics.specs.Lists.{In, Once}
use Rattle.meaning.proofs.Settings.{Sorted, before_irreflexive, before_transitive, sorted-once, of_keep, in_keep, keep-sorted}
use Rattle.meaning.proofs.Settings.{settings_sound, settings_complete, settings-sorted}

-- ---- the first with the highest count
-- τ ranks below b: it has a lower count, or an equal one and comes later.
abbrev pub Below : (List ℕ → ℕ) → List ℕ → List ℕ → Type 0
Below count b τ = (count τ < count b) ⊎ ((count τ ≡ count b) × (before b τ ≡ true))

below_le : (count : List ℕ → ℕ) (b τ : List ℕ) → (τ ≡ b) ⊎ Below count b τ → count τ ≤ count b
below_le count b τ h = grind arith

-- What is b or ranks below it ranks below whatever b ranks below.
pub below_through : (count : List ℕ → ℕ) (σ b τ : List ℕ) → Below count σ b → (τ ≡ b) ⊎ Below count b τ → Below count σ τ
below_through count σ b τ h h2 = grind (arith, before_transitive)

-- Nothing ranks below itself.
below_irreflexive : (count : List ℕ → ℕ) (σ : List ℕ) → Below count σ σ → ⊥
below_irreflexive count σ h = grind (arith, before_irreflexive)

-- What comes after σ, and has no higher count, ranks below whatever σ is or ranks below.
below_later : (count : List ℕ → ℕ) (b σ τ : List ℕ) → (σ ≡ b) ⊎ Below count b σ → count τ ≤ count σ → before σ τ ≡ true → Below count b τ
below_later count b σ τ w h k = grind (arith, before_transitive)

best_in : (count : List ℕ → ℕ) (σ : List ℕ) (l : List (List ℕ)) → In (best count σ l) (σ ∷ l)
unfolding best
best_in count σ [] = inl refl
best_in count σ (τ ∷ l) = go (ltb (count σ) (count τ)) (λ ρ. best_in count ρ l)
  where
    go : (t : Bool) → ((ρ : List ℕ) → In (best count ρ l) (ρ ∷ l)) → In (best count (cond t τ σ) l) (σ ∷ τ ∷ l)
    go true r = inr (r τ)
    go false r = ⊎_elim (λ e. inl e) (λ i. inr (inr i)) (r σ)

best_first : (count : List ℕ → ℕ) (σ : List ℕ) (l : List (List ℕ)) → Sorted (σ ∷ l) → (τ : List ℕ) → In τ (σ ∷ l)
    → (τ ≡ best count σ l) ⊎ Below count (best count σ l) τ
unfolding best
best_first count σ [] h τ (inl e) = inl e
best_first count σ [] h τ (inr i) = absurd i
best_first count σ (ρ ∷ l) h τ i = go (ltb (count σ) (count ρ)) refl (λ b k x j. best_first count b l k x j) i
  where
    rest : Sorted (σ ∷ l)
    rest = (λ x j. h.0 x (inr j), h.1.1)

    go : (t : Bool) → ltb (count σ) (count ρ) ≡ t
        → ((b : List ℕ) → Sorted (b ∷ l) → (x : List ℕ) → In x (b ∷ l) → (x ≡ best count b l) ⊎ Below count (best count b l) x)
        → In τ (σ ∷ ρ ∷ l) → (τ ≡ best count (cond t ρ σ) l) ⊎ Below count (best count (cond t ρ σ) l) τ
    go true e r (inl q) =
        let c : count τ ≡ count σ = ap count q in
        inr (inl (omega (arith, below_le count (best count ρ l) ρ (r ρ h.1 ρ (inl refl)), ltb-true)))
    go true e r (inr j) = r ρ h.1 τ j
    go false e r (inl q) = r σ rest τ (inl q)
    go false e r (inr (inl q)) =
        let c : count τ ≤ count σ = rw q (ltb-false (count σ) (count ρ) e) in
        inr (below_later count (best count σ l) σ τ (r σ rest σ (inl refl)) c (h.0 τ (inl q)))
    go false e r (inr (inr j)) = r σ rest τ (inr j)

-- The chosen one is an entry.
choose_in : (count : List ℕ → ℕ) (l : List (List ℕ)) → 0 < length l → In (choose count l) l
unfolding choose
choose_in count l h = grind (arith, best_in)

-- Each entry of a list in order is the chosen one, or ranks below it.
choose-best : (count : List ℕ → ℕ) (l : List (List ℕ)) → Sorted l → (τ : List ℕ) → In τ l
    → (τ ≡ choose count l) ⊎ Below count (choose count l) τ
unfolding choose
choose-best count l h τ h2 = grind (arith, best_first)

-- Only the chosen one is an entry that every entry is, or ranks below.
pub choose_unique : (count : List ℕ → ℕ) (l : List (List ℕ)) → Sorted l → (σ : List ℕ) → In σ l
    → ((τ : List ℕ) → In τ l → (τ ≡ σ) ⊎ Below count σ τ) → choose count l ≡ σ
choose_unique count l h σ i top = go (top c (choose_in count l (some l i))) (choose-best count l h σ i)
  where
    c : List ℕ
    c = choose count l

    some : (m : List (List ℕ)) → In σ m → 0 < length m
    some [] j = absurd j
    some (τ ∷ m) j = omega arith

    go : (c ≡ σ) ⊎ Below count σ c → (σ ≡ c) ⊎ Below count c σ → c ≡ σ
    go (inl e) w = e
    go (inr k) w = absurd (below_irreflexive count σ (below_through count σ c σ k w))

-- ---- the safe settings of a situation
-- The listed settings are those that are safe.
pub in_safe_settings : (s : Situation) (σ : List ℕ) → In σ (safe_settings s) ↔ ((is_setting (file_states s) σ ≡ true) × (safe s σ ≡ true))
unfolding safe_settings
in_safe_settings s σ = grind (arith, in_keep, of_keep, settings_complete, settings_sound)

-- The safe settings are listed in the order of settings.
safe_settings-sorted : (s : Situation) → Sorted (safe_settings s)
unfolding safe_settings
safe_settings-sorted s = keep-sorted (safe s) (settings (file_states s)) (settings-sorted (file_states s))

-- No safe setting is listed twice.
pub safe_settings-once : (s : Situation) → Once (safe_settings s)
safe_settings-once s = sorted-once (safe_settings s) (safe_settings-sorted s)

-- ---- the answer
none_in : (l : List (List ℕ)) → ((σ : List ℕ) → In σ l → ⊥) → l ≡ []
none_in [] h = refl
none_in (σ ∷ l) h = absurd (h σ (inl refl))

some-safe : (n p : ℕ) (c : Choice) → reply_of n p ≡ Some c → (0 < n) × (c.safe ≡ n) × (c.proceed ≡ p)
some-safe n p c h = grind arith

-- With the answer "no safe setting", no setting is listed and none is chosen.
pub none_chosen : (s : Situation) → reply s ≡ None → (safe_settings s ≡ []) × (chosen s ≡ [])
unfolding reply
none_chosen s e = grind arith

pub none_listed : (s : Situation) → ((σ : List ℕ) → is_setting (file_states s) σ ≡ true → safe s σ ≡ false) → safe_settings s ≡ []
none_listed s f = none_in (safe_settings s) (λ σ i. let k = (in_safe_settings s σ).0 i in false≢true (sym (f σ k.0) ∙ k.1))

-- The answer is "no safe setting" exactly when no setting is safe.
pub none_exactly : (s : Situation)
    → (reply s ≡ None) ↔ ((σ : List ℕ) → is_setting (file_states s) σ ≡ true → safe s σ ≡ false)
unfolding reply
none_exactly s = grind (arith, in_safe_settings, none_listed)

-- What holds of a situation whose answer is the choice c.
pub record Chooses (s : Situation) (c : Choice) : Type 0 where
  -- The chosen one is a setting, and it is safe.
  pub chosen_setting : is_setting (file_states s) (chosen s) ≡ true
  pub chosen-safe : safe s (chosen s) ≡ true
  -- Every other safe setting has a lower proceed count, or an equal one and comes later.
  pub others_below : (τ : List ℕ) → is_setting (file_states s) τ ≡ true → safe s τ ≡ true → (τ ≡ chosen s → ⊥)
      → (proceed_count s τ < proceed_count s (chosen s)) ⊎ ((proceed_count s τ ≡ proceed_count s (chosen s)) × (before (chosen s) τ ≡ true))
  -- The answer has the number of safe settings and the proceed count of the chosen one.
  pub number : c.safe ≡ length (safe_settings s)
  pub proceed_count_lem : c.proceed ≡ proceed_count s (chosen s)

-- Any other answer is the choice of the best safe setting.
pub chosen-best : (s : Situation) (c : Choice) → reply s ≡ Some c → Chooses s c
unfolding reply
chosen-best s c e =
    let l = safe_settings s in
    let n = some-safe (length l) (proceed_count s (chosen s)) c e in
    let k = (in_safe_settings s (chosen s)).0 (choose_in (proceed_count s) l n.0) in
    record {
      chosen_setting = k.0;
      chosen-safe = k.1;
      others_below = λ τ h t d.
          ⊎_elim
          (λ q. absurd (d q))
          (λ w. w)
          (choose-best (proceed_count s) l (safe_settings-sorted s) τ ((in_safe_settings s τ).1 (h, t)));
      number = n.1;
      proceed_count_lem = n.2;
    }
