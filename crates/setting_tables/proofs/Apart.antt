-- Trains apart by a union of reaches, train after train: a train that does not meet the union of some others is apart from them
-- (`apart_add`), one that meets it shares a section with one of them (`shared-add`).
use mathlib.Core.Path.{◌≡◌, sym, subst, ◌∙◌}
use mathlib.Core.Logic.{◌⊎◌, ⊎_elim}
use mathlib.Core.Bool.{Bool, true, false, ◌&&◌, ◌||◌, false≢true}
use mathlib.Mathlib.Data.Bool.Basic.{or_inl, or_inr, and_intro}
use Prim.Native.Nat.{ℕ, ◌≤◌}
use Rattle.basics.specs.Numbers.{found, lowest}
use Rattle.basics.proofs.Tests.{or_cases, and_both}
use Rattle.basics.proofs.Numbers.{found-lowest, found_passes}
use Rattle.setting_tables.specs.Trains.{Union, Apart, Shared}

-- ---- the same trains, otherwise said
module _ {R S : ℕ → ℕ → Bool} {P Q : ℕ → Type 0} (same : (t c : ℕ) → P t → R t c ≡ S t c) where
  -- Among more of them two share a section too.
  pub shared-over : ((t : ℕ) → P t → Q t) → Shared R P → Shared S Q
  shared-over to w = record {
    first = w.first;
    second = w.second;
    section = w.section;
    first_is = to w.first w.first_is;
    second_is = to w.second w.second_is;
    first_reaches = sym (same w.first w.section w.first_is) ∙ w.first_reaches;
    second_reaches = sym (same w.second w.section w.second_is) ∙ w.second_reaches;
    different = w.different;
  }

-- ---- no train, and one train more
-- No train: nothing is reached.
pub union_none : {R : ℕ → ℕ → Bool} {P : ℕ → Type 0} {U : ℕ → Bool} → ((t : ℕ) → P t → ⊥) → ((c : ℕ) → U c ≡ false) → Union R P U
union_none none empty = record {
  covers = λ t c p h. absurd (none t p);
  from = λ c h. absurd (false≢true (sym (empty c) ∙ h));
}

-- The trains Q are the trains P and train t.
pub record With (P : ℕ → Type 0) (t : ℕ) (Q : ℕ → Type 0) : Type 0 where
  pub new : P t → ⊥
  pub here : Q t
  pub others : (u : ℕ) → P u → Q u
  pub only : (u : ℕ) → Q u → (P u) ⊎ (u ≡ t)

-- Two sets have a section in common.
abbrev pub meeting : (ℕ → Bool) → (ℕ → Bool) → Bool
meeting r U = found (lowest 512 (λ c. r c && U c))

module _ {R : ℕ → ℕ → Bool} {P Q : ℕ → Type 0} {U r : ℕ → Bool} {t : ℕ} (more : With P t Q) (w : Union R P U)
    (is : (c : ℕ) → r c ≡ R t c) where
  -- The union with that train.
  pub union_add : {u : ℕ → Bool} → ((c : ℕ) → u c ≡ (U c || r c)) → Union R Q u
  union_add e = record {
    covers = λ v c q h.
        e c ∙ ⊎_elim (λ p. or_inl (U c) (r c) (w.covers v c p h)) (λ (s : v ≡ t). or_inr (U c) (r c) (is c ∙ (rw s at h)))
        (more.only v q);
    from = λ c h.
        ⊎_elim (λ g. let v = w.from c g in (v.0, more.others v.0 v.1, v.2)) (λ g. (t, more.here, sym (is c) ∙ g))
        (or_cases (U c) (r c) (sym (e c) ∙ h));
  }

  -- Where it meets the union, two share a section.
  pub shared-add : meeting r U ≡ true → Shared R Q
  shared-add h =
      let c : ℕ = lowest 512 (λ c. r c && U c) in
      let b = and_both (r c) (U c) (found_passes 512 (λ c. r c && U c) h).2 in
      let v = w.from c b.1 in
      record {
        first = v.0;
        second = t;
        section = c;
        first_is = more.others v.0 v.1;
        second_is = more.here;
        first_reaches = v.2;
        second_reaches = sym (is c) ∙ b.0;
        different = λ (s : v.0 ≡ t). more.new (subst P s v.1);
      }

  -- Where it does not, all are apart if the others are.
  pub apart_add : ((c : ℕ) → R t c ≡ true → (1 ≤ c) × (c ≤ 512)) → meeting r U ≡ false → Apart R P → Apart R Q
  apart_add range h a = λ u v c p q f g.
      ⊎_elim
      (λ pu. ⊎_elim (λ pv. a u v c pu pv f g) (λ (s : v ≡ t). absurd (clash u c pu f (rw s at g))) (more.only v q))
      (λ (s : u ≡ t). ⊎_elim (λ pv. absurd (clash v c pv g (rw s at f))) (λ (z : v ≡ t). s ∙ sym z) (more.only v q))
      (more.only u p)
    where
      clash : (u c : ℕ) → P u → R u c ≡ true → R t c ≡ true → ⊥
      clash u c p f g =
          let b = range c g in
          false≢true (sym h ∙ found-lowest 512 (λ c. r c && U c) c b.0 b.1 (and_intro (is c ∙ g) (w.covers u c p f)))
