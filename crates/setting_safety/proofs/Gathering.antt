-- Words gathered over the set bits of a number, one after another (`Gathered`), and tables filled so (`Tabled`).
use Rattle.std.proofs.Common.{◌≡◌, refl, sym, ap, ◌∙◌, ◌⊎◌, inl, inr, Bool, true, false, not, ◌&&◌, ◌||◌, List, ℕ, ◌-◌, ◌<◌, ◌^◌, bit_and, bit_or, length, get_or, arith}
use mathlib.Core.Logic.{⊎_elim}
use mathlib.Core.Bool.{false≢true}
use mathlib.Mathlib.Data.Bool.Basic.{or_inl, or_inr, and_intro}
use lib.Dec.{eqb}
use mathlib.Core.Path.{subst}
use lib.ListN.{set, length-set, replicate, length-replicate}
use Rattle.basics.proofs.Lists.{replicate_get}
use lib.Seq.{get_or-set_same, get_or-set_other}
use native.Mathlib.Decide.{ℕ_discrete}
use borrow.Author.Tests.{eq-eqb}
use Rattle.basics.proofs.Tests.{or_cases, and_both}
use Rattle.bits.specs.Bits.{bit, LowestBit}
use Rattle.bits.proofs.Bits.{bit-zero, bit_and_lem, bit_or_lem, bit_not, bit_bound}
use Rattle.setting_safety.specs.declared.Followed.{Followed}
use Rattle.setting_safety.specs.Followed.{in_setting, Gathered, Listed, InDanger, Joins}
use Rattle.setting_tables.proofs.Leaving.{passed}

-- The bits of a without those of b.
pub bit_without : (a b : ℕ) → a < 2 ^ 64 → b < 2 ^ 64 → (x : ℕ) → bit (bit_and a ((2 ^ 64 - 1) - b)) x ≡ (bit a x && not (bit b x))
bit_without a b fits below x = bit_and_lem a ((2 ^ 64 - 1) - b) x ∙ go (bit a x) refl
  where
    go : (t : Bool) → bit a x ≡ t → (t && bit ((2 ^ 64 - 1) - b) x) ≡ (t && not (bit b x))
    go false f = refl
    go true f = bit_not 64 b x below (bit_bound 64 a x fits f)

-- The bits to come are among those of w.
pub record Among (w left : ℕ) : Type 0 where
  pub in_all : (e : ℕ) → bit left e ≡ true → bit w e ≡ true

pub among_start : (w : ℕ) → Among w w
among_start w = record { in_all = λ e h. h }

module _ {left t rest : ℕ} (l : LowestBit left t rest) where
  pub among_turn : {w : ℕ} → Among w left → Among w rest
  among_turn a = record { in_all = λ d h. a.in_all d (and_both (bit left d) (not (eqb d t)) (sym (l.rest d) ∙ h)).0 }

  pub gathered_turn : {P : ℕ → ℕ → Type 0} {w u : ℕ} (v : ℕ) → Among w left → Gathered P w left u
      → ((x : ℕ) → bit v x ≡ true → P t x) → ((x : ℕ) → P t x → bit v x ≡ true) → Gathered P w rest (bit_or u v)
  gathered_turn {u = u} v a g sound complete = record {
    sound = λ x h. ⊎_elim (g.sound x) (λ k. (t, a.in_all t l.here, sound x k)) (or_cases (bit u x) (bit v x) (sym (bit_or_lem u v x) ∙ h));
    complete = λ e x h n p.
        bit_or_lem u v x
        ∙ ⊎_elim (λ (z : e ≡ t). or_inr (bit u x) (bit v x) (complete x (rw z at p))) (λ z. or_inl (bit u x) (bit v x) (g.complete e x h z p)) (passed l e n);
  }

pub gathered_start : {P : ℕ → ℕ → Type 0} (w : ℕ) → Gathered P w w 0
gathered_start w = record {
  sound = λ x h. absurd (false≢true (sym (bit-zero x) ∙ h));
  complete = λ e x h n p. absurd (false≢true (sym n ∙ h));
}

-- Each of n rows that is not to come is as P says.
pub record Tabled (P : ℕ → ℕ → Type 0) (n left : ℕ) (table : List ℕ) : Type 0 where
  pub size : length table ≡ n
  pub row : (e : ℕ) → e < n → bit left e ≡ false → P e (get_or table e 0)

pub tabled_start : {P : ℕ → ℕ → Type 0} (n w : ℕ) → ((e : ℕ) → e < n → bit w e ≡ false → P e 0) → Tabled P n w (replicate n 0)
tabled_start {P} n w none = record {
  size = length-replicate n 0;
  row = λ e l h. subst (P e) (sym (replicate_get n e 0)) (none e l h);
}

pub tabled_turn : {P : ℕ → ℕ → Type 0} {n left t rest v : ℕ} {table : List ℕ} → LowestBit left t rest → Tabled P n left table → P t v
    → Tabled P n rest (set table t v)
tabled_turn {P} {n} {left} {t} {v = v} {table = table} l b p = record {
  size = length-set table t v ∙ b.size;
  row = λ e low q. go e low (passed l e q) (ℕ_discrete e t);
}
  where
    go : (e : ℕ) → e < n → (e ≡ t) ⊎ (bit left e ≡ false) → Dec (e ≡ t) → P e (get_or (set table t v) e 0)
    go e low q (yes z) = rw (z, get_or-set_same table t v 0 (omega (arith, b.size, rw z at low))) p
    go e low q (no z) = rw (get_or-set_other table t e v 0 z) (b.row e low (⊎_elim (λ (y : e ≡ t). absurd (z y)) (λ y. y) q))

-- ---- the danger of one open move
module _ (r earlier : Followed) (harms : ℕ) (overlaps : List ℕ) (e : ℕ) where
  -- It harms the train, or not: then those that earlier trains follow are looked at.
  pub harm_sound : bit harms e ≡ true → (x : ℕ) → in_setting r.settings x e ≡ true → InDanger r earlier harms overlaps e x
  harm_sound h x a = (a, inl h)

  module _ (h : bit harms e ≡ false) (listed : Listed earlier) {met : ℕ}
      (g : Gathered (λ f x. in_setting earlier.settings x f ≡ true) (bit_and (get_or overlaps e 0) earlier.moves) 0 met) where
    pub met_sound : (x : ℕ) → bit (bit_and (get_or r.settings e 0) met) x ≡ true → InDanger r earlier harms overlaps e x
    met_sound x k =
        let b = and_both (in_setting r.settings x e) (bit met x) (sym (bit_and_lem (get_or r.settings e 0) met x) ∙ k) in
        let m = g.sound x b.1 in
        (b.0, inr (m.0, (and_both (bit (get_or overlaps e 0) m.0) (bit earlier.moves m.0) (sym (bit_and_lem (get_or overlaps e 0) earlier.moves m.0) ∙ m.1)).0, m.2))

    pub met_complete : (x : ℕ) → InDanger r earlier harms overlaps e x → bit (bit_and (get_or r.settings e 0) met) x ≡ true
    met_complete x d =
        bit_and_lem (get_or r.settings e 0) met x
        ∙ and_intro d.0
        (⊎_elim (λ k. absurd (false≢true (sym h ∙ k)))
        (λ m. g.complete m.0 x (bit_and_lem (get_or overlaps e 0) earlier.moves m.0 ∙ and_intro m.1 (listed.some m.0 x m.2)) (bit-zero m.0) m.2)
        d.1)

-- ---- what two follow
module _ {a b : Followed} where
  pub joins_start : {moves : ℕ} → Listed b → ((e : ℕ) → bit moves e ≡ (bit a.moves e || bit b.moves e))
      → Joins a b b.moves (record { settings = a.settings; moves = moves; waiting = a.waiting })
  joins_start listed is = record {
    size = refl;
    settings = λ e x n. both (in_setting a.settings x e) (in_setting b.settings x e) (λ h. false≢true (sym n ∙ listed.some e x h));
    left_out = λ e h. refl;
    moves = is;
  }
    where
      both : (p q : Bool) → (q ≡ true → ⊥) → p ≡ (p || q)
      both true q h = refl
      both false true h = absurd (h refl)
      both false false h = refl

  pub joins_turn : {left t rest : ℕ} {settings : List ℕ} {moves waiting : ℕ} → LowestBit left t rest → t < length a.settings
      → Joins a b left (record { settings = settings; moves = moves; waiting = waiting })
      → Joins a b rest (record { settings = set settings t (bit_or (get_or settings t 0) (get_or b.settings t 0)); moves = moves; waiting = waiting })
  joins_turn {left} {t} {rest} {settings} l low j = record {
    size = length-set settings t v ∙ j.size;
    settings = λ e x n. go e x (passed l e n) (ℕ_discrete e t);
    left_out = λ e h.
        let w = and_both (bit left e) (not (eqb e t)) (sym (l.rest e) ∙ h) in
        get_or-set_other settings t e v 0 (differ e w.1) ∙ j.left_out e w.0;
    moves = j.moves;
  }
    where
      v : ℕ
      v = bit_or (get_or settings t 0) (get_or b.settings t 0)

      differ : (e : ℕ) → not (eqb e t) ≡ true → e ≡ t → ⊥
      differ e h z = false≢true (rw (eq-eqb e t z) at h)

      go : (e x : ℕ) → (e ≡ t) ⊎ (bit left e ≡ false) → Dec (e ≡ t)
          → in_setting (set settings t v) x e ≡ (in_setting a.settings x e || in_setting b.settings x e)
      go e x q (yes z) =
          rw (z, get_or-set_same settings t v 0 (omega (arith, j.size)))
          (bit_or_lem (get_or settings t 0) (get_or b.settings t 0) x ∙ ap (λ (w : ℕ). bit w x || in_setting b.settings x t) (j.left_out t l.here))
      go e x q (no z) =
          rw (get_or-set_other settings t e v 0 z) (j.settings e x (⊎_elim (λ (y : e ≡ t). absurd (z y)) (λ y. y) q))
