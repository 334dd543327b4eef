-- How many pairs leave each section: of a set of no pair, and when a pair is added or taken away.
use mathlib.Core.Path.{◌≡◌, refl, sym, ◌∙◌}
use mathlib.Core.Bool.{true, false, ◌||◌, and-true, and-false}
use mathlib.Core.List.{List, []}
use Prim.Native.Nat.{ℕ, ◌+◌, ◌-◌, ◌≤◌, ◌<◌}
use native.Mathlib.Decide.{ℕ_discrete, dec_lt}
use native.Mathlib.Omega.{arith}
use lib.Dec.{eqb}
use lib.ListN.{get_or, set, replicate, length-set, length-replicate}
use lib.Seq.{get_or-set_same, get_or-set_other}
use Rattle.std.proofs.lemmas.List.{get_or_past}
use borrow.Author.Tests.{eq-eqb, ne_eqb}
use Rattle.basics.specs.Numbers.{count}
use Rattle.basics.proofs.Lists.{replicate_get}
use Rattle.basics.proofs.Numbers.{count_ext, count-le, count_more, count_none}
use Rattle.pairs.specs.declared.Pair.{Pair}
use Rattle.pairs.specs.Pairs.{Rows, edge, Represents, Adds, Removes, Outdegrees}

-- None leaves a section of a set of no pair.
pub outdegree_none : {t : Rows} → Represents t [] → Outdegrees t (replicate 512 0)
outdegree_none {t} none =
    record {
      size = length-replicate {A = ℕ} 512 0;
      each = λ a low high.
          replicate_get 512 (a - 1) 0 ∙ sym (count_ext 512 (edge t a) (λ k. false) (λ k l h. none a k) ∙ count_none 512);
    }

-- No section has more of them than there are sections.
pub outdegree_low : {t : Rows} {outdegree : List ℕ} → Outdegrees t outdegree → (i : ℕ) → get_or outdegree i 0 ≤ 512
outdegree_low {t} {outdegree} counted i = go (dec_lt i 512)
  where
    go : Dec (i < 512) → get_or outdegree i 0 ≤ 512
    go (yes l) =
        let e : i + 1 - 1 ≡ i = omega arith in
        omega (arith, rw e at (counted.each (i + 1) (omega arith) (omega arith)), count-le 512 (edge t (i + 1)))
    go (no l) = rw (get_or_past outdegree i 0 (omega (arith, counted.size))) (omega arith)

-- A table that differs in the pairs from one section alone: the count of those that leave it is stored.
outdegree-set : {t u : Rows} {outdegree : List ℕ} {a v : ℕ} → 1 ≤ a → a ≤ 512 → Outdegrees t outdegree → v ≡ count 512 (edge u a)
    → ((x k : ℕ) → (x ≡ a → ⊥) → edge t x k ≡ edge u x k) → Outdegrees u (set outdegree (a - 1) v)
outdegree-set {t} {u} {outdegree} {a} {v} la ha counted is others =
    record {
      size = length-set outdegree (a - 1) v ∙ counted.size;
      each = λ x lx hx. elim (ℕ_discrete x a) [
        | yes e ↦ rw e (get_or-set_same outdegree (a - 1) v 0 (omega (arith, counted.size)) ∙ is)
        | no n ↦ get_or-set_other outdegree (a - 1) (x - 1) v 0 (λ e. n (omega arith)) ∙ counted.each x lx hx
            ∙ count_ext 512 (edge t x) (edge u x) (λ k l h. others x k n)
      ];
    }

module _ (p : Pair) where
  abbrev a : ℕ
  a = p.from.0

  abbrev b : ℕ
  b = p.to.0

  module _ {t : Rows} {outdegree : List ℕ} (counted : Outdegrees t outdegree) where
    here : get_or outdegree (a - 1) 0 ≡ count 512 (edge t a)
    here = let r = p.are_sections in counted.each a r.0.0 r.0.1

    -- A new one is counted with those that leave its first section.
    pub outdegree_more : {u : Rows} → edge t p.from.0 p.to.0 ≡ false → Adds t p.from.0 p.to.0 u
        → Outdegrees u (set outdegree (p.from.0 - 1) (get_or outdegree (p.from.0 - 1) 0 + 1))
    outdegree_more {u} new added =
        let r = p.are_sections in
        outdegree-set r.0.0 r.0.1 counted
        (rw here (sym (count_more 512 (edge t a) (edge u a) b r.1.0 r.1.1 new (λ k l h. added.pairs a k ∙ rw (eq-eqb a a refl)))))
        (λ x k n. sym (added.pairs x k ∙ rw (ne_eqb x a n)))

    -- One that is there, taken away, could be added again: that undoes it.
    module _ {u : Rows} (there : edge t p.from.0 p.to.0 ≡ true) (removed : Removes t p.from.0 p.to.0 u) where
      gone : edge u a b ≡ false
      gone = removed.pairs a b ∙ rw (eq-eqb a a refl, eq-eqb b b refl) (and-false (edge t a b))

      again : (k : ℕ) → edge t a k ≡ (eqb k b || edge u a k)
      again k = elim (ℕ_discrete k b) [
        | yes e ↦ rw (e, there, eq-eqb b b refl)
        | no n ↦ rw (ne_eqb k b n) (sym (removed.pairs a k ∙ rw (eq-eqb a a refl, ne_eqb k b n) (and-true (edge t a k))))
      ]

      one_more : get_or outdegree (a - 1) 0 ≡ count 512 (edge u a) + 1
      one_more = let r = p.are_sections in here ∙ count_more 512 (edge u a) (edge t a) b r.1.0 r.1.1 gone (λ k l h. again k)

      pub some_leaves : 1 ≤ get_or outdegree (p.from.0 - 1) 0
      some_leaves = omega (arith, one_more)

      pub outdegree_less : Outdegrees u (set outdegree (p.from.0 - 1) (get_or outdegree (p.from.0 - 1) 0 - 1))
      outdegree_less =
          let r = p.are_sections in
          outdegree-set r.0.0 r.0.1 counted (omega (arith, one_more)) (λ x k n. sym (removed.pairs x k ∙ rw (ne_eqb x a n) (and-true (edge t x k))))
