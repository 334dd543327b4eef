-- The open moves of a pair of sections, and what an element forbids by them.
use Rattle.std.proofs.Common.{◌≡◌, refl, sym, ap, ap₂, ◌∙◌, Bool, true, false, not, ◌&&◌, ◌||◌, [], ◌∷◌, ℕ, ◌-◌, ◌^◌, ◌≤◌, ◌<◌, bit_and, bit_or, get_or, arith}
use mathlib.Core.Bool.{or-false, and-false}
use lib.Dec.{eqb}
use borrow.Author.Tests.{lt-ltb}
use Rattle.meaning.specs.declared.Section.{Section}
use Rattle.meaning.specs.declared.Move.{Move}
use Rattle.meaning.specs.declared.Turnout.{Turnout}
use Rattle.meaning.specs.declared.Kind.{Kind}
use Rattle.meaning.specs.declared.Kind.TheVariants.{Signal, Turnout as Points}
use Rattle.meaning.specs.Station.{both_ways, moves_of, permitted, forbids}
use Rattle.meaning.proofs.Reach.{permitted-append}
use Rattle.moves.proofs.Loses.{signal_free, signal_forbids, forbids-both}
use Rattle.bits.proofs.Bits.{bit-zero, bit_or_lem, bit_and_lem, bit_not}
use Rattle.setting_tables.specs.declared.Ends.{Ends}
use Rattle.setting_tables.specs.Masks.{starts_at, ends_at, Selects}

-- ---- the open moves of some pairs
abbrev straight_of : Turnout → ℕ → ℕ → Bool
straight_of t = permitted (both_ways t.stem t.straight)

abbrev diverted_of : Turnout → ℕ → ℕ → Bool
diverted_of t = permitted (both_ways t.stem t.diverted)

but : (p q : Bool) → (q && not p) ≡ ((p || q) && not p)
but true q = and-false q
but false q = refl

but_swapped : (p q : Bool) → (p && not q) ≡ ((p || q) && not q)
but_swapped true q = refl
but_swapped false true = refl
but_swapped false false = refl

module _ {ends : Ends} where
  pub selects_same : (f g : ℕ → ℕ → Bool) {w : ℕ} → ((a b : ℕ) → f a b ≡ g a b) → Selects ends f w → Selects ends g w
  selects_same f g same sel = record { exactly = λ h ix e m l at. sel.exactly h ix e m l at ∙ same m.from.0 m.to.0 }

  -- Those from one section to another.
  pub along_selects : (a b : Section) → a.0 ≤ 512 → b.0 ≤ 512
      → Selects ends (permitted (record { from = a; to = b } ∷ [])) (bit_and (get_or ends.from.words a.0 0) (get_or ends.to b.0 0))
  along_selects a b low high = record {
    exactly = λ f ix e m l at.
        bit_and_lem (get_or ends.from.words a.0 0) (get_or ends.to b.0 0) e
        ∙ ap₂ ◌&&◌
        (ix.from a.0 e low ∙ ap₂ ◌&&◌ (lt-ltb e 48 l) (ap (starts_at a.0) at))
        (ix.to b.0 e high ∙ ap₂ ◌&&◌ (lt-ltb e 48 l) (ap (ends_at b.0) at))
        ∙ sym (or-false (eqb m.from.0 a.0 && eqb m.to.0 b.0));
  }

  -- Those between two sections, both ways.
  pub between_selects : (a b : Section) {v w : ℕ} → Selects ends (permitted (record { from = a; to = b } ∷ [])) v
      → Selects ends (permitted (record { from = b; to = a } ∷ [])) w → Selects ends (permitted (both_ways a b)) (bit_or v w)
  between_selects a b {v} {w} p q = record {
    exactly = λ f ix e m l at.
        bit_or_lem v w e
        ∙ ap₂ ◌||◌ (p.exactly f ix e m l at ∙ or-false (eqb m.from.0 a.0 && eqb m.to.0 b.0)) (q.exactly f ix e m l at);
  }

  -- Those that pass the first of two tests and not the second, those that pass one of two, and those that do not pass.
  but_selects : (f g : ℕ → ℕ → Bool) {v w : ℕ} → w < 2 ^ 64 → Selects ends f v → Selects ends g w
      → Selects ends (λ a b. f a b && not (g a b)) (bit_and v ((2 ^ 64 - 1) - w))
  but_selects f g {v} {w} fits p q = record {
    exactly = λ h ix e m l at.
        bit_and_lem v ((2 ^ 64 - 1) - w) e
        ∙ ap₂ ◌&&◌ (p.exactly h ix e m l at) (bit_not 64 w e fits (omega arith) ∙ ap not (q.exactly h ix e m l at));
  }

  pub either_selects : (f g : ℕ → ℕ → Bool) {v w : ℕ} → Selects ends f v → Selects ends g w
      → Selects ends (λ a b. f a b || g a b) (bit_or v w)
  either_selects f g {v} {w} p q =
      record { exactly = λ h ix e m l at. bit_or_lem v w e ∙ ap₂ ◌||◌ (p.exactly h ix e m l at) (q.exactly h ix e m l at) }

  pub not_selects : (f : ℕ → ℕ → Bool) {w : ℕ} → w < 2 ^ 64 → Selects ends f w → Selects ends (λ a b. not (f a b)) ((2 ^ 64 - 1) - w)
  not_selects f {w} fits p = record { exactly = λ h ix e m l at. bit_not 64 w e fits (omega arith) ∙ ap not (p.exactly h ix e m l at) }

  -- ---- what an element forbids
  pub signal_selects_none : {k : Kind} {x : ℕ} {m : Move} → k ≡ Signal m → x ≡ 1 → Selects ends (forbids k x) 0
  signal_selects_none {k} {x} {m} is h =
      record { exactly = λ f ix e n l at. bit-zero e ∙ sym (signal_free n.from.0 n.to.0 k m x is h) }

  pub signal_selects : {k : Kind} {x : ℕ} {m : Move} {w : ℕ} → k ≡ Signal m → (x ≡ 1 → ⊥) → Selects ends (permitted (m ∷ [])) w
      → Selects ends (forbids k x) w
  signal_selects {k} {x} {m} is h = selects_same (permitted (m ∷ [])) (forbids k x) (λ a b. signal_forbids a b k m x is h)

  module _ {k : Kind} {x : ℕ} {t : Turnout} {v w : ℕ} (is : k ≡ Points t) (straight : Selects ends (straight_of t) v)
      (diverted : Selects ends (diverted_of t) w) where
    pub straight_selects : x ≡ 1 → v < 2 ^ 64 → Selects ends (forbids k x) (bit_and w ((2 ^ 64 - 1) - v))
    unfolding moves_of
    straight_selects h fits =
        selects_same (λ a b. diverted_of t a b && not (straight_of t a b)) (forbids k x)
        (λ a b. rw (is, h, permitted-append (both_ways t.stem t.straight) (both_ways t.stem t.diverted) a b) (but (straight_of t a b) (diverted_of t a b)))
        (but_selects (diverted_of t) (straight_of t) fits diverted straight)

    pub diverted_selects : x ≡ 2 → w < 2 ^ 64 → Selects ends (forbids k x) (bit_and v ((2 ^ 64 - 1) - w))
    unfolding moves_of
    diverted_selects h fits =
        selects_same (λ a b. straight_of t a b && not (diverted_of t a b)) (forbids k x)
        (λ a b. rw (is, h, permitted-append (both_ways t.stem t.straight) (both_ways t.stem t.diverted) a b)
        (but_swapped (straight_of t a b) (diverted_of t a b)))
        (but_selects (straight_of t) (diverted_of t) fits straight diverted)

    pub legs_select : (x ≡ 1 → ⊥) → (x ≡ 2 → ⊥) → Selects ends (forbids k x) (bit_or v w)
    legs_select n m =
        selects_same (λ a b. straight_of t a b || diverted_of t a b) (forbids k x)
        (λ a b. sym (permitted-append (both_ways t.stem t.straight) (both_ways t.stem t.diverted) a b) ∙ forbids-both a b k t x is n m)
        (either_selects (straight_of t) (diverted_of t) straight diverted)
