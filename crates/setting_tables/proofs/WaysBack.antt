-- The exits of a closure without the ways back, which are taken out one after another.
use Rattle.std.proofs.Common.{◌≡◌, refl, sym, ◌∙◌, Bool, true, false, not, List, Option, Some, ℕ, ◌-◌, ◌^◌, ◌<◌, ◌+◌, bit_and, length, get_or, arith}
use mathlib.Core.Bool.{false≢true}
use mathlib.Mathlib.Data.Bool.Basic.{and_intro}
use native.Mathlib.Decide.{ℕ_discrete}
use lib.Dec.{eqb}
use lib.ListN.{set}
use lib.Seq.{get_or-set_same, get_or-set_other}
use lib.Pow.{pow-lt}
use borrow.Author.Tests.{ne_eqb}
use Rattle.meaning.specs.declared.Move.{Move}
use Rattle.basics.proofs.Tests.{and_both}
use Rattle.bits.specs.Bits.{bit, LowestBit}
use Rattle.bits.proofs.Bits.{bit_and_lem, bit_not, bit_bound, bit-pow}
use Rattle.reach.specs.Reach.{memb}
use Rattle.setting_tables.specs.declared.FixedReach.{FixedReach}
use Rattle.setting_tables.specs.Prepared.{no_reach, WaysBack, Onward}

-- The bits to come are among the exits and the open moves that there are.
pub record Among (exits moves left : ℕ) : Type 0 where
  pub in_moves : (e : ℕ) → bit left e ≡ true → bit moves e ≡ true

pub among_start : (exits moves : ℕ) → Among exits moves (bit_and exits moves)
among_start exits moves = record { in_moves = λ e h. (and_both (bit exits e) (bit moves e) (sym (bit_and_lem exits moves e) ∙ h)).1 }

pub among_turn : {exits moves left t rest : ℕ} → LowestBit left t rest → Among exits moves left → Among exits moves rest
among_turn {left = left} {t} l a = record { in_moves = λ d h. a.in_moves d (and_both (bit left d) (not (eqb d t)) (sym (l.rest d) ∙ h)).0 }

module _ {f : ℕ → Option Move} {set : List ℕ} {exits : ℕ} where
  pub back_start : WaysBack f set exits exits
  back_start = record { part = λ e h. h; others = λ e m low h n. absurd (false≢true (sym n ∙ h)) }

  -- One that ends in the set is taken out.
  pub back_out : {left e v : ℕ} {m : Move} → left < 2 ^ 64 → e < 64 → v ≡ 2 ^ e → f e ≡ Some m → memb set m.to.0 ≡ true
      → WaysBack f set exits left → WaysBack f set exits (bit_and left ((2 ^ 64 - 1) - v))
  back_out {left} {e} {m = m} fits low p is h w =
      rw p (record {
        part = λ d k. w.part d (and_both (bit left d) (bit ((2 ^ 64 - 1) - 2 ^ e) d) (sym (bit_and_lem left ((2 ^ 64 - 1) - 2 ^ e) d) ∙ k)).0;
        others = λ d n few k q at. go d n few k q at (ℕ_discrete d e) (bit left d) refl;
      })
    where
      go : (d : ℕ) (n : Move) → d < 48 → bit exits d ≡ true → bit (bit_and left ((2 ^ 64 - 1) - 2 ^ e)) d ≡ false → f d ≡ Some n → Dec (d ≡ e)
          → (b : Bool) → bit left d ≡ b → memb set n.to.0 ≡ true
      go d n few k q at (yes z) b g =
          let same : n ≡ m = let s : Some n ≡ Some m = sym at ∙ (rw z is) in cc in rw same h
      go d n few k q at (no z) false g = w.others d n few k g at
      go d n few k q at (no z) true g =
          let stays : bit ((2 ^ 64 - 1) - 2 ^ e) d ≡ true =
          bit_not 64 (2 ^ e) d (pow-lt low) (bit_bound 64 left d fits g) ∙ rw (bit-pow e d, ne_eqb d e z) refl in
          absurd (false≢true (sym q ∙ (bit_and_lem left ((2 ^ 64 - 1) - 2 ^ e) d ∙ and_intro g stays)))

-- ---- row after row
pub onward_none : {f : ℕ → Option Move} {rows : List FixedReach} {onward : List ℕ} → Onward f rows 0 onward
onward_none = record { row = λ d l. absurd (omega arith) }

pub onward_turn : {f : ℕ → Option Move} {rows : List FixedReach} {onward : List ℕ} {n v : ℕ} → n < length onward
    → WaysBack f (get_or rows n no_reach).reach.words (get_or rows n no_reach).exits v → Onward f rows n onward → Onward f rows (n + 1) (set onward n v)
onward_turn {f} {rows} {onward} {n} {v} low back g = record { row = λ d l. go d l (ℕ_discrete d n) }
  where
    go : (d : ℕ) → d < n + 1 → Dec (d ≡ n) → WaysBack f (get_or rows d no_reach).reach.words (get_or rows d no_reach).exits (get_or (set onward n v) d 0)
    go d l (yes z) = rw (z, get_or-set_same onward n v 0 low) back
    go d l (no z) = rw (get_or-set_other onward n d v 0 z) (g.row d (omega arith))

-- The same open moves, otherwise said.
pub onward_same : {f g : ℕ → Option Move} {rows : List FixedReach} {n : ℕ} {onward : List ℕ} → ((e : ℕ) → e < 48 → f e ≡ g e) → Onward f rows n onward → Onward g rows n onward
onward_same same o = record {
  row = λ d l. let w = o.row d l in record { part = w.part; others = λ e m low h k is. w.others e m low h k (same e low ∙ is) };
}
