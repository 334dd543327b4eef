-- The exits of the rows of a table, put in row after row.
use Rattle.std.proofs.Common.{◌≡◌, refl, sym, ◌∙◌, ◌⊎◌, Bool, true, false, ◌||◌, List, Option, ℕ, ◌+◌, ◌^◌, ◌<◌, bit_or, length, get_or, arith}
use mathlib.Core.Logic.{⊎_elim}
use mathlib.Core.Bool.{false≢true}
use mathlib.Mathlib.Data.Bool.Basic.{or_inl}
use native.Mathlib.Nat.{eq-or-lt_of_le}
use native.Mathlib.Decide.{ℕ_discrete}
use lib.Dec.{eqb}
use lib.ListN.{set, length-set}
use lib.Seq.{get_or-set_same, get_or-set_other}
use borrow.Author.Tests.{eqb-true, eq-eqb}
use Rattle.meaning.specs.declared.Move.{Move}
use Rattle.basics.proofs.Tests.{or_cases}
use Rattle.bits.specs.Bits.{bit}
use Rattle.bits.proofs.Bits.{bit-zero, bit_or_pow}
use Rattle.reach.specs.Reach.{memb}
use Rattle.setting_tables.specs.declared.Ends.{Ends}
use Rattle.setting_tables.specs.declared.FixedReach.{FixedReach}
use Rattle.setting_tables.specs.OpenMoves.{source}
use Rattle.setting_tables.specs.Masks.{Indexed}
use Rattle.setting_tables.specs.Prepared.{no_reach, has, PutExits}

pub or_none : (a b : Bool) → (a || b) ≡ false → (a ≡ false) × (b ≡ false)
or_none false false h = (refl, refl)
or_none false true h = absurd (false≢true (sym h))
or_none true b h = absurd (false≢true (sym h))

-- The first n rows have their exits.
pub record Exiting (ends : Ends) (old : List FixedReach) (n : ℕ) (rows : List FixedReach) (some : ℕ) : Type 0 where
  pub size : length rows ≡ length old
  pub below : (t : ℕ) → bit some t ≡ true → t < n
  pub put : (f : ℕ → Option Move) → Indexed f 48 ends → PutExits f n old rows some

pub exiting_start : {ends : Ends} {old : List FixedReach} → Exiting ends old 0 old 0
exiting_start = record {
  size = refl;
  below = λ t h. absurd (false≢true (sym (bit-zero t) ∙ h));
  put = λ f ix. record {
    kept = λ t c. refl;
    put = record {
      exits = λ t e l. absurd (omega arith);
      below = λ t h. absurd (false≢true (sym (bit-zero t) ∙ h));
      none = λ t e l. absurd (omega arith);
    };
  };
}

module _ {ends : Ends} {old rows : List FixedReach} {n some : ℕ} (g : Exiting ends old n rows some) (room : n < length old) (r : FixedReach)
    (same : r.reach ≡ (get_or rows n no_reach).reach)
    (leaving : (f : ℕ → Option Move) → Indexed f 48 ends → (e : ℕ) → e < 48 → bit r.exits e ≡ memb r.reach.words (source (f e))) where
  near : (t : ℕ) → t < n + 1 → (t ≡ n) ⊎ (t < n)
  near t l = eq-or-lt_of_le (omega arith)

  here : get_or (set rows n r) n no_reach ≡ r
  here = get_or-set_same rows n r no_reach (omega (arith, g.size))

  there : (t : ℕ) → (t ≡ n → ⊥) → get_or (set rows n r) t no_reach ≡ get_or rows t no_reach
  there t d = get_or-set_other rows n t r no_reach d

  turn : {v : ℕ} → ((t : ℕ) → bit v t ≡ true → t < n + 1) → ((t : ℕ) → t < n → bit v t ≡ false → bit some t ≡ false) → (bit v n ≡ false → r.exits ≡ 0)
      → Exiting ends old (n + 1) (set rows n r) v
  turn below others last = record {
    size = length-set rows n r ∙ g.size;
    below = below;
    put = λ f ix. record {
      kept = λ t c. kept t c (ℕ_discrete t n) ∙ (g.put f ix).kept t c;
      put = record {
        exits = λ t e l low.
            ⊎_elim (λ (z : t ≡ n). rw (z, here) (leaving f ix e low)) (λ (z : t < n). rw (there t (λ q. omega arith)) ((g.put f ix).put.exits t e z low)) (near t l);
        below = below;
        none = λ t e l h.
            ⊎_elim (λ (z : t ≡ n). rw (z, here, last (rw z at h)) (bit-zero e))
            (λ (z : t < n). rw (there t (λ q. omega arith)) ((g.put f ix).put.none t e z (others t z h))) (near t l);
      };
    };
  }
    where
      kept : (t c : ℕ) → Dec (t ≡ n) → has (set rows n r) t c ≡ has rows t c
      kept t c (yes z) = rw (z, here, same) refl
      kept t c (no z) = rw (there t z) refl

  -- The row has exits.
  pub exiting_some : {v : ℕ} → v ≡ 2 ^ n → Exiting ends old (n + 1) (set rows n r) (bit_or some v)
  exiting_some p =
      rw p (turn
      (λ t h.
      ⊎_elim (λ z. let q = eqb-true t n z in omega arith) (λ z. let q = g.below t z in omega arith)
      (or_cases (eqb t n) (bit some t) (sym (bit_or_pow some n t) ∙ h)))
      (λ t l h. (or_none (eqb t n) (bit some t) (sym (bit_or_pow some n t) ∙ h)).1)
      (λ h. absurd (false≢true (sym h ∙ (bit_or_pow some n n ∙ or_inl (eqb n n) (bit some n) (eq-eqb n n refl))))))

  -- It has none.
  pub exiting_none : r.exits ≡ 0 → Exiting ends old (n + 1) (set rows n r) some
  exiting_none none = turn (λ t h. let l = g.below t h in omega arith) (λ t l h. h) (λ h. none)
