-- What the fixed moves reach beyond the open moves, one after another.
use Rattle.std.proofs.Common.{◌≡◌, refl, sym, ap, ◌∙◌, ◌⊎◌, inl, inr, true, false, List, Option, Some, None, ℕ, ◌+◌, ◌^◌, ◌<◌, bit_or, length, arith}
use mathlib.Core.Logic.{⊎_elim}
use mathlib.Core.Bool.{false≢true}
use mathlib.Mathlib.Data.Bool.Basic.{or_inl, or_inr}
use lib.Dec.{eqb}
use borrow.Author.Tests.{eqb-true, eq-eqb}
use Rattle.basics.proofs.Tests.{or_cases}
use native.Mathlib.Nat.{eq-or-lt_of_le}
use lib.ListN.{set, length-set}
use lib.Seq.{get_or-set_same, get_or-set_other}
use Rattle.meaning.specs.declared.Move.{Move}
use Rattle.meaning.specs.declared.Situation.{Situation}
use Rattle.meaning.specs.Station.{file_states, moves}
use Rattle.bits.specs.Bits.{bit}
use Rattle.bits.proofs.Bits.{bit-zero, bit_or_pow}
use Rattle.reach.specs.Reach.{memb}
use Rattle.pairs.specs.declared.Pairs.{Pairs}
use Rattle.pairs.specs.Pairs.{Represents}
use Rattle.setting_tables.specs.declared.FixedReach.{FixedReach}
use Rattle.setting_tables.specs.OpenMoves.{at, IsOpenMoves}
use Rattle.setting_tables.specs.Prepared.{beyond, no_reach, PutClosures}

-- The open moves are those of s, and the pairs its fixed moves.
pub record Of (l : List (List (Option Move))) (pairs : Pairs) (s : Situation) : Type 0 where
  pub open_moves : IsOpenMoves s l
  pub represents : Represents pairs.rows (moves s (file_states s))

-- The first e rows are there, and which of these open moves there are.
pub record Closing (l : List (List (Option Move))) (pairs : Pairs) (closures : List FixedReach) (moves e : ℕ) : Type 0 where
  pub size : length closures ≡ 48
  pub put : (s : Situation) → Of l pairs s → PutClosures s e closures moves

-- Before the first row.
pub closing_start : {l : List (List (Option Move))} {pairs : Pairs} {closures : List FixedReach} → length closures ≡ 48 → Closing l pairs closures 0 0
closing_start size = record {
  size = size;
  put = λ s of. record {
    closure = λ d c h. absurd (omega arith);
    below = λ d h. absurd (false≢true (sym (bit-zero d) ∙ h));
    all = λ d m h. absurd (omega arith);
  };
}

module _ {l : List (List (Option Move))} {pairs : Pairs} {closures : List FixedReach} {moves e : ℕ} (o : Closing l pairs closures moves e) (low : e < 48) where
  -- One row more.
  turn : (r : FixedReach) (v : ℕ) → ((d : ℕ) → bit v d ≡ true → (d ≡ e) ⊎ (bit moves d ≡ true)) → ((d : ℕ) → bit moves d ≡ true → bit v d ≡ true)
      → ((m : Move) → at l e ≡ Some m → bit v e ≡ true) → ((s : Situation) → Of l pairs s → (c : ℕ) → memb r.reach.words c ≡ beyond s (at l e) c)
      → Closing l pairs (set closures e r) v (e + 1)
  turn r v only kept new is = record {
    size = length-set closures e r ∙ o.size;
    put = λ s of. record {
      closure = λ d c h.
          ⊎_elim
          (λ (z : d ≡ e).
          rw (z, get_or-set_same closures e r no_reach (omega (arith, o.size))) (is s of c ∙ ap (λ (m : Option Move). beyond s m c) (of.open_moves e low)))
          (λ (z : d < e). rw (get_or-set_other closures e d r no_reach (λ q. omega arith)) ((o.put s of).closure d c z))
          (eq-or-lt_of_le (omega arith));
      below = λ d h. ⊎_elim (λ (z : d ≡ e). omega arith) (λ z. let b = (o.put s of).below d z in omega arith) (only d h);
      all = λ d m h is.
          ⊎_elim (λ (z : d ≡ e). rw z (new m (of.open_moves e low ∙ (rw z at is)))) (λ (z : d < e). kept d ((o.put s of).all d m z is)) (eq-or-lt_of_le (omega arith));
    };
  }

  -- Open move e is a move.
  pub closing_some : {m : Move} → at l e ≡ Some m → (r : FixedReach) {v : ℕ} → v ≡ 2 ^ e
      → ((s : Situation) → Of l pairs s → (c : ℕ) → memb r.reach.words c ≡ beyond s (Some m) c) → Closing l pairs (set closures e r) (bit_or moves v) (e + 1)
  closing_some {m} a r {v} p is =
      rw p (turn r (bit_or moves (2 ^ e))
      (λ d h. ⊎_elim (λ z. inl (eqb-true d e z)) (λ z. inr z) (or_cases (eqb d e) (bit moves d) (sym (bit_or_pow moves e d) ∙ h)))
      (λ d h. bit_or_pow moves e d ∙ or_inr (eqb d e) (bit moves d) h)
      (λ n h. bit_or_pow moves e e ∙ or_inl (eqb e e) (bit moves e) (eq-eqb e e refl))
      (λ s of c. is s of c ∙ ap (λ (o : Option Move). beyond s o c) (sym a)))

  -- It is none.
  pub closing_none : at l e ≡ None → (r : FixedReach) → ((c : ℕ) → memb r.reach.words c ≡ false) → Closing l pairs (set closures e r) moves (e + 1)
  closing_none a r empty =
      turn r moves (λ d h. inr h) (λ d h. h) (λ m h. let n : None ≡ Some m = sym a ∙ h in absurd (cc))
      (λ s of c. empty c ∙ ap (λ (o : Option Move). beyond s o c) (sym a))
