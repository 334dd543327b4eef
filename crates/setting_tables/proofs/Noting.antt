-- The tables of sources and targets, open move by open move.
use Rattle.std.proofs.Common.{◌≡◌, refl, sym, ap, ap₂, ◌∙◌, Bool, true, false, ◌&&◌, ◌||◌, List, Option, Some, None, ℕ, ◌+◌, ◌^◌, ◌≤◌, ◌<◌, bit_or, length, get_or, arith}
use native.Mathlib.Decide.{ℕ_discrete}
use mathlib.Mathlib.Data.Bool.Basic.{or_inl, or_inr}
use lib.Dec.{eqb, ltb}
use lib.ListN.{set, replicate, length-set}
use lib.Seq.{get_or-set_same, get_or-set_other}
use borrow.Author.Tests.{eq-eqb, ne_eqb, lt-ltb, le-ltb, ltb-true, ltb-false}
use Rattle.meaning.specs.declared.Move.{Move}
use Rattle.bits.specs.Bits.{bit}
use Rattle.bits.proofs.Bits.{bit-zero, bit_or_pow}
use Rattle.reach.specs.declared.Reach.{Reach}
use Rattle.reach.specs.Reach.{memb}
use Rattle.setting_tables.specs.declared.BySection.{BySection}
use Rattle.setting_tables.specs.declared.Ends.{Ends}
use Rattle.setting_tables.specs.Sections.{word_bit}
use Rattle.basics.proofs.Lists.{replicate_get}
use Rattle.setting_tables.specs.Masks.{starts_at, ends_at, Noted, Indexed}

below_next : (e n : ℕ) → (e ≡ n → ⊥) → ltb e (n + 1) ≡ ltb e n
below_next e n d = go (ltb e n) refl
  where
    go : (t : Bool) → ltb e n ≡ t → ltb e (n + 1) ≡ t
    go true h = let l : e < n = ltb-true e n h in lt-ltb e (n + 1) (omega arith)
    go false h = let l : n ≤ e = ltb-false e n h in le-ltb e (n + 1) (omega arith)

-- Nothing is noted in a table without a bit.
noted_none : (test : ℕ → ℕ → Bool) (table : List ℕ) → ((a e : ℕ) → bit (get_or table a 0) e ≡ false) → Noted test 0 table
noted_none test table none a e high = none a e ∙ sym (ap (λ (t : Bool). t && test a e) (le-ltb e 0 (omega arith)))

module _ (test : ℕ → ℕ → Bool) {n : ℕ} (table : List ℕ) (noted : Noted test n table) where
  -- Open move n passes at section a alone: its bit is set there.
  pub noted_at : (a : ℕ) {v : ℕ} → a < length table → v ≡ 2 ^ n → ((b : ℕ) → test b n ≡ eqb a b)
      → Noted test (n + 1) (set table a (bit_or (get_or table a 0) v))
  noted_at a {v} room is here b e high = go (ℕ_discrete b a) (ℕ_discrete e n)
    where
      table' : List ℕ
      table' = set table a (bit_or (get_or table a 0) v)

      at_a : bit (get_or table' a 0) e ≡ (eqb e n || bit (get_or table a 0) e)
      at_a = ap (λ (w : ℕ). bit w e) (get_or-set_same table a (bit_or (get_or table a 0) v) 0 room) ∙ rw is (bit_or_pow (get_or table a 0) n e)

      at_b : (b ≡ a → ⊥) → bit (get_or table' b 0) e ≡ bit (get_or table b 0) e
      at_b d = ap (λ (w : ℕ). bit w e) (get_or-set_other table a b (bit_or (get_or table a 0) v) 0 d)

      go : Dec (b ≡ a) → Dec (e ≡ n) → bit (get_or table' b 0) e ≡ (ltb e (n + 1) && test b e)
      go (yes p) (yes q) =
          rw p (at_a ∙ ap (λ (t : Bool). t || bit (get_or table a 0) e) (eq-eqb e n q)
          ∙ sym (ap₂ ◌&&◌ (lt-ltb e (n + 1) (omega arith)) (ap (test a) q ∙ here a ∙ eq-eqb a a refl)))
      go (yes p) (no q) =
          rw p (at_a ∙ ap (λ (t : Bool). t || bit (get_or table a 0) e) (ne_eqb e n q) ∙ (rw p at (noted b e high))
          ∙ ap (λ (t : Bool). t && test a e) (sym (below_next e n q)))
      go (no p) (yes q) =
          at_b p ∙ noted b e high ∙ ap (λ (t : Bool). t && test b e) (le-ltb e n (omega arith))
          ∙ sym (ap₂ ◌&&◌ (lt-ltb e (n + 1) (omega arith)) (ap (test b) q ∙ here b ∙ ne_eqb a b (λ z. p (sym z))))
      go (no p) (no q) = at_b p ∙ noted b e high ∙ ap (λ (t : Bool). t && test b e) (sym (below_next e n q))

  -- It passes nowhere.
  pub noted_nowhere : ((b : ℕ) → test b n ≡ false) → Noted test (n + 1) table
  noted_nowhere none b e high = noted b e high ∙ go (ℕ_discrete e n)
    where
      go : Dec (e ≡ n) → (ltb e n && test b e) ≡ (ltb e (n + 1) && test b e)
      go (yes q) = rw (q, none b) (ap (λ (t : Bool). t && false) (le-ltb n n (omega arith)) ∙ sym (ap (λ (t : Bool). t && false) (lt-ltb n (n + 1) (omega arith))))
      go (no q) = ap (λ (t : Bool). t && test b e) (sym (below_next e n q))

-- ---- sources and targets
-- The first n open moves are noted.
pub record Noting (f : ℕ → Option Move) (n : ℕ) (from to : List ℕ) (sources : Reach) : Type 0 where
  pub from_size : length from ≡ 513
  pub to_size : length to ≡ 513
  pub indexed : Indexed f n (record { from = record { words = from; some = sources }; to = to })

abbrev starts : (ℕ → Option Move) → ℕ → ℕ → Bool
starts f a e = starts_at a (f e)

abbrev ends : (ℕ → Option Move) → ℕ → ℕ → Bool
ends f b e = ends_at b (f e)

module _ {f : ℕ → Option Move} where
  pub none_noted : {from : BySection} → ((a e : ℕ) → word_bit from a e ≡ false) → Indexed f 0 (record { from = from; to = replicate {A = ℕ} 513 0 })
  none_noted {from} none = record {
    from = noted_none (starts f) from.words none;
    to = noted_none (ends f) (replicate 513 0) (λ a e. ap (λ (w : ℕ). bit w e) (replicate_get 513 a 0) ∙ bit-zero e);
    sources = λ e m l. absurd (omega arith);
  }

  module _ {n : ℕ} {from to : List ℕ} {sources : Reach} (ix : Noting f n from to sources) where
    -- One open move more.
    pub noting_move : (m : Move) {v : ℕ} {sources' : Reach} → f n ≡ Some m → v ≡ 2 ^ n → m.from.0 ≤ 512 → m.to.0 ≤ 512
        → ((c : ℕ) → memb sources'.words c ≡ (eqb c m.from.0 || memb sources.words c))
        → Noting f (n + 1) (set from m.from.0 (bit_or (get_or from m.from.0 0) v)) (set to m.to.0 (bit_or (get_or to m.to.0 0) v)) sources'
    noting_move m {v} {sources'} h is low high more = record {
      from_size = length-set from m.from.0 (bit_or (get_or from m.from.0 0) v) ∙ ix.from_size;
      to_size = length-set to m.to.0 (bit_or (get_or to m.to.0 0) v) ∙ ix.to_size;
      indexed = record {
        from = noted_at (starts f) from ix.indexed.from m.from.0 (omega (arith, ix.from_size)) is (λ a. ap (starts_at a) h);
        to = noted_at (ends f) to ix.indexed.to m.to.0 (omega (arith, ix.to_size)) is (λ b. ap (ends_at b) h);
        sources = λ e k l g. more k.from.0 ∙ go e k l g (ℕ_discrete e n);
      };
    }
      where
        go : (e : ℕ) (k : Move) → e < n + 1 → f e ≡ Some k → Dec (e ≡ n) → (eqb k.from.0 m.from.0 || memb sources.words k.from.0) ≡ true
        go e k l g (yes z) =
            let same : k ≡ m = let s : Some k ≡ Some m = sym (rw z at g) ∙ h in cc in
            or_inl (eqb k.from.0 m.from.0) (memb sources.words k.from.0) (eq-eqb k.from.0 m.from.0 (ap (λ (q : Move). q.from.0) same))
        go e k l g (no z) = or_inr (eqb k.from.0 m.from.0) (memb sources.words k.from.0) (ix.indexed.sources e k (omega arith) g)

    -- One that is no move.
    pub noting_absent : f n ≡ None → Noting f (n + 1) from to sources
    noting_absent h = record {
      from_size = ix.from_size;
      to_size = ix.to_size;
      indexed = record {
        from = noted_nowhere (starts f) from ix.indexed.from (λ a. ap (starts_at a) h);
        to = noted_nowhere (ends f) to ix.indexed.to (λ b. ap (ends_at b) h);
        sources = λ e k l g. go e k l g (ℕ_discrete e n);
      };
    }
      where
        go : (e : ℕ) (k : Move) → e < n + 1 → f e ≡ Some k → Dec (e ≡ n) → memb sources.words k.from.0 ≡ true
        go e k l g (yes z) = let s : Some k ≡ None = sym (rw z at g) ∙ h in absurd (cc)
        go e k l g (no z) = ix.indexed.sources e k (omega arith) g

-- The same open moves, otherwise said.
pub indexed_same : {f g : ℕ → Option Move} {n : ℕ} {ends : Ends} → Indexed f n ends → ((e : ℕ) → e < n → f e ≡ g e) → Indexed g n ends
indexed_same {f} {g} {n} ix same = record {
  from = λ a e l. ix.from a e l ∙ one e (λ o. starts_at a o);
  to = λ b e l. ix.to b e l ∙ one e (λ o. ends_at b o);
  sources = λ e m l h. ix.sources e m l (same e l ∙ h);
}
  where
    one : (e : ℕ) (test : Option Move → Bool) → (ltb e n && test (f e)) ≡ (ltb e n && test (g e))
    one e test = go (ltb e n) refl
      where
        go : (t : Bool) → ltb e n ≡ t → (t && test (f e)) ≡ (t && test (g e))
        go true h = ap test (same e (ltb-true e n h))
        go false h = refl
