-- The open moves whose closures meet a set: each compared with it, one after another, and by its sections.
use Rattle.std.proofs.Common.{◌≡◌, sym, ◌∙◌, Bool, true, false, ◌&&◌, List, ℕ, ◌≤◌, ◌^◌, bit_or, get_or}
use mathlib.Core.Logic.{⊎_elim}
use mathlib.Core.Bool.{false≢true}
use mathlib.Mathlib.Data.Bool.Basic.{or_inl, or_inr, and_intro, dichotomy}
use lib.Dec.{eqb}
use borrow.Author.Tests.{eqb-true, eq-eqb}
use Rattle.basics.specs.Numbers.{lowest}
use Rattle.basics.proofs.Tests.{or_cases, and_both}
use Rattle.basics.proofs.Numbers.{found-lowest, found_passes}
use Rattle.bits.specs.Bits.{bit, LowestBit}
use Rattle.bits.proofs.Bits.{bit-zero, bit_or_pow, bit_or_lem}
use Rattle.reach.specs.Reach.{memb}
use Rattle.setting_tables.specs.declared.FixedReach.{FixedReach}
use Rattle.setting_tables.specs.declared.BySection.{BySection}
use Rattle.setting_tables.specs.Sections.{word_bit, Adds, Over}
use Rattle.setting_tables.specs.Prepared.{no_reach, has}
use Rattle.setting_tables.proofs.Apart.{meeting}
use Rattle.setting_safety.specs.Table.{Meeting, ClosuresBySection}
use Rattle.setting_safety.proofs.Gathering.{Among, among_start, among_turn}
use Rattle.setting_tables.proofs.Leaving.{passed}
use Rattle.setting_tables.proofs.Exiting.{or_none}

-- The closure of open move e.
abbrev closure : List FixedReach → ℕ → ℕ → Bool
closure closures e = memb (get_or closures e no_reach).reach.words

-- Those of `left` are still to come.
pub record MeetingSo (set : ℕ → Bool) (moves : ℕ) (closures : List FixedReach) (left w : ℕ) : Type 0 where
  pub from : (e : ℕ) → bit w e ≡ true → (c : ℕ) × (set c ≡ true) × (closure closures e c ≡ true)
  pub all : (e c : ℕ) → bit moves e ≡ true → bit left e ≡ false → 1 ≤ c → c ≤ 512 → set c ≡ true → closure closures e c ≡ true → bit w e ≡ true

module _ {set : ℕ → Bool} {closures : List FixedReach} where
  pub meeting_start : (moves : ℕ) → MeetingSo set moves closures moves 0
  meeting_start moves = record {
    from = λ e h. absurd (false≢true (sym (bit-zero e) ∙ h));
    all = λ e c h n. absurd (false≢true (sym n ∙ h));
  }

  module _ {moves left t rest w : ℕ} (l : LowestBit left t rest) (m : MeetingSo set moves closures left w) where
    pub meeting_in : meeting set (closure closures t) ≡ true → {v : ℕ} → v ≡ 2 ^ t → MeetingSo set moves closures rest (bit_or w v)
    meeting_in h p = rw p (record {
      from = λ e k.
          ⊎_elim
          (λ z. let f = found_passes 512 (λ c. set c && closure closures t c) h in
          let c : ℕ = lowest 512 (λ c. set c && closure closures t c) in
          let b = and_both (set c) (closure closures t c) f.2 in rw (eqb-true e t z) (c, b.0, b.1))
          (m.from e) (or_cases (eqb e t) (bit w e) (sym (bit_or_pow w t e) ∙ k));
      all = λ e c k n low high a b.
          bit_or_pow w t e
          ∙ ⊎_elim (λ z. or_inl (eqb e t) (bit w e) (eq-eqb e t z)) (λ z. or_inr (eqb e t) (bit w e) (m.all e c k z low high a b)) (passed l e n);
    })

    pub meeting_out : meeting set (closure closures t) ≡ false → MeetingSo set moves closures rest w
    meeting_out h = record {
      from = m.from;
      all = λ e c k n low high a b.
          ⊎_elim
          (λ (z : e ≡ t). absurd (false≢true (sym h ∙ found-lowest 512 (λ c. set c && closure closures t c) c low high (and_intro a (rw z at b)))))
          (λ z. m.all e c k z low high a b) (passed l e n);
    }

  pub meeting_end : {moves left w : ℕ} → left ≡ 0 → MeetingSo set moves closures left w → Meeting set moves closures w
  meeting_end z m = record { from = m.from; all = λ e c h. m.all e c h (rw z (bit-zero e)) }

-- ---- the closures by section
-- The open moves of `left` are still to be noted.
pub record Sorting (moves : ℕ) (closures : List FixedReach) (left wide : ℕ) (table : BySection) : Type 0 where
  pub among : Among moves left
  pub only : (c e : ℕ) → word_bit table c e ≡ true → has closures e c ≡ true
  pub all : (c e : ℕ) → bit moves e ≡ true → bit left e ≡ false → bit wide e ≡ false → has closures e c ≡ true
      → (word_bit table c e ≡ true) × (memb table.some.words c ≡ true)
  pub part : (e : ℕ) → bit wide e ≡ true → bit moves e ≡ true

module _ {moves : ℕ} {closures : List FixedReach} where
  pub sorting_start : {table : BySection} → ((c e : ℕ) → word_bit table c e ≡ false) → Sorting moves closures moves 0 table
  sorting_start none = record {
    among = among_start moves;
    only = λ c e h. absurd (false≢true (sym (none c e) ∙ h));
    all = λ c e h n. absurd (false≢true (sym n ∙ h));
    part = λ e h. absurd (false≢true (sym (bit-zero e) ∙ h));
  }

  module _ {left t rest wide : ℕ} {table : BySection} (l : LowestBit left t rest) (s : Sorting moves closures left wide table) where
    -- Open move t is left out.
    pub sorting_wide : {v : ℕ} → v ≡ 2 ^ t → Sorting moves closures rest (bit_or wide v) table
    sorting_wide p = rw p (record {
      among = among_turn l s.among;
      only = s.only;
      all = λ c e m n w h.
          let q = or_none (eqb e t) (bit wide e) (sym (bit_or_pow wide t e) ∙ w) in
          ⊎_elim (λ (z : e ≡ t). absurd (false≢true (sym q.0 ∙ eq-eqb e t z))) (λ z. s.all c e m z q.1 h) (passed l e n);
      part = λ e h.
          ⊎_elim (λ q. rw (eqb-true e t q) (s.among.in_all t l.here)) (s.part e) (or_cases (eqb e t) (bit wide e) (sym (bit_or_pow wide t e) ∙ h));
    })

    -- It is noted.
    pub sorting_few : {more : BySection} → Adds (get_or closures t no_reach).reach.words t table more → Sorting moves closures rest wide more
    sorting_few a = record {
      among = among_turn l s.among;
      only = λ c e h. ⊎_elim (s.only c e) (λ q. rw q.0 q.1) (a.only c e h);
      all = λ c e m n w h.
          ⊎_elim (λ (z : e ≡ t). let k = rw z at h in (rw z (a.put c k), a.some c ∙ or_inr (memb table.some.words c) (has closures t c) k))
          (λ z. let k = s.all c e m z w h in (a.kept c e k.0, a.some c ∙ or_inl (memb table.some.words c) (has closures t c) k.1)) (passed l e n);
      part = s.part;
    }

  pub sorting_end : {left wide : ℕ} {table : BySection} → left ≡ 0 → Sorting moves closures left wide table → ClosuresBySection moves closures wide table
  sorting_end z s = record { only = s.only; all = λ c e m. s.all c e m (rw z (bit-zero e)); part = s.part }

  -- Those that are noted are found by the sections of the set.
  pub meeting_both : {set : List ℕ} {wide w u : ℕ} {table : BySection} → ClosuresBySection moves closures wide table → Over table set w
      → Meeting (memb set) wide closures u → Meeting (memb set) moves closures (bit_or w u)
  meeting_both {set} {wide} {w} {u} s o m = record {
    from = λ e h.
        ⊎_elim (λ k. let f = o.from e k in (f.0, f.2, s.only f.0 e f.3)) (m.from e) (or_cases (bit w e) (bit u e) (sym (bit_or_lem w u e) ∙ h));
    all = λ e c h low high a b.
        bit_or_lem w u e
        ∙ ⊎_elim (λ k. let q = s.all c e h k b in or_inl (bit w e) (bit u e) (o.all c e a q.1 q.0)) (λ k. or_inr (bit w e) (bit u e) (m.all e c k low high a b))
        (dichotomy (bit wide e));
  }
