-- A word for each section, in a table: the words of a set joined, section by section, and a bit set in them. The open moves that leave a set.
use Rattle.std.proofs.Common.{◌≡◌, refl, sym, ap, ◌∙◌, ◌⊎◌, inl, inr, Bool, true, false, ◌||◌, List, Option, Some, None, ℕ, ◌+◌, ◌-◌, ◌*◌, ◌^◌, ◌≤◌, ◌<◌, bit_and, bit_or, length, get_or, arith}
use mathlib.Core.Logic.{⊎_elim}
use mathlib.Core.Bool.{false≢true}
use mathlib.Mathlib.Data.Bool.Basic.{or_inl, or_inr, and_intro, eq-false_of_not-eq-true}
use native.Mathlib.Decide.{dec_lt, ℕ_discrete}
use lib.Dec.{eqb, ltb}
use lib.ListN.{set, length-set}
use lib.Seq.{get_or-set_same, get_or-set_other}
use borrow.Author.Tests.{eqb-true, eq-eqb, lt-ltb}
use Rattle.meaning.specs.declared.Move.{Move}
use Rattle.basics.proofs.Tests.{or_cases, and_both, same_test}
use Rattle.bits.specs.Bits.{bit, LowestBit}
use Rattle.bits.proofs.Bits.{bit-zero, bit_and_lem, bit_or_lem, bit_or_pow}
use Rattle.reach.specs.declared.Reach.{Reach}
use Rattle.reach.specs.Reach.{memb}
use Rattle.reach.proofs.Laws.{memb_word, memb_inside, memb-zero}
use Rattle.setting_tables.specs.declared.BySection.{BySection}
use Rattle.setting_tables.specs.declared.Ends.{Ends}
use Rattle.setting_tables.specs.OpenMoves.{source}
use Rattle.setting_tables.specs.Masks.{starts_at, Indexed}
use Rattle.setting_tables.specs.Sections.{word_bit, Over, Adds}

-- Of the bits to come the lowest is taken off: another that does not come did not.
pub passed : {left e rest : ℕ} → LowestBit left e rest → (d : ℕ) → bit rest d ≡ false → (d ≡ e) ⊎ (bit left d ≡ false)
passed {left} {e} l d h = go (eqb d e) refl (bit left d) refl
  where
    go : (p : Bool) → eqb d e ≡ p → (q : Bool) → bit left d ≡ q → (d ≡ e) ⊎ (bit left d ≡ false)
    go true a q b = inl (eqb-true d e a)
    go false a false b = inr b
    go false a true b = absurd (false≢true (sym h ∙ (l.rest d ∙ rw (b, a) refl)))

-- The sections before word i, and those of word i that do not come any more.
abbrev pub Before : ℕ → ℕ → Type 0
Before i c = (1 ≤ c) × (c ≤ 64 * i)

abbrev pub Within : ℕ → ℕ → ℕ → Type 0
Within i left c = (Before i c) ⊎ ((k : ℕ) × (k < 64) × (c ≡ 64 * i + k + 1) × (bit left k ≡ false))

-- No section of word i comes any more: those before the next word are done.
word_done : (i : ℕ) {left : ℕ} → left ≡ 0 → (c : ℕ) → Before (i + 1) c → Within i left c
word_done i {left} z c d = go (dec_lt (64 * i) c)
  where
    go : Dec (64 * i < c) → Within i left c
    go (no n) = inl (d.0, omega arith)
    go (yes y) = inr (c - 1 - 64 * i, omega (arith, d.1), omega arith, rw z (bit-zero (c - 1 - 64 * i)))

-- Each bit of `bits` is one of the word of a section of the set, and those of the sections that are done are there.
pub record Joining (set : List ℕ) (table : BySection) (Done : ℕ → Type 0) (bits : ℕ) : Type 0 where
  pub sound : (e : ℕ) → bit bits e ≡ true → (c : ℕ) × (c ≤ 512) × (memb set c ≡ true) × (word_bit table c e ≡ true)
  pub complete : (c e : ℕ) → Done c → memb set c ≡ true → memb table.some.words c ≡ true → word_bit table c e ≡ true → bit bits e ≡ true

module _ {set : List ℕ} {table : BySection} where
  pub joining_start : Joining set table (Before 0) 0
  joining_start = record { sound = λ e h. absurd (false≢true (sym (bit-zero e) ∙ h)); complete = λ c e d. absurd (omega (arith, d.0, d.1)) }

  module _ (i : ℕ) {bits : ℕ} where
    -- Word i is begun.
    pub joining_word : Joining set table (Before i) bits
        → Joining set table (Within i (bit_and (get_or set i 0) (get_or table.some.words i 0))) bits
    joining_word l = record {
      sound = l.sound;
      complete = λ c e d a b h.
          ⊎_elim (λ q. l.complete c e q a b h)
          (λ q.
          absurd (false≢true (sym q.3 ∙ (bit_and_lem (get_or set i 0) (get_or table.some.words i 0) q.0
          ∙ and_intro (sym (memb_word set i q.0 c q.1 q.2) ∙ a) (sym (memb_word table.some.words i q.0 c q.1 q.2) ∙ b)))))
          d;
    }

    -- One section more.
    pub joining_turn : {left b rest c0 : ℕ} → Joining set table (Within i left) bits → LowestBit left b rest → i < 8 → bit (get_or set i 0) b ≡ true → c0 ≡ i * 64 + b + 1
        → Joining set table (Within i rest) (bit_or bits (get_or table.words c0 0))
    joining_turn {left} {b} {rest} {c0} l low few here is = record {
      sound = λ e h.
          ⊎_elim (l.sound e)
          (λ k. (c0, omega (arith, low.within), memb_word set i b c0 low.within (omega arith) ∙ here, k))
          (or_cases (bit bits e) (bit (get_or table.words c0 0) e) (sym (bit_or_lem bits (get_or table.words c0 0) e) ∙ h));
      complete = λ c e d a s h. bit_or_lem bits (get_or table.words c0 0) e ∙ go c e d a s h;
    }
      where
        old : (c e : ℕ) → Within i left c → memb set c ≡ true → memb table.some.words c ≡ true → word_bit table c e ≡ true
            → (bit bits e || bit (get_or table.words c0 0) e) ≡ true
        old c e d a s h = or_inl (bit bits e) (bit (get_or table.words c0 0) e) (l.complete c e d a s h)

        go : (c e : ℕ) → Within i rest c → memb set c ≡ true → memb table.some.words c ≡ true → word_bit table c e ≡ true
            → (bit bits e || bit (get_or table.words c0 0) e) ≡ true
        go c e (inl q) a s h = old c e (inl q) a s h
        go c e (inr q) a s h =
            ⊎_elim
            (λ (z : q.0 ≡ b).
            let same : c ≡ c0 = omega (arith, q.2) in
            or_inr (bit bits e) (bit (get_or table.words c0 0) e) (rw same at h))
            (λ z. old c e (inr (q.0, q.1, q.2, z)) a s h)
            (passed low q.0 q.3)

    -- Word i is done.
    pub joining_next : {left : ℕ} → Joining set table (Within i left) bits → left ≡ 0 → Joining set table (Before (i + 1)) bits
    joining_next l z = record {
      sound = l.sound;
      complete = λ c e d. l.complete c e (word_done i z c d);
    }

    -- All words are done.
    pub joining_end : Joining set table (Before i) bits → i ≡ 8 → length set ≡ 8 → Over table set bits
    joining_end l is size = record {
      from = l.sound;
      all = λ c e h s k. let r = memb_inside set c size h in l.complete c e (r.0, omega (arith, r.1)) h s k;
    }

-- ---- the open moves that leave a set
pub leaving : {f : ℕ → Option Move} {ends : Ends} {set : List ℕ} {bits : ℕ} → Indexed f 48 ends → length set ≡ 8 → Over ends.from set bits
    → (e : ℕ) → e < 48 → bit bits e ≡ memb set (source (f e))
leaving {f} {ends} {set} {bits} ix size over e low = go (f e) refl
  where
    -- It starts at a section of the set.
    at_one : bit bits e ≡ true → (c : ℕ) × (memb set c ≡ true) × (starts_at c (f e) ≡ true)
    at_one h = let w = over.from e h in (w.0, w.2, (and_both (ltb e 48) (starts_at w.0 (f e)) (sym (ix.from w.0 e w.1) ∙ w.3)).1)

    go : (o : Option Move) → f e ≡ o → bit bits e ≡ memb set (source o)
    go None at = eq-false_of_not-eq-true (λ h. let w = at_one h in false≢true (rw at at w.2)) ∙ sym (memb-zero set)
    go (Some m) at =
        same_test (bit bits e) (memb set m.from.0)
        (λ h. let w = at_one h in let s : eqb m.from.0 w.0 ≡ true = rw at at w.2 in rw (eqb-true m.from.0 w.0 s) w.1)
        (λ h.
        let r = memb_inside set m.from.0 size h in
        over.all m.from.0 e h (ix.sources e m low at) (ix.from m.from.0 e r.1 ∙ and_intro (lt-ltb e 48 low) (rw at (eq-eqb m.from.0 m.from.0 refl))))

-- ---- a bit in the words of a set
-- Bit e is set in those of the sections that are done, and all sections of the set are noted.
pub record Adding (sections : List ℕ) (e : ℕ) (old : BySection) (Done : ℕ → Type 0) (new : BySection) : Type 0 where
  pub size : length new.words ≡ 513
  pub only : (c d : ℕ) → word_bit new c d ≡ true → (word_bit old c d ≡ true) ⊎ ((d ≡ e) × (memb sections c ≡ true))
  pub kept : (c d : ℕ) → word_bit old c d ≡ true → word_bit new c d ≡ true
  pub put : (c : ℕ) → Done c → memb sections c ≡ true → word_bit new c e ≡ true
  pub some : (c : ℕ) → memb new.some.words c ≡ (memb old.some.words c || memb sections c)

module _ {sections : List ℕ} {e : ℕ} {old : BySection} where
  pub adding_start : {some : Reach} → length old.words ≡ 513 → ((c : ℕ) → memb some.words c ≡ (memb old.some.words c || memb sections c))
      → Adding sections e old (Before 0) (record { words = old.words; some = some })
  adding_start size is = record { size = size; only = λ c d h. inl h; kept = λ c d h. h; put = λ c b. absurd (omega (arith, b.0, b.1)); some = is }

  module _ (i : ℕ) {new : BySection} where
    -- More is known to be done.
    to : {Done Done' : ℕ → Type 0} → ((c : ℕ) → memb sections c ≡ true → Done' c → Done c) → Adding sections e old Done new → Adding sections e old Done' new
    to f a = record { size = a.size; only = a.only; kept = a.kept; put = λ c d h. a.put c (f c h d) h; some = a.some }

    -- Word i is begun.
    pub adding_word : Adding sections e old (Before i) new → Adding sections e old (Within i (get_or sections i 0)) new
    adding_word =
        to (λ c h p. ⊎_elim (λ b. b) (λ q. absurd (false≢true (sym q.3 ∙ (sym (memb_word sections i q.0 c q.1 q.2) ∙ h)))) p)

    -- Word i is done.
    pub adding_next : {left : ℕ} → left ≡ 0 → Adding sections e old (Within i left) new → Adding sections e old (Before (i + 1)) new
    adding_next z = to (λ c h. word_done i z c)

    pub adding_end : i ≡ 8 → length sections ≡ 8 → Adding sections e old (Before i) new → Adds sections e old new
    adding_end is size a = record {
      only = a.only;
      kept = a.kept;
      put = λ c h. let r = memb_inside sections c size h in a.put c (r.0, omega (arith, r.1)) h;
      some = a.some;
    }

    -- One section more.
    module _ {left b rest c0 v : ℕ} (a : Adding sections e old (Within i left) new) (l : LowestBit left b rest) (few : i < 8)
        (here : bit (get_or sections i 0) b ≡ true) (is : c0 ≡ i * 64 + b + 1) (p : v ≡ 2 ^ e) where
      abbrev words : List ℕ
      words = set new.words c0 (bit_or (get_or new.words c0 0) v)

      at_c0 : (d : ℕ) → bit (get_or words c0 0) d ≡ (eqb d e || word_bit new c0 d)
      at_c0 d =
          ap (λ (w : ℕ). bit w d) (get_or-set_same new.words c0 (bit_or (get_or new.words c0 0) v) 0 (omega (arith, a.size, l.within)))
          ∙ rw p (bit_or_pow (get_or new.words c0 0) e d)

      other : (c d : ℕ) → (c ≡ c0 → ⊥) → bit (get_or words c 0) d ≡ word_bit new c d
      other c d n = ap (λ (w : ℕ). bit w d) (get_or-set_other new.words c0 c (bit_or (get_or new.words c0 0) v) 0 n)

      pub adding_turn : Adding sections e old (Within i rest) (record { words = words; some = new.some })
      adding_turn = record {
        size = length-set new.words c0 (bit_or (get_or new.words c0 0) v) ∙ a.size;
        only = λ c d h. only c d h (ℕ_discrete c c0);
        kept = λ c d h. kept c d (a.kept c d h) (ℕ_discrete c c0);
        put = λ c q h. put c q h (ℕ_discrete c c0);
        some = a.some;
      }
        where
          only : (c d : ℕ) → bit (get_or words c 0) d ≡ true → Dec (c ≡ c0) → (word_bit old c d ≡ true) ⊎ ((d ≡ e) × (memb sections c ≡ true))
          only c d h (no n) = a.only c d (sym (other c d n) ∙ h)
          only c d h (yes z) =
              ⊎_elim (λ q. inr (eqb-true d e q, memb_word sections i b c l.within (omega (arith, z)) ∙ here)) (λ q. a.only c d (rw z q))
              (or_cases (eqb d e) (word_bit new c0 d) (sym (at_c0 d) ∙ (rw z at h)))

          kept : (c d : ℕ) → word_bit new c d ≡ true → Dec (c ≡ c0) → bit (get_or words c 0) d ≡ true
          kept c d h (no n) = other c d n ∙ h
          kept c d h (yes z) = rw z (at_c0 d ∙ or_inr (eqb d e) (word_bit new c0 d) (rw z at h))

          put : (c : ℕ) → Within i rest c → memb sections c ≡ true → Dec (c ≡ c0) → bit (get_or words c 0) e ≡ true
          put c q h (yes z) = rw z (at_c0 e ∙ or_inl (eqb e e) (word_bit new c0 e) (eq-eqb e e refl))
          put c (inl q) h (no n) = other c e n ∙ a.put c (inl q) h
          put c (inr q) h (no n) =
              other c e n
              ∙ a.put c (inr (q.0, q.1, q.2, ⊎_elim (λ (z : q.0 ≡ b). absurd (n (omega (arith, q.2)))) (λ z. z) (passed l q.0 q.3))) h
