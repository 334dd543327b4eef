-- What follows where a line has no cause of its own, and how a table of pairs answers for the lines before: the builders of
-- `Admitted` and `Checked`.
use mathlib.Core.Path.{◌≡◌, refl, sym, ap, ap₂, subst, ◌∙◌}
use mathlib.Core.Bool.{Bool, true, false, ◌||◌, cond, or-true, or-false, or_self, or_assoc}
use mathlib.Core.List.{List, [], ◌∷◌, ◌++◌}
use Prim.Native.Nat.{ℕ, zero, suc, ◌≤◌}
use native.Mathlib.Omega.{arith}
use lib.Dec.{eqb, eqb-suc-zero}
use borrow.Author.Tests.{ne_eqb, eqb-false}
use Rattle.std.specs.Prelude.{Option}
use Rattle.meaning.specs.declared.FieldForm.{FieldForm}
use Rattle.meaning.specs.declared.Section.{Section}
use Rattle.meaning.specs.declared.Move.{Move}
use Rattle.meaning.specs.declared.StationField.{StationField}
use Rattle.meaning.specs.declared.Line.{Line}
use Rattle.meaning.specs.Columns.{record_kind_at, select, having, no_kind, malformed, line_at, section_field, state_field}
use Rattle.meaning.specs.Station.{section, both_ways, permitted}
use Rattle.meaning.specs.File.{pairs_of, excludes, closed_to, clashes, line_cause, cause_after, move_of}
use Rattle.meaning.proofs.Reach.{permitted-append}
use Rattle.meaning.proofs.Columns.{line_kind, kind_well_formed}
use Rattle.meaning.specs.Inside.{Inside}
use Rattle.meaning.proofs.Causes.{Every, every, line_clear}
use Rattle.pairs.specs.Pairs.{Rows, edge, Represents, Gains}
use Rattle.pairs.specs.declared.Pairs.{Pairs}
use Rattle.line_checks.specs.declared.Seen.{Seen}
use Rattle.line_checks.specs.Causes.{OfKind, Admitted, AdmittedBy, Checked}

-- ---- a line of a given kind
-- A line of a file is of the kind that is allowed, or malformed.
pub line_of_kind : (form : FieldForm) (file : List ℕ) (i k : ℕ) (l : Line) → l ≡ line_at form file i k → OfKind k l
line_of_kind form file i k l e d =
    let kind : l.kind ≡ (line_at form file i k).kind = ap (λ (x : Line). x.kind) e in
    kind ∙ line_kind form file i k (kind_well_formed form file i k (ne_eqb _ no_kind (λ z. d (kind ∙ z))))

-- ---- a line with no cause of its own
module _ (n : ℕ) (l : Line) (none : line_cause n l ≡ 0) where
  -- It is not malformed.
  pub kind_given : (k : ℕ) → OfKind k l → l.kind ≡ k
  kind_given k of = of (eqb-false l.kind no_kind ((line_clear n l).0 none).formed)

  -- The fields with meaning m in a line of kind k.
  abbrev pub fields : (Option StationField → Bool) → ℕ → List ℕ
  fields m k = select m (record_kind_at k).meaning (l.first ∷ l.second ∷ l.third ∷ l.fourth ∷ [])

  having_of : (m : Option StationField → Bool) (k : ℕ) → l.kind ≡ k → having m l ≡ fields m k
  unfolding having
  having_of m k e = ap (fields m) e

  -- Its sections are inside, and its states at most 2.
  pub sections_inside : (k : ℕ) → l.kind ≡ k → Every (Inside n) (fields section_field k)
  sections_inside k e = subst (Every (Inside n)) (having_of section_field k e) (every (Inside n) (having section_field l) ((line_clear n l).0 none).inside)

  states_low : (k : ℕ) → l.kind ≡ k → Every (λ x. x ≤ 2) (fields state_field k)
  states_low k e = subst (Every (λ x. x ≤ 2)) (having_of state_field k e) (every (λ x. x ≤ 2) (having state_field l) ((line_clear n l).0 none).states)

  -- A P line and a signal have two sections; a signal has a state.
  pub plain_inside : l.kind ≡ 1 → Every (Inside n) (l.first ∷ l.second ∷ [])
  unfolding record_kind_at
  plain_inside = sections_inside 1

  pub signal_inside : l.kind ≡ 2 → Every (Inside n) (l.first ∷ l.second ∷ [])
  unfolding record_kind_at
  signal_inside = sections_inside 2

  pub signal_low : l.kind ≡ 2 → l.third ≤ 2
  unfolding record_kind_at
  signal_low e = (states_low 2 e).0

  -- A turnout has three, and a state.
  pub turnout_inside : l.kind ≡ 3 → Every (Inside n) (l.first ∷ l.second ∷ l.third ∷ [])
  unfolding record_kind_at
  turnout_inside = sections_inside 3

  pub turnout_low : l.kind ≡ 3 → l.fourth ≤ 2
  unfolding record_kind_at
  turnout_low e = (states_low 3 e).0

-- ---- the pairs of a line
module _ (l : Line) (k : ℕ) (is : l.kind ≡ k) where
  pub pairs_one : (eqb k 1 || eqb k 2) ≡ true → pairs_of l ≡ move_of l ∷ []
  unfolding pairs_of
  pairs_one e = simp (is, e)

  pub pairs_four : (eqb k 1 || eqb k 2) ≡ false → eqb k 3 ≡ true
      → pairs_of l ≡ both_ways (section l.first) (section l.second) ++ both_ways (section l.first) (section l.third)
  unfolding pairs_of
  pairs_four e f = simp (is, e, f)

  pub pairs_none : (eqb k 1 || eqb k 2) ≡ false → eqb k 3 ≡ false → pairs_of l ≡ []
  unfolding pairs_of
  pairs_none e f = simp (is, e, f)

-- The cause of a line that stands over no pair does not go by the lines before it.
pub no_pair_cause : (n : ℕ) (earlier : List Line) (l : Line) → pairs_of l ≡ [] → cause_after n earlier l ≡ line_cause n l
unfolding cause_after clashes
no_pair_cause n earlier l none =
    ap (λ (ms : List Move). cond (eqb (line_cause n l) 0) (cond (clashes (closed_to l.kind earlier) ms) 8 0) (line_cause n l)) none ∙ own (line_cause n l)
  where
    own : (q : ℕ) → cond (eqb q 0) 0 q ≡ q
    own zero = refl
    own (suc q) = ap (λ (b : Bool). cond b 0 (suc q)) (eqb-suc-zero q)

-- It adds no pair to those that have been seen.
pub no_pair_checked : (n : ℕ) (l : Line) {seen : Seen} {q : ℕ} → pairs_of l ≡ [] → q ≡ line_cause n l → Checked n l seen seen q
unfolding closed_to
no_pair_checked n l none e =
    let closed : (k : ℕ) (earlier : List Line) → closed_to k (l ∷ earlier) ≡ closed_to k earlier =
    λ k earlier. rw none (elim (excludes l.kind k) as (λ b. cond b [] [] ++ closed_to k earlier ≡ closed_to k earlier) [ true ↦ refl | false ↦ refl ]) in
    record {
      own = λ z. sym e ∙ z;
      cause = λ earlier s. e ∙ sym (no_pair_cause n earlier l none);
      seen = λ earlier s z. record { signals = rw (closed 2 earlier) s.signals; turnouts = rw (closed 3 earlier) s.turnouts };
    }

-- ---- a table that answers for the lines before
-- One of the pairs is in the table.
abbrev pub some_in : Rows → List Move → Bool
some_in t [] = false
some_in t (m ∷ ms) = edge t m.from.0 m.to.0 || some_in t ms

-- Where the table stands for the pairs of earlier lines, that is a clash with them.
some_in-clashes : (t : Rows) (ms earlier : List Move) → Represents t earlier → some_in t ms ≡ clashes earlier ms
unfolding clashes
some_in-clashes t [] earlier s = refl
some_in-clashes t (m ∷ ms) earlier s = ap₂ ◌||◌ (s m.from.0 m.to.0) (some_in-clashes t ms earlier s)

-- The four pairs of a turnout, taken two by two.
pub turnout_in : (t : Rows) (a b c d : Section)
    → some_in t (both_ways a b ++ both_ways c d)
    ≡ ((edge t a.0 b.0 || edge t b.0 a.0) || (edge t c.0 d.0 || edge t d.0 c.0))
turnout_in t a b c d = simp (or_assoc, or-false)

-- A pair that the table has is met, and nothing changes.
pub admitted_seen : (ms : List Move) (t : Rows) → some_in t ms ≡ true → Admitted ms t t 8
admitted_seen ms t e =
    record {
      cause = λ earlier s. sym (ap (λ (b : Bool). cond b 8 0) (sym (some_in-clashes t ms earlier s) ∙ e));
      represents = λ earlier s z. absurd (omega arith);
    }

-- Pairs that the table has not are added.
pub admitted_new : (ms : List Move) (t u : Rows) → some_in t ms ≡ false → Gains t ms u → Admitted ms t u 0
admitted_new ms t u e g =
    record {
      cause = λ earlier s. sym (ap (λ (b : Bool). cond b 8 0) (sym (some_in-clashes t ms earlier s) ∙ e));
      represents = λ earlier s z. g.represents earlier s;
    }

-- ---- what is closed to signals, and what to turnouts
-- The pairs of a line whose kind is 1, 2 or 3, as closed to P lines, to signals, and to turnouts.
split : (ms : List Move) (a b : ℕ) (one two three : Bool)
    → (one ≡ false → two ≡ false → three ≡ false → permitted ms a b ≡ false)
    → permitted (cond (one || (one || true)) ms []) a b
    ≡ (permitted (cond (two || (one || false)) ms []) a b || permitted (cond (three || (one || false)) ms []) a b)
split ms a b true two three none = simp (or-true two, or-true three, or_self)
split ms a b false true true none = sym (or_self (permitted ms a b))
split ms a b false true false none = sym (or-false (permitted ms a b))
split ms a b false false true none = refl
split ms a b false false false none = none refl refl refl

or_middle : (p q r s : Bool) → ((p || q) || (r || s)) ≡ ((p || r) || (q || s))
or_middle true q r s = refl
or_middle false true true s = refl
or_middle false true false s = refl
or_middle false false r s = refl

-- What is closed to P lines is closed to signals or to turnouts.
closed_plain : (earlier : List Line) (a b : ℕ)
    → permitted (closed_to 1 earlier) a b ≡ (permitted (closed_to 2 earlier) a b || permitted (closed_to 3 earlier) a b)
unfolding closed_to
closed_plain [] a b = refl
closed_plain (e ∷ es) a b =
    permitted-append (cond (excludes e.kind 1) (pairs_of e) []) (closed_to 1 es) a b
    ∙ ap₂ ◌||◌
    (split (pairs_of e) a b (eqb e.kind 1) (eqb e.kind 2) (eqb e.kind 3)
    (λ p q r. ap (λ (ms : List Move). permitted ms a b) (pairs_none e e.kind refl (ap₂ ◌||◌ p q) r)))
    (closed_plain es a b)
    ∙ or_middle (permitted (cond (excludes e.kind 2) (pairs_of e) []) a b) (permitted (cond (excludes e.kind 3) (pairs_of e) []) a b)
    (permitted (closed_to 2 es) a b) (permitted (closed_to 3 es) a b)
    ∙ sym (ap₂ ◌||◌ (permitted-append (cond (excludes e.kind 2) (pairs_of e) []) (closed_to 2 es) a b)
    (permitted-append (cond (excludes e.kind 3) (pairs_of e) []) (closed_to 3 es) a b))

clashes_plain : (earlier : List Line) (ms : List Move)
    → clashes (closed_to 1 earlier) ms ≡ (clashes (closed_to 2 earlier) ms || clashes (closed_to 3 earlier) ms)
unfolding clashes
clashes_plain earlier [] = refl
clashes_plain earlier (m ∷ ms) =
    ap₂ ◌||◌ (closed_plain earlier m.from.0 m.to.0) (clashes_plain earlier ms)
    ∙ or_middle (permitted (closed_to 2 earlier) m.from.0 m.to.0) (permitted (closed_to 3 earlier) m.from.0 m.to.0)
    (clashes (closed_to 2 earlier) ms) (clashes (closed_to 3 earlier) ms)

module _ (ms : List Move) (t : Seen) (v : Pairs) (r : ℕ) where
  -- A signal's pair is met among those closed to signals.
  pub by_signal : Admitted ms t.signals.rows v.rows r → AdmittedBy 2 ms t (record { signals = v; turnouts = t.turnouts }) r
  by_signal m =
      record {
        cause = λ earlier s. m.cause (closed_to 2 earlier) s.signals;
        signals = λ earlier s z. m.represents (closed_to 2 earlier) s.signals z;
        turnouts = λ earlier s z. s.turnouts;
      }

  -- A turnout's pairs are met among those closed to turnouts.
  pub by_turnout : Admitted ms t.turnouts.rows v.rows r → AdmittedBy 3 ms t (record { signals = t.signals; turnouts = v }) r
  by_turnout m =
      record {
        cause = λ earlier s. m.cause (closed_to 3 earlier) s.turnouts;
        signals = λ earlier s z. s.signals;
        turnouts = λ earlier s z. m.represents (closed_to 3 earlier) s.turnouts z;
      }

-- A P line's pair is met in both: closed already to signals, or else to turnouts.
pub plain_first : (ms : List Move) (t u : Seen) (r : ℕ) → (r ≡ 0 → ⊥) → AdmittedBy 2 ms t u r → AdmittedBy 1 ms t u r
plain_first ms t u r z m =
    record {
      cause = λ earlier s.
          go (clashes (closed_to 2 earlier) ms) (clashes (closed_to 3 earlier) ms) (clashes (closed_to 1 earlier) ms)
          (clashes_plain earlier ms) (m.cause earlier s);
      signals = λ earlier s e. absurd (z e);
      turnouts = λ earlier s e. absurd (z e);
    }
  where
    go : (p q a : Bool) → a ≡ (p || q) → r ≡ cond p 8 0 → r ≡ cond a 8 0
    go true q a e h = h ∙ sym (ap (λ (b : Bool). cond b 8 0) e)
    go false q a e h = absurd (z h)

pub plain_both : (ms : List Move) (t u : Seen) (v : Pairs) (q r : ℕ) → q ≡ 0 → AdmittedBy 2 ms t u q
    → Admitted ms u.turnouts.rows v.rows r → AdmittedBy 1 ms t (record { signals = u.signals; turnouts = v }) r
plain_both ms t u v q r z m n =
    record {
      cause = λ earlier s.
          go (clashes (closed_to 2 earlier) ms) (clashes (closed_to 3 earlier) ms) (clashes (closed_to 1 earlier) ms)
          (clashes_plain earlier ms) (m.cause earlier s) (n.cause (closed_to 3 earlier) (m.turnouts earlier s z));
      signals = λ earlier s e. m.signals earlier s z;
      turnouts = λ earlier s e. n.represents (closed_to 3 earlier) (m.turnouts earlier s z) e;
    }
  where
    go : (p c a : Bool) → a ≡ (p || c) → q ≡ cond p 8 0 → r ≡ cond c 8 0 → r ≡ cond a 8 0
    go true c a e h k = absurd (omega arith)
    go false c a e h k = k ∙ sym (ap (λ (b : Bool). cond b 8 0) e)

-- No pairs are met by no line.
pub by_none : (k : ℕ) (t : Seen) → AdmittedBy k [] t t 0
unfolding clashes
by_none k t =
    record {
      cause = λ earlier s. refl;
      signals = λ earlier s z. go (excludes k 2) t.signals.rows (closed_to 2 earlier) s.signals;
      turnouts = λ earlier s z. go (excludes k 3) t.turnouts.rows (closed_to 3 earlier) s.turnouts;
    }
  where
    go : (b : Bool) (l : Rows) (ms : List Move) → Represents l ms → Represents l (cond b [] [] ++ ms)
    go true l ms s = s
    go false l ms s = s

-- ---- a line, checked
-- A cause of its own comes first.
pub checked_own : (n : ℕ) (l : Line) (t : Seen) (q : ℕ) → q ≡ line_cause n l → (q ≡ 0 → ⊥) → Checked n l t t q
unfolding cause_after
checked_own n l t q e z =
    record {
      own = λ y. absurd (z y);
      cause = λ earlier s. rw (← e, ne_eqb q 0 z);
      seen = λ earlier s y. absurd (z y);
    }

-- That of a malformed line is 2.
pub malformed_cause : (n : ℕ) {l : Line} → malformed ≡ l → 2 ≡ line_cause n l
unfolding line_cause
malformed_cause n e = rw (← e) refl

pub malformed_checked : (n : ℕ) {l : Line} (t : Seen) → malformed ≡ l → Checked n l t t 2
malformed_checked n t e = checked_own n _ t 2 (malformed_cause n e) (λ z. omega arith)

-- Without one, the pairs of the line decide.
cause_admitted : (n : ℕ) (l : Line) (k : ℕ) (ms : List Move) → line_cause n l ≡ 0 → l.kind ≡ k → pairs_of l ≡ ms → (earlier : List Line)
    → cause_after n earlier l ≡ cond (clashes (closed_to k earlier) ms) 8 0
unfolding cause_after
cause_admitted n l k ms e is p earlier =
    ap (λ (q : ℕ). cond (eqb q 0) (cond (clashes (closed_to l.kind earlier) (pairs_of l)) 8 0) q) e
    ∙ ap₂ (λ (j : ℕ) (ns : List Move). cond (clashes (closed_to j earlier) ns) 8 0) is p

pub checked_admitted : (n : ℕ) (l : Line) (t u : Seen) (r k : ℕ) (ms : List Move)
    → line_cause n l ≡ 0 → l.kind ≡ k → pairs_of l ≡ ms → AdmittedBy k ms t u r → Checked n l t u r
unfolding closed_to
checked_admitted n l t u r k ms e is p m =
    record {
      own = λ z. e;
      cause = λ earlier s. m.cause earlier s ∙ sym (cause_admitted n l k ms e is p earlier);
      seen = λ earlier s z.
          let half : ℕ → List Move = λ i. cond (excludes l.kind i) (pairs_of l) [] ++ closed_to i earlier in
          let same : (i : ℕ) → cond (excludes k i) ms [] ++ closed_to i earlier ≡ half i =
          λ i. ap₂ (λ (j : ℕ) (ns : List Move). cond (excludes j i) ns [] ++ closed_to i earlier) (sym is) (sym p) in
          record {
            signals = subst (Represents u.signals.rows) (same 2) (m.signals earlier s z);
            turnouts = subst (Represents u.turnouts.rows) (same 3) (m.turnouts earlier s z);
          };
    }
