-- The lines one after the other: what one line more does to the lines passed, by the laws of `first_refusal`.
use mathlib.Core.Path.{◌≡◌, refl, sym, ap, subst, ◌∙◌}
use mathlib.Core.List.{[], ◌∷◌}
use Prim.Native.Nat.{ℕ, ◌+◌, ◌-◌, ◌<◌}
use native.Mathlib.Numerals.{add-one}
use native.Mathlib.Omega.{arith}
use Rattle.std.specs.Prelude.{Err}
use Rattle.meaning.specs.declared.Line.{Line}
use Rattle.meaning.specs.declared.Header.{Header}
use Rattle.meaning.specs.declared.Refusal.{Refusal}
use Rattle.meaning.specs.File.{line_cause, cause_after, refusal, refusal_of, line_count, unless_refused}
use Rattle.meaning.proofs.FirstRefusal.{first_passes, first_refused, first_none}
use Rattle.meaning.proofs.Refused.{refused_with}
use Rattle.line_checks.specs.declared.Seen.{Seen}
use Rattle.line_checks.specs.Causes.{HasSeen, Checked, lines_to, refusal_from, Rest, Passed, Refuses}

-- One line more.
lines_to_more : (lines : ℕ → Line) (k : ℕ) → lines_to lines (k + 1) ≡ lines (k + 1) ∷ lines_to lines k
unfolding lines_to
lines_to_more lines k = rw add-one

module _ (n : ℕ) (lines : ℕ → Line) (m k : ℕ) where
  -- Where the next line has no cause, the lines after it give the answer.
  refusal_passes : k < m → cause_after n (lines_to lines k) (lines (k + 1)) ≡ 0 → refusal_from n lines m (k + 1) ≡ refusal_from n lines m k
  unfolding refusal_from
  refusal_passes h e =
      let d : m - (k + 1) ≡ m - k - 1 = omega arith in
      rw (d, lines_to_more lines k) (first_passes n lines (m - k) (k + 1) (lines_to lines k) (omega arith) e)

  -- Where it has one, that is the answer.
  refusal-found : k < m → (q : ℕ) → q ≡ cause_after n (lines_to lines k) (lines (k + 1)) → (q ≡ 0 → ⊥)
      → refusal q (k + 2) ≡ refusal_from n lines m k
  unfolding refusal_from
  refusal-found h q e z =
      let d : k + 2 ≡ k + 1 + 1 = omega arith in
      ap (refusal q) d ∙ sym (first_refused n lines (m - k) (k + 1) (lines_to lines k) (omega arith) q (sym e) z)

-- After all lines there is no refusal.
refusal_none : (n : ℕ) (lines : ℕ → Line) (m : ℕ) → refusal_from n lines m m ≡ refusal 0 0
unfolding refusal_from
refusal_none n lines m = first_none n lines (m - m) (m + 1) (lines_to lines m) (omega arith)

-- Before the first of them, the answer is that of the whole file.
refusal_whole : (h : Header) (lines : ℕ → Line)
    → refusal_from h.sections lines (h.plain + h.elements + h.trains) 0 ≡ refusal_of h lines
unfolding refusal_from refusal_of lines_to
refusal_whole h lines =
    let d : h.plain + h.elements + h.trains - 0 ≡ line_count h - 1 = omega arith in
    rw d

-- ---- the lines passed
-- Before the first line nothing is seen.
pub passed_start : (h : Header) (lines : ℕ → Line) {t : Seen} → HasSeen t [] → Passed h lines 0 t
unfolding lines_to
passed_start h lines none = record { represents = none; rest = refusal_whole h lines }

module _ (h : Header) (lines : ℕ → Line) where
  -- The same number of lines, written in another way.
  pub passed_at : {k j : ℕ} {t : Seen} → k ≡ j → Passed h lines k t → Passed h lines j t
  passed_at {t = t} e p = subst (λ (x : ℕ). Passed h lines x t) e p

  -- A loop ends at a line with a cause, or when none is left.
  pub refuses_first : {q m : ℕ} → (q ≡ 0 → ⊥) → refusal q m ≡ refusal_of h lines → Refuses h lines (refusal q m)
  refuses_first z e = record { first = e; some = z }

  -- The first refusal is the answer.
  pub refuses_all : {T : Type 0} (x : T) {q : Refusal} → Refuses h lines q → Err q ≡ unless_refused (refusal_of h lines) x
  refuses_all x {q = q} r = refused_with q x r.some ∙ ap (λ (p : Refusal). unless_refused p x) r.first

  -- Where all have passed, there is no refusal.
  pub rest_none : {k : ℕ} → k ≡ h.plain + h.elements + h.trains → Rest h lines k → refusal 0 0 ≡ refusal_of h lines
  rest_none e r = sym (refusal_none h.sections lines (h.plain + h.elements + h.trains)) ∙ (rw e at r)

-- A turn of a loop: line i, which is l, has the cause q after k lines that have passed. Where it is 0, the line has none of its own and has
-- passed, with the table u; else it is the refusal.
pub record Turn (h : Header) (lines : ℕ → Line) (k i : ℕ) (l : Line) (u : Seen) (q : ℕ) : Type 0 where
  pub own : q ≡ 0 → line_cause h.sections l ≡ 0
  pub passes : q ≡ 0 → Passed h lines (k + 1) u
  pub refuses : (q ≡ 0 → ⊥) → refusal q (i + 1) ≡ refusal_of h lines

module _ (h : Header) (lines : ℕ → Line) (k i : ℕ) (next : i ≡ k + 1) (few : k < h.plain + h.elements + h.trains) (l : Line)
    (is : l ≡ lines i) where
  line_next : l ≡ lines (k + 1)
  line_next = is ∙ ap lines next

  -- A line without a cause is passed.
  pub rest_more : cause_after h.sections (lines_to lines k) l ≡ 0 → Rest h lines k → Rest h lines (k + 1)
  rest_more z r =
      refusal_passes h.sections lines (h.plain + h.elements + h.trains) k few
      (ap (cause_after h.sections (lines_to lines k)) (sym line_next) ∙ z)
      ∙ r

  -- A line with one is the refusal.
  pub rest_refused : (q : ℕ) → q ≡ cause_after h.sections (lines_to lines k) l → (q ≡ 0 → ⊥) → Rest h lines k
      → (m : ℕ) → m ≡ i + 1 → refusal q m ≡ refusal_of h lines
  rest_refused q e z r m at_line =
      let d : m ≡ k + 2 = omega arith in
      ap (refusal q) d
      ∙ refusal-found h.sections lines (h.plain + h.elements + h.trains) k few q
      (e ∙ ap (cause_after h.sections (lines_to lines k)) line_next) z
      ∙ r

  -- The same with a table of the pairs seen.
  pub turned : {t u : Seen} {q : ℕ} → Checked h.sections l t u q → Passed h lines k t → Turn h lines k i l u q
  turned {u = u} {q = q} c p =
      let after : q ≡ cause_after h.sections (lines_to lines k) l = c.cause (lines_to lines k) p.represents in
      record {
        own = c.own;
        passes =
            λ z.
            record {
              represents =
                  subst (HasSeen u) (ap (λ (x : Line). x ∷ lines_to lines k) line_next ∙ sym (lines_to_more lines k))
                  (c.seen (lines_to lines k) p.represents z);
              rest = rest_more (sym after ∙ z) p.rest;
            };
        refuses = λ z. rest_refused q after z p.rest (i + 1) refl;
      }
