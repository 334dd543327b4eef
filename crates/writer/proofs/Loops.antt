-- A turn of a loop over the values of a part: the line of one more is checked, or stored.
use Rattle.std.proofs.Common.{Result, Ok, Err, ◌≡◌, refl, sym, ap, subst, ℕ, ◌+◌, ◌*◌, ◌≤◌, ◌<◌, List, length, get_or, arith}
use Rattle.std.specs.Prelude.{⊤}
use lib.Seq.{sets}
use Rattle.meaning.specs.declared.Header.{Header}
use Rattle.meaning.specs.declared.Line.{Line}
use Rattle.meaning.specs.declared.Refusal.{Refusal}
use Rattle.meaning.specs.Columns.{line_text}
use Rattle.meaning.specs.Digits.{printed_sum}
use Rattle.meaning.specs.File.{refusal, refusal_of, unless_refused}
use Rattle.line_checks.specs.declared.Seen.{Seen}
use Rattle.line_checks.specs.Causes.{Checked, Passed, Outcome}
use Rattle.line_checks.proofs.Steps.{Turn, turned, passed_at, refuses_first, refuses_all, rest_none}
use Rattle.writer.specs.Text.{Begun}
use Rattle.writer.specs.Parts.{Has, Checks, Stores}
use Rattle.writer.proofs.Text.{begun_more}

-- ---- checked
module _ {T : Type 0} (h : Header) (m : ℕ) (part : List T) (line : T → Line) (t : Seen) where
  -- The lines of the first k values have passed.
  abbrev pub Passing : ℕ → Seen → Type 0
  Passing k u = (lines : ℕ → Line) → Has lines (1 + m) part line → Passed h lines m t → Passed h lines (m + k) u

  pub passing_none : Passing 0 t
  passing_none lines has o = passed_at h lines (omega arith) o

  module _ (k : ℕ) (few : k < length part) (within : m + length part ≤ h.plain + h.elements + h.trains) {x : T} (is : x ≡ get_or part k x)
      {u v : Seen} {q : ℕ} (c : Checked h.sections (line x) u v q) (p : Passing k u) where
    turn : (lines : ℕ → Line) → Has lines (1 + m) part line → Passed h lines m t → Turn h lines (m + k) (1 + m + k) (line x) v q
    turn lines has o = turned h lines (m + k) (1 + m + k) (omega arith) (omega arith) (line x) (sym (has k x few is)) c (p lines has o)

    -- The line of the next value has no cause.
    pub passing_more : q ≡ 0 → Passing (k + 1) v
    passing_more z lines has o = passed_at h lines (omega arith) ((turn lines has o).passes z)

    -- The line of the next value has a cause.
    pub passing_refused : (q ≡ 0 → ⊥) → {i : ℕ} → i ≡ m + k + 2 → Checks h m part line t v (Err (refusal q i))
    passing_refused z {i} e lines has o =
        let at : i ≡ 1 + m + k + 1 = omega arith in
        rw at (refuses_first h lines z ((turn lines has o).refuses z))

  -- All have passed.
  pub passing_all : {k : ℕ} {u : Seen} → k ≡ length part → Passing k u → Checks h m part line t u (Ok tt)
  passing_all e p lines has o = passed_at h lines (ap (λ (x : ℕ). m + x) e) (p lines has o)

-- ---- stored
module _ {T : Type 0} (first : ℕ) (part : List T) (line : T → Line) (d : List ℕ) where
  -- The lines of the first k values are stored, with c subtractions.
  pub record Storing (k : ℕ) (f : List ℕ) (c : ℕ) : Type 0 where
    pub begun : (lines : ℕ → Line) → Has lines first part line → (b : List ℕ) (x : ℕ) → Begun lines first b d x → Begun lines (first + k) b f (x + c)
    pub few : c ≤ 360 * k

  pub storing_none : Storing 0 d 0
  storing_none = record {
    begun = λ lines has b x z.
        let e : first ≡ first + 0 = omega arith in
        let n : x ≡ x + 0 = omega arith in
        rw (← e, ← n) z;
    few = omega arith;
  }

  pub storing_more : (k : ℕ) → k < length part → {x : T} → x ≡ get_or part k x → {e f : List ℕ} {c y : ℕ} → (first + k) * 22 + 22 ≤ length e
      → f ≡ sets e ((first + k) * 22) (line_text (line x)) → y ≡ printed_sum (line_text (line x)) → y ≤ 360 → Storing k e c → Storing (k + 1) f (c + y)
  storing_more k few {x} is {e} {f} {c} {y} room q count small s = record {
    begun = λ lines has b u z.
        let w = s.begun lines has b u z in
        let next : first + (k + 1) ≡ first + k + 1 = omega arith in
        let sum : u + (c + y) ≡ u + c + y = omega arith in
        rw (next, sum)
        (begun_more lines (first + k) b e w (line x) f (omega (arith, room, w.same_length)) (sym (has k x few is)) q count);
    few = omega (arith, s.few);
  }

  pub storing_all : {k : ℕ} {f : List ℕ} {c : ℕ} → k ≡ length part → Storing k f c → Stores first part line d f c
  storing_all {f = f} {c} e s lines has b x z = subst (λ (i : ℕ). Begun lines (first + i) b f (x + c)) e (s.begun lines has b x z)

-- ---- the answer
-- Where the loop over the last part is through, it is that of all lines.
pub answer_is : (h : Header) (lines : ℕ → Line) (k : ℕ) (u : Seen) (r : Result ⊤ Refusal) → Outcome h lines r (λ _. Passed h lines k u)
    → k ≡ h.plain + h.elements + h.trains → r ≡ unless_refused (refusal_of h lines) tt
answer_is h lines k u (Ok x) p all = rw (← rest_none h lines all p.rest) refl
answer_is h lines k u (Err q) p all = refuses_all h lines tt p
