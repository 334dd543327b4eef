-- Checking one line after the others, with the pairs that the lines before stand over.
use Rattle.std.specs.Prelude.{Result, MatchResult, ◌≡◌, cond, List, [], ◌∷◌, ◌++◌, ℕ, zero, suc, ◌+◌, ◌-◌}
use Rattle.meaning.specs.declared.Move.{Move}
use Rattle.meaning.specs.declared.Line.{Line}
use Rattle.meaning.specs.declared.Header.{Header}
use Rattle.meaning.specs.declared.Refusal.{Refusal}
use Rattle.meaning.specs.Columns.{no_kind}
use Rattle.meaning.specs.File.{line_cause, excludes, closed_to, clashes, cause_after, first_refusal, refusal_of}
use Rattle.pairs.specs.Pairs.{Rows, Represents}
use Rattle.line_checks.specs.declared.Seen.{Seen}

-- A line of kind k, or a malformed one.
abbrev pub OfKind : ℕ → Line → Type 0
OfKind k l = (l.kind ≡ no_kind → ⊥) → l.kind ≡ k

-- r is 8 where one of the pairs ms is in the rows t; else it is 0, and the rows u are t with the pairs ms added.
pub record Admitted (ms : List Move) (t u : Rows) (r : ℕ) : Type 0 where
  pub cause : (earlier : List Move) → Represents t earlier → r ≡ cond (clashes earlier ms) 8 0
  pub represents : (earlier : List Move) → Represents t earlier → r ≡ 0 → Represents u (ms ++ earlier)

-- The pairs seen are those of some lines: what they close to signals, and what they close to turnouts. A pair of a P line is in both.
pub record HasSeen (t : Seen) (earlier : List Line) : Type 0 where
  pub signals : Represents t.signals.rows (closed_to 2 earlier)
  pub turnouts : Represents t.turnouts.rows (closed_to 3 earlier)

-- The same for the pairs ms of a line of kind k: r is 8 where one of them is closed to the line; else it is 0, and the pairs seen are u, which
-- have them where they are closed from here on.
pub record AdmittedBy (k : ℕ) (ms : List Move) (t u : Seen) (r : ℕ) : Type 0 where
  pub cause : (earlier : List Line) → HasSeen t earlier → r ≡ cond (clashes (closed_to k earlier) ms) 8 0
  pub signals : (earlier : List Line) → HasSeen t earlier → r ≡ 0 → Represents u.signals.rows (cond (excludes k 2) ms [] ++ closed_to 2 earlier)
  pub turnouts : (earlier : List Line) → HasSeen t earlier → r ≡ 0 → Represents u.turnouts.rows (cond (excludes k 3) ms [] ++ closed_to 3 earlier)

-- In a station of n sections, r is the first cause of line l after the lines that t has seen, 0 where there is none; the line has then none by
-- itself, and u has seen l as well.
pub record Checked (n : ℕ) (l : Line) (t u : Seen) (r : ℕ) : Type 0 where
  pub own : r ≡ 0 → line_cause n l ≡ 0
  pub cause : (earlier : List Line) → HasSeen t earlier → r ≡ cause_after n earlier l
  pub seen : (earlier : List Line) → HasSeen t earlier → r ≡ 0 → HasSeen u (l ∷ earlier)

-- Lines 1 to k, the last first.
unfoldable pub lines_to : (ℕ → Line) → ℕ → List Line
lines_to lines zero = []
lines_to lines (suc k) = lines (suc k) ∷ lines_to lines k

-- The first refusal of the lines k + 1 to m, after k lines that have no cause.
unfoldable pub refusal_from : ℕ → (ℕ → Line) → ℕ → ℕ → Refusal
refusal_from n lines m k = first_refusal n lines (m - k) (k + 1) (lines_to lines k)

-- The first k lines after the first line have no cause: the lines after them give the answer.
abbrev pub Rest : Header → (ℕ → Line) → ℕ → Type 0
Rest h lines k = refusal_from h.sections lines (h.plain + h.elements + h.trains) k ≡ refusal_of h lines

-- The same, with the pairs of the lines passed.
pub record Passed (h : Header) (lines : ℕ → Line) (k : ℕ) (seen : Seen) : Type 0 where
  pub represents : HasSeen seen (lines_to lines k)
  pub rest : Rest h lines k

-- q is the first refusal in all lines.
pub record Refuses (h : Header) (lines : ℕ → Line) (q : Refusal) : Type 0 where
  pub first : q ≡ refusal_of h lines
  pub some : q.number ≡ 0 → ⊥

-- What a loop over some of the lines gives: what then holds of its values, or the first refusal in all lines.
abbrev pub Outcome : {T : Type 0} → Header → (ℕ → Line) → Result T Refusal → (T → Type 0) → Type 0
Outcome h lines r Next = MatchResult r Next (Refuses h lines)
