-- `line_checks::cause_after` checks a line after the others: a cause of its own first, then its pairs. A line without a cause of its own
-- has sections from 1 to 512.
use mathlib.Core.Path.{◌≡◌, refl, sym, ap₂, ◌∙◌}
use mathlib.Core.Bool.{◌||◌}
use mathlib.Core.List.{List}
use Prim.Native.Nat.{ℕ}
use native.Mathlib.Omega.{arith}
use borrow.Author.Tests.{ne_eqb}
use Rattle.std.proofs.lemmas.Result.{err_from_is_err_and}
use Rattle.meaning.specs.declared.Move.{Move}
use Rattle.meaning.specs.File.{pairs_of, line_cause}
use Rattle.meaning.proofs.Numbered.{some_number}
use Rattle.meaning.specs.Inside.{Inside}
use Rattle.line_checks.specs.declared.Seen.{Seen}
use Rattle.line_checks.specs.Causes.{AdmittedBy, Checked}
use Rattle.line_checks.proofs.Causes.{kind_given, plain_inside, signal_inside, turnout_inside, pairs_one, pairs_four, pairs_none}
use Rattle.line_checks.proofs.Causes.{by_none, checked_own, checked_admitted}
use Rattle.line_checks.proofs.cause_after.Goals as goal
use Rattle.line_checks.proofs.cause_after.Goals.{In_ok-line_cause}

pub returns-in_err-line_cause : goal.returns-in_err-line_cause
returns-in_err-line_cause c =
    let a = c.args in
    let p = err_from_is_err_and c.from_residual.result c.from_residual.ensures.1 in
    rw (p.1, p.2) (checked_own a.sections a.l _ _ c.in_err-line_cause.ensures (some_number c.in_err-line_cause.field-0.0))

-- Where the line has no cause of its own: it is of kind k.
module _ (o : In_ok-line_cause) where
  none : line_cause o.args.sections o.args.l ≡ 0
  none = sym o.in_ok-line_cause.ensures

  kind : {k : ℕ} → o.args.k ≡ k → o.args.l.kind ≡ k
  kind is = kind_given _ _ none _ o.requires.0 ∙ is

  -- Its sections are those of a pair.
  both : {a b : ℕ} → Inside o.args.sections a → Inside o.args.sections b → Inside 512 a × Inside 512 b
  both a b = ((a.0, omega arith), (b.0, omega arith))

  -- Its pairs decide.
  admitted : (k : ℕ) (is : o.args.k ≡ k) {ms : List Move} → pairs_of o.args.l ≡ ms → {t u : Seen} {r : ℕ}
      → AdmittedBy k ms t u r → Checked o.args.sections o.args.l t u r
  admitted k is p m = checked_admitted _ _ _ _ _ k _ none (kind is) p m

pub pair-requires : goal.pair-requires
pair-requires c =
    let o = (goal.at.pair-requires c).In_ok-line_cause in
    let i = plain_inside _ _ (none o) (kind o c.in-1.is) in
    both o i.0 i.1.0

pub returns-in-1 : goal.returns-in-1
returns-in-1 c =
    let o = (goal.at.returns-in-1 c).In_ok-line_cause in
    admitted o 1 c.in-1.is (pairs_one _ 1 (kind o c.in-1.is) refl) (rw (c.pair.ensures.0, c.pair.ensures.1) at c.admit_plain.ensures)

pub pair-requires-in-2 : goal.pair-requires-in-2
pair-requires-in-2 c =
    let o = (goal.at.pair-requires-in-2 c).In_ok-line_cause in
    let i = signal_inside _ _ (none o) (kind o c.in-2.is) in
    both o i.0 i.1.0

pub returns-in-2 : goal.returns-in-2
returns-in-2 c =
    let o = (goal.at.returns-in-2 c).In_ok-line_cause in
    admitted o 2 c.in-2.is (pairs_one _ 2 (kind o c.in-2.is) refl)
    (rw (c.pair-in-2.ensures.0, c.pair-in-2.ensures.1) at c.admit_signal.ensures)

pub pair-requires-in-3 : goal.pair-requires-in-3
pair-requires-in-3 c =
    let o = (goal.at.pair-requires-in-3 c).In_ok-line_cause in
    let i = turnout_inside _ _ (none o) (kind o c.in-3.is) in
    both o i.0 i.1.0

pub pair-requires-in-3-2 : goal.pair-requires-in-3-2
pair-requires-in-3-2 c =
    let o = (goal.at.pair-requires-in-3-2 c).In_ok-line_cause in
    let i = turnout_inside _ _ (none o) (kind o c.in-3.is) in
    both o i.0 i.1.1.0

pub returns-in-3 : goal.returns-in-3
returns-in-3 c =
    let o = (goal.at.returns-in-3 c).In_ok-line_cause in
    admitted o 3 c.in-3.is (pairs_four _ 3 (kind o c.in-3.is) refl refl)
    (rw (c.pair-in-3.ensures.0, c.pair-in-3.ensures.1, c.pair-in-3-2.ensures.0, c.pair-in-3-2.ensures.1) at c.admit_legs.ensures)

pub returns-in_default : goal.returns-in_default
returns-in_default c =
    let o = (goal.at.returns-in_default c).In_ok-line_cause in
    let k = c.args.k in
    admitted o k refl
    (pairs_none _ k (kind o refl) (ap₂ ◌||◌ (ne_eqb k 1 (λ e. omega arith)) (ne_eqb k 2 (λ e. omega arith))) (ne_eqb k 3 (λ e. omega arith)))
    (by_none k _)
