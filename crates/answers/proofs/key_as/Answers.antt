-- `answers::key_as` meets its contract.
use mathlib.Core.Path.{ap, ◌∙◌}
use native.Mathlib.Omega.{arith}
use Rattle.std.specs.Prelude.{Some}
use Rattle.answers.proofs.Reading.{right_fields, key_unread, form_wrong, Asked, range_wrong, range_right, range_key}
use Rattle.answers.proofs.key_as.Goals as goal
use Rattle.answers.proofs.key_as.Goals.{After-in_range}

pub returns-then-line : goal.returns-then-line
returns-then-line c = form_wrong c.args.n c.args.line.now 0 c.if-line.true

-- A field has no number.
pub returns-in_err-number_at : goal.returns-in_err-number_at
returns-in_err-number_at c = rw c.from_residual.ensures (key_unread c.args.n c.args.line.now 0 _ (λ e. (right_fields c.args.n c.args.line.now 0 e).0) c.in_err-number_at.ensures)

pub returns-in_err-number_at-2 : goal.returns-in_err-number_at-2
returns-in_err-number_at-2 c =
    rw c.from_residual-in_err-number_at-2.ensures (key_unread c.args.n c.args.line.now 0 _ (λ e. (right_fields c.args.n c.args.line.now 0 e).1) c.in_err-number_at-2.ensures)

pub returns-in_err-number_at-3 : goal.returns-in_err-number_at-3
returns-in_err-number_at-3 c =
    rw c.from_residual-in_err-number_at-3.ensures (key_unread c.args.n c.args.line.now 0 _ (λ e. (right_fields c.args.n c.args.line.now 0 e).2) c.in_err-number_at-3.ensures)

pub returns-in_err-number_at-4 : goal.returns-in_err-number_at-4
returns-in_err-number_at-4 c =
    rw c.from_residual-in_err-number_at-4.ensures (key_unread c.args.n c.args.line.now 0 _ (λ e. (right_fields c.args.n c.args.line.now 0 e).3) c.in_err-number_at-4.ensures)

-- The fields were read, and their ranges asked.
asked : (c : After-in_range) →
    Asked c.args.n c.args.line.now 0 c.in_ok-number_at.field-0 c.in_ok-number_at-2.field-0 c.in_ok-number_at-3.field-0 c.in_ok-number_at-4.field-0
    c.in_range.result
asked c =
    record {
      form = c.if-line.false;
      candidate = c.in_ok-number_at.ensures;
      question = c.in_ok-number_at-2.ensures;
      sequence = c.in_ok-number_at-3.ensures;
      answer = c.in_ok-number_at-4.ensures;
      range = c.in_range.ensures;
    }

pub returns-then-not-in_range : goal.returns-then-not-in_range
returns-then-not-in_range c = range_wrong (asked (goal.at.returns-then-not-in_range c).After-in_range) c.if-not-in_range.true

pub key_of-requires : goal.key_of-requires
key_of-requires c = (range_right (asked (goal.at.key_of-requires c).After-in_range) c.if-not-in_range.false, omega arith)

pub returns : goal.returns
returns c = ap Some c.key_of.ensures ∙ range_key (asked (goal.at.returns c).After-in_range) c.if-not-in_range.false
