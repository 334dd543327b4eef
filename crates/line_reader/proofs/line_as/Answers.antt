-- `line_reader::line_as` meets its contract: the tests are those of a well formed line, once each call's result is what its contract says.
use Rattle.std.proofs.Common.{◌≡◌, Bool, Option, refl, sym, ◌∙◌, ℕ, ◌+◌, ◌*◌, ◌<◌, get_or, arith}
use Rattle.std.specs.Prelude.{[]}
use Rattle.meaning.specs.Columns.{field_at}
use Rattle.line_reader.specs.Cells.{cell_value}
use Rattle.line_reader.proofs.Fields.{line_of_other, line_read, cell_held}
use Rattle.line_reader.proofs.line_as.Goals as goal
use Rattle.line_reader.proofs.line_as.Goals.{After-as_chunks}

-- Cell j is read as the field of the line that it is.
cell : (t : After-as_chunks) (j : ℕ) (filled : Bool) → j < 4 → {r a : Option ℕ} → a ≡ r → a ≡ cell_value filled (field_at t.args.form (get_or t.as_chunks.result.0.now j []) 0)
    → r ≡ cell_value filled (field_at t.args.form t.args.line.now (j * 5 + 1))
cell t j filled l was is = cell_held t.args.form t.args.line.now _ filled t.told-line t.as_chunks.ensures.front j l (sym was ∙ is)

pub returns-then-line-letter-clause-line : goal.returns-then-line-letter-clause-line
returns-then-line-letter-clause-line c = line_of_other c.args.form c.args.line.now 0 c.args.k _ _ refl c.if-line-letter.true

pub returns-in_err-cell_number-clause-line : goal.returns-in_err-cell_number-clause-line
returns-in_err-cell_number-clause-line c =
    let t = (goal.at.returns-in_err-cell_number-clause-line c).After-as_chunks in
    rw c.from_residual.ensures
    (line_read c.args.form c.args.line.now 0 c.args.k _ _ refl c.if-line-letter.false
    (cell t 0 _ (omega arith) c.in_err-cell_number.was c.cell_number.ensures) refl refl refl)

pub returns-in_err-cell_number-2-clause-line : goal.returns-in_err-cell_number-2-clause-line
returns-in_err-cell_number-2-clause-line c =
    let t = (goal.at.returns-in_err-cell_number-2-clause-line c).After-as_chunks in
    rw c.from_residual-in_err-cell_number-2.ensures
    (line_read c.args.form c.args.line.now 0 c.args.k _ _ refl c.if-line-letter.false
    (cell t 0 _ (omega arith) c.in_ok-cell_number.was c.cell_number.ensures)
    (cell t 1 _ (omega arith) c.in_err-cell_number-2.was c.cell_number-2.ensures) refl refl)

pub returns-in_err-cell_number-3-clause-line : goal.returns-in_err-cell_number-3-clause-line
returns-in_err-cell_number-3-clause-line c =
    let t = (goal.at.returns-in_err-cell_number-3-clause-line c).After-as_chunks in
    rw c.from_residual-in_err-cell_number-3.ensures
    (line_read c.args.form c.args.line.now 0 c.args.k _ _ refl c.if-line-letter.false
    (cell t 0 _ (omega arith) c.in_ok-cell_number.was c.cell_number.ensures)
    (cell t 1 _ (omega arith) c.in_ok-cell_number-2.was c.cell_number-2.ensures)
    (cell t 2 _ (omega arith) c.in_err-cell_number-3.was c.cell_number-3.ensures) refl)

pub returns-in_err-cell_number-4-clause-line : goal.returns-in_err-cell_number-4-clause-line
returns-in_err-cell_number-4-clause-line c =
    let t = (goal.at.returns-in_err-cell_number-4-clause-line c).After-as_chunks in
    rw c.from_residual-in_err-cell_number-4.ensures
    (line_read c.args.form c.args.line.now 0 c.args.k _ _ refl c.if-line-letter.false
    (cell t 0 _ (omega arith) c.in_ok-cell_number.was c.cell_number.ensures)
    (cell t 1 _ (omega arith) c.in_ok-cell_number-2.was c.cell_number-2.ensures)
    (cell t 2 _ (omega arith) c.in_ok-cell_number-3.was c.cell_number-3.ensures)
    (cell t 3 _ (omega arith) c.in_err-cell_number-4.was c.cell_number-4.ensures))

pub returns-clause-line : goal.returns-clause-line
returns-clause-line c =
    let t = (goal.at.returns-clause-line c).After-as_chunks in
    line_read c.args.form c.args.line.now 0 c.args.k _ _ refl c.if-line-letter.false
    (cell t 0 _ (omega arith) c.in_ok-cell_number.was c.cell_number.ensures)
    (cell t 1 _ (omega arith) c.in_ok-cell_number-2.was c.cell_number-2.ensures)
    (cell t 2 _ (omega arith) c.in_ok-cell_number-3.was c.cell_number-3.ensures)
    (cell t 3 _ (omega arith) c.in_ok-cell_number-4.was c.cell_number-4.ensures)
