-- `line_reader::long_kind` meets its contract: it asks the fields of the definition, in the same order.
use Rattle.std.proofs.Common.{◌≡◌, Bool, false, refl, sym, ap, ◌∙◌, ℕ, ◌<◌, get_or, arith}
use Rattle.std.specs.Prelude.{[]}
use Rattle.meaning.specs.Columns.{padded, fits, field_at, field_in}
use Rattle.line_reader.proofs.Fields.{malformed_cut, cell_in, long_1, long_2, long_3, long_4}
use Rattle.line_reader.proofs.long_kind.Goals as goal
use Rattle.line_reader.proofs.long_kind.Goals.{After-as_chunks}

pub returns-in_default : goal.returns-in_default
returns-in_default c = sym (malformed_cut padded c.args.file.now c.args.i 4 c.in_default.ensures) ∙ malformed_cut padded c.args.file.now c.args.i _ c.in_default.ensures

-- Field j is blank where the test of its bytes says so.
blank : (t : After-as_chunks) (j : ℕ) → j < 4 → {r b : Bool} → r ≡ fits false (field_at padded (get_or t.as_chunks.result.0.now j []) 0) → r ≡ b
    → fits false (field_in padded t.args.file.now t.args.i j) ≡ b
blank t j l e h =
    sym (ap (fits false) (cell_in padded t.args.file.now t.in-Some.bytes.now t.args.i t.in-Some.ensures.1 _ t.in-Some.ensures.0 t.as_chunks.ensures.front j l)) ∙ sym e ∙ h

pub returns-then-is_blank : goal.returns-then-is_blank
returns-then-is_blank c =
    let t = (goal.at.returns-then-is_blank c).After-as_chunks in
    long_1 c.args.file.now c.args.i _ refl (blank t 1 (omega arith) (c.is_blank.ensures padded) c.if-is_blank.true)

pub returns-then-is_blank-2 : goal.returns-then-is_blank-2
returns-then-is_blank-2 c =
    let t = (goal.at.returns-then-is_blank-2 c).After-as_chunks in
    long_2 c.args.file.now c.args.i _ refl (blank t 1 (omega arith) (c.is_blank.ensures padded) c.if-is_blank.false)
    (blank t 2 (omega arith) (c.is_blank-2.ensures padded) c.if-is_blank-2.true)

pub returns-then-is_blank-3 : goal.returns-then-is_blank-3
returns-then-is_blank-3 c =
    let t = (goal.at.returns-then-is_blank-3 c).After-as_chunks in
    long_3 c.args.file.now c.args.i _ refl (blank t 1 (omega arith) (c.is_blank.ensures padded) c.if-is_blank.false)
    (blank t 2 (omega arith) (c.is_blank-2.ensures padded) c.if-is_blank-2.false)
    (blank t 3 (omega arith) (c.is_blank-3.ensures padded) c.if-is_blank-3.true)

pub returns : goal.returns
returns c =
    let t = (goal.at.returns c).After-as_chunks in
    long_4 c.args.file.now c.args.i _ refl (blank t 1 (omega arith) (c.is_blank.ensures padded) c.if-is_blank.false)
    (blank t 2 (omega arith) (c.is_blank-2.ensures padded) c.if-is_blank-2.false)
    (blank t 3 (omega arith) (c.is_blank-3.ensures padded) c.if-is_blank-3.false)
