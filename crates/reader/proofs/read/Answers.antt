-- `reader::read` gives `reading`: the test of the length, then the first line.
use mathlib.Core.Path.{sym, ap, ◌∙◌}
use Rattle.std.proofs.lemmas.Result.{err_from_is_err_and}
use Rattle.line_reader.proofs.Fields.{line_or_error}
use Rattle.meaning.specs.Columns.{padded}
use Rattle.meaning.specs.File.{answered, refused, reading_under_in, reading_in}
use Rattle.reader.proofs.read.Goals as goal

pub returns-then-n : goal.returns-then-n
unfolding reading_in refused
returns-then-n c = sym (simp c.if-n.true)

pub returns-in_err-l : goal.returns-in_err-l
unfolding reading_in reading_under_in refused
returns-in_err-l c =
    let file = c.args.file.now in
    let p = err_from_is_err_and c.from_residual.result c.from_residual.ensures.1 in
    let m = line_or_error _ _ c.first_line.ensures.line c.in_err-l.ensures.value in
    rw (p.1, p.2, m.0) (ap (λ l. answered (reading_under_in padded file l)) m.1 ∙ sym (simp c.if-n.false))

pub returns : goal.returns
unfolding reading_in
returns c =
    let file = c.args.file.now in
    c.under.ensures ∙ ap (λ l. answered (reading_under_in padded file l)) (line_or_error _ _ c.first_line.ensures.line c.in_ok-l.ensures.value) ∙ sym (simp c.if-n.false)
