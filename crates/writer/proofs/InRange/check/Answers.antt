-- The lines behind the first, one part after the other: each starts from what the one before it passed.
use Rattle.std.proofs.lemmas.Result.{err_from_is_err_and}
use Rattle.std.proofs.Common.{arith}
use Rattle.meaning.specs.File.{written_line}
use Rattle.line_checks.proofs.Steps.{passed_start, passed_at, refuses_all}
use Rattle.writer.specs.InRange.{situation_of}
use Rattle.writer.proofs.Parts.{has_plain, has_elements, has_trains}
use Rattle.writer.proofs.Loops.{answer_is}
use Rattle.writer.proofs.InRange.check.Goals as goal

pub returns-in_err-check_part : goal.returns-in_err-check_part
returns-in_err-check_part c =
    let s = situation_of c.args.self.now in
    let p = err_from_is_err_and c.from_residual.result c.from_residual.ensures.1 in
    rw (p.1, p.2) (refuses_all _ _ _ (c.in_err-check_part.ensures _ (has_plain s c.plain-plain.ensures) (passed_start _ _ c.new-seen.ensures)))

pub returns-in_err-check_part-2 : goal.returns-in_err-check_part-2
returns-in_err-check_part-2 c =
    let s = situation_of c.args.self.now in
    let lines = written_line s in
    let p = err_from_is_err_and c.from_residual-in_err-check_part-2.result c.from_residual-in_err-check_part-2.ensures.1 in
    let plain = c.in_ok-check_part.ensures lines (has_plain s c.plain-plain.ensures) (passed_start s.header lines c.new-seen.ensures) in
    let elements =
    c.in_err-check_part-2.ensures lines (has_elements s (omega arith) c.elements-elements.ensures) (passed_at s.header lines (omega arith) plain) in
    rw (p.1, p.2) (refuses_all _ _ _ elements)

pub returns : goal.returns
returns c =
    let s = situation_of c.args.self.now in
    let lines = written_line s in
    let plain = c.in_ok-check_part.ensures lines (has_plain s c.plain-plain.ensures) (passed_start s.header lines c.new-seen.ensures) in
    let elements =
    c.in_ok-check_part-2.ensures lines (has_elements s (omega arith) c.elements-elements.ensures) (passed_at s.header lines (omega arith) plain) in
    answer_is _ _ _ _ _ (c.check_part-3.ensures lines (has_trains s (omega arith) c.trains.ensures) elements) (omega arith)
