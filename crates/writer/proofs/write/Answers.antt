-- Each of the four answers is the one that the definition gives under the tests that led there.
use Rattle.std.proofs.Common.{ap, ◌∙◌, ◌*◌, ℕ}
use Rattle.std.proofs.lemmas.Result.{err_from_is_err_and}
use Rattle.std.specs.Prelude.{Ok}
use Rattle.writer.proofs.Answer.{refused_range, refused_line, refused_room, not_refused, after_refusal, after_text, of_text}
use Rattle.writer.proofs.write.Goals as goal

pub returns-in_err-check_ranges : goal.returns-in_err-check_ranges
returns-in_err-check_ranges c =
    let p = err_from_is_err_and c.from_residual.result c.from_residual.ensures.1 in
    let e = refused_range c.args.s _ c.in_err-check_ranges.ensures.outside.1 in
    record { answer = rw (p.1, p.2, c.in_err-check_ranges.ensures.outside.0) e; after = after_refusal _ _ e }

pub returns-in_err-check : goal.returns-in_err-check
returns-in_err-check c =
    let p = err_from_is_err_and c.from_residual-in_err-check.result c.from_residual-in_err-check.ensures.1 in
    let e = refused_line c.args.s _ c.in_ok-check_ranges.ensures.inside c.in_err-check.ensures in
    record { answer = rw (p.1, p.2) e; after = after_refusal _ _ e }

pub returns-then-buffer-length : goal.returns-then-buffer-length
returns-then-buffer-length c =
    let short = rw c.line_count-length.ensures at c.if-buffer-length.true in
    let e = refused_room c.args.s _ c.in_ok-check_ranges.ensures.inside c.in_ok-check.ensures short in
    record { answer = e; after = after_refusal _ _ e }

pub returns : goal.returns
returns c =
    let room = rw c.line_count-length.ensures at c.if-buffer-length.false in
    let e = ap Ok (of_text c.args.s (ap (λ (n : ℕ). n * 22) c.line_count-length.ensures) c.put-subtractions.ensures.count) ∙ not_refused c.args.s _ c.in_ok-check_ranges.ensures.inside c.in_ok-check.ensures room in
    record { answer = e; after = c.put-subtractions.ensures.text ∙ after_text _ _ e }
