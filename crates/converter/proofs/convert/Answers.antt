-- `converter::convert` meets its contract: a refused call leaves the buffer, and any other fills its start.
use Rattle.std.proofs.Common.{◌≤◌, length, rules, sym}
use Rattle.std.proofs.lemmas.Result.{err_from_is_err_and}
use Rattle.meaning.proofs.Refused.{accepted_as}
use Rattle.meaning.proofs.AcceptedSituation.{accepted_counts}
use Rattle.converter.proofs.Converted.{file_refused, long_refused, short_refused, filled, some_byte}
use Rattle.converter.proofs.convert.Goals as goal

pub returns-in_err-s : goal.returns-in_err-s
returns-in_err-s c =
    let a = c.args in
    let p = err_from_is_err_and c.from_residual.result c.from_residual.ensures.1 in
    rw (p.1, p.2) (file_refused a.letter a.file.now a.buffer.now (sym c.in_err-s.ensures))

pub long_refusal-requires : goal.long_refusal-requires
long_refusal-requires c = let a = accepted_as c.args.file.now (sym c.in_ok-s.ensures) in rw a.1 at (accepted_counts c.args.file.now a.0).limits

pub returns-in_err-long_refusal : goal.returns-in_err-long_refusal
returns-in_err-long_refusal c =
    let a = c.args in
    let p = err_from_is_err_and c.from_residual-in_err-long_refusal.result c.from_residual-in_err-long_refusal.ensures.1 in
    rw (p.1, p.2) (long_refused a.letter a.file.now a.buffer.now (sym c.in_ok-s.ensures) (sym c.in_err-long_refusal.ensures))

pub returns-then-buffer-n : goal.returns-then-buffer-n
returns-then-buffer-n c =
    let a = c.args in
    short_refused a.letter a.file.now a.buffer.now (sym c.in_ok-s.ensures) (sym c.in_ok-long_refusal.ensures) c.if-buffer-n.true

pub bounds-filled-0 : goal.bounds-filled-0
bounds-filled-0 c =
    let a = c.args in
    let some : 1 ≤ length a.file.now = some_byte a.letter a.file.now a.buffer.now (sym c.in_ok-s.ensures) in
    search rules

pub returns : goal.returns
returns c =
    let a = c.args in
    filled a.letter a.file.now a.buffer.now (sym c.in_ok-s.ensures) (sym c.in_ok-long_refusal.ensures) c.if-buffer-n.false _
    c.copy.ensures _ c.letter_byte.ensures
