-- `desk::start` gives the reader's refusal or the desk of the situation.
use Rattle.std.proofs.Common.{refl, sym}
use Rattle.std.proofs.lemmas.Result.{err_from_is_err_and}
use Rattle.session_meaning.specs.Desk.{start_answer, desk_of}
use Rattle.meaning.specs.File.{reading}
use Rattle.meaning.proofs.Refused.{refused_with, accepted_as, refused_as}
use Rattle.desk.proofs.start.Goals as goal

pub returns-in_err-s : goal.returns-in_err-s
unfolding start_answer
returns-in_err-s c =
    let file = c.args.file.now in
    let p = err_from_is_err_and c.from_residual.result c.from_residual.ensures.1 in
    let r = refused_as file (sym c.in_err-s.ensures) in
    rw (p.1, p.2, ← r.1) (refused_with (reading file).refusal _ r.0)

pub returns : goal.returns
unfolding start_answer desk_of
returns c =
    let a = accepted_as c.args.file.now (sym c.in_ok-s.ensures) in
    rw (a.0, a.1, c.file_states-states.ensures.are) refl
