-- Each way out is a law of `Answers`, from what the calls before it ensure.
use Rattle.std.proofs.Common.{sym}
use Rattle.std.proofs.lemmas.Result.{err_from_is_err_and}
use Rattle.can_be_safe.proofs.Answers.{few, refuses_file, refuses_call, answers}
use Rattle.can_be_safe.proofs.can_be_safe.Goals as goal

pub returns-in_err-s : goal.returns-in_err-s
returns-in_err-s c =
    let p = err_from_is_err_and c.from_residual.result c.from_residual.ensures.1 in
    rw (p.1, p.2) (refuses_file _ c.in_err-s.ensures.refused)

pub returns-in_err-settings_call : goal.returns-in_err-settings_call
returns-in_err-settings_call c =
    let p = err_from_is_err_and c.from_residual-in_err-settings_call.result c.from_residual-in_err-settings_call.ensures.1 in
    rw (p.1, p.2) (refuses_call _ c.in_ok-s.ensures.accepted c.at_stop-halted.ensures (sym c.in_err-settings_call.ensures))

pub invariant_of-some_safe : goal.invariant_of-some_safe
invariant_of-some_safe c = record { few = few _ (sym c.in_ok-settings_call.ensures) }

pub returns : goal.returns
returns c = answers _ c.in_ok-s.ensures.accepted c.at_stop-halted.ensures (sym c.in_ok-settings_call.ensures) c.some_safe.ensures
