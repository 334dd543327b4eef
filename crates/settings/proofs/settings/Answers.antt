-- A file that is refused, and the question of an accepted one's situation.
use mathlib.Core.Path.{◌∙◌}
use Rattle.std.proofs.lemmas.Result.{err_from_is_err_and}
use Rattle.settings.proofs.Refusals.{refused_file}
use Rattle.settings.proofs.Answers.{refuses_file, answer_of_file, after_of_file}
use Rattle.settings.proofs.settings.Goals as goal

pub returns-in_err-s-clause-answer : goal.returns-in_err-s-clause-answer
returns-in_err-s-clause-answer c =
    let p = err_from_is_err_and c.from_residual.result c.from_residual.ensures.1 in
    rw (p.1, p.2) (refuses_file _ _ (refused_file _ _ c.in_err-s.ensures.refused)).0

pub returns-in_err-s-clause-after : goal.returns-in_err-s-clause-after
returns-in_err-s-clause-after c = (refuses_file _ _ (refused_file _ _ c.in_err-s.ensures.refused)).1

pub returns-clause-answer : goal.returns-clause-answer
returns-clause-answer c = c.of_situation.ensures.answer ∙ answer_of_file _ c.in_ok-s.ensures.accepted _

pub returns-clause-after : goal.returns-clause-after
returns-clause-after c = c.of_situation.ensures.after ∙ after_of_file _ c.in_ok-s.ensures.accepted _
