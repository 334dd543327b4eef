-- `answer_key::put_question` meets its contract: by what the settings question answers, one line, or the Q line and the E lines.
use mathlib.Core.Path.{refl, ap, ◌∙◌}
use native.Mathlib.Omega.{arith}
use borrow.Author.Rules.{rules}
use Rattle.std.specs.Prelude.{Ok, replicate}
use Rattle.settings.proofs.Answers.{answer_of_file, after_of_file}
use Rattle.answer_key.proofs.Asked.{asked_text, text_none, text_chosen}
use Rattle.answer_key.proofs.Texts.{put_line, put_refused, put_same}
use Rattle.answer_key.proofs.put_question.Goals as goal

pub returns-in-Err : goal.returns-in-Err
returns-in-Err c =
    λ file e. put_same (asked_text file _ _ (c.of_situation.ensures.answer ∙ answer_of_file file e _) c.in-Err.is) (put_refused _ c.put_refusal.ensures.text c.put_refusal.ensures.output)

pub returns-in-Ok-None : goal.returns-in-Ok-None
returns-in-Ok-None c =
    λ file e.
    let w = asked_text file _ _ (c.of_situation.ensures.answer ∙ answer_of_file file e _) (c.in-Ok-None.is ∙ ap Ok c.in-Ok-None.field-0-is) in
    put_same (text_none file e _ w refl) (put_line _ _ _ _ _ _ _ _ refl (omega arith) (omega arith) (omega arith) (omega arith) c.put_row-subtractions.ensures.text c.put_row-subtractions.ensures.count)

pub returns-in-Ok-Some : goal.returns-in-Ok-Some
returns-in-Ok-Some c =
    λ file e.
    let w = asked_text file _ _ (c.of_situation.ensures.answer ∙ answer_of_file file e _) (c.in-Ok-Some.is ∙ ap Ok c.in-Ok-Some.field-0-is) in
    put_same
    (text_chosen file e _ w _ _ _ refl (search rules) (c.of_situation.ensures.after ∙ after_of_file file e (replicate 256 0)))
    (rw c.from-n.ensures at c.put_chosen.ensures)
