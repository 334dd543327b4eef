-- The settings question of a situation, of whatever file it is, with a lent buffer.
use Rattle.std.specs.Prelude.{Result, Option, cond, List, ◌++◌, ℕ, ltb, length, drop}
use Rattle.meaning.specs.declared.Situation.{Situation}
use Rattle.meaning.specs.declared.Refusal.{Refusal}
use Rattle.meaning.specs.declared.Choice.{Choice}
use Rattle.meaning.specs.Settings.{chosen, reply}
use Rattle.meaning.specs.File.{is_none, unless_refused}
use Rattle.meaning.specs.Operations.{call_refusal}

-- The call, with a buffer of this length: refused with 11 at the thirteenth open element, then with 9.
abbrev pub question_refusal : Situation → ℕ → Refusal
question_refusal s room = call_refusal s 11 13 (ltb room s.header.elements)

abbrev pub question_answer : Situation → ℕ → Result (Option Choice) Refusal
question_answer s room = unless_refused (question_refusal s room) (reply s)

-- The buffer after it.
abbrev pub after_question : Situation → List ℕ → List ℕ
after_question s buffer = cond (is_none (question_refusal s (length buffer))) (chosen s ++ drop (length (chosen s)) buffer) buffer
