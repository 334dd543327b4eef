-- `answer_key::put_verdict` meets its contract: by what the verdict answers, its text is a key of the file, stored at the start.
use mathlib.Core.Path.{ap, ◌∙◌}
use borrow.Author.Rules.{rules}
use Rattle.std.specs.Prelude.{Ok}
use Rattle.verdict.proofs.Refusals.{of_file}
use Rattle.answer_key.proofs.Keys.{read_keyed, counts_within}
use Rattle.answer_key.proofs.Texts.{put_refused}
use Rattle.answer_key.proofs.put_verdict.Goals as goal
use Rattle.answer_key.proofs.put_verdict.Goals.{In-Ok-Dangerous}

pub put_safe-requires : goal.put_safe-requires
put_safe-requires c = counts_within _ c.requires.read.1 _ _ _ _ c.of_situation.ensures (c.in-Ok-Safe.is ∙ ap Ok c.in-Ok-Safe.field-0-is)

pub put_danger-requires-clause-counts : goal.put_danger-requires-clause-counts
put_danger-requires-clause-counts c =
    counts_within _ c.requires.read.1 _ _ _ _ c.of_situation.ensures (c.in-Ok-Dangerous.is ∙ ap Ok c.in-Ok-Dangerous.field-0-is)

pub returns-in-Err : goal.returns-in-Err
returns-in-Err c =
    λ file e. read_keyed file _ _ _ _ (search rules) (search rules) e c.requires.closed _ _ (of_file file _ _ e c.of_situation.ensures) c.in-Err.is (put_refused _ c.put_refusal.ensures.text c.put_refusal.ensures.output)

pub returns-in-Ok-Safe : goal.returns-in-Ok-Safe
returns-in-Ok-Safe c =
    λ file e. read_keyed file _ _ _ _ (search rules) (search rules) e c.requires.closed _ _ (of_file file _ _ e c.of_situation.ensures) (c.in-Ok-Safe.is ∙ ap Ok c.in-Ok-Safe.field-0-is) c.put_safe.ensures

pub returns-in-Ok-Dangerous : goal.returns-in-Ok-Dangerous
returns-in-Ok-Dangerous c =
    λ file e. read_keyed file _ _ _ _ (search rules) (search rules) e c.requires.closed _ _ (of_file file _ _ e c.of_situation.ensures) (c.in-Ok-Dangerous.is ∙ ap Ok c.in-Ok-Dangerous.field-0-is) c.put_danger.ensures
