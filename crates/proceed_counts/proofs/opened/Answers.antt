-- A fixed element leaves the table, and an open one doubles it.
use Rattle.std.proofs.Common.{refl, of_calls}
use borrow.Author.Rules.{rules}
use Rattle.proceed_counts.proofs.opened.Goals as goal

pub returns : goal.returns
returns c =
    record {
      fixed = λ n. absurd (n c.if-state-ne0.false);
      raised = λ z. (refl, record { first = λ x d l. let h = c.double.ensures.first x d l in search (rules, of_calls); second = λ x d l. let h = c.double.ensures.second x d l in search of_calls; rest = c.double.ensures.rest });
    }
