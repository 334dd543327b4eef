use Rattle.std.proofs.Common.{ℕ, eqb, sym, ◌∙◌, rules, tests}
use Rattle.std.proofs.lemmas.List.Sums.{length-filter}
use Rattle.std.proofs.lemmas.Iterator.{YieldsList-from_slice}
use Rattle.std.proofs.lemmas.Iterator.Consumers.{YieldsList-from_filter, YieldsList-at, count_from_yields_List}
use Rattle.element_states.proofs.Opens.{counted}
use Rattle.element_states.proofs.open_count.Goals as goal

pub returns : goal.returns
returns c =
    count_from_yields_List _ _ c.count.ensures.ran
    (YieldsList-from_filter _ (λ (x : ℕ). eqb x 0) (YieldsList-at c.filter.ensures.source (YieldsList-from_slice _ c.iter.ensures.rest)) c.filter.ensures.closure
    (λ x r q k. search (rules, tests)))
    ∙ length-filter (λ (x : ℕ). eqb x 0) c.args.states.now ∙ sym (counted c.args.states.now)
