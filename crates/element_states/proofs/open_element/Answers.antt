use Rattle.std.proofs.Common.{◌≡◌, ℕ, ◌+◌, ◌<◌, length, eqb, sym, rules, tests, arith}
use Rattle.std.specs.Option.{MatchOption, option_map}
use Rattle.std.proofs.lemmas.Iterator.{YieldsList-from_slice}
use Rattle.std.proofs.lemmas.Iterator.Consumers.{YieldsList-at, YieldsList-from_enumerate, YieldsList-from_filter, nth_from_yields_List}
use Rattle.meaning.specs.Operations.{open_element}
use Rattle.element_states.proofs.Opens.{nth_open}
use Rattle.element_states.proofs.open_element.Goals as goal
use Rattle.element_states.proofs.open_element.Goals.{After-nth}

-- What `nth` gives stands at place m - 1 among the open ones.
found : (c : After-nth) → MatchOption {T = ℕ × ℕ} (option_map (λ p. (p.0, p.1.now)) c.nth.result) (open_element c.args.m c.args.states.now ≡ 0)
    (λ p. (p.0 < length c.args.states.now) × (open_element c.args.m c.args.states.now ≡ p.0 + 1))
found c =
    nth_open c.args.states.now c.args.m (omega arith) _
    (nth_from_yields_List _ _ _ c.nth.ensures.ran
    (YieldsList-from_filter _ (λ (p : ℕ × ℕ). eqb p.1 0) (YieldsList-at c.filter.ensures.source
    (YieldsList-from_enumerate (YieldsList-at c.enumerate.ensures.source (YieldsList-from_slice _ c.iter.ensures.rest)) c.enumerate.ensures.count))
    c.filter.ensures.closure (λ x r q k. search (rules, tests))))

pub returns-in_err-k : goal.returns-in_err-k
returns-in_err-k c = rw c.from_residual.ensures (rw c.in_err-k.was at (found (goal.at.returns-in_err-k c).After-nth))

pub returns : goal.returns
returns c =
    let f = rw c.in_ok-k.was at (found (goal.at.returns c).After-nth) in
    (sym f.1, omega arith)
