use Rattle.std.proofs.Common.{ℕ, take, ap, ◌∙◌}
use Rattle.element_states.proofs.States.{first_states}
use Rattle.element_states.proofs.SoundSituation.elements.Goals as goal

pub returns-clause-are : goal.returns-clause-are
returns-clause-are c =
    let s = c.args.self.now in ap (λ (n : ℕ). take n s.states) c.from.ensures ∙ first_states s.collected
