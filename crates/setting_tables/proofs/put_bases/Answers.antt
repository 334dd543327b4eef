use Rattle.std.proofs.Common.{◌≡◌, ℕ, sym, ap, ◌∙◌, List, arith}
use Rattle.meaning.specs.Station.{file_states, moves}
use Rattle.meaning.specs.Paths.{mem, reach}
use Rattle.reach.specs.Reach.{memb}
use Rattle.moves.proofs.Where.{places_inside}
use Rattle.setting_tables.specs.Trains.{by_fixed}
use Rattle.setting_tables.proofs.Basing.{train_reach, based_start, based_meets, based_turn}
use Rattle.setting_tables.proofs.put_bases.Goals as goal
use Rattle.setting_tables.proofs.put_bases.Goals.{After-reached-reach}

-- What is found is what the train reaches.
is : (c : After-reached-reach) → (k : ℕ) → memb c.reached-reach.result.words k ≡ by_fixed c.args.s.now.situation c.loop-t.t k
is c =
    let s = c.args.s.now.situation in
    train_reach s c.loop-t.t (rw c.from-t-end.ensures at c.loop-t-test.true)
    (λ k. c.reached-reach.ensures _ c.requires k
    ∙ ap (λ (S : List ℕ). mem k (reach (moves s (file_states s)) S)) (c.as_slice-sections.ensures ∙ c.from-standing.ensures))

pub loop-t-init : goal.loop-t-init
loop-t-init c = based_start (omega arith) c.empty-all.ensures

pub invariant_of-reached : goal.invariant_of-reached
invariant_of-reached c =
    record { are_sections = places_inside c.args.s.now.situation c.args.s.now.sound c.loop-t.t (rw c.from-t-end.ensures at c.loop-t-test.true) _ (c.as_slice-sections.ensures ∙ c.from-standing.ensures) }

pub returns-then-meets : goal.returns-then-meets
returns-then-meets c =
    based_meets _ c.loop-t.invariant (record { reach = c.reached-reach.result; exits = 0 }) (is (goal.at.returns-then-meets c).After-reached-reach)
    (rw c.from-t-end.ensures at c.loop-t-test.true) (sym c.meets.ensures ∙ c.if-meets.true)

pub loop-t-preserved : goal.loop-t-preserved
loop-t-preserved c =
    based_turn _ c.loop-t.invariant _ (is (goal.at.loop-t-preserved c).After-reached-reach) c.args.s.now.sound
    (rw c.from-t-end.ensures at c.loop-t-test.true) (sym c.meets.ensures ∙ c.if-meets.false) c.union-all.ensures
