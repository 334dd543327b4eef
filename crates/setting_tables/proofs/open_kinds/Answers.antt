use Rattle.std.proofs.Common.{[], ◌∷◌, ◌∙◌, length, arith, rules, tests}
use lib.ListN.{length-append}
use Rattle.std.proofs.lemmas.Iterator.{YieldsList, YieldsList-from_slice}
use Rattle.std.proofs.lemmas.Iterator.Consumers.{YieldsList-at, YieldsList-from_filter, YieldsList-from_enumerate, YieldsList-turn, YieldsList-end}
use Rattle.meaning.specs.Station.{elements_of}
use Rattle.setting_tables.proofs.Opening.{opens, is_open, numbered, Next, next_open, making_next, making_end}
use Rattle.setting_tables.proofs.open_kinds.Given as given
use Rattle.setting_tables.proofs.open_kinds.Goals as goal
use Rattle.setting_tables.proofs.open_kinds.Goals.{After-into_iter-i-iterator, In-Some}

-- The loop goes through the open elements, each with its place.
road : (c : After-into_iter-i-iterator)
    → YieldsList (given.iterator-loop-i).next_gives (λ p. (p.0, p.1.now)) c.into_iter-i-iterator.result (numbered (elements_of c.args.q.s.now.situation))
road c =
    YieldsList-at c.into_iter-i-iterator.ensures.into_iter_gives
    (YieldsList-from_enumerate (YieldsList-at c.enumerate-i-items.ensures.source
    (YieldsList-from_filter _ is_open (YieldsList-at c.filter.ensures.source (YieldsList-from_slice _ (c.iter.ensures.rest ∙ c.elements.ensures)))
    c.filter.ensures.closure (λ x r q k. search (rules, tests)))) c.enumerate-i-items.ensures.count)

next : (c : In-Some)
    → YieldsList (given.iterator-loop-i).next_gives (λ p. (p.0, p.1.now)) c.into_iter-i-iterator.result (numbered (elements_of c.args.q.s.now.situation))
    → Next (elements_of c.args.q.s.now.situation) (length c.loop-i.yielded) c.in-Some.i c.in-Some.e.now
next c r = next_open (YieldsList-turn r c.loop-i.yielded _ c.loop-i.yielded_by _ _ _ c.in-Some.is c.next.ensures.steps)

-- There is a place for each open element.
pub bounds-kinds-i : goal.bounds-kinds-i
bounds-kinds-i c =
    let at = goal.at.bounds-kinds-i c in
    let n = next at.In-Some (road at.After-into_iter-i-iterator) in
    omega (arith, n.place, n.room, opens c.args.q.s.now.situation, c.args.q.few)

pub loop-i-preserved : goal.loop-i-preserved
loop-i-preserved c =
    let at = goal.at.loop-i-preserved c in
    let (_, _, kinds) = c.loop-i.invariant in (
      search rules,
      search rules,
      rw (length-append c.loop-i.yielded ((c.in-Some.i, c.in-Some.e) ∷ []))
          (making_next kinds (next at.In-Some (road at.After-into_iter-i-iterator)) (omega (arith, opens c.args.q.s.now.situation, c.args.q.few))),
    )

pub returns : goal.returns
returns c =
    let (_, _, kinds) = c.loop-i.invariant in
    let seen = YieldsList-end (road (goal.at.returns c).After-into_iter-i-iterator) c.loop-i.yielded _ c.loop-i.yielded_by _ _ c.in-None.is c.next.ensures.steps in
    making_end c.args.q.s.now.situation kinds seen.1
