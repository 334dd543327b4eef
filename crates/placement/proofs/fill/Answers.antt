use Rattle.std.proofs.Common.{◌≡◌, ◌<◌, refl, arith, length-take}
use Rattle.session_meaning.specs.Placement.{gives_way}
use Rattle.reach.specs.Reach.{memb}
use Rattle.placement.proofs.Filling.{filled_start, filled_more, section_within}
use Rattle.placement.proofs.Searching.{found}
use Rattle.placement.proofs.fill.Goals as goal
use Rattle.placement.proofs.fill.Goals.{After-give_way, After-unwrap-section}

pub loop-place-init : goal.loop-place-init
loop-place-init c = filled_start _ _ _ _ c.empty-taken.ensures

-- Fewer trains than sections have been placed.
more : (c : After-give_way) → c.loop-place.place-index < c.args.sections
more c = omega (arith, c.from.ensures, length-take c.from.result c.args.list.now)

pub unwrap-section-requires : goal.unwrap-section-requires
unwrap-section-requires c =
    let within = section_within c.loop-place.invariant c.requires.sections (more c) c.loop-place-test.true c.grow-state.ensures c.draw.ensures refl in
    found _ _ c.give_way.ensures within.0

module _ (c : After-unwrap-section) where
  gives : c.unwrap-section.result.0 ≡ gives_way c.args.sections (memb c.loop-place.taken.words) c.draw.result.0
  gives = (rw c.unwrap-section.ensures at c.give_way.ensures).0

pub with-taken-requires : goal.with-taken-requires
with-taken-requires c =
    let o = goal.at.with-taken-requires c in
    section_within c.loop-place.invariant c.requires.sections (more o.After-give_way) c.loop-place-test.true c.grow-state.ensures c.draw.ensures
    (gives o.After-unwrap-section)

pub loop-place-preserved : goal.loop-place-preserved
loop-place-preserved c =
    let o = goal.at.loop-place-preserved c in
    filled_more c.loop-place.invariant c.requires.sections (more o.After-give_way) c.loop-place-test.true c.grow-state.ensures c.draw.ensures
    (gives o.After-unwrap-section) _ c.with-taken.ensures.members
