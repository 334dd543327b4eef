-- Each list of the situation is made of the entries of its arrays.
use Rattle.std.proofs.Common.{rules, ◌≡◌}
use borrow.Author.Tests.{eq-eqb, ne_eqb}
use Rattle.c_layout.specs.Flat.{situation_from_c, moves_from_c, elements_from_c, trains_from_c, move_at, flat_element_at, element_from_c, train_at, letter_from_c}
use Rattle.c_layout.proofs.Maps.{made}
use Rattle.c_layout.proofs.SituationFromRefFlatSituation.from.Goals as goal
use Rattle.c_layout.proofs.SituationFromRefFlatSituation.from.Goals.{then-f-eq0, else-f-eq0}

pub returns : goal.returns
unfolding situation_from_c moves_from_c elements_from_c trains_from_c
returns c =
    let f = c.args.f.now in
    let letter : c.if-f-eq0.result ≡ letter_from_c f.is_long =
    elim c.if-f-eq0.branch [ then-f-eq0 w ↦ search (rules, eq-eqb) | else-f-eq0 w ↦ search (rules, ne_eqb) ] in
    let plain = made (move_at f) c.from_fn.ensures.items (λ j y q k. search rules) in
    let elements = made (λ j. element_from_c (flat_element_at f j)) c.from_fn-2.ensures.items (λ j y q k. search rules) in
    let trains = made (train_at f) c.from_fn-3.ensures.items (λ j y q k. search rules) in
    cc
