-- Each array of the flat situation has one number of every entry of a list, that of the sections of the trains has four.
use Rattle.std.proofs.Common.{rules, get_or, ◌≡◌, ◌∙◌, length}
use Rattle.meaning.specs.declared.Move.{Move}
use Rattle.meaning.specs.declared.Element.{Element}
use Rattle.meaning.specs.declared.Train.{Train}
use Rattle.meaning.specs.File.{no_move, no_element}
use Rattle.meaning.specs.Station.{no_train}
use Rattle.basics.proofs.Lists.{length_mapped}
use Rattle.c_layout.specs.Flat.{flat_element, flat_letter, flat_situation, four_each}
use Rattle.c_layout.proofs.Maps.{made, made-map}
use Rattle.c_layout.proofs.Four.{four_of, four_all}
use Rattle.c_layout.proofs.FlatSituationFromRefSituation.from.Goals as goal
use Rattle.c_layout.proofs.FlatSituationFromRefSituation.from.Goals.{in-S, in-U}

pub returns : goal.returns
unfolding flat_situation
returns c =
    let s = c.args.s.now in
    let plain : length s.plain ≡ 1024 = search (rules, length_mapped) in
    let elements : length s.elements ≡ 256 = search (rules, length_mapped) in
    let trains : length s.trains ≡ 64 = search (rules, length_mapped) in
    let long : c.match-s.result ≡ flat_letter s.header.letter = elim c.match-s.branch [ in-S w ↦ search rules | in-U w ↦ search rules ] in
    let from = made-map (λ (m : Move). m.from.0) no_move s.plain plain c.from_fn.ensures.items (λ j y q k. search rules) in
    let to = made-map (λ (m : Move). m.to.0) no_move s.plain plain c.from_fn-2.ensures.items (λ j y q k. search rules) in
    let turnout = made-map (λ (e : Element). (flat_element e).turnout) no_element s.elements elements c.from_fn-3.ensures.items (λ j y q k. search rules) in
    let first = made-map (λ (e : Element). (flat_element e).first) no_element s.elements elements c.from_fn-4.ensures.items (λ j y q k. search rules) in
    let second = made-map (λ (e : Element). (flat_element e).second) no_element s.elements elements c.from_fn-5.ensures.items (λ j y q k. search rules) in
    let third = made-map (λ (e : Element). (flat_element e).third) no_element s.elements elements c.from_fn-6.ensures.items (λ j y q k. search rules) in
    let state = made-map (λ (e : Element). (flat_element e).state) no_element s.elements elements c.from_fn-7.ensures.items (λ j y q k. search rules) in
    let size = made-map (λ (t : Train). t.count) no_train s.trains trains c.from_fn-8.ensures.items (λ j y q k. search rules) in
    let train =
    made (λ j. get_or (four_each s.trains) j 0) c.from_fn-9.ensures.items (λ j y q k. (search rules, search (rules, four_of s.trains j)))
    ∙ four_all s.trains trains in
    cc
