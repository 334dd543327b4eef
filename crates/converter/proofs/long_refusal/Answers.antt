-- `converter::long_refusal` meets its contract: the place of the train gives the line.
use Rattle.std.proofs.Common.{Some, None, refl, sym, ◌∙◌}
use Rattle.meaning.specs.Station.{trains_of}
use Rattle.converter.proofs.Long.{long_to_s}
use Rattle.converter.proofs.long_refusal.Goals as goal
use Rattle.converter.proofs.long_refusal.Goals.{in-S, in-U}

pub returns-in-Some : goal.returns-in-Some
unfolding trains_of
returns-in-Some c =
    elim c.match-letter.branch [
      | in-S w ↦ rw (w.in-S.is, long_to_s c.args.s.now (Some c.in-Some.k) (sym c.in-Some.is ∙ w.long-is ∙ (rw w.from.ensures at w.first_long-long.ensures))) refl
      | in-U w ↦ absurd cc
    ]

pub returns-in-None : goal.returns-in-None
unfolding trains_of
returns-in-None c =
    elim c.match-letter.branch [
      | in-S w ↦ rw (w.in-S.is, long_to_s c.args.s.now None (sym c.in-None.is ∙ w.long-is ∙ (rw w.from.ensures at w.first_long-long.ensures))) refl
      | in-U w ↦ rw w.in-U.is refl
    ]
