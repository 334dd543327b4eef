use mathlib.Core.Path.{refl}
use Rattle.meaning.specs.Station.{plain_moves}
use Rattle.moves.proofs.Element.{signal_inside}
use Rattle.moves.proofs.Station.{move_inside}
use Rattle.moves.proofs.plain_moves.Goals as goal

pub returns-clause-are : goal.returns-clause-are
unfolding plain_moves
returns-clause-are c = rw c.from.ensures refl

pub returns-clause-sections : goal.returns-clause-sections
unfolding plain_moves
returns-clause-sections c =
    let s = c.args.s.now in
    rw c.from.ensures (λ i d l. signal_inside 512 refl (move_inside s.situation s.sound d i l))
