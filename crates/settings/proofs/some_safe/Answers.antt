use Rattle.settings.proofs.Places.{none_saved}
use Rattle.settings.proofs.some_safe.Goals as goal

pub returns-in-None : goal.returns-in-None
returns-in-None c = none_saved c.args.q.s.now.situation c.args.q.s.now.sound (rw c.in-None.is at c.of.ensures)
