-- The section is the tested bit.
use mathlib.Core.Path.{sym, ◌∙◌}
use Rattle.bits.proofs.Bits.{shift_mask}
use Rattle.reach.proofs.Laws.{memb_at}
use Rattle.reach.proofs.Reach.has_inside.Goals as goal

pub returns : goal.returns
returns c = rw c.from-k.ensures (shift_mask _ _ ∙ sym (memb_at c.args.self.now.words c.args.s.0 c.requires.0))
