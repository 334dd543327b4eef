-- A pair with a number that no section has is in no table.
use mathlib.Core.Path.{sym}
use Rattle.drawing.proofs.Walked.{edge-outside}
use Rattle.drawing.proofs.permitted.Goals as goal

pub returns-then-a-b : goal.returns-then-a-b
returns-then-a-b c = sym (edge-outside _ _ _ c.if-a-b.true)
