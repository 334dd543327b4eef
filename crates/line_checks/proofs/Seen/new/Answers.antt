-- No line closes a pair.
use Rattle.meaning.specs.File.{closed_to}
use Rattle.line_checks.proofs.Seen.new.Goals as goal

pub returns : goal.returns
unfolding closed_to
returns c = record { signals = c.empty.ensures; turnouts = c.empty-2.ensures }
