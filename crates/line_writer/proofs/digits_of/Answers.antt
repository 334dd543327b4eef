-- The digits are found power by power, and the count is the sum of all.
use Rattle.line_writer.proofs.Digits.{figured_is}
use Rattle.line_writer.proofs.digits_of.Goals as goal

pub returns : goal.returns
returns c =
    figured_is _ _ _ _ _ _ _ c.above-h.ensures c.subtract-a.ensures c.subtract-b.ensures c.subtract-c.ensures
    c.subtract-d.ensures c.subtract-e.ensures
