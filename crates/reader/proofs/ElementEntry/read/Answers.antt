-- An element line that is checked fits an element.
use mathlib.Core.Path.{refl}
use Prim.Native.Nat.{◌*◌}
use lib.Dec.{eqb}
use lib.ListN.{get_or}
use Rattle.reader.specs.Reader.{element_line_at}
use Rattle.reader.proofs.Steps.{element_fits}
use Rattle.reader.proofs.ElementEntry.read.Goals as goal

pub element_of-requires : goal.element_of-requires
element_of-requires c =
    let b = c.args.body.now in
    let i = c.args.i in
    rw c.in_ok-l.ensures.line
    (element_fits b.header.sections b.limits.sections b.file.now i (element_line_at b.file.now i) (eqb (get_or b.file.now (i * 22) 0) 76) refl
    (c.in_ok-l.ensures.cause.own refl))
