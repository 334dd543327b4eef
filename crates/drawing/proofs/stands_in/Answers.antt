use mathlib.Core.Path.{ap, ◌∙◌}
use Rattle.meaning.specs.Paths.{mem}
use Rattle.drawing.proofs.Laws.{one_of}
use Rattle.drawing.proofs.stands_in.Goals as goal

pub returns : goal.returns
returns c =
    c.contains.ensures.value ∙ one_of c.args.a _ ∙ ap (mem c.args.a) (c.as_slice.ensures ∙ c.from.ensures)
