use Rattle.std.proofs.Common.{refl}
use Rattle.basics.specs.Lists.{pad_to}
use Rattle.meaning.specs.File.{no_situation}
use Rattle.c_layout.specs.Flat.{flat_situation, four_each}
use Rattle.c_layout.proofs.FlatSituationDefault.default.Goals as goal

pub returns : goal.returns
unfolding flat_situation no_situation pad_to four_each
returns c = refl
