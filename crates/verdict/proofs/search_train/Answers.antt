use Rattle.verdict.proofs.search_train.Goals as goal

pub invariant_of-run : goal.invariant_of-run
invariant_of-run c = record { are_sections = rw (c.as_slice.ensures, c.from-standing.ensures) c.requires }
