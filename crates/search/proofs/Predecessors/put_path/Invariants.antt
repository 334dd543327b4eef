-- The sections after that of the loop are written (`Down`).
use Rattle.search.proofs.Back.{Down}
use Rattle.search.proofs.Predecessors.put_path.Given as goal

abbrev pub invariant-loop-m : goal.invariant-loop-m
invariant-loop-m l = Down l.self.of l.initial.place l.n l.initial.out l.out l.m l.place
