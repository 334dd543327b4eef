use Rattle.routes.proofs.Answered.{refuses_file}
use Rattle.routes.proofs.conflicts.Goals as goal

pub returns-in_err-s-clause-after : goal.returns-in_err-s-clause-after
returns-in_err-s-clause-after c = (refuses_file _ _ c.args.table.now c.in_err-s.ensures.refused).1
