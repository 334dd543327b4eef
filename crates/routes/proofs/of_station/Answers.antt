-- Each way out is a law of `Answered`.
use mathlib.Core.Path.{sym}
use Rattle.routes.proofs.Answered.{refuses_routes, refuses_short, fills}
use Rattle.routes.proofs.of_station.Goals as goal

pub returns-in_err-n-clause-after : goal.returns-in_err-n-clause-after
returns-in_err-n-clause-after c = λ file e. (refuses_routes file _ c.args.table.now e c.in_err-n.ensures.refused).1

pub returns-then-table-bytes-clause-after : goal.returns-then-table-bytes-clause-after
returns-then-table-bytes-clause-after c = λ file e. (refuses_short file _ _ e c.in_ok-n.ensures.accepted c.if-table-bytes.true).1

pub returns-clause-after : goal.returns-clause-after
returns-clause-after c = λ file e.
    let are = c.in_ok-n.ensures.accepted in
    (fills file _ _ e are c.if-table-bytes.false (c.fill.ensures _ (sym are.count) are.held)).1
