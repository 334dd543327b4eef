use Rattle.std.proofs.Common.{sym}
use Rattle.settings.proofs.Tried.{tried_fixed}
use Rattle.settings.proofs.try_settings.Goals as goal

pub returns-in_err-tables : goal.returns-in_err-tables
returns-in_err-tables c =
    rw c.from_residual.ensures (sym (tried_fixed c.args.q.s.now.situation c.args.q.s.now.sound c.in_err-tables.ensures).number)
