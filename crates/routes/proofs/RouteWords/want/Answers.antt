use mathlib.Core.Path.{refl}
use borrow.Author.Rules.{rules, Below-row}
use Rattle.bits.proofs.Bits.{one_shl}
use Rattle.routes.proofs.Words.{held_wanted}
use Rattle.routes.proofs.RouteWords.want.Goals as goal

pub returns : goal.returns
returns c = λ rs is held.
    let r = c.requires in
    held_wanted c.args.k c.args.e _ c.args.diverted (search rules) (search rules) (search (rules, Below-row)) r.0 r.1 r.2 (one_shl c.args.k r.0) (rw (c.from.ensures, c.from-2.ensures) refl) held is
