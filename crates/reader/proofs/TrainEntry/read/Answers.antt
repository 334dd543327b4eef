-- A T line stands over no pair, so its own cause is all there is; one that is checked fits a train.
use mathlib.Core.Path.{refl, sym}
use Rattle.std.proofs.lemmas.Result.{err_from_is_err_and}
use Rattle.line_checks.proofs.Causes.{no_pair_checked}
use Rattle.reader.proofs.Steps.{train_pairs, train_fits}
use Rattle.reader.proofs.TrainEntry.read.Goals as goal

pub returns-in_err-l-clause-cause : goal.returns-in_err-l-clause-cause
returns-in_err-l-clause-cause c =
    let b = c.args.body.now in
    let p = err_from_is_err_and c.from_residual.result c.from_residual.ensures.1 in
    rw (p.1, p.2) (no_pair_checked _ _ (train_pairs b.file.now b.header.letter c.args.i) c.in_err-l.ensures.cause)

pub train_of-requires : goal.train_of-requires
train_of-requires c =
    let b = c.args.body.now in
    rw c.in_ok-l.ensures.line (train_fits b.header.sections b.limits.sections b.file.now c.args.i _ b.header.letter _ refl refl (sym c.in_ok-l.ensures.cause))

pub returns-clause-cause : goal.returns-clause-cause
returns-clause-cause c =
    let b = c.args.body.now in no_pair_checked _ _ (train_pairs b.file.now b.header.letter c.args.i) c.in_ok-l.ensures.cause
