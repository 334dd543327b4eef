-- The pair is met among those closed to signals, and then among those closed to turnouts.
use mathlib.Core.Path.{refl}
use mathlib.Core.List.{List, [], ◌∷◌}
use Rattle.std.proofs.lemmas.Result.{err_from_is_err_and}
use Rattle.meaning.specs.declared.Move.{Move}
use Rattle.meaning.proofs.Numbered.{some_number}
use Rattle.line_checks.proofs.Causes.{by_signal, plain_first, plain_both}
use Rattle.line_checks.proofs.Seen.admit_plain.Goals as goal

pub returns-in_err-admit_pair : goal.returns-in_err-admit_pair
returns-in_err-admit_pair c =
    let t = c.args.self.now in
    let ms : List Move = record { from = c.args.p.from; to = c.args.p.to } ∷ [] in
    let p = err_from_is_err_and c.from_residual.result c.from_residual.ensures.1 in
    rw (p.1, p.2) (plain_first ms t _ _ (some_number c.in_err-admit_pair.field-0.0) (by_signal ms t _ _ c.in_err-admit_pair.ensures))

pub returns : goal.returns
returns c =
    let t = c.args.self.now in
    let ms : List Move = record { from = c.args.p.from; to = c.args.p.to } ∷ [] in
    plain_both ms t _ _ _ _ refl (by_signal ms t _ _ c.in_ok-admit_pair.ensures) c.admit_pair-2.ensures
