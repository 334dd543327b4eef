-- A right K line adds a section.
use Rattle.std.proofs.lemmas.Result.{err_from_is_err_and}
use mathlib.Core.Path.{refl, sym, ◌∙◌}
use mathlib.Core.Bool.{true, false}
use native.Mathlib.Omega.{arith}
use Rattle.route_meaning.proofs.RouteFile.{after_k}
use Rattle.routes.specs.Sets.{progress_of}
use Rattle.routes.proofs.Lines.{k_cause, more_k}
use Rattle.routes.proofs.Station.take_k.Goals as goal

pub returns-in_err-a : goal.returns-in_err-a
returns-in_err-a c =
    let p = err_from_is_err_and c.from_residual.result c.from_residual.ensures.1 in
    let e = c.in_err-a.ensures in
    rw (p.1, p.2, e.1) (k_cause _ c.args.l c.args.p _ c.args.self.now.over_is c.requires.0 true e.0 _ refl)

pub returns-then-not-steps_on : goal.returns-then-not-steps_on
returns-then-not-steps_on c =
    let a = c.in_ok-a.ensures in
    k_cause _ c.args.l c.args.p _ c.args.self.now.over_is c.requires.0 false a.0 false (rw a.1 at (sym c.steps_on.ensures ∙ c.if-not-steps_on.true))

pub returns : goal.returns
returns c =
    let a = c.in_ok-a.ensures in
    record {
      none = k_cause _ c.args.l c.args.p _ c.args.self.now.over_is c.requires.0 false a.0 true (rw a.1 at (sym c.steps_on.ensures ∙ c.if-not-steps_on.false));
      place = rw a.1 (sym (after_k (progress_of c.args.p) c.args.l c.requires.0));
      more = λ rs w. more_k c.args.l rs w c.requires.0 (rw a.1 at (c.pass.ensures rs (omega (arith, c.args.p.begun, w.0)) w.1));
    }
