-- A right R line begins a route.
use mathlib.Core.Path.{sym}
use mathlib.Core.Bool.{true, false}
use Rattle.std.proofs.lemmas.Grind.{common_steps}
use native.Mathlib.Omega.{arith}
use Rattle.route_meaning.proofs.RouteFile.{after_r}
use Rattle.routes.specs.Sets.{progress_of}
use Rattle.routes.proofs.Lines.{r_cause, more_r}
use Rattle.routes.proofs.Station.take_r.Goals as goal

pub returns-then-wrong_r : goal.returns-then-wrong_r
returns-then-wrong_r c = λ words. r_cause _ c.args.l c.args.p c.requires c.is_signal.ensures c.wrong_r.ensures true c.if-wrong_r.true

pub invariant_of-result-clause-few : goal.invariant_of-result-clause-few
invariant_of-result-clause-few c = grind (arith, common_steps)

pub returns : goal.returns
returns c = λ words. record {
  none = r_cause _ c.args.l c.args.p c.requires c.is_signal.ensures c.wrong_r.ensures false c.if-wrong_r.false;
  place = sym (after_r (progress_of c.args.p) c.args.l c.requires);
  more = λ rs w. more_r c.args.l rs w c.requires;
}
