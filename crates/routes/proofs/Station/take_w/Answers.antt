-- A right W line adds a wanted turnout.
use mathlib.Core.Path.{sym}
use mathlib.Core.Bool.{true, false}
use native.Mathlib.Omega.{arith}
use Rattle.route_meaning.proofs.RouteFile.{after_w}
use Rattle.routes.specs.Sets.{progress_of}
use Rattle.routes.proofs.Lines.{w_cause, want_inside, more_w}
use Rattle.routes.proofs.Station.take_w.Goals as goal

pub returns-then-is_turnout-l : goal.returns-then-is_turnout-l
returns-then-is_turnout-l c = w_cause _ c.args.l c.args.p c.requires.0 c.is_turnout.ensures true c.if-is_turnout-l.true

pub want-requires : goal.want-requires
want-requires c =
    let w = want_inside _ _ _ c.args.self.now.situation.now.sound.limits.elements c.is_turnout.ensures c.if-is_turnout-l.false in
    (omega (arith, c.args.p.few, c.args.p.begun), w.0, w.1)

pub returns : goal.returns
returns c =
    let w = want_inside _ _ _ c.args.self.now.situation.now.sound.limits.elements c.is_turnout.ensures c.if-is_turnout-l.false in record {
      none = w_cause _ c.args.l c.args.p c.requires.0 c.is_turnout.ensures false c.if-is_turnout-l.false;
      place = sym (after_w (progress_of c.args.p) c.args.l c.requires.0);
      more = λ rs v.
          more_w c.args.l rs v c.requires.0 (rw w.2 at c.want.ensures rs (omega (arith, c.args.p.begun, v.0)) v.1);
    }
