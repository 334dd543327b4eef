use Rattle.std.proofs.Common.{get_or, length, ◌≡◌, arith, rules}
use mir.Syntax.{w64}
use mir.Val.{Fits}
use Rattle.bits.proofs.Bits.{one_shl}
use Rattle.setting_safety.proofs.Adding.{added_same, added_news, left_less}
use Rattle.setting_safety.proofs.Followed.add.Goals as goal

pub returns-clause-added : goal.returns-clause-added
returns-clause-added c =
    let f : Fits w64 (get_or c.args.self.now.settings c.args.e 0) = search rules in
    let v : Fits w64 c.args.self.now.waiting = search rules in
    let size : length c.args.self.now.settings ≡ 48 = search rules in
    rw (one_shl c.args.e (omega (arith, c.requires))) (added_news c.args.self.now c.args.e c.args.settings f.fits c.if-more-eq0.false (omega (arith, c.requires)) c.ranges.settings.fits v.fits (omega (arith, c.requires)))

pub returns-clause-left : goal.returns-clause-left
returns-clause-left c =
    let f : Fits w64 (get_or c.args.self.now.settings c.args.e 0) = search rules in
    let v : Fits w64 c.args.self.now.waiting = search rules in
    let size : length c.args.self.now.settings ≡ 48 = search rules in
    rw (one_shl c.args.e (omega (arith, c.requires))) (left_less c.args.self.now c.args.e c.args.settings f.fits c.if-more-eq0.false (omega (arith, c.requires)) v.fits (omega (arith, c.requires)))

pub returns-then-more-eq0-clause-added : goal.returns-then-more-eq0-clause-added
returns-then-more-eq0-clause-added c =
    let f : Fits w64 (get_or c.args.self.now.settings c.args.e 0) = search rules in
    let v : Fits w64 c.args.self.now.waiting = search rules in
    added_same c.args.self.now c.args.e c.args.settings f.fits c.ranges.settings.fits v.fits c.if-more-eq0.true
