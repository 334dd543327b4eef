use mathlib.Core.Path.{sym, ◌∙◌}
use native.Mathlib.Omega.{arith}
use lib.ListN.{get_or}
use mir.Syntax.{w64}
use mir.Val.{Fits}
use borrow.Author.Rules.{rules}
use Rattle.basics.proofs.Numbers.{found_test}
use Rattle.reach.proofs.Laws.{shares_start, shares_turn, shares_found}
use Rattle.reach.proofs.Reach.meets.Goals as goal

pub loop-i-init : goal.loop-i-init
loop-i-init c = shares_start _ _

pub loop-i-preserved : goal.loop-i-preserved
loop-i-preserved c =
    let a = c.args in
    let at = c.loop-i in
    let fit : Fits w64 (get_or a.self.words at.i 0) = search rules in
    shares_turn a.self.words a.other.words at.both at.i at.invariant (omega arith) fit.fits

pub returns : goal.returns
returns c =
    let a = c.args in
    let at = c.loop-i in
    sym (found_test at.both) ∙ shares_found a.self.words a.other.words at.both at.i at.invariant (omega arith)
