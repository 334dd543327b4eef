use mathlib.Core.Path.{◌≡◌, sym}
use mathlib.Core.List.{List}
use Prim.Native.Nat.{ℕ, ◌/◌}
use native.Mathlib.Omega.{arith}
use lib.ListN.{get_or}
use mir.Syntax.{w64}
use mir.Val.{Fits}
use borrow.Author.Rules.{rules}
use Rattle.reach.specs.Reach.{memb}
use Rattle.reach.proofs.Laws.{clear_word, next_none, next_word}
use Rattle.reach.proofs.Reach.next.Goals as goal

pub returns-then-w-ne0 : goal.returns-then-w-ne0
returns-then-w-ne0 c =
    let ws : List ℕ = c.args.self.words in
    let at = c.loop-i in
    let fit : Fits w64 (get_or ws (at.n / 64) 0) = search rules in
    let e : at.i ≡ at.n / 64 = sym at.invariant.1 in
    let some = rw e at c.if-w-ne0.true in
    (omega arith, rw e (sym (next_word ws c.args.s.0 at.n (omega arith) (omega arith) (rw c.from-n.ensures at at.invariant.2) fit.fits some)))

pub loop-i-preserved : goal.loop-i-preserved
loop-i-preserved c =
    let at = c.loop-i in
    let e : at.i ≡ at.n / 64 = sym at.invariant.1 in
    let none = rw e at c.if-w-ne0.false in
    (omega arith, omega arith, rw e (clear_word c.args.self.words c.from-n.result at.n at.invariant.2 none))

pub returns : goal.returns
returns c =
    let at = c.loop-i in
    next_none 512 c.args.s.0 (memb c.args.self.words) (λ t low high. at.invariant.2 t (omega arith) (omega arith))
