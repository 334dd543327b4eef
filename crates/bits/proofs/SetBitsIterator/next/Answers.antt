use native.Mathlib.Omega.{arith}
use mir.Syntax.{w64}
use mir.Val.{Fits}
use borrow.Author.Rules.{rules}
use Rattle.bits.proofs.Bits.{lowest_taken}
use Rattle.bits.proofs.SetBitsIterator.next.Goals as goal

pub returns-clause-steps : goal.returns-clause-steps
returns-clause-steps c = let fit : Fits w64 c.args.self.now.0 = search rules in lowest_taken _ (omega (arith, c.if-self-eq0.false)) fit.fits
