use mathlib.Core.Path.{◌≡◌, refl}
use mathlib.Core.Bool.{◌||◌}
use native.Mathlib.Omega.{arith}
use lib.Bits.{bit_or}
use lib.ListN.{length}
use borrow.Author.Rules.{rules}
use Rattle.bits.proofs.Bits.{bit_or_lem}
use Rattle.reach.proofs.Laws.{memb_merged}
use Rattle.reach.proofs.Reach.union.Goals as goal

pub returns : goal.returns
returns c =
    let a = c.args in
    let at = c.loop-i in
    let one : length a.self.words ≡ 8 = search rules in
    let two : length a.other.words ≡ 8 = search rules in
    memb_merged bit_or a.self.words a.other.words ◌||◌ bit_or_lem refl at.self.words at.i one two at.invariant (omega arith)
