use Rattle.std.proofs.Common.{◌≡◌, ◌∙◌, Bool, true, false, not, ◌&&◌, refl, length, arith, rules}
use mathlib.Core.Bool.{xor, false≢true}
use lib.Bits.{bit_xor}
use Rattle.bits.proofs.Bits.{bit-xor}
use Rattle.reach.specs.Reach.{memb}
use Rattle.reach.proofs.Laws.{memb_merged}
use Rattle.setting_safety.proofs.without.Goals as goal

taken : (a b : Bool) → (b ≡ true → a ≡ true) → xor a b ≡ (a && not b)
unfolding xor
taken true true h = refl
taken true false h = refl
taken false true h = absurd (false≢true (h refl))
taken false false h = refl

pub returns : goal.returns
unfolding xor
returns c = λ k inside.
    let a = c.args in
    let at = c.loop-i in
    let one : length a.set.words ≡ 8 = search rules in
    let two : length a.part.words ≡ 8 = search rules in
    memb_merged bit_xor a.set.words a.part.words xor bit-xor refl at.set.words at.i one two at.invariant (omega arith) k ∙ taken (memb a.set.words k) (memb a.part.words k) inside
