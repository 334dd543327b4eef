-- The stored word has the section's bit, by `memb-put`; a bit that is set already changes nothing.
use mathlib.Core.Path.{◌≡◌, ap, ◌∙◌}
use mathlib.Core.List.{List}
use Prim.Native.Nat.{ℕ, ◌-◌, ◌*◌, ◌/◌, ◌%◌, ◌^◌}
use native.Mathlib.Omega.{arith}
use lib.Bits.{bit_or}
use lib.ListN.{length, get_or, set}
use mir.Syntax.{w64}
use mir.Val.{Fits}
use borrow.Author.Rules.{rules}
use Rattle.bits.proofs.Bits.{one_shl}
use Rattle.reach.specs.Reach.{memb}
use Rattle.reach.proofs.Laws.{put, memb-put, put_present}
use Rattle.reach.proofs.Reach.insert.Goals as goal

pub returns : goal.returns
unfolding put
returns c =
    let a = c.args in
    let ws : List ℕ = a.self.now.words in
    let s : ℕ = a.s.0 in
    let i : ℕ = (s - 1) / 64 in
    let len : length ws ≡ 8 = search rules in
    let fit : Fits w64 (get_or ws i 0) = search rules in
    let e : set ws i (bit_or (get_or ws i 0) (1 * 2 ^ ((s - 1) % 64) % 2 ^ 64)) ≡ put ws s =
    ap (λ (x : ℕ). set ws i (bit_or (get_or ws i 0) x)) (one_shl ((s - 1) % 64) (omega arith)) in
    rw c.from-k.ensures (record {
      members = (λ t. ap (λ (l : List ℕ). memb l t) e ∙ memb-put ws s t c.requires.0 (omega arith));
      present = (λ h. ap (λ (l : List ℕ). record { words = l }) (e ∙ put_present ws s c.requires.0 fit.fits h));
    })
