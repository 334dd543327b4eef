use mathlib.Core.Path.{◌≡◌, sym, ap, ◌∙◌}
use mathlib.Core.List.{List}
use Prim.Native.Nat.{ℕ, ◌+◌, ◌-◌, ◌*◌, ◌≤◌}
use native.Mathlib.Omega.{arith}
use lib.ListN.{get_or}
use mir.Syntax.{w16}
use mir.Val.{Fits}
use borrow.Author.Rules.{rules}
use Rattle.reach.proofs.Walk.{of_bits, of_bits_none, of_bits_rest, of_bits_small, word_total_is}
use Rattle.reach.proofs.Reach.word_total.Goals as goal
use Rattle.reach.proofs.Reach.word_total.Goals.{After-from-n}

-- The number of the lowest bit left is added.
module _ (c : After-from-n) where
  abbrev of : List ℕ
  of = c.args.of.now

  abbrev w : ℕ → ℕ
  w k = get_or of (64 * c.args.i + k - 1) 0

  turn : c.loop-b.n + c.from-n.result + of_bits w c.next.new.self.0 ≡ of_bits w (get_or c.args.self.words c.args.i 0)
  turn =
      let e : 64 * c.args.i + (c.in-Some.b + 1) - 1 ≡ c.args.i * 64 + c.in-Some.b = omega arith in
      let m : c.from-n.result ≡ w (c.in-Some.b + 1) = c.from-n.ensures ∙ ap (λ (k : ℕ). get_or of k 0) (sym e) in
      omega (arith, c.loop-b.invariant, m, of_bits_rest w c.in-Some.ensures.steps)

  few : (k : ℕ) → w k ≤ 65535
  few k = let f : Fits w16 (w k) = search rules in omega (arith, f.fits)

pub overflow_add-n : goal.overflow_add-n
overflow_add-n c =
    let t = (goal.at.overflow_add-n c).After-from-n in
    omega (arith, turn t, of_bits_small (w t) (get_or c.args.self.words c.args.i 0) (few t))

pub loop-b-preserved : goal.loop-b-preserved
loop-b-preserved c = turn (goal.at.loop-b-preserved c).After-from-n

pub returns : goal.returns
returns c =
    let a = c.args in
    omega (arith, c.loop-b.invariant, of_bits_none (λ k. get_or a.of.now (64 * a.i + k - 1) 0) c.in-None.ensures.steps.0) ∙ word_total_is a.self.words a.of.now a.i
