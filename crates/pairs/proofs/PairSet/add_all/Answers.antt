use mathlib.Core.List.{List, [], ◌∷◌}
use Prim.Native.Nat.{ℕ}
use native.Mathlib.Numerals.{add-one}
use lib.ListN.{take, get_or}
use lib.Seq.{take-suc}
use Rattle.meaning.specs.declared.Move.{Move}
use Rattle.meaning.specs.File.{no_move}
use Rattle.pairs.proofs.Gains.{gains_one, gains_both}
use Rattle.pairs.proofs.PairSet.add_all.Goals as goal

pub loop-m-preserved : goal.loop-m-preserved
loop-m-preserved g c =
    let ms : List Move = c.args.ms.now in
    let i : ℕ = c.loop-m.m-index in
    rw (add-one i, take-suc ms i no_move c.loop-m-test.true)
    (gains_both _ _ _ (take i ms) (get_or ms i no_move ∷ []) c.loop-m.invariant
    (gains_one _ _ (get_or ms i no_move) (rw (c.of.ensures.0, c.of.ensures.1) at c.add.ensures)))
