use mathlib.Core.Path.{sym}
use Prim.Native.Nat.{◌+◌}
use native.Mathlib.Omega.{arith}
use Rattle.std.proofs.Common.{below_more}
use Rattle.answers.proofs.Reading.{key_some, stored_more}
use Rattle.answers.proofs.read_keys.Goals as goal

pub loop-i-preserved : goal.loop-i-preserved
loop-i-preserved c =
    let o = c.loop-i in
    let r = key_some (o.i + 1) c.args.log.now o.i c.in-Some.k (sym c.in-Some.ensures) in
    record {
      good = below_more _ _ o.invariant.good r.0;
      stored = stored_more c.args.log.now o.keys o.i c.in-Some.k (omega arith) o.invariant.stored (sym r.1);
    }
