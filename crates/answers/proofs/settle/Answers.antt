-- `answers::settle` meets its contract: the keys read are put in order, and each way out is a law of `Refused`.
use mathlib.Core.Path.{sym}
use Prim.Native.Nat.{◌≤◌}
use native.Mathlib.Omega.{arith}
use Rattle.answers.proofs.Log.{keys_begun}
use Rattle.answers.proofs.Refused.{log_whole, settle_cut, Ordered, settle_17, settle_16, settle_ok}
use Rattle.answers.proofs.settle.Goals as goal
use Rattle.answers.proofs.settle.Goals.{After-read_keys-n, After-sort}

pub returns-then-cut_or_long : goal.returns-then-cut_or_long
returns-then-cut_or_long c = settle_cut _ _ (sym c.if-cut_or_long.ensures)

pub read_keys-n-requires : goal.read_keys-n-requires
read_keys-n-requires c = omega (arith, log_whole c.args.log.now (sym c.if-cut_or_long.ensures))

-- So many keys were read.
few : (c : After-read_keys-n) → c.read_keys-n.result ≤ 1000
few c = omega (arith, log_whole c.args.log.now (sym c.if-cut_or_long.ensures), c.read_keys-n.ensures.within)

pub slice_bounds-sort-end : goal.slice_bounds-sort-end
slice_bounds-sort-end c = omega (arith, few (goal.at.slice_bounds-sort-end c).After-read_keys-n)

pub overflow_cast-result : goal.overflow_cast-result
overflow_cast-result c = record { fits = omega (arith, few (goal.at.overflow_cast-result c).After-read_keys-n) }

pub sort-requires-clause-begun : goal.sort-requires-clause-begun
sort-requires-clause-begun c =
    let r = c.read_keys-n.ensures in
    (omega arith, keys_begun c.args.log.now c.read_keys-n.result (few (goal.at.sort-requires-clause-begun c).After-read_keys-n) r.good _ r.stored)

-- The keys in order.
ordered : (c : After-sort) → Ordered c.args.log.now c.read_keys-n.new.keys c.sort.new.keys c.read_keys-n.result
ordered c =
    record {
      whole = sym c.if-cut_or_long.ensures;
      read = c.read_keys-n.ensures;
      order = c.sort.ensures;
    }

pub returns-in-Some : goal.returns-in-Some
returns-in-Some c = settle_17 (ordered (goal.at.returns-in-Some c).After-sort) c.in-Some.line (sym c.in-Some.ensures)

pub returns-then-n-log : goal.returns-then-n-log
returns-then-n-log c = settle_16 (ordered (goal.at.returns-then-n-log c).After-sort) (sym c.in_default.ensures) c.if-n-log.true

pub returns : goal.returns
returns c = settle_ok (ordered (goal.at.returns c).After-sort) (sym c.in_default.ensures) c.if-n-log.false
