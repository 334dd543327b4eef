-- `answers::read_keys` meets its contract. The invariant: the lines before i are right, and their keys are stored.
use mathlib.Core.Path.{◌≡◌}
use mathlib.Core.Bool.{true}
use Prim.Native.Nat.{ℕ, ◌<◌}
use lib.ListN.{take}
use Rattle.basics.specs.Lists.{list_of}
use Rattle.session_meaning.specs.Answers.{right}
use Rattle.answers.specs.Keys.{line_key}
use Rattle.answers.proofs.read_keys.Given as goal

abbrev pub invariant-loop-i : goal.invariant-loop-i
invariant-loop-i l = record { good : (k : ℕ) → k < l.i → right l.log k ≡ true; stored : take l.i l.keys ≡ list_of l.i (line_key l.log) }
