-- The bit is set in the words of the sections so far (`Adding`).
use Rattle.std.proofs.Common.{◌≡◌, true, ℕ, get_or}
use Rattle.bits.specs.Bits.{bit}
use Rattle.setting_tables.proofs.Leaving.{Before, Within, Adding}
use Rattle.setting_tables.proofs.BySection.add.Given as goal

abbrev pub invariant-loop-i : goal.invariant-loop-i
invariant-loop-i l = Adding l.set.words l.e l.fn.self (Before l.i) l.self

abbrev pub invariant-loop-b : goal.invariant-loop-b
invariant-loop-b l = record {
  part : (k : ℕ) → bit l.b-iterator.0 k ≡ true → bit (get_or l.set.words l.i 0) k ≡ true;
  adding : Adding l.set.words l.e l.fn.self (Within l.i l.b-iterator.0) l.self;
}
