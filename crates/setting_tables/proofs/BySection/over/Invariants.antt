-- The sections of the words so far, and of this word, are done (`Joining`).
use Rattle.std.proofs.Common.{◌≡◌, true, ℕ, get_or}
use Rattle.bits.specs.Bits.{bit}
use Rattle.setting_tables.proofs.Leaving.{Before, Within, Joining}
use Rattle.setting_tables.proofs.BySection.over.Given as goal

abbrev pub invariant-loop-i : goal.invariant-loop-i
invariant-loop-i l = Joining l.set.words l.self (Before l.i) l.bits

abbrev pub invariant-loop-b : goal.invariant-loop-b
invariant-loop-b l = record {
  part : (k : ℕ) → bit l.b-iterator.0 k ≡ true → bit (get_or l.set.words l.i 0) k ≡ true;
  joining : Joining l.set.words l.self (Within l.i l.b-iterator.0) l.bits;
}
