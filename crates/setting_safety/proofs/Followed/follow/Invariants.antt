-- What is followed so far (`Sound`, `Started`, `Stepped`, `Full`). What is left to add and to serve gets less.
use Rattle.std.proofs.Common.{◌≡◌, true, false, ℕ, ◌<◌, ◌≤◌, get_or}
use Rattle.bits.specs.Bits.{bit}
use Rattle.setting_safety.specs.Followed.{leads_of, left_over}
use Rattle.setting_safety.proofs.Following.{Part, Sound, Started, Stepped, Full}
use Rattle.setting_safety.proofs.Followed.follow.Given as goal

abbrev pub invariant-loop-e : goal.invariant-loop-e
invariant-loop-e l = record {
  part : Part l.exits l.first l.e-iterator.0;
  sound : Sound l.exits l.first l.among l.planes (leads_of l.onward l.harms) l.self;
  started : Started l.exits l.first l.among l.planes l.e-iterator.0 l.self;
  stepped : Stepped l.first l.among l.planes (leads_of l.onward l.harms) 0 0 0 l.self;
}

abbrev pub invariant-loop-self : goal.invariant-loop-self
invariant-loop-self l = record {
  sound : Sound l.exits l.first l.among l.planes (leads_of l.onward l.harms) l.self;
  started : Started l.exits l.first l.among l.planes 0 l.self;
  stepped : Stepped l.first l.among l.planes (leads_of l.onward l.harms) 0 0 0 l.self;
  full : Full l.first l.among l.planes l.open l.self;
}

abbrev pub decreases-loop-self : goal.decreases-loop-self
decreases-loop-self l = left_over l.self

abbrev pub invariant-loop-d : goal.invariant-loop-d
invariant-loop-d l = record {
  low : (e : ℕ) → bit l.d-iterator.0 e ≡ true → e < 48;
  calm : (e : ℕ) → bit l.d-iterator.0 e ≡ true → bit l.harms e ≡ false;
  sound : Sound l.exits l.first l.among l.planes (leads_of l.onward l.harms) l.self;
  started : Started l.exits l.first l.among l.planes 0 l.self;
  stepped : Stepped l.first l.among l.planes (leads_of l.onward l.harms) l.d-iterator.0 0 0 l.self;
  full : Full l.first l.among l.planes l.open l.self;
  left : left_over l.self ≤ left_over l.initial.self;
}

abbrev pub invariant-loop-f : goal.invariant-loop-f
invariant-loop-f l = record {
  part : Part (leads_of l.onward l.harms l.d) l.first l.f-iterator.0;
  sound : Sound l.exits l.first l.among l.planes (leads_of l.onward l.harms) l.self;
  started : Started l.exits l.first l.among l.planes 0 l.self;
  stepped : Stepped l.first l.among l.planes (leads_of l.onward l.harms) l.d-iterator.0 l.d l.f-iterator.0 l.self;
  full : Full l.first l.among l.planes l.open l.self;
  same : bit l.self.waiting l.d ≡ false → get_or l.self.settings l.d 0 ≡ l.settings;
  left : left_over l.self ≤ left_over l.initial.self;
}
