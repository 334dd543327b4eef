-- Trains: none before the one at hand shares a section. Words: nor does that one in its first k words. Both end at the first shared bit.
use mathlib.Core.Path.{◌≡◌}
use Rattle.std.specs.Prelude.{None}
use Rattle.reach.specs.Reach.{words_at}
use Rattle.meeting.proofs.Shared.{Apart, NoneMet}
use Rattle.meeting.proofs.first_meeting.Given as goal

abbrev pub invariant-trains : goal.invariant-trains
invariant-trains l = (l.met ≡ None) × NoneMet l.reaches l.r.words l.i

abbrev pub invariant-loop-k : goal.invariant-loop-k
invariant-loop-k l = (l.met ≡ None) × Apart (words_at l.reaches l.i) l.r.words l.k
