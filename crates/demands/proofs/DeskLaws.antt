-- What a list of writes says holds of the desks that the calls answer (specs/DeskLaws).
use mathlib.Core.Path.{◌≡◌, refl, sym, ap, ◌∙◌, subst}
use mathlib.Core.Logic.{◌↔◌, ⊎_elim}
use mathlib.Core.Bool.{Bool, cond}
use mathlib.Core.List.{List, ◌++◌}
use Prim.Native.Nat.{ℕ, zero, suc, ◌-◌, ◌/◌, ◌%◌, ◌≤◌}
use native.Mathlib.Omega.{arith}
use lib.ListN.{length, set, take, replicate, length-set, length-append, get_or-append}
use lib.Seq.{take-append_seam}
use Rattle.session_meaning.specs.declared.Desk.{Desk}
use Rattle.meaning.specs.Station.{file_states}
use Rattle.basics.specs.Lists.{pad_to}
use Rattle.meaning.specs.Accepted.{Accepted}
use Rattle.session_meaning.specs.Desk.{state_in, states_after, written, byte_at, Write, last_where, last_byte, held_state, pending_bit, failed_bit}
use Rattle.session_meaning.proofs.Writes.{pending_small, failed_small, fixed_held}
use Rattle.session_meaning.proofs.Writes.{control_next, low_next, high_next, state_next, status_next, element_next}
use Rattle.session_meaning.proofs.Desks.{uncleared_exactly, last_failed_exactly}
use Rattle.c_layout.specs.declared.FlatDeskAnswer.{FlatDeskAnswer}
use Rattle.c_layout.specs.Flat.{flat_desk}
use Rattle.demands.specs.Words.{situation}
use Rattle.demands.specs.Demand1.{requested, refused}
use Rattle.demands.specs.Item10.{at_start, Item10Start, Item10Write}
use Rattle.demands.specs.DeskLaws.{Held, Reads, HeldAtStart, NextWrite, EveryList, ReadsWhatIsHeld, InterruptOfWhatIsHeld}
use Rattle.demands.proofs.Exactly.{desk_write_exactly}

-- ---- a start and the writes
kept_first : (n : ℕ) (fs : List ℕ) → take (length fs) (pad_to n 0 fs) ≡ fs
unfolding pad_to
kept_first n fs = take-append_seam fs (replicate (n - length fs) 0)

as_many : (n : ℕ) (fs : List ℕ) → length fs ≤ length (pad_to n 0 fs)
unfolding pad_to
as_many n fs = rw (length-append fs (replicate (n - length fs) 0)) (omega arith)

same_state : (fs more : List ℕ) (e : ℕ) → 1 ≤ e → e ≤ length fs → state_in (fs ++ more) e ≡ state_in fs e
unfolding state_in
same_state fs more zero h l = absurd (omega arith)
same_state fs more (suc i) h l = get_or-append fs more 0 i (omega arith)

held_start : (fs : List ℕ) (ws : ℕ → Write) → Held fs ws 0 (at_start fs)
unfolding last_byte last_where pending_bit failed_bit held_state pad_to
held_start fs ws = record {
  elements = refl;
  filed = kept_first 256 fs;
  places = as_many 256 fs;
  control = refl;
  low = refl;
  high = refl;
  state = refl;
  status = refl;
  element = λ e h l. same_state fs (replicate (256 - length fs) 0) e h l;
  fixed = λ e h l n. same_state fs (replicate (256 - length fs) 0) e h l;
}

set-length : (a t : Bool) (xs : List ℕ) (i x : ℕ) → length (cond a (cond t (set xs i x) xs) xs) ≡ length xs
set-length a t xs i x = grind (arith, length-set)

held_next : (d : Desk) (fs : List ℕ) (ws : ℕ → Write) (n : ℕ) → Held fs ws n d → Held fs ws (suc n) (written d (ws n).address (ws n).byte)
unfolding written states_after
held_next d fs ws n h = grind (arith, control_next, element_next, fixed_held, high_next, low_next, set-length, state_next, status_next)

pub held_at_start : HeldAtStart
held_at_start file r (requested q w) a ws = subst (Held (file_states (situation file)) ws 0) (sym w.1) (held_start (file_states (situation file)) ws)
held_at_start file r (refused n c u) a ws = absurd (c.0 a)

pub next_write : NextWrite
next_write d address byte r w fs ws n this h =
    rw ((desk_write_exactly d address byte r).0 w) (subst (λ (x : Write). Held fs ws (suc n) (written d x.address x.byte)) this (held_next d fs ws n h))

pub every_list : EveryList
every_list file ws answers a start step zero = held_at_start file (answers 0) start a ws
every_list file ws answers a start step (suc n) =
    next_write (answers n).desk (ws n).address (ws n).byte (answers (suc n)) (step n) (file_states (situation file)) ws n refl
    (every_list file ws answers a start step n)

-- ---- a read and the interrupt line
pub reads_what_is_held : ReadsWhatIsHeld
reads_what_is_held d a r w fs ws n h = record {
  stored = λ p. grind (arith, p);
  pending = λ e.
      let bit : r.byte % 2 ≡ pending_bit fs ws n = omega (arith, w.status e, h.status, pending_small fs ws n) in
      rw bit (uncleared_exactly fs ws n);
  failed = λ e.
      let bit : r.byte / 2 ≡ failed_bit fs ws n = omega (arith, w.status e, h.status, pending_small fs ws n, failed_small fs ws n) in
      rw bit (last_failed_exactly fs ws n);
}

pub interrupt_of_what_is_held : InterruptOfWhatIsHeld
interrupt_of_what_is_held d r w fs ws n h =
    grind (arith, pending_small, uncleared_exactly)
