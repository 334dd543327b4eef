-- Item 10 holds of any operation with the contract that `judge_desk_*` has: `item_10_start`, `item_10_write`, `item_10_read`,
-- `item_10_interrupt`.
use mathlib.Core.Path.{◌≡◌, refl, sym, ap, ◌∙◌, subst}
use mathlib.Core.Logic.{◌↔◌, ⊎_elim}
use mathlib.Core.Bool.{Bool, true, false, cond}
use mathlib.Core.List.{List, [], ◌∷◌, ◌++◌, map}
use Prim.Native.Nat.{ℕ, zero, suc, ◌-◌, ◌/◌, ◌%◌, ◌≤◌}
use native.Mathlib.Omega.{arith}
use lib.Dec.{eqb}
use lib.ListN.{length, set, replicate, length-set, length-map, length-take}
use borrow.Author.Tests.{eqb-true, eqb-false, eq-eqb, ne_eqb, ltb-true}
use Rattle.meaning.proofs.Refused.{answered_with, refused_with}
use Rattle.c_layout.specs.declared.FlatRefusal.{FlatRefusal}
use Rattle.meaning.specs.declared.Refusal.{Refusal}
use Rattle.std.specs.Prelude.{Result, ltb}
use Rattle.meaning.specs.declared.Element.{Element}
use Rattle.meaning.specs.declared.Situation.{Situation}
use Rattle.meaning.specs.File.{refusal, unless_refused}
use Rattle.session_meaning.specs.declared.Desk.{Desk}
use Rattle.meaning.specs.Station.{elements_of, file_states}
use Rattle.basics.specs.Lists.{pad_to}
use Rattle.meaning.specs.File.{no_element, no_situation, reading, up_to_counts}
use Rattle.meaning.specs.Accepted.{Accepted}
use Rattle.session_meaning.specs.Desk.{desk_of, start_answer, settable, status_after, states_after, written, write_answer}
use Rattle.session_meaning.specs.Desk.{byte_at, read_answer, interrupt_of, Write, last_where, last_byte, held_state, pending_bit, failed_bit}
use Rattle.meaning.proofs.Accepted.{accepted_exactly}
use Rattle.meaning.proofs.AcceptedSituation.{accepted_lengths}
use Rattle.file_meaning.proofs.RoundTrip.{up_to_counts_lem}
use Rattle.session_meaning.proofs.Writes.{start_states, start_element, pending_small, failed_small, fixed_held}
use Rattle.session_meaning.proofs.Writes.{control_next, low_next, high_next, state_next, status_next, element_next}
use Rattle.session_meaning.proofs.Desks.{uncleared_exactly, last_failed_exactly, write_refused, read-refused, not-refused, byte_above}
use Rattle.c_layout.specs.declared.FlatDeskAnswer.{FlatDeskAnswer}
use Rattle.c_layout.specs.declared.FlatDeskByte.{FlatDeskByte}
use Rattle.c_layout.specs.Flat.{flat_desk, flat_desk_byte, flat_start, flat_outcome}
use Rattle.demands.specs.Words.{situation}
use Rattle.demands.specs.Demand1.{requested, refused}
use Rattle.demands.specs.Item10.{at_start, Item10Start, Stores, Command, Item10Write, Item10Read, Item10Interrupt}
use Rattle.demands.proofs.Words.{of_lines}
use Rattle.demands.proofs.Causes.{refused_file}

-- ---- a start
-- What was read has zeros past the elements.
no_more_states : (n : ℕ) → map (λ (e : Element). e.state) (replicate n no_element) ≡ replicate n 0
no_more_states zero = refl
no_more_states (suc n) = grind (arith, no_more_states n)

then_zeros : (es : List Element) (n : ℕ) → map (λ (e : Element). e.state) (es ++ replicate n no_element) ≡ map (λ (e : Element). e.state) es ++ replicate n 0
then_zeros [] n = no_more_states n
then_zeros (e ∷ es) n = grind (arith, then_zeros es n)

all_states : (s : Situation) → up_to_counts s ≡ s → map (λ (e : Element). e.state) s.elements ≡ pad_to 256 0 (file_states s)
unfolding up_to_counts pad_to file_states
all_states s up = grind (arith, then_zeros (elements_of s) (256 - length (elements_of s)), length-map)

started : (s : Situation) → length (file_states s) ≡ s.header.elements → up_to_counts s ≡ s → desk_of s ≡ at_start (file_states s)
unfolding desk_of
started s e up = rw (e, all_states s up) refl

no_states : map (λ (e : Element). e.state) no_situation.elements ≡ replicate 256 0
unfolding no_situation pad_to
no_states = refl

refused_desk : desk_of no_situation ≡ at_start []
unfolding desk_of no_situation pad_to
refused_desk = rw no_states

pub item_10_start : (file : List ℕ) (r : FlatDeskAnswer) → r ≡ flat_start (start_answer (reading file)) → Item10Start file r
unfolding start_answer
item_10_start file r answer = subst (Item10Start file) (sym answer) (go (eqb (reading file).refusal.number 0) refl)
  where
    go : (b : Bool) → eqb (reading file).refusal.number 0 ≡ b → Item10Start file (flat_start (start_answer (reading file)))
    go true z =
        let e : (reading file).refusal.number ≡ 0 = eqb-true (reading file).refusal.number 0 z in
        let a = (accepted_exactly file).0 e in
        subst (Item10Start file) (ap flat_start (answered_with (reading file).refusal (desk_of (reading file).situation) e))
        (requested refl (
          a,
          of_lines file a (λ (s : Situation). desk_of (reading file).situation ≡ at_start (file_states s))
              (started (reading file).situation (accepted_lengths file e) (up_to_counts_lem file e)),
        ))
    go false z =
        let n = eqb-false (reading file).refusal.number 0 z in
        let w = refused_file file n in
        subst (Item10Start file) (ap flat_start (refused_with (reading file).refusal (desk_of (reading file).situation) n))
        (refused w.numbered.number.0 (w.not_accepted, w.cause) refused_desk)

-- ---- a write
stores : (at address byte x : ℕ) → Stores at address byte x (cond (eqb address at) byte x)
stores at address byte x = (λ e. rw (eq-eqb address at e), λ n. rw (ne_eqb address at n))

module _ (d : Desk) where
  commands : (a b : ℕ) → Command d (written d a b) a b
  unfolding written status_after states_after settable
  commands a b = grind arith

  pub item_10_write : (a b : ℕ) (r : FlatDeskAnswer) → r ≡ flat_desk (write_answer a) (written d a b) → Item10Write d a b r
  unfolding written
  item_10_write a b r answer =
      subst (Item10Write d a b) (sym answer)
      (record {
        refused = λ h.
            let e = write_refused d a b h in
            let q = ap flat_outcome e.0 in
            ((ap (λ (x : FlatRefusal). x.number) q, ap (λ (x : FlatRefusal). x.line) q), e.1);
        not-refused = λ h. ap flat_outcome (not-refused d a h).0;
        control = stores 0 a b d.control;
        low = stores 2 a b d.number_low;
        high = stores 3 a b d.number_high;
        state = stores 4 a b d.state;
        ignored = λ e. rw e;
        command = commands a b;
        kept = (refl, refl);
      })

-- ---- a read
pub item_10_read : (d : Desk) (a : ℕ) (r : FlatDeskByte) → r ≡ flat_desk_byte (read_answer d a) → Item10Read d a r
unfolding read_answer byte_at
item_10_read d a r answer =
    subst (Item10Read d a) (sym answer)
    (record {
      refused = λ h.
          let e = ap flat_desk_byte (read-refused d a h) in
          ((ap (λ (x : FlatDeskByte). x.refusal.number) e, ap (λ (x : FlatDeskByte). x.refusal.line) e), ap (λ (x : FlatDeskByte). x.byte) e);
      not-refused = λ h. ap (λ (x : Result ℕ Refusal). (flat_desk_byte x).refusal) (not-refused d a h).1;
      control = at 0 refl;
      status = at 1 refl;
      low = at 2 refl;
      high = at 3 refl;
      state = at 4 refl;
      command = at 5 refl;
    })
  where
    byte_is : (flat_desk_byte (read_answer d a)).byte ≡ byte_at d a
    byte_is = go (ltb 5 a) refl
      where
        go : (b : Bool) → ltb 5 a ≡ b → (flat_desk_byte (unless_refused (cond b (refusal 20 0) (refusal 0 0)) (byte_at d a))).byte ≡ byte_at d a
        go true h = sym (byte_above d a (ltb-true 5 a h))
        go false h = refl

    at : {x : ℕ} (k : ℕ) → byte_at d k ≡ x → a ≡ k → (flat_desk_byte (read_answer d a)).byte ≡ x
    at k h e = byte_is ∙ ap (byte_at d) e ∙ h

-- ---- the interrupt line
pub item_10_interrupt : (d : Desk) (r : ℕ) → r ≡ cond (interrupt_of d) 1 0 → Item10Interrupt d r
unfolding interrupt_of
item_10_interrupt d r answer = grind arith
