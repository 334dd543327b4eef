-- What the operation answers: its refusal, or the answer for the situation with every open signal at stop.
use Rattle.std.proofs.Common.{◌≡◌, sym, ap, ◌∙◌, subst, Bool, false, List, Ok, Err, ℕ, ◌≤◌, arith}
use Rattle.std.specs.Prelude.{⊤}
use Rattle.meaning.specs.declared.Situation.{Situation}
use Rattle.meaning.specs.declared.Refusal.{Refusal}
use Rattle.meaning.specs.Station.{file_states}
use Rattle.meaning.specs.Settings.{open_count}
use Rattle.meaning.specs.File.{reading, reading_answer, unless_refused, Limits}
use Rattle.meaning.specs.Operations.{call_refusal}
use Rattle.meaning.specs.CanBeSafe.{can_be_safe, can_be_safe_refusal, can_be_safe_answer}
use Rattle.meaning.proofs.Opens.{fewer_open}
use Rattle.meaning.proofs.Refused.{refused_with, answered_with, ok_of, err_of, accepted_as, refused_as}
use Rattle.meaning.specs.Stopped.{AtStop}
use Rattle.meaning.proofs.Stopped.{at_stop_inside}
use Rattle.meaning.proofs.CanBeSafe.{saved_at_stop, turnouts_left}
use Rattle.element_states.specs.Sound.{Sound}
use Rattle.element_states.proofs.Calls.{first_file, first_call, not_called}

-- A situation with every open signal at stop can be judged.
pub halted_sound : {s t : Situation} → Sound s → AtStop s t → Sound t
halted_sound sound halted = record {
  inside = at_stop_inside halted ∙ sound.inside;
  limits = subst Limits (sym halted.header) sound.limits;
}

-- The call with no lent memory: at most twelve elements are open.
pub few : (t : Situation) → unless_refused {T = ⊤} (call_refusal t 11 13 false) tt ≡ Ok tt → open_count (file_states t) ≤ 12
few t g =
    let z = (ok_of (call_refusal t 11 13 false) tt g).0 in
    omega (arith, fewer_open 13 (file_states t) (omega arith) (not_called t 11 13 false (λ n. omega arith) z).0)

module _ (file : List ℕ) where
  refuses : {q : Refusal} → q ≡ can_be_safe_refusal file → (q.number ≡ 0 → ⊥) → Err q ≡ can_be_safe_answer file
  unfolding can_be_safe_answer
  refuses {q} h n = rw (← h) (refused_with q (can_be_safe (reading file).situation) n)

  -- The file is refused.
  pub refuses_file : {q : Refusal} → reading_answer file ≡ Err q → Err q ≡ can_be_safe_answer file
  unfolding can_be_safe_refusal
  refuses_file h =
      let f = refused_as file h in
      refuses (sym f.1 ∙ first_file _ _ f.0) (λ z. f.0 (ap (λ (q : Refusal). q.number) f.1 ∙ z))

  -- The file is accepted, and t is its situation with every open signal at stop.
  module _ {s t : Situation} (h : reading_answer file ≡ Ok s) (halted : AtStop s t) where
    call : call_refusal t 11 13 false ≡ can_be_safe_refusal file
    unfolding call_refusal can_be_safe_refusal
    call = let a = accepted_as file h in rw (a.1, turnouts_left s t halted 13, halted.header) (first_call _ _ a.0)

    -- More than twelve turnouts are open.
    pub refuses_call : {q : Refusal} → unless_refused {T = ⊤} (call_refusal t 11 13 false) tt ≡ Err q → Err q ≡ can_be_safe_answer file
    refuses_call e =
        let c = err_of (call_refusal t 11 13 false) tt e in
        refuses (sym c.1 ∙ call) (λ z. c.0 (ap (λ (q : Refusal). q.number) c.1 ∙ z))

    -- At most twelve are: the answer for t is the file's.
    pub answers : unless_refused {T = ⊤} (call_refusal t 11 13 false) tt ≡ Ok tt → {yes : Bool} → yes ≡ can_be_safe t → Ok yes ≡ can_be_safe_answer file
    unfolding can_be_safe_answer
    answers g {yes} e =
        let none = sym (ap (λ (q : Refusal). q.number) call) ∙ (ok_of (call_refusal t 11 13 false) tt g).0 in
        ap Ok (e ∙ saved_at_stop s t halted ∙ ap can_be_safe (sym (accepted_as file h).1))
        ∙ answered_with (can_be_safe_refusal file) (can_be_safe (reading file).situation) none
