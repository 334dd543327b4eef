-- What the settings question answers: its refusal, no safe setting, or the chosen one. Each law gives the answer and the later content of
-- the buffer.
use Rattle.std.proofs.Common.{◌≡◌, sym, ap, ap₂, ◌∙◌, true, cond, List, ◌++◌, Option, Some, None, Ok, Err, ℕ, ◌≤◌, length, drop, arith}
use Rattle.std.specs.Prelude.{Result, ⊤}
use borrow.Author.Tests.{eq-eqb, ne_eqb}
use Rattle.meaning.specs.declared.Situation.{Situation}
use Rattle.meaning.specs.declared.Refusal.{Refusal}
use Rattle.meaning.specs.declared.Choice.{Choice}
use Rattle.meaning.specs.Station.{file_states}
use Rattle.meaning.specs.Settings.{chosen, reply}
use Rattle.meaning.specs.File.{reading_answer, unless_refused, is_none}
use Rattle.meaning.specs.Operations.{settings_answer, after_settings}
use Rattle.meaning.proofs.Refused.{ok_of, err_of, refused_with, accepted_as}
use Rattle.setting_order.specs.Order.{setting_at}
use Rattle.setting_order.proofs.Order.{setting_at-length}
use Rattle.settings.specs.declared.Best.{Best}
use Rattle.settings.specs.Tried.{IsBest}
use Rattle.settings.specs.Question.{question_refusal, question_answer, after_question}
use Rattle.settings.proofs.Tried.{none_reply, tried_reply-some}
use Rattle.settings.proofs.Refusals.{IsRefused, Granted, is_call}

-- This is the answer, and what the buffer holds after it.
abbrev pub Answers : Situation → List ℕ → Result (Option Choice) Refusal → List ℕ → Type 0
Answers s buffer r after = (r ≡ question_answer s (length buffer)) × (after ≡ after_question s buffer)

module _ (s : Situation) (buffer : List ℕ) where
  -- The call is refused.
  pub refuses : {q : Refusal} → unless_refused {T = ⊤} (question_refusal s (length buffer)) tt ≡ Err q → Answers s buffer (Err q) buffer
  refuses e =
      let c = err_of (question_refusal s (length buffer)) tt e in
      (ap Err (sym c.1) ∙ refused_with (question_refusal s (length buffer)) (reply s) c.0, rw (ne_eqb (question_refusal s (length buffer)).number 0 c.0))

  module _ (g : Granted s (length buffer)) where
    none : is_none (question_refusal s (length buffer)) ≡ true
    none = eq-eqb _ 0 (ok_of (question_refusal s (length buffer)) tt g).0

    -- No setting is safe.
    pub replies_none : IsBest s None → Answers s buffer (Ok None) buffer
    replies_none z = let r = none_reply s z in (rw (none, r.0), rw (none, r.1))

    -- The chosen one is shown.
    pub replies_chosen : {b : Best} → IsBest s (Some b)
        → Answers s buffer (Ok (Some (record { safe = b.safe; proceed = b.proceed }))) (setting_at (file_states s) b.place ++ drop (length (file_states s)) buffer)
    replies_chosen {b} t =
        let some : 1 ≤ b.safe = t.0 in
        let r = tried_reply-some s b.safe b.proceed b.place t.1 (λ z. omega arith) in
        (rw (none, r.0), rw (none, r.1, setting_at-length (file_states s) b.place))

-- ---- the same, said of a file
module _ (file : List ℕ) where
  -- The file is refused.
  pub refuses_file : (buffer : List ℕ) {q : Refusal} → IsRefused file (length buffer) q
      → (Err q ≡ settings_answer file (length buffer)) × (buffer ≡ after_settings file buffer)
  unfolding settings_answer after_settings
  refuses_file buffer {q} r = (rw (← r.0, ne_eqb q.number 0 r.1), rw (← r.0, ne_eqb q.number 0 r.1))

  -- The file is accepted: the question of its situation is the file's.
  module _ {s : Situation} (h : reading_answer file ≡ Ok s) where
    pub answer_of_file : (room : ℕ) → question_answer s room ≡ settings_answer file room
    unfolding settings_answer
    answer_of_file room = ap₂ unless_refused (is_call file room h) (ap reply (sym (accepted_as file h).1))

    pub after_of_file : (buffer : List ℕ) → after_question s buffer ≡ after_settings file buffer
    unfolding after_settings
    after_of_file buffer =
        ap₂ (λ (q : Refusal) (t : Situation). cond (is_none q) (chosen t ++ drop (length (chosen t)) buffer) buffer)
        (is_call file (length buffer) h) (sym (accepted_as file h).1)
