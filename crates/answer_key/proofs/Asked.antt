-- The settings question with a buffer of 256 bytes: the text that its answer leads to, and the chosen setting in the buffer.
use mathlib.Core.Path.{◌≡◌, refl, sym, ap, ◌∙◌, subst}
use mathlib.Core.Bool.{Bool, true, false, cond}
use mathlib.Core.List.{List, ◌++◌}
use Prim.Native.Nat.{ℕ, ◌≤◌}
use lib.Dec.{eqb}
use lib.ListN.{length, take, drop}
use lib.Seq.{take_at}
use Rattle.meaning.specs.declared.Choice.{Choice}
use Rattle.std.specs.Prelude.{Result, Ok, Err, Option, Some, None}
use Rattle.meaning.specs.declared.Refusal.{Refusal}
use Rattle.meaning.specs.declared.Situation.{Situation}
use Rattle.meaning.specs.Station.{file_states}
use Rattle.meaning.specs.Settings.{chosen, reply}
use Rattle.meaning.specs.Columns.{row_text}
use Rattle.meaning.specs.File.{reading, reading_answer}
use Rattle.meaning.proofs.Refused.{accepted_as}
use Rattle.meaning.specs.Operations.{settings_refusal, settings_answer, after_settings}
use Rattle.meaning.specs.Key.{element_lines, refusal_key, question_key}
use Rattle.meaning.proofs.Settings.{setting_length}
use Rattle.meaning.proofs.Chosen.{chosen-best}
use Rattle.meaning.proofs.AcceptedSituation.{accepted_counts, accepted_lengths}
use Rattle.answer_key.specs.Lines.{question_text}
use Rattle.answer_key.proofs.Cases.{settings_accepted}

module _ (file : List ℕ) where
  -- The text for an answer.
  abbrev pub AskedText : Result (Option Choice) Refusal → Type 0
  AskedText (Err q) = question_text file ≡ refusal_key q
  AskedText (Ok r) =
      (eqb (settings_refusal file 256).number 0 ≡ true) × (reply (reading file).situation ≡ r)
      × (question_text file ≡ question_key r (chosen (reading file).situation))

  -- The text for the question's answer is the text of the question.
  pub asked_text : (a b : Result (Option Choice) Refusal) → a ≡ settings_answer file 256 → a ≡ b → AskedText b
  unfolding question_text settings_answer
  asked_text a b e f = subst AskedText (sym e ∙ f) (go (eqb (settings_refusal file 256).number 0) refl)
    where
      go : (b : Bool) → eqb (settings_refusal file 256).number 0 ≡ b
          → AskedText (cond b (Ok (reply (reading file).situation)) (Err (settings_refusal file 256)))
      go true e = (e, refl, rw e)
      go false e = rw e

  -- The chosen setting stands at the start of the buffer, a byte for each element.
  chosen_first : (c : Choice) (setting setting' : List ℕ) → length setting ≡ 256 → setting' ≡ after_settings file setting
      → eqb (settings_refusal file 256).number 0 ≡ true → reply (reading file).situation ≡ Some c
      → take (reading file).situation.header.elements setting' ≡ chosen (reading file).situation
  unfolding after_settings
  chosen_first c setting setting' l e n r =
      let s = (reading file).situation in
      let σ = chosen s in
      let number : eqb (settings_refusal file (length setting)).number 0 ≡ true = ap (λ (k : ℕ). eqb (settings_refusal file k).number 0) l ∙ n in
      let size : length σ ≡ s.header.elements =
      setting_length (file_states s) σ (chosen-best s c r).chosen_setting ∙ accepted_lengths file (settings_accepted file n) in
      let after : setting' ≡ σ ++ drop (length σ) setting = e ∙ rw number in
      ap (take s.header.elements) after ∙ take_at σ (drop (length σ) setting) s.header.elements size

  module _ {s : Situation} (read : reading_answer file ≡ Ok s) (r : Option Choice) (a : AskedText (Ok r)) where
    same : (reading file).situation ≡ s
    same = (accepted_as file read).1

    -- The buffer has room for the elements.
    pub elements_within : s.header.elements ≤ 256
    elements_within = subst (λ (x : Situation). x.header.elements ≤ 256) same (accepted_counts file (settings_accepted file a.0)).limits.elements

    -- The text of a reply with no safe setting, and of one with a chosen setting.
    pub text_none : r ≡ None → question_text file ≡ row_text 81 3 0 0 0 0
    text_none e = a.2 ∙ ap (λ (x : Option Choice). question_key x (chosen (reading file).situation)) e

    pub text_chosen : (c : Choice) (setting setting' : List ℕ) → r ≡ Some c → length setting ≡ 256 → setting' ≡ after_settings file setting
        → question_text file ≡ row_text 81 3 1 c.safe c.proceed 0 ++ element_lines 1 (take s.header.elements setting')
    text_chosen c setting setting' e l f =
        a.2
        ∙ ap (λ (x : Option Choice). question_key x (chosen (reading file).situation)) e
        ∙ ap (λ (σ : List ℕ). row_text 81 3 1 c.safe c.proceed 0 ++ element_lines 1 σ)
        (sym (ap (λ (x : Situation). take x.header.elements setting') (sym same) ∙ chosen_first c setting setting' l f a.0 (a.1 ∙ e)))
