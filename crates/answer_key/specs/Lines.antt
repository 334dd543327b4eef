-- The text that a helper stores at the start of the buffer, and the text of a question that may be refused.
use Rattle.std.specs.Prelude.{Some, ◌≡◌, cond, List, ℕ, ◌≤◌, eqb, length}
use Rattle.meaning.specs.declared.Choice.{Choice}
use Rattle.meaning.specs.declared.Counts.{Counts}
use Rattle.meaning.specs.declared.Output.{Output}
use Rattle.std.proofs.lemmas.List.Edits.{sets}
use Rattle.meaning.specs.Settings.{chosen, reply}
use Rattle.meaning.specs.Digits.{output_of}
use Rattle.meaning.specs.File.{reading}
use Rattle.meaning.specs.Operations.{settings_refusal}
use Rattle.meaning.specs.Key.{refusal_key, question_key, KeyText}

-- The text is written to the start of a buffer, r is what is returned of it, and it is no longer than the longest key.
pub record Put (text buffer buffer' : List ℕ) (r : Output) : Type 0 where
  pub stored : buffer' ≡ sets buffer 0 text
  pub counted : r ≡ output_of text
  pub fits : length text ≤ 22550

-- A key of the file is written to the start of a buffer, and r is what is returned of it.
pub record Keyed (file buffer buffer' : List ℕ) (r : Output) : Type 0 where
  pub text : List ℕ
  pub is_key : KeyText file text
  pub put : Put text buffer buffer' r

-- No count of a verdict has more than five digits.
abbrev pub CountsFit : Counts → Type 0
CountsFit c = (c.entries ≤ 99999) × (c.looks ≤ 99999)

-- The key of a reply with a chosen setting: the reply, and a line for each element.
abbrev pub chosen_key : Choice → List ℕ → List ℕ
chosen_key c σ = question_key (Some c) σ

-- The answer to the settings question, refusals too.
unfoldable pub question_text : List ℕ → List ℕ
question_text file =
    cond (eqb (settings_refusal file 256).number 0)
    (question_key (reply (reading file).situation) (chosen (reading file).situation))
    (refusal_key (settings_refusal file 256))
