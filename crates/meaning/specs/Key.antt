-- The key that the key program prints (01, "Writer, shorter path, key program"): 22-byte lines of the station file's columns.
use Rattle.std.specs.Prelude.{Result, Ok, Err, Option, Some, None, ◌≡◌, true, false, List, [], ◌∷◌, ◌++◌, ℕ, ◌+◌, ◌<◌, ◌≤◌, eqb, length, drop}
use Rattle.meaning.specs.declared.Situation.{Situation}
use Rattle.meaning.specs.declared.Refusal.{Refusal}
use Rattle.meaning.specs.declared.Counts.{Counts}
use Rattle.meaning.specs.declared.Meeting.{Meeting}
use Rattle.meaning.specs.declared.Verdict.{Verdict}
use Rattle.meaning.specs.declared.Verdict.TheVariants.{Safe, Dangerous}
use Rattle.meaning.specs.declared.Choice.{Choice}
use Rattle.meaning.specs.declared.Output.{Output}
use Rattle.meaning.specs.Station.{file_states}
use Rattle.meaning.specs.Verdict.{verdict, shows}
use Rattle.meaning.specs.Settings.{chosen, reply}
use Rattle.meaning.specs.Columns.{row_text, rows_of}
use Rattle.meaning.specs.Digits.{output_of}
use Rattle.meaning.specs.File.{refusal, reading, is_none}
use Rattle.meaning.specs.Operations.{open_element, call_refusal, first_of}

-- ---- lines
-- "One A line (train, section) for each section of the first path in order, then B lines for the second." 65 is A, 66 is B.
unfoldable pub path_lines : ℕ → ℕ → List ℕ → List ℕ
path_lines letter t p = rows_of (λ a. row_text letter 2 t a 0 0) p

-- "One E line (element, state) for each element", from number e on. 69 is E.
unfoldable pub element_lines : ℕ → List ℕ → List ℕ
element_lines e [] = []
element_lines e (x ∷ σ) = row_text 69 2 e x 0 0 ++ element_lines (e + 1) σ

-- ---- the three kinds of key
-- "A refusal prints R, number, line." 82 is R.
abbrev pub refusal_key : Refusal → List ℕ
refusal_key q = row_text 82 2 q.number q.line 0 0

-- "V, 1 for dangerous or 0 for safe, entries, looks, meeting section (blank when safe)". 86 is V.
abbrev pub safe_key : Counts → List ℕ
safe_key c = row_text 86 3 0 c.entries c.looks 0

-- "If dangerous, one A line (train, section) for each section of the first path in order, then B lines for the second."
abbrev pub danger_key : Meeting → Counts → List ℕ → List ℕ → List ℕ
danger_key m c p q =
    row_text 86 4 1 c.entries c.looks m.section.0 ++ (path_lines 65 m.first.0 p ++ path_lines 66 m.second.0 q)

abbrev pub IsVerdictKey : Situation → List ℕ → Verdict → List ℕ → Type 0
IsVerdictKey s σ (Safe c) text = text ≡ safe_key c
IsVerdictKey s σ (Dangerous m c) text =
    (p : List ℕ) × (q : List ℕ) × (shows s σ m.first.0 m.section.0 p ≡ true) × (shows s σ m.second.0 m.section.0 q ≡ true)
    × (text ≡ danger_key m c p q)

-- "Q, 1 or 0 for whether one is safe, number of safe settings, proceed count; if 1, one E line (element, state) for each element." 81 is Q.
abbrev pub question_key : Option Choice → List ℕ → List ℕ
question_key None σ = row_text 81 3 0 0 0 0
question_key (Some c) σ = row_text 81 3 1 c.safe c.proceed 0 ++ element_lines 1 σ

-- ---- the key of a file
-- The file's own refusal, or 11: the key asks the settings question only where an element is open, and the verdict only where none is.
unfoldable pub key_refusal : List ℕ → Refusal
key_refusal file = first_of (reading file).refusal (call_refusal (reading file).situation 11 13 false)

-- The text is a key of the file. Only which paths it shows is free.
pub record KeyText (file text : List ℕ) : Type 0 where
  pub refused : is_none (key_refusal file) ≡ false → text ≡ refusal_key (key_refusal file)
  pub asked : is_none (key_refusal file) ≡ true → eqb (open_element 1 (file_states (reading file).situation)) 0 ≡ false
      → text ≡ question_key (reply (reading file).situation) (chosen (reading file).situation)
  pub judged : is_none (key_refusal file) ≡ true → eqb (open_element 1 (file_states (reading file).situation)) 0 ≡ true
      → IsVerdictKey (reading file).situation (file_states (reading file).situation)
      (verdict (reading file).situation (file_states (reading file).situation)) text

-- What `answer_key(file, buffer)` answers and leaves: a buffer below 22,550 bytes, the longest key there is, is refused with 9;
-- otherwise its start is the key, and the rest is as it was.
pub record KeyIs (file buffer buffer' : List ℕ) (r : Result Output Refusal) : Type 0 where
  pub too_short : length buffer < 22550 → (r ≡ Err (refusal 9 0)) × (buffer' ≡ buffer)
  pub written : 22550 ≤ length buffer
      → (text : List ℕ) × KeyText file text × (r ≡ Ok (output_of text)) × (buffer' ≡ text ++ drop (length text) buffer)
