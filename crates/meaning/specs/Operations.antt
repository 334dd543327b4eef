-- What the verdict and the settings question answer for any bytes and any lent memory (01, "Moves, reach and verdict", "Settings of open
-- elements", "Who can cause a refusal"). Lent memory is a list: as it was, and as it is after the call.
use Rattle.std.specs.Prelude.{Result, Ok, Err, Option, ◌≡◌, Bool, true, false, ◌||◌, cond, List, ◌++◌, ℕ, ◌+◌, eqb, ltb, length, take, drop}
use Rattle.meaning.specs.declared.Situation.{Situation}
use Rattle.meaning.specs.declared.Refusal.{Refusal}
use Rattle.meaning.specs.declared.PathLengths.{PathLengths}
use Rattle.meaning.specs.declared.Verdict.{Verdict}
use Rattle.meaning.specs.declared.Verdict.TheVariants as found
use Rattle.meaning.specs.declared.ShownVerdict.{ShownVerdict}
use Rattle.meaning.specs.declared.ShownVerdict.TheVariants as shown
use Rattle.meaning.specs.declared.Choice.{Choice}
use Rattle.meaning.specs.Station.{file_states}
use Rattle.basics.specs.Numbers.{lowest}
use Rattle.meaning.specs.Verdict.{verdict, shows}
use Rattle.meaning.specs.Settings.{open_count, chosen, reply}
use Rattle.meaning.specs.Frames.{frame_at}
use Rattle.meaning.specs.File.{refusal, reading, is_none, unless_refused}

-- The number of the m-th open element: the lowest e such that m of the elements 1 to e are open; 0 where fewer are.
unfoldable pub open_element : ℕ → List ℕ → ℕ
open_element m fs = lowest (length fs) (λ e. eqb (open_count (take e fs)) m)

-- The line of element e: after the first line and the P lines.
abbrev pub element_line : Situation → ℕ → ℕ
element_line s e = 1 + s.header.plain + e

-- "Then 10 or 11; then 9": refusal q at the m-th open element, if there is one; then 9, if the lent memory is too short.
unfoldable pub call_refusal : Situation → ℕ → ℕ → Bool → Refusal
call_refusal s q m short =
    cond (eqb (open_element m (file_states s)) 0) (cond short (refusal 9 0) (refusal 0 0)) (refusal q (element_line s (open_element m (file_states s))))

-- The refusal of a file, or else the refusal of the call.
abbrev pub first_of : Refusal → Refusal → Refusal
first_of file call = cond (is_none file) call file

-- ---- the verdict
-- "Each path list needs one 16-bit number for each section."
unfoldable pub verdict_refusal : List ℕ → ℕ → ℕ → Refusal
verdict_refusal file room₁ room₂ =
    let s : Situation = (reading file).situation in
    first_of (reading file).refusal (call_refusal s 10 1 (ltb room₁ s.header.sections || ltb room₂ s.header.sections))

-- A lent list begins with a path of train t to section k, which has n sections and no section twice, and keeps what it held after the path.
pub record Shows (s : Situation) (σ : List ℕ) (t k n : ℕ) (list list' : List ℕ) : Type 0 where
  pub path : shows s σ t k (take n list') ≡ true
  pub counted : length (take n list') ≡ n
  pub kept : drop n list' ≡ drop n list
  pub same_length : length list' ≡ length list

-- The answer is this verdict, and the lent lists show its paths. Which paths are shown is free, and so are their lengths; nothing else is.
abbrev pub Answers : Situation → List ℕ → Verdict → List ℕ → List ℕ → List ℕ → List ℕ → Result ShownVerdict Refusal → Type 0
Answers s σ (found.Safe c) first second first' second' r = (r ≡ Ok (shown.Safe c)) × (first' ≡ first) × (second' ≡ second)
Answers s σ (found.Dangerous m c) first second first' second' r =
    (n : PathLengths) × (r ≡ Ok (shown.Dangerous m c n)) × Shows s σ m.first.0 m.section.0 n.first first first'
    × Shows s σ m.second.0 m.section.0 n.second second second'

-- What `verdict(file, first, second)` answers and leaves.
pub record VerdictIs (file first second first' second' : List ℕ) (r : Result ShownVerdict Refusal) : Type 0 where
  pub refuses : (is_none (verdict_refusal file (length first) (length second)) ≡ false)
      → (r ≡ Err (verdict_refusal file (length first) (length second))) × (first' ≡ first) × (second' ≡ second)
  pub answers : (is_none (verdict_refusal file (length first) (length second)) ≡ true)
      → Answers (reading file).situation (file_states (reading file).situation) (verdict (reading file).situation (file_states (reading file).situation))
      first second first' second' r

-- ---- the settings question
-- "The settings buffer a byte for each element."
unfoldable pub settings_refusal : List ℕ → ℕ → Refusal
settings_refusal file room =
    let s : Situation = (reading file).situation in first_of (reading file).refusal (call_refusal s 11 13 (ltb room s.header.elements))

unfoldable pub settings_answer : List ℕ → ℕ → Result (Option Choice) Refusal
settings_answer file room = unless_refused (settings_refusal file room) (reply (reading file).situation)

-- "The buffer's first bytes .. hold the chosen setting, and later bytes keep their content."
unfoldable pub after_settings : List ℕ → List ℕ → List ℕ
after_settings file buffer =
    let σ : List ℕ = chosen (reading file).situation in
    cond (is_none (settings_refusal file (length buffer))) (σ ++ drop (length σ) buffer) buffer

-- ---- the frame (02, Item 11)
-- "Gives frame n .. as a setting in a lent buffer". "Refusals 11 and 9 apply as there": the refusal is `settings_refusal`, and later bytes keep
-- their content.
unfoldable pub after_frame : List ℕ → ℕ → List ℕ → List ℕ
after_frame file n buffer =
    let σ : List ℕ = frame_at (file_states (reading file).situation) n in
    cond (is_none (settings_refusal file (length buffer))) (σ ++ drop (length σ) buffer) buffer
