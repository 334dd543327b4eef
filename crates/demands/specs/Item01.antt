-- Item 1 of document 02, marking drawn paths: `file` is handed over with the train numbers i and j and the lists `first` and `second`, and
-- judge_drawing answers r.
use Rattle.std.specs.Prelude.{◌≡◌, ◌⊎◌, ◌↔◌, List, ℕ, ◌<◌}
use Rattle.meaning.specs.declared.Situation.{Situation}
use Rattle.meaning.specs.Station.{file_states}
use Rattle.meaning.specs.Accepted.{Accepted}
use Rattle.c_layout.specs.declared.FlatRefusal.{FlatRefusal}
use Rattle.c_layout.specs.declared.FlatYesNo.{FlatYesNo}
use Rattle.demands.specs.Words.{situation, AtMostOpen, Says}
use Rattle.demands.specs.Reach.{Leads}
use Rattle.demands.specs.Demand1.{Answer, Is, CallCause}

-- "A train number of 0 or above the number of trains."
abbrev pub NoTrain : Situation → ℕ → Type 0
NoTrain s t = (t ≡ 0) ⊎ (s.header.trains < t)

-- "It refuses an open element with 10 as the verdict does, and after that with 12 a train number of 0 or above the number of trains." No buffer is lent.
abbrev pub DrawingCause : List ℕ → ℕ → ℕ → FlatRefusal → Type 0
DrawingCause file i j q = CallCause file 10 0 (λ q. (NoTrain (situation file) i ⊎ NoTrain (situation file) j) × Is q 12 0) q

-- "The trains differ, each list is a path that starts in its train's section, and both end in one section; a section may come twice, and an empty list is
-- no path."
abbrev pub RightDrawing : Situation → ℕ → ℕ → List ℕ → List ℕ → Type 0
RightDrawing s i j first second =
    (i ≡ j → ⊥) × (k : ℕ) × Leads s (file_states s) i k first × Leads s (file_states s) j k second

pub record Marked (s : Situation) (i j : ℕ) (first second : List ℕ) (r : FlatYesNo) : Type 0 where
  pub none_open : AtMostOpen 0 s
  pub trains : (NoTrain s i → ⊥) × (NoTrain s j → ⊥)
  pub said : Says r.yes (RightDrawing s i j first second)

-- A yes or no, or a refusal, after which yes is 0. What Item 1 says of the verdict's paths follows (`OwnPathsYes`, `SomeYes`, Laws).
abbrev pub Item1 : List ℕ → ℕ → ℕ → List ℕ → List ℕ → FlatYesNo → Type 0
Item1 file i j first second r =
    Answer r.refusal (Accepted file × Marked (situation file) i j first second r) (DrawingCause file i j r.refusal) (r.yes ≡ 0)
