-- The settings of open elements (01, "Settings of open elements"). fs are the file's states, σ and τ settings: a state for each element.
use Rattle.std.specs.Prelude.{Option, Some, None, Bool, true, false, ◌&&◌, ◌||◌, cond, List, [], ◌∷◌, ◌++◌, map, ℕ, zero, suc, ◌+◌, eqb, ltb, length}
use Rattle.meaning.specs.declared.Kind.{Kind}
use Rattle.meaning.specs.declared.Kind.TheVariants.{Signal, Turnout}
use Rattle.meaning.specs.declared.Element.{Element}
use Rattle.meaning.specs.declared.Situation.{Situation}
use Rattle.meaning.specs.declared.Choice.{Choice}
use Rattle.meaning.specs.Station.{elements_of, file_states}
use Rattle.meaning.specs.Verdict.{safe}

-- ---- settings and their order
-- How many elements are open: "State 0 is open".
unfoldable pub open_count : List ℕ → ℕ
open_count [] = 0
open_count (zero ∷ fs) = suc (open_count fs)
open_count (suc f ∷ fs) = open_count fs

-- "A setting gives each element 1 or 2 and keeps the fixed ones."
abbrev pub keeps : ℕ → ℕ → Bool
keeps zero x = eqb x 1 || eqb x 2
keeps (suc f) x = eqb x (suc f)

unfoldable pub is_setting : List ℕ → List ℕ → Bool
is_setting [] [] = true
is_setting [] (x ∷ σ) = false
is_setting (f ∷ fs) [] = false
is_setting (f ∷ fs) (x ∷ σ) = keeps f x && is_setting fs σ

-- "Of two settings, the one with 1 at the lowest element number where they differ comes before the other."
unfoldable pub before : List ℕ → List ℕ → Bool
before [] τ = false
before (x ∷ σ) [] = false
before (x ∷ σ) (y ∷ τ) = cond (eqb x y) (before σ τ) (eqb x 1)

-- All settings, in that order.
unfoldable pub settings : List ℕ → List (List ℕ)
settings [] = [] ∷ []
settings (zero ∷ fs) = map (λ (σ : List ℕ). 1 ∷ σ) (settings fs) ++ map (λ (σ : List ℕ). 2 ∷ σ) (settings fs)
settings (suc f ∷ fs) = map (λ (σ : List ℕ). suc f ∷ σ) (settings fs)

-- ---- the proceed count
-- What an element adds to the proceed count, with the state f in the file and x in the setting: "Open and fixed always go by the file's states. .. An
-- open signal adds to the proceed count when at 1; an open turnout never does."
abbrev pub proceeds : Kind → ℕ → ℕ → ℕ
proceeds (Signal m) zero x = cond (eqb x 1) 1 0
proceeds (Signal m) (suc f) x = 0
proceeds (Turnout t) f x = 0

unfoldable pub proceeds_in : List Element → List ℕ → ℕ
proceeds_in [] σ = 0
proceeds_in (e ∷ es) [] = 0
proceeds_in (e ∷ es) (x ∷ σ) = proceeds e.kind e.state x + proceeds_in es σ

unfoldable pub proceed_count : Situation → List ℕ → ℕ
unfolding elements_of proceeds_in
proceed_count s σ = proceeds_in (elements_of s) σ

-- ---- the answer
unfoldable pub keep : (List ℕ → Bool) → List (List ℕ) → List (List ℕ)
keep f [] = []
keep f (σ ∷ l) = cond (f σ) (σ ∷ keep f l) (keep f l)

-- The safe settings. "The setting is safe when that situation is", with the setting's states in place of the file's.
unfoldable pub safe_settings : Situation → List (List ℕ)
unfolding keep safe settings file_states
safe_settings s = keep (safe s) (settings (file_states s))

-- The first with the highest count, of σ and then the settings l.
unfoldable pub best : (List ℕ → ℕ) → List ℕ → List (List ℕ) → List ℕ
best count σ [] = σ
best count σ (τ ∷ l) = best count (cond (ltb (count σ) (count τ)) τ σ) l

-- "The safe setting with the highest count is chosen; among equals, the first in this order." Empty where none is safe.
unfoldable pub choose : (List ℕ → ℕ) → List (List ℕ) → List ℕ
unfolding best
choose count [] = []
choose count (σ ∷ l) = best count σ l

unfoldable pub chosen : Situation → List ℕ
unfolding choose proceed_count safe_settings
chosen s = choose (proceed_count s) (safe_settings s)

abbrev pub reply_of : ℕ → ℕ → Option Choice
reply_of zero p = None
reply_of (suc n) p = Some (record { safe = suc n; proceed = p })

-- "The answer holds the number of safe ones. If it is 0 the answer is 'no safe setting'", which is `None`; otherwise it has the proceed count of the chosen one.
unfoldable pub reply : Situation → Option Choice
unfolding safe_settings proceed_count chosen
reply s = reply_of (length (safe_settings s)) (proceed_count s (chosen s))
