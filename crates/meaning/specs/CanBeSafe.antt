-- Can it be saved at all? (02, Item 6): "The opening question of each paper only wants a yes or no, and may leave every signal open."
use Rattle.std.specs.Prelude.{Result, Bool, false, ◌||◌, cond, List, [], ◌∷◌, ℕ, zero, suc, ◌+◌, eqb, length, take}
use Rattle.meaning.specs.declared.Kind.{Kind}
use Rattle.meaning.specs.declared.Kind.TheVariants.{Signal, Turnout}
use Rattle.meaning.specs.declared.Element.{Element}
use Rattle.meaning.specs.declared.Situation.{Situation}
use Rattle.meaning.specs.declared.Refusal.{Refusal}
use Rattle.meaning.specs.Station.{elements_of, file_states}
use Rattle.basics.specs.Numbers.{lowest}
use Rattle.meaning.specs.Verdict.{safe}
use Rattle.meaning.specs.Settings.{settings}
use Rattle.meaning.specs.File.{refusal, reading, unless_refused}
use Rattle.meaning.specs.Operations.{element_line, first_of}

-- ---- the answer
-- Some entry of the list passes the test.
unfoldable pub some : (List ℕ → Bool) → List (List ℕ) → Bool
some f [] = false
some f (σ ∷ l) = f σ || some f l

-- "It says yes exactly when some setting of all the open elements is safe, with no bound on the open signals."
unfoldable pub can_be_safe : Situation → Bool
unfolding some safe settings file_states
can_be_safe s = some (safe s) (settings (file_states s))

-- ---- refusal 11
-- How many open turnouts one element is: 1 for an open turnout, 0 for any other element.
abbrev pub open_turnout : Kind → ℕ → ℕ
open_turnout (Signal m) f = 0
open_turnout (Turnout t) zero = 1
open_turnout (Turnout t) (suc f) = 0

-- How many of the elements are open turnouts.
unfoldable pub open_turnouts : List Element → ℕ
open_turnouts [] = 0
open_turnouts (e ∷ es) = open_turnout e.kind e.state + open_turnouts es

-- The number of the element that is the m-th open turnout; 0 where there are fewer.
unfoldable pub turnout_element : ℕ → List Element → ℕ
turnout_element m es = lowest (length es) (λ e. eqb (open_turnouts (take e es)) m)

-- "Refusal 11 here means thirteen or more open turnouts, with the line of the thirteenth", after the file's own. No memory is lent.
unfoldable pub can_be_safe_refusal : List ℕ → Refusal
can_be_safe_refusal file =
    let s : Situation = (reading file).situation in
    let e : ℕ = turnout_element 13 (elements_of s) in
    first_of (reading file).refusal (cond (eqb e 0) (refusal 0 0) (refusal 11 (element_line s e)))

-- What `can_be_safe(file)` answers.
unfoldable pub can_be_safe_answer : List ℕ → Result Bool Refusal
can_be_safe_answer file = unless_refused (can_be_safe_refusal file) (can_be_safe (reading file).situation)
