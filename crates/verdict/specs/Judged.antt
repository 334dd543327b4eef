-- The verdict of a situation, of whatever file it is, with lent lists.
use Rattle.std.specs.Prelude.{Result, Ok, Err, ⊤, ◌≡◌, ◌||◌, List, ℕ, ltb, length}
use Rattle.meaning.specs.declared.Situation.{Situation}
use Rattle.meaning.specs.declared.Refusal.{Refusal}
use Rattle.meaning.specs.declared.ShownVerdict.{ShownVerdict}
use Rattle.meaning.specs.Station.{file_states}
use Rattle.meaning.specs.Verdict.{verdict}
use Rattle.meaning.specs.File.{unless_refused}
use Rattle.meaning.specs.Operations.{call_refusal, Answers}

-- What refuses a call with lists of these lengths: 10 at the first open element, then 9.
abbrev pub called : Situation → ℕ → ℕ → Result ⊤ Refusal
called s room₁ room₂ = unless_refused (call_refusal s 10 1 (ltb room₁ s.header.sections || ltb room₂ s.header.sections)) tt

-- What the call answers, and what the lists hold after it.
pub record VerdictOf (s : Situation) (first second first' second' : List ℕ) (r : Result ShownVerdict Refusal) : Type 0 where
  pub refuses : (q : Refusal) → called s (length first) (length second) ≡ Err q → (r ≡ Err q) × (first' ≡ first) × (second' ≡ second)
  pub answers : called s (length first) (length second) ≡ Ok tt
      → Answers s (file_states s) (verdict s (file_states s)) first second first' second' r
