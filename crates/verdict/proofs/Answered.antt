-- From the pieces to the answer: what a dangerous verdict names, and the answers for either verdict.
use mathlib.Core.Path.{◌≡◌, refl, sym, subst}
use mathlib.Core.Bool.{true, false≢true}
use mathlib.Core.List.{List, []}
use Prim.Native.Nat.{ℕ, zero, suc, ◌≤◌}
use native.Mathlib.Omega.{arith}
use Rattle.std.specs.Prelude.{Ok}
use Rattle.meaning.specs.declared.Situation.{Situation}
use Rattle.meaning.specs.declared.Counts.{Counts}
use Rattle.meaning.specs.declared.Meeting.{Meeting}
use Rattle.meaning.specs.declared.PathLengths.{PathLengths}
use Rattle.meaning.specs.declared.Verdict.{Verdict}
use Rattle.meaning.specs.declared.Verdict.TheVariants.{Safe, Dangerous}
use Rattle.meaning.specs.declared.ShownVerdict.TheVariants as answer
use Rattle.meaning.specs.Station.{standing, moves}
use Rattle.meaning.specs.Verdict.{in_reach, verdict}
use Rattle.meaning.specs.Operations.{Shows, Answers}
use Rattle.meaning.proofs.Reach.{least}
use Rattle.meaning.proofs.Danger.{leads-reach, verdict_names}
use Rattle.element_states.specs.Sound.{Sound}

-- No train has the number 0.
reach_numbered : (s : Situation) (σ : List ℕ) (t k : ℕ) → in_reach s σ t k ≡ true → 1 ≤ t
unfolding in_reach standing
reach_numbered s σ zero k h = absurd (least (moves s σ) [] (λ a. ⊥) (λ a e. false≢true e) (λ a b e x. x) k h)
reach_numbered s σ (suc t) k h = omega arith

-- A train of the situation, with the meeting section in its reach.
pub record Named (s : Situation) (σ : List ℕ) (t k : ℕ) : Type 0 where
  pub low : 1 ≤ t
  pub high : t ≤ s.header.trains
  pub reached : in_reach s σ t k ≡ true

module _ (s : Situation) (sound : Sound s) (σ : List ℕ) (m : Meeting) (c : Counts) (e : verdict s σ ≡ Dangerous m c) where
  -- The trains that a dangerous verdict names.
  pub first_named : Named s σ m.first.0 m.section.0
  first_named =
      let n = verdict_names s sound.inside σ m c e in
      let r = leads-reach s σ m.first.0 m.section.0 n.first_ends.0 n.first_ends.1 in
      record { low = reach_numbered s σ m.first.0 m.section.0 r; high = omega (arith, n.numbered, n.earlier); reached = r }

  pub second_named : Named s σ m.second.0 m.section.0
  second_named =
      let n = verdict_names s sound.inside σ m c e in
      let r = leads-reach s σ m.second.0 m.section.0 n.second_ends.0 n.second_ends.1 in
      record { low = reach_numbered s σ m.second.0 m.section.0 r; high = n.numbered; reached = r }

module _ (s : Situation) (σ first second : List ℕ) where
  -- "A safe verdict leaves all of both unchanged."
  pub answers_safe : (c : Counts) → verdict s σ ≡ Safe c → Answers s σ (verdict s σ) first second first second (Ok (answer.Safe c))
  answers_safe c e = subst (λ (v : Verdict). Answers s σ v first second first second (Ok (answer.Safe c))) (sym e) (refl, refl, refl)

  -- A dangerous verdict shows both paths.
  pub answers_danger : (m : Meeting) (c : Counts) (n : PathLengths) (first' second' : List ℕ) → verdict s σ ≡ Dangerous m c
      → Shows s σ m.first.0 m.section.0 n.first first first' → Shows s σ m.second.0 m.section.0 n.second second second'
      → Answers s σ (verdict s σ) first second first' second' (Ok (answer.Dangerous m c n))
  answers_danger m c n first' second' e p q =
      subst (λ (v : Verdict). Answers s σ v first second first' second' (Ok (answer.Dangerous m c n))) (sym e) (n, refl, p, q)
