-- A drawing that is refused, by the file, by the call or by a train number, and one that is marked.
use mathlib.Core.Path.{◌≡◌, refl, sym, ap, ◌∙◌}
use mathlib.Core.Bool.{Bool, true, false, ◌||◌, cond}
use mathlib.Core.List.{List}
use mathlib.Mathlib.Data.Bool.Basic.{or-eq-false-eq-eq-false-and-eq-false as neither}
use Prim.Native.Nat.{ℕ, ◌≤◌}
use native.Mathlib.Omega.{arith}
use lib.Dec.{eqb, ltb}
use borrow.Author.Tests.{eqb-false, ltb-false}
use Rattle.meaning.specs.declared.Situation.{Situation}
use Rattle.meaning.specs.declared.Refusal.{Refusal}
use Rattle.std.specs.Prelude.{Ok, Err, ⊤}
use Rattle.std.proofs.lemmas.Result.{err_from_is_err_and}
use Rattle.meaning.specs.Station.{file_states}
use Rattle.meaning.specs.File.{refusal, reading, reading_answer, unless_refused}
use Rattle.meaning.proofs.Refused.{refused_with, ok_of, err_of, accepted_as, refused_as}
use Rattle.meaning.specs.Operations.{call_refusal, first_of}
use Rattle.meaning.specs.Drawing.{drawn, is_no_train, drawing_refusal, drawing_answer}
use Rattle.element_states.proofs.Calls.{first_file, first_call}

module _ (file : List ℕ) (i j : ℕ) (first second : List ℕ) where
  -- The answer is the first refusal's, where there is one.
  refused_by : (q : Refusal) → q ≡ drawing_refusal file i j → (q.number ≡ 0 → ⊥) → Err q ≡ drawing_answer file i j first second
  unfolding drawing_answer
  refused_by q e n =
      let right : Bool = drawn (reading file).situation (file_states (reading file).situation) i j first second in
      refused_with q right n ∙ ap (λ (p : Refusal). unless_refused p right) e

  -- The file's own refusal comes first.
  pub refuses_file : {q : Refusal} → reading_answer file ≡ Err q → Err q ≡ drawing_answer file i j first second
  unfolding drawing_refusal
  refuses_file {q = q} h =
      let f = refused_as file h in
      refused_by q (sym f.1 ∙ first_file _ _ f.0) (λ z. f.0 (ap (λ (p : Refusal). p.number) f.1 ∙ z))

  module _ {s : Situation} (h : reading_answer file ≡ Ok s) where
    abbrev call : Refusal
    call = call_refusal s 10 1 false

    -- The refusal for a number that is no train's.
    abbrev train : Refusal
    train = cond (is_no_train s i || is_no_train s j) (refusal 12 0) (refusal 0 0)

    by_call : first_of call train ≡ drawing_refusal file i j
    unfolding drawing_refusal
    by_call = let a = accepted_as file h in rw (← a.1) (first_call _ _ a.0)

    -- The refusal of the call comes next.
    pub refuses_call : {q : Refusal} → unless_refused {T = ⊤} call tt ≡ Err q → Err q ≡ drawing_answer file i j first second
    refuses_call {q = q} e =
        let c = err_of call tt e in
        refused_by q (sym c.1 ∙ first_file call train c.0 ∙ by_call) (λ z. c.0 (ap (λ (p : Refusal). p.number) c.1 ∙ z))

    module _ (granted : unless_refused {T = ⊤} call tt ≡ Ok tt) where
      by_train : train ≡ drawing_refusal file i j
      by_train = first_call call train (ok_of call tt granted).0 ∙ by_call

      -- Refusal 12 comes last, where a number is no train's.
      pub refuses_train : (is_no_train s i || is_no_train s j) ≡ true → Err (refusal 12 0) ≡ drawing_answer file i j first second
      refuses_train t = refused_by (refusal 12 0) (sym (ap (λ (b : Bool). cond b (refusal 12 0) (refusal 0 0)) t) ∙ by_train) (λ z. omega arith)

      -- With none of these refusals the answer is the mark.
      pub marks : (is_no_train s i || is_no_train s j) ≡ false → Ok (drawn s (file_states s) i j first second) ≡ drawing_answer file i j first second
      unfolding drawing_answer
      marks t =
          let none : refusal 0 0 ≡ drawing_refusal file i j = sym (ap (λ (b : Bool). cond b (refusal 12 0) (refusal 0 0)) t) ∙ by_train in
          rw (← none, (accepted_as file h).1) refl

-- Both numbers are those of trains.
pub numbered : (s : Situation) (i j : ℕ) → (is_no_train s i || is_no_train s j) ≡ false
    → (1 ≤ i) × (i ≤ s.header.trains) × (1 ≤ j) × (j ≤ s.header.trains)
numbered s i j h =
    let w = (neither (is_no_train s i) (is_no_train s j)).0 h in
    let a = (neither (eqb i 0) (ltb s.header.trains i)).0 w.0 in
    let b = (neither (eqb j 0) (ltb s.header.trains j)).0 w.1 in
    let ni = eqb-false i 0 a.0 in
    let nj = eqb-false j 0 b.0 in
    (omega arith, ltb-false s.header.trains i a.1, omega arith, ltb-false s.header.trains j b.1)

-- The ways out of a drawing.
pub ruleset ways_out = (err_from_is_err_and, refuses_file, refuses_call, refuses_train, marks)
