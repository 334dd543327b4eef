-- A verdict that is refused, by the file or by the call, and one that is not.
use mathlib.Core.Path.{◌≡◌, refl, sym, ap, subst, ◌∙◌}
use mathlib.Core.Bool.{Bool, true, false, false≢true, ◌||◌}
use mathlib.Core.List.{List}
use mathlib.Mathlib.Data.Bool.Basic.{or-eq-false-eq-eq-false-and-eq-false as neither}
use Prim.Native.Nat.{ℕ, ◌≤◌}
use native.Mathlib.Omega.{arith}
use lib.Dec.{ltb}
use lib.ListN.{length}
use borrow.Author.Tests.{eqb-true, ltb-false}
use Rattle.std.proofs.lemmas.Result.{err_from_is_err_and}
use Rattle.std.specs.Prelude.{Result, Ok, Err, cond, ⊤}
use Rattle.meaning.specs.declared.Refusal.{Refusal}
use Rattle.meaning.specs.declared.Situation.{Situation}
use Rattle.meaning.specs.declared.ShownVerdict.{ShownVerdict}
use Rattle.meaning.specs.Station.{file_states}
use Rattle.meaning.specs.Verdict.{verdict}
use Rattle.meaning.specs.File.{reading_answer, unless_refused, is_none}
use Rattle.meaning.specs.Operations.{call_refusal, verdict_refusal, Answers, VerdictIs}
use Rattle.meaning.proofs.Refused.{ok_of, accepted_as, refused_as}
use Rattle.element_states.proofs.Calls.{first_file, first_call, not_called}
use Rattle.verdict.specs.Judged.{called, VerdictOf}

-- Nothing is both granted and refused.
abbrev is_ok : Result ⊤ Refusal → Bool
is_ok (Ok z) = true
is_ok (Err q) = false

abbrev error : Refusal → Result ⊤ Refusal → Refusal
error q (Ok z) = q
error q (Err p) = p

module _ (s : Situation) where
  -- Both lists are long enough for a call that is granted.
  pub enough : (room₁ room₂ : ℕ) → called s room₁ room₂ ≡ Ok tt → (s.header.sections ≤ room₁) × (s.header.sections ≤ room₂)
  enough room₁ room₂ e =
      let n = (not_called s 10 1 _ (λ z. omega arith) (ok_of _ tt e).0).1 in
      let w = (neither (ltb room₁ s.header.sections) (ltb room₂ s.header.sections)).0 n in
      (ltb-false _ _ w.0, ltb-false _ _ w.1)

  module _ {first second : List ℕ} where
    -- The call is refused.
    pub refused_call : {r : Refusal} → called s (length first) (length second) ≡ Err r → VerdictOf s first second first second (Err r)
    refused_call {r} e = record {
      refuses = λ q h. (ap (λ x. Err (error q x)) (sym e ∙ h), refl, refl);
      answers = λ h. absurd (false≢true (ap is_ok (sym e ∙ h)));
    }

    -- The call is granted, and the answer is a verdict.
    pub answers : called s (length first) (length second) ≡ Ok tt → {first' second' : List ℕ} {answer : Result ShownVerdict Refusal}
        → Answers s (file_states s) (verdict s (file_states s)) first second first' second' answer → VerdictOf s first second first' second' answer
    answers e a = record { refuses = λ q h. absurd (false≢true (ap is_ok (sym h ∙ e))); answers = λ h. a }

module _ (file first second : List ℕ) where
  abbrev q : Refusal
  q = verdict_refusal file (length first) (length second)

  -- The file is refused.
  pub refused_file : {r : Refusal} → reading_answer file ≡ Err r → VerdictIs file first second first second (Err r)
  unfolding verdict_refusal
  refused_file {r} h =
      let f = refused_as file h in
      let e : r ≡ q = sym (sym (first_file _ _ f.0) ∙ f.1) in
      record {
        refuses = λ n. (ap Err e, refl, refl);
        answers = λ n. absurd (f.0 (ap (λ (x : Refusal). x.number) (f.1 ∙ e) ∙ eqb-true _ 0 n));
      }

  -- The file is accepted: the verdict of its situation is the file's.
  pub of_file : {s : Situation} → reading_answer file ≡ Ok s → {first' second' : List ℕ} {answer : Result ShownVerdict Refusal}
      → VerdictOf s first second first' second' answer → VerdictIs file first second first' second' answer
  unfolding verdict_refusal
  of_file {s} h {first'} {second'} {answer} v = record {
    refuses = λ n. let t = v.refuses q (call_is false n) in t;
    answers = λ n.
        subst (λ (t : Situation). Answers t (file_states t) (verdict t (file_states t)) first second first' second' answer)
        (sym (accepted_as file h).1) (v.answers (call_is true n));
  }
    where
      call : Refusal
      call = call_refusal s 10 1 (ltb (length first) s.header.sections || ltb (length second) s.header.sections)

      is_call : call ≡ q
      is_call = let a = accepted_as file h in rw (← a.1) (first_call _ _ a.0)

      call_is : (b : Bool) → is_none q ≡ b → called s (length first) (length second) ≡ cond b (Ok tt) (Err q)
      call_is b e = ap (λ (x : Refusal). unless_refused {T = ⊤} x tt) is_call ∙ ap (λ (x : Bool). cond x (Ok tt) (Err q)) e

-- The ways out of a verdict.
pub ruleset ways_out = (err_from_is_err_and, refused_file, of_file, refused_call, enough, answers)
