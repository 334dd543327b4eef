-- What a conversion answers and leaves, by the causes in their order: the file's own, 13, 9, or none.
use mathlib.Core.Path.{◌≡◌, refl, ◌∙◌}
use mathlib.Core.Bool.{cond}
use mathlib.Core.List.{List, ◌++◌}
use Prim.Native.Nat.{ℕ, ◌≤◌, ◌<◌}
use native.Mathlib.Omega.{arith}
use lib.Dec.{ltb}
use lib.ListN.{length, set, drop}
use borrow.Author.Tests.{eq-eqb, ne_eqb, lt-ltb, le-ltb}
use Rattle.std.specs.Prelude.{Result, Ok, Err, IfOk, ⊤}
use Rattle.meaning.specs.declared.Letter.{Letter}
use Rattle.meaning.specs.declared.Refusal.{Refusal}
use Rattle.meaning.specs.declared.Situation.{Situation}
use Rattle.meaning.specs.File.{refusal, reading, reading_answer, unless_refused}
use Rattle.meaning.specs.Operations.{first_of}
use Rattle.file_meaning.specs.Converter.{byte_of, with_letter, long_refusal, conversion_refusal, conversion_answer, after_conversion}
use Rattle.meaning.proofs.Accepted.{accepted_exactly}
use Rattle.meaning.proofs.Refused.{ok_of, err_of, accepted_as, refused_as}

module _ (x : Letter) (file buffer : List ℕ) where
  -- What is answered, and what the buffer then holds.
  abbrev pub Gives : Result ℕ Refusal → List ℕ → Type 0
  Gives r buffer' =
      record {
        answer : r ≡ conversion_answer x file (length buffer);
        after : buffer' ≡ after_conversion x file buffer;
        within : IfOk r (λ n. n ≤ length buffer);
      }

  abbrev q : Refusal
  q = conversion_refusal x file (length buffer)

  refused_with : (r : Refusal) → q ≡ r → (r.number ≡ 0 → ⊥) → Gives (Err r) buffer
  unfolding conversion_answer after_conversion
  refused_with r e n = record { answer = rw (e, ne_eqb r.number 0 n) refl; after = rw (e, ne_eqb r.number 0 n) refl; within = tt }

  -- The file's own refusal.
  pub file_refused : {r : Refusal} → reading_answer file ≡ Err r → Gives (Err r) buffer
  unfolding conversion_refusal
  file_refused {r} h =
      let w = refused_as file h in
      let own : q ≡ (reading file).refusal = rw (ne_eqb (reading file).refusal.number 0 w.0) refl in
      refused_with r (own ∙ w.1) (rw w.1 at w.0)

  -- The situation s is read.
  module _ {s : Situation} (h : reading_answer file ≡ Ok s) where
    then_call : q ≡ first_of (long_refusal x s) (cond (ltb (length buffer) (length file)) (refusal 9 0) (refusal 0 0))
    unfolding conversion_refusal
    then_call = let a = accepted_as file h in rw (a.0, a.1) refl

    abbrev long_answer : Result ⊤ Refusal
    long_answer = unless_refused (long_refusal x s) tt

    pub long_refused : {r : Refusal} → long_answer ≡ Err r → Gives (Err r) buffer
    long_refused {r} e =
        let w = err_of (long_refusal x s) tt e in
        let own : q ≡ long_refusal x s = rw (then_call, ne_eqb (long_refusal x s).number 0 w.0) refl in
        refused_with r (own ∙ w.1) (rw w.1 at w.0)

    module _ (none : long_answer ≡ Ok tt) where
      then_room : q ≡ cond (ltb (length buffer) (length file)) (refusal 9 0) (refusal 0 0)
      then_room = rw (then_call, eq-eqb (long_refusal x s).number 0 (ok_of (long_refusal x s) tt none).0) refl

      pub short_refused : length buffer < length file → Gives (Err (refusal 9 0)) buffer
      short_refused l = refused_with (refusal 9 0) (rw (then_room, lt-ltb _ _ l) refl) (λ n. omega arith)

      pub filled : length file ≤ length buffer → (copy : List ℕ) → copy ≡ file → (y : ℕ) → y ≡ byte_of x
          → Gives (Ok (length file)) (set copy 0 y ++ drop (length file) buffer)
      unfolding conversion_answer after_conversion with_letter
      filled l copy same y b =
          let none : q ≡ refusal 0 0 = rw (then_room, le-ltb _ _ l) refl in
          record { answer = rw none refl; after = rw (none, same, b) refl; within = l }

    -- There is a byte for the letter.
    pub some_byte : 1 ≤ length file
    some_byte = ((accepted_exactly file).0 (accepted_as file h).0).size.0
