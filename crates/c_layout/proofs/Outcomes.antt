-- A refusal of the writer or of a settings question that has number 0 has line 0 too: what either answers is flat as its refusal is.
use Rattle.std.proofs.Common.{ℕ, ◌*◌, ◌≡◌, refl, ap, ◌<◌, Bool, true, false, cond, ltb, eqb, List, arith}
use borrow.Author.Tests.{eqb-true}
use Rattle.meaning.specs.declared.Refusal.{Refusal}
use Rattle.meaning.specs.declared.Output.{Output}
use Rattle.meaning.specs.declared.Situation.{Situation}
use Rattle.meaning.specs.Station.{file_states}
use Rattle.meaning.specs.Digits.{output_of}
use Rattle.meaning.specs.File.{Reading, refusal, is_none, unless_refused, out_of_range, line_count, refusal_of, written_line, file_text, write_refusal, writing_answer, reading}
use Rattle.meaning.specs.Operations.{open_element, call_refusal, settings_refusal}
use Rattle.meaning.proofs.FirstRefusal.{no_refusal_none}
use Rattle.meaning.proofs.Accepted.{accepted_situation}
use Rattle.c_layout.specs.Flat.{flat_refusal, flat_outcome, flat_output}

-- No other refusal has number 0.
abbrev OnlyNone : Refusal → Type 0
OnlyNone q = q.number ≡ 0 → q ≡ refusal 0 0

either : (b : Bool) (p q : Refusal) → OnlyNone p → OnlyNone q → OnlyNone (cond b p q)
either true p q x y = x
either false p q x y = y

numbered : (n line : ℕ) → 0 < n → OnlyNone (refusal n line)
numbered n line h = λ e. absurd (omega arith)

outcome : (q : Refusal) → OnlyNone q → flat_outcome (unless_refused q tt) ≡ flat_refusal q
outcome q only = go (is_none q) refl
  where
    go : (b : Bool) → is_none q ≡ b → flat_outcome (unless_refused q tt) ≡ flat_refusal q
    go true e = rw (only (eqb-true q.number 0 e))
    go false e = rw e

output : (q : Refusal) (o : Output) → OnlyNone q → (flat_output (unless_refused q o)).refusal ≡ flat_refusal q
output q o only = go (is_none q) refl
  where
    go : (b : Bool) → is_none q ≡ b → (flat_output (unless_refused q o)).refusal ≡ flat_refusal q
    go true e = rw (only (eqb-true q.number 0 e))
    go false e = rw e

pub written_flat : (s : Situation) (room : ℕ) → (flat_output (writing_answer s room)).refusal ≡ flat_refusal (write_refusal s room)
unfolding write_refusal
written_flat s room =
    let q = refusal_of s.header (written_line s) in
    let none : OnlyNone q = no_refusal_none s.header (written_line s) in
    output (write_refusal s room) (output_of (file_text s))
    (either (out_of_range s.header.sections s.header.plain s.header.elements s.header.trains) _ _ (numbered 3 1 (omega arith))
    (either (is_none q) _ _ (either (ltb room (line_count s.header * 22)) _ _ (numbered 9 0 (omega arith)) none) none))

pub asked_flat : (file : List ℕ) (room : ℕ) → flat_outcome (unless_refused (settings_refusal file room) tt) ≡ flat_refusal (settings_refusal file room)
unfolding settings_refusal call_refusal
asked_flat file room =
    let s = (reading file).situation in
    outcome (settings_refusal file room)
    (either (is_none (reading file).refusal) _ _
    (either (eqb (open_element 13 (file_states s)) 0) _ _
    (either (ltb room s.header.elements) _ _ (numbered 9 0 (omega arith)) (λ e. refl))
    (numbered 11 _ (omega arith)))
    (λ e. ap (λ (r : Reading). r.refusal) (accepted_situation file e)))
