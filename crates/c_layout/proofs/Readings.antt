-- A situation that was read has arrays of full length, so it is the same after it was flat: what a reading returns can be written again.
use mathlib.Core.Path.{◌≡◌, ap, subst⁻¹, ◌∙◌}
use mathlib.Core.List.{List, [], ◌++◌}
use Prim.Native.Nat.{ℕ, ◌≤◌, ◌<◌}
use native.Mathlib.Omega.{arith}
use native.Mathlib.Decide.{dec_lt}
use borrow.Author.Tests.{ne_eqb}
use lib.ListN.{length, drop}
use Rattle.meaning.specs.declared.Header.{Header}
use Rattle.meaning.specs.declared.Line.{Line}
use Rattle.meaning.specs.declared.Situation.{Situation}
use Rattle.meaning.specs.File.{Reading, reading_answer}
use Rattle.basics.specs.Lists.{list_of, pad_to}
use Rattle.meaning.specs.File.{Limits, no_situation, reading, situation_of, after_writing}
use Rattle.meaning.specs.Accepted.{Accepted, OldForm, file_header}
use Rattle.basics.proofs.Lists.{list_of-length, pad_length}
use Rattle.meaning.proofs.Accepted.{accepted_exactly, accepted_situation, refused-situation}
use Rattle.file_meaning.proofs.RoundTrip.{read_then_write, read_then_write_buffer}
use Rattle.c_layout.specs.Flat as flat
use Rattle.c_layout.proofs.Back.{Whole, situation_back}

padded : {A : Type 0} (m n : ℕ) (z : A) (f : ℕ → A) → n ≤ m → length (pad_to m z (list_of n f)) ≡ m
padded m n z f h = pad_length m z (list_of n f) (rw (list_of-length n f) h)

filled_whole : (h : Header) (lines : ℕ → Line) → Limits h → Whole (situation_of h lines)
unfolding situation_of
filled_whole h lines l =
    record {
      plain = padded 1024 h.plain _ _ l.plain;
      elements = padded 256 h.elements _ _ l.elements;
      trains = padded 64 h.trains _ _ l.trains;
    }

none_whole : Whole no_situation
unfolding no_situation
none_whole = record { plain = pad_length 1024 _ [] (omega arith); elements = pad_length 256 _ [] (omega arith); trains = pad_length 64 _ [] (omega arith) }

-- A situation that was read has arrays of full length, also after a refusal.
pub reading_whole : (file : List ℕ) → Whole (reading file).situation
reading_whole file = go (dec_lt 0 (reading file).refusal.number)
  where
    go : Dec (0 < (reading file).refusal.number) → Whole (reading file).situation
    go (yes h) = subst⁻¹ Whole (refused-situation file (λ e. omega arith)) none_whole
    go (no h) =
        let e : (reading file).refusal.number ≡ 0 = omega arith in
        let a : Accepted file = (accepted_exactly file).0 e in
        subst⁻¹ Whole (ap (λ (r : Reading). r.situation) (accepted_situation file e)) (filled_whole (file_header file) _ a.limits)

-- What is read and made flat stands for the situation that was read.
reading_back : (file : List ℕ) → flat.situation_from_c (flat.flat_reading (reading file)).situation ≡ (reading file).situation
unfolding flat.flat_reading
reading_back file = situation_back (reading file).situation (reading_whole file)

-- Written again from its flat values, an accepted file of the old form is the same bytes.
pub flat_gives_back :
    (file : List ℕ) → (reading file).refusal.number ≡ 0 → OldForm file → (buffer : List ℕ) → length file ≤ length buffer
    → after_writing (flat.situation_from_c (flat.flat_reading (reading file)).situation) buffer ≡ file ++ drop (length file) buffer
flat_gives_back file e o buffer enough =
    ap (λ (s : Situation). after_writing s buffer) (reading_back file)
    ∙ read_then_write_buffer file e buffer enough
    ∙ ap (λ (t : List ℕ). t ++ drop (length file) buffer) (read_then_write file e o)

-- What the reader answers is flat as what it reads.
pub answer_flat : (file : List ℕ) → flat.flat_reading_answer (reading_answer file) ≡ flat.flat_reading (reading file)
unfolding flat.flat_reading
answer_flat file = go (dec_lt 0 (reading file).refusal.number)
  where
    go : Dec (0 < (reading file).refusal.number) → flat.flat_reading_answer (reading_answer file) ≡ flat.flat_reading (reading file)
    go (yes h) =
        let n : (reading file).refusal.number ≡ 0 → ⊥ = λ e. omega arith in
        rw (ne_eqb (reading file).refusal.number 0 n, refused-situation file n)
    go (no h) =
        let e : (reading file).refusal.number ≡ 0 = omega arith in
        rw (accepted_situation file e)
