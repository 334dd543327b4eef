-- What the writer answers and what the buffer then holds, by the tests of the definition in their order.
use Rattle.std.proofs.Common.{Result, Ok, Err, ◌≡◌, refl, sym, ap, ℕ, ◌*◌, ◌≤◌, ◌<◌, List, ◌++◌, length, drop, true}
use Rattle.std.specs.Prelude.{⊤}
use borrow.Author.Tests.{eq-eqb, ne_eqb, lt-ltb, le-ltb}
use Rattle.meaning.specs.declared.Situation.{Situation}
use Rattle.meaning.specs.declared.Refusal.{Refusal}
use Rattle.meaning.specs.declared.Output.{Output}
use Rattle.meaning.specs.Digits.{printed_sum, output_of}
use Rattle.meaning.specs.File.{Limits, out_of_range, refusal, refusal_of, unless_refused, line_count, written_line, file_text, write_refusal, writing_answer, after_writing}
use Rattle.meaning.proofs.Accepted.{ranges_in}
use Rattle.meaning.proofs.Refused.{ok_of, err_of}
use Rattle.file_meaning.proofs.Text.{text_length}

module _ (s : Situation) (room : ℕ) where
  -- Refusal 3 comes first.
  pub refused_range : out_of_range s.header.sections s.header.plain s.header.elements s.header.trains ≡ true → Err (refusal 3 1) ≡ writing_answer s room
  unfolding write_refusal
  refused_range h = rw h

  abbrev pub of_lines : Result ⊤ Refusal
  of_lines = unless_refused (refusal_of s.header (written_line s)) tt

  module _ (limits : Limits s.header) where
    -- The first refusal of a line comes next.
    pub refused_line : {q : Refusal} → Err q ≡ of_lines → Err q ≡ writing_answer s room
    unfolding write_refusal
    refused_line e =
        let w = err_of (refusal_of s.header (written_line s)) tt (sym e) in
        simp (ranges_in s.header limits, ne_eqb _ 0 w.0) (ap Err (sym w.1))

    -- Refusal 9 comes last.
    pub refused_room : Ok tt ≡ of_lines → room < line_count s.header * 22 → Err (refusal 9 0) ≡ writing_answer s room
    unfolding write_refusal
    refused_room e l =
        let z = (ok_of (refusal_of s.header (written_line s)) tt (sym e)).0 in
        simp (ranges_in s.header limits, eq-eqb _ 0 z, lt-ltb room (line_count s.header * 22) l)

    -- With none of these there is no refusal.
    pub not_refused : Ok tt ≡ of_lines → line_count s.header * 22 ≤ room → Ok (output_of (file_text s)) ≡ writing_answer s room
    unfolding write_refusal
    not_refused e l =
        let z = (ok_of (refusal_of s.header (written_line s)) tt (sym e)).0 in
        simp (ranges_in s.header limits, eq-eqb _ 0 z, le-ltb room (line_count s.header * 22) l)

module _ (s : Situation) (buffer : List ℕ) where
  -- A refusal leaves the buffer as it was.
  pub after_refusal : {q : Refusal} → Err q ≡ writing_answer s (length buffer) → buffer ≡ after_writing s buffer
  unfolding after_writing
  after_refusal e = simp (ne_eqb _ 0 (err_of (write_refusal s (length buffer)) _ (sym e)).0)

  -- Where nothing is refused, the file's text stands at the start of the buffer.
  pub after_text : {x : Output} → Ok x ≡ writing_answer s (length buffer) → file_text s ++ drop (line_count s.header * 22) buffer ≡ after_writing s buffer
  unfolding after_writing
  after_text e = simp (eq-eqb _ 0 (ok_of (write_refusal s (length buffer)) _ (sym e)).0)

-- What is returned of the file's text.
pub of_text : (s : Situation) {n k : ℕ} → n ≡ line_count s.header * 22 → k ≡ printed_sum (file_text s) → record { length = n; subtractions = k } ≡ output_of (file_text s)
unfolding file_text
of_text s e f = rw (e, f, text_length (written_line s) (line_count s.header)) refl
