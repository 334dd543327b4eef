-- The parts of a situation, cut at its counts, have the lines that are written; and what a loop over them leads to.
use Rattle.std.proofs.Common.{◌≡◌, ℕ, ◌+◌, ◌<◌, List, get_or, refl, ap, ◌∙◌, length, arith}
use Rattle.std.proofs.lemmas.List.{get_or_default, get_or-take, length-take}
use Rattle.meaning.specs.declared.Line.{Line}
use Rattle.meaning.specs.declared.Move.{Move}
use Rattle.meaning.specs.declared.Element.{Element}
use Rattle.meaning.specs.declared.Train.{Train}
use Rattle.meaning.specs.declared.Situation.{Situation}
use Rattle.meaning.specs.Station.{no_train}
use Rattle.meaning.specs.File.{no_move, no_element, line_of_move, line_of_element, line_of_train, written_line}
use Rattle.meaning.proofs.Places.{written_plain, written_element, written_train}
use Rattle.writer.specs.Parts.{Cut, Has}

has_cut : {T : Type 0} (lines : ℕ → Line) (start n : ℕ) (xs : List T) (z : T) (line : T → Line)
    → ((j : ℕ) → j < n → lines (start + j) ≡ line (get_or xs j z))
    → {first : ℕ} → first ≡ start → {part : List T} → Cut n xs part → Has lines first part line
has_cut lines start n xs z line at {first} e {part} cut j x l is =
    let few : j < n = omega (arith, cut.count) in
    let inside : j < length xs = omega (arith, length-take n xs, ap length cut.are) in
    let same : x ≡ get_or xs j z = (rw cut.are at is) ∙ get_or-take n xs j x few ∙ get_or_default xs j x z inside in
    rw (e, same) (at j few)

module _ (s : Situation) where
  pub has_plain : {part : List Move} → Cut s.header.plain s.plain part → Has (written_line s) 1 part line_of_move
  has_plain = has_cut (written_line s) 1 s.header.plain s.plain no_move line_of_move (written_plain s) refl

  pub has_elements : {first : ℕ} → first ≡ 1 + s.header.plain → {part : List Element} → Cut s.header.elements s.elements part
      → Has (written_line s) first part line_of_element
  has_elements = has_cut (written_line s) _ s.header.elements s.elements no_element line_of_element (written_element s)

  pub has_trains : {first : ℕ} → first ≡ 1 + s.header.plain + s.header.elements → {part : List Train} → Cut s.header.trains s.trains part
      → Has (written_line s) first part (line_of_train s.header.letter)
  has_trains = has_cut (written_line s) _ s.header.trains s.trains no_train (line_of_train s.header.letter) (written_train s)
