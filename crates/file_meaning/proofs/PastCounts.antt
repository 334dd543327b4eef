-- "Entries past its counts are ignored": the writer's answer and what it writes go by the situation up to its counts (`same_written`).
use mathlib.Core.Path.{◌≡◌, refl, sym, ap, ◌∙◌}
use mathlib.Core.List.{List, [], ◌∷◌, ◌++◌, map}
use Prim.Native.Nat.{ℕ, zero, suc, ◌-◌, ◌<◌}
use native.Mathlib.Omega.{arith}
use lib.ListN.{length, get_or, take, replicate, get_or-map}
use Rattle.meaning.specs.declared.Letter.{Letter}
use Rattle.meaning.specs.declared.Train.{Train}
use Rattle.meaning.specs.declared.Situation.{Situation}
use Rattle.meaning.specs.Station.{plain_moves, elements_of, trains_of, no_train}
use Rattle.basics.specs.Lists.{pad_to}
use Rattle.meaning.specs.File.{no_move, no_element, line_of_move, line_of_element, line_of_train, train_up_to_count, written_line}
use Rattle.meaning.specs.File.{line_count, file_text, write_refusal, after_writing, up_to_counts}
use Rattle.basics.proofs.Lists.{replicate_get, mapped_take}
use Rattle.meaning.proofs.Places.{by_place, written_header, written_plain, written_element, written_train}
use Rattle.meaning.proofs.FirstRefusal.{refusal_ext}
use Rattle.file_meaning.proofs.Text.{text_ext}

-- What stands before the p-th entry stays, in a list that is cut there and filled up again.
module _ {ℓ} {A : Type ℓ} (z : A) where
  cut_get : (r : ℕ) (l : List A) (p i : ℕ) → i < p → get_or (take p l ++ replicate r z) i z ≡ get_or l i z
  cut_get r l zero i h = absurd (omega arith)
  cut_get r [] (suc p) i h = replicate_get r i z
  cut_get r (x ∷ l) (suc p) zero h = refl
  cut_get r (x ∷ l) (suc p) (suc i) h = cut_get r l p i (omega arith)

  filled_get : (n : ℕ) (l : List A) (p i : ℕ) → i < p → get_or (pad_to n z (take p l)) i z ≡ get_or l i z
  unfolding pad_to
  filled_get n l p i h = cut_get (n - length (take p l)) l p i h

-- In a list of trains that is cut at the p-th and filled up again, a train before the p-th stays, up to its count.
trains_get : (n : ℕ) (l : List Train) (p i : ℕ) → i < p
    → get_or (pad_to n no_train (map train_up_to_count (take p l))) i no_train ≡ train_up_to_count (get_or l i no_train)
trains_get n l p i h =
    rw (← mapped_take train_up_to_count p l) (filled_get no_train n (map train_up_to_count l) p i h ∙ get_or-map train_up_to_count l i no_train)

train_up : (x : Letter) (t : Train) → line_of_train x (train_up_to_count t) ≡ line_of_train x t
train_up x t = grind arith

line_up : (s : Situation) (i : ℕ) → i < line_count s.header → written_line (up_to_counts s) i ≡ written_line s i
unfolding up_to_counts plain_moves elements_of trains_of
line_up s zero h = grind (arith, written_header)
line_up s (suc n) h =
    by_place s.header (λ i. written_line kept i ≡ written_line s i)
    (λ j l. written_plain kept j l ∙ ap line_of_move (filled_get no_move 1024 s.plain s.header.plain j l) ∙ sym (written_plain s j l))
    (λ j l.
    written_element kept j l ∙ ap line_of_element (filled_get no_element 256 s.elements s.header.elements j l) ∙ sym (written_element s j l))
    (λ j l.
    written_train kept j l
    ∙ ap (line_of_train s.header.letter) (trains_get 64 s.trains s.header.trains j l)
    ∙ train_up s.header.letter (get_or s.trains j no_train)
    ∙ sym (written_train s j l))
    (suc n) (omega arith) h
  where
    kept : Situation
    kept = up_to_counts s

module _ (s : Situation) where
  refusal_up : (room : ℕ) → write_refusal (up_to_counts s) room ≡ write_refusal s room
  unfolding write_refusal up_to_counts
  refusal_up room = rw (refusal_ext s.header (written_line (up_to_counts s)) (written_line s) (λ i low high. line_up s i high))

  text_up : file_text (up_to_counts s) ≡ file_text s
  unfolding file_text up_to_counts
  text_up = text_ext (line_count s.header) (written_line (up_to_counts s)) (written_line s) (line_up s)

  after_up : (buffer : List ℕ) → after_writing (up_to_counts s) buffer ≡ after_writing s buffer
  unfolding after_writing up_to_counts
  after_up buffer = rw (refusal_up (length buffer), text_up)

-- Situations that are the same up to their counts are answered and written alike.
pub same_written : (s t : Situation) → up_to_counts s ≡ up_to_counts t → (buffer : List ℕ)
    → (write_refusal s (length buffer) ≡ write_refusal t (length buffer)) × (after_writing s buffer ≡ after_writing t buffer) × (file_text s ≡ file_text t)
same_written s t same buffer = (
  sym (refusal_up s (length buffer)) ∙ ap (λ (x : Situation). write_refusal x (length buffer)) same ∙ refusal_up t (length buffer),
  sym (after_up s buffer) ∙ ap (λ (x : Situation). after_writing x buffer) same ∙ after_up t buffer,
  sym (text_up s) ∙ ap file_text same ∙ text_up t,
)
