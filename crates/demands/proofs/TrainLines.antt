-- An accepted file takes sections of its station as T lines in place of its own: `takes_trains`. Its P lines and elements stay, and a T line
-- of one section stands over no pair and has only cause 5.
use mathlib.Core.Path.{◌≡◌, refl, sym, ap, subst, ◌∙◌}
use mathlib.Core.Bool.{false≢true}
use mathlib.Core.List.{List, [], ◌∷◌, map}
use Prim.Native.Nat.{ℕ, zero, suc, ◌+◌, ◌*◌, ◌-◌, ◌≤◌, ◌<◌}
use native.Mathlib.Omega.{arith}
use lib.ListN.{length, get_or, take, length-map}
use Rattle.meaning.specs.declared.Letter.{Letter}
use Rattle.meaning.specs.declared.Line.{Line}
use Rattle.meaning.specs.declared.Train.{Train}
use Rattle.meaning.specs.declared.Situation.{Situation}
use Rattle.meaning.specs.declared.Refusal.{Refusal}
use Rattle.meaning.specs.File.{Reading}
use Rattle.meaning.specs.Station.{no_train, plain_moves, elements_of, trains_of}
use Rattle.meaning.specs.Columns.{record_kind_at, having}
use Rattle.basics.specs.Lists.{pad_to}
use Rattle.meaning.specs.File.{pairs_of, closed_to, refusal, line_count, refusal_of, reading, line_of_train, written_line, file_text, write_refusal, train_up_to_count, up_to_counts}
use Rattle.meaning.specs.Accepted.{Accepted, OldForm}
use Rattle.basics.proofs.Lists.{pad_length, pad_get, pad_take}
use Rattle.meaning.proofs.Causes.{Clear, Beside, AllClear, all_clear}
use Rattle.meaning.proofs.Places.{by_place, written_plain, written_element, written_train}
use Rattle.meaning.proofs.Accepted.{accepted_exactly}
use Rattle.meaning.proofs.AcceptedSituation.{WithinLimits, accepted_counts}
use Rattle.file_meaning.proofs.RoundTrip.{up_to_counts_lem, read_then_write_accepted, write_checked, write_then_read, written-old}
use Rattle.demands.specs.Words.{situation}
use Rattle.demands.specs.Laws.{in_section, with_trains, TakesTrains}
use Rattle.demands.proofs.Words.{of_lines}

-- ---- a T line of one section
line_of_section : ℕ → Line
line_of_section a = record { kind = 4; first = a; second = 0; third = 0; fourth = 0 }

-- A T line of one section is the train's under both letters.
one_line : (x : Letter) (a : ℕ) → line_of_train x (in_section a) ≡ line_of_section a
unfolding line_of_section
one_line x a = grind arith

-- A T line of one section has no cause where its section is one of the station.
train_clear : (n a : ℕ) → 1 ≤ a → a ≤ n → Clear n (line_of_section a)
unfolding line_of_section having record_kind_at
train_clear n a low high = grind arith

-- A T line of one section stands over no pair.
train_pairs : (a : ℕ) → pairs_of (line_of_section a) ≡ []
unfolding line_of_section pairs_of
train_pairs a = refl

-- The train at place j.
in_section_lem : (xs : List ℕ) (j : ℕ) → j < length xs → get_or (map in_section xs) j no_train ≡ in_section (get_or xs j 0)
in_section_lem [] j l = absurd (omega arith)
in_section_lem (x ∷ xs) zero l = refl
in_section_lem (x ∷ xs) (suc j) l = in_section_lem xs j (omega arith)

-- ---- a situation with other trains
module _ (s : Situation) (within : WithinLimits s) (clear : (refusal_of s.header (written_line s)).number ≡ 0) (xs : List ℕ) (few : length xs ≤ 64)
    (inside : (i : ℕ) → i < length xs → (1 ≤ get_or xs i 0) × (get_or xs i 0 ≤ s.header.sections)) where
  abbrev s' : Situation
  s' = with_trains s xs

  abbrev body : ℕ
  body = s.header.plain + s.header.elements

  -- The lines after P lines and elements are T lines.
  train_line : (j : ℕ) → j < length xs → written_line s' (1 + s.header.plain + s.header.elements + j) ≡ line_of_section (get_or xs j 0)
  train_line j l =
      written_train s' j l
      ∙ ap (line_of_train s.header.letter)
      (pad_get 64 no_train no_train (map in_section xs) j (rw (length-map xs in_section) l) ∙ in_section_lem xs j l)
      ∙ one_line s.header.letter (get_or xs j 0)

  -- The lines of s, where they have no cause.
  of_s : AllClear s.header.sections (written_line s) (line_count s.header - 1) 1 []
  unfolding refusal_of
  of_s = (all_clear s.header.sections (written_line s) (line_count s.header - 1) 1 []).0 clear

  -- A line below the S line is one of s or a T line of the station.
  data Below (i : ℕ) : Type 0 where
    kept : i ≤ body → written_line s' i ≡ written_line s i → Below i
    train : (a : ℕ) → 1 ≤ a → a ≤ s.header.sections → written_line s' i ≡ line_of_section a → Below i

  below : (i : ℕ) → 1 ≤ i → i < line_count s'.header → Below i
  below =
      by_place s'.header Below
      (λ j l. kept (omega arith) (written_plain s' j l ∙ sym (written_plain s j l)))
      (λ j l. kept (omega arith) (written_element s' j l ∙ sym (written_element s j l)))
      (λ j l. train (get_or xs j 0) (inside j l).0 (inside j l).1 (train_line j l))

  -- No line of the situation with other trains has a cause.
  none : (refusal_of s'.header (written_line s')).number ≡ 0
  unfolding refusal_of closed_to
  none =
      (all_clear s.header.sections (written_line s') (line_count s'.header - 1) 1 []).1
      (record {
        alone = λ j low high. alone j low (below j low (omega arith));
        new = λ j low high a b h. absurd (false≢true h);
        apart = λ j k low less high. apart j k low less (below j low (omega arith)) (below k (omega arith) (omega arith));
      })
    where
      alone : (j : ℕ) → 1 ≤ j → Below j → Clear s.header.sections (written_line s' j)
      alone j low (kept h e) = subst (Clear s.header.sections) (sym e) (of_s.alone j low (omega arith))
      alone j low (train a l h e) = subst (Clear s.header.sections) (sym e) (train_clear s.header.sections a l h)

      apart : (j k : ℕ) → 1 ≤ j → j < k → Below j → Below k → Beside (written_line s' j) (written_line s' k)
      apart j k low less b (train a l h e) = rw (e, train_pairs a) (λ w x y p. refl)
      apart j k low less (train a l h e) (kept h' e') = rw (e, train_pairs a) (λ w x y p. absurd (false≢true p))
      apart j k low less (kept h e) (kept h' e') = rw (e, e') (of_s.apart j k low less (omega arith))

  room : ℕ
  room = line_count s'.header * 22

  written : (write_refusal s' room).number ≡ 0
  unfolding write_refusal room
  written = grind (arith, none)

  text_old : OldForm (file_text s')
  text_old = written-old s' room written

  -- What is read from its text, up to its counts.
  reads_back : reading (file_text s') ≡ record { refusal = refusal 0 0; situation = up_to_counts s' }
  reads_back = grind (arith, length-map, pad_length, write_then_read, written)

  -- Where s has zeros past its counts, so has it.
  whole : s ≡ up_to_counts s → up_to_counts s' ≡ s'
  unfolding up_to_counts plain_moves elements_of trains_of
  whole e = λ i. record {
    header = s'.header;
    plain = (sym e i).plain;
    elements = (sym e i).elements;
    trains = pad_to 64 no_train (ends i);
  }
    where
      counted_again : (ys : List ℕ) → map train_up_to_count (map in_section ys) ≡ map in_section ys
      counted_again [] = refl
      counted_again (y ∷ ys) = ap (λ (l : List Train). in_section y ∷ l) (counted_again ys)

      ends : map train_up_to_count (trains_of s') ≡ map in_section xs
      ends =
          ap (λ (n : ℕ). map train_up_to_count (take n (pad_to 64 no_train (map in_section xs)))) (sym (length-map xs in_section))
          ∙ ap (map train_up_to_count) (pad_take 64 no_train (map in_section xs)) ∙ counted_again xs

-- ---- an accepted file
-- What `TakesTrains` says, of the situation x.
abbrev Takes : List ℕ → Situation → Type 0
Takes xs x =
    ((i : ℕ) → i < length xs → (1 ≤ get_or xs i 0) × (get_or xs i 0 ≤ x.header.sections))
    → Accepted (file_text (with_trains x xs)) × (situation (file_text (with_trains x xs)) ≡ with_trains x xs) × OldForm (file_text (with_trains x xs))

takes : (file xs : List ℕ) → (reading file).refusal.number ≡ 0 → length xs ≤ 64 → Takes xs (reading file).situation
takes file xs e few inside =
    let s = (reading file).situation in
    let w = accepted_counts file e in
    let number : Refusal → ℕ = λ q. q.number in
    let again = ap number (read_then_write_accepted file e (length file) (omega arith)) in
    let full = sym (up_to_counts_lem file e) in
    let back = reads_back s w (write_checked s (length file) again).1 xs few inside in
    let a = (accepted_exactly (file_text (with_trains s xs))).0 (ap (λ (r : Reading). r.refusal.number) back) in
    let is = ap (λ (r : Reading). r.situation) back ∙ whole s w (write_checked s (length file) again).1 xs few inside full in (
      a,
      of_lines (file_text (with_trains s xs)) a (λ (x : Situation). x ≡ with_trains s xs) is,
      text_old s w (write_checked s (length file) again).1 xs few inside,
    )

pub takes_trains : (file xs : List ℕ) → Accepted file → length xs ≤ 64
    → ((i : ℕ) → i < length xs → (1 ≤ get_or xs i 0) × (get_or xs i 0 ≤ (situation file).header.sections))
    → TakesTrains file xs
takes_trains file xs a few inside =
    let w = of_lines file a (Takes xs) (takes file xs ((accepted_exactly file).1 a) few) inside in
    record { text = _; accepted = w.0; read = w.1; old_form = w.2 }
