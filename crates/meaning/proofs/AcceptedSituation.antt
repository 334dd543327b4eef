-- What the situation of an accepted file is like: its counts are within the limits (`accepted_counts`), its lines name only sections of
-- the station (`accepted_inside`), and it has one state from 0 to 2 for each element (`accepted_lengths`, `accepted_states`). Each
-- comes from the absence of a cause in the lines, through the kind that a line at its place has.
use mathlib.Core.Path.{◌≡◌, refl, sym, ap, ◌∙◌, subst}
use mathlib.Core.Logic.{inl, inr}
use mathlib.Core.Bool.{Bool, true, ◌&&◌, cond}
use mathlib.Core.List.{List, [], ◌∷◌, ◌++◌, map}
use mathlib.Mathlib.Data.Bool.Basic.{and_intro}
use Prim.Native.Nat.{ℕ, zero, suc, ◌+◌, ◌*◌, ◌≤◌, ◌<◌}
use native.Mathlib.Omega.{arith}
use lib.Dec.{eqb, leb}
use lib.ListN.{length, get_or, take, length-map}
use borrow.Author.Tests.{le-leb}
use Rattle.meaning.specs.declared.Section.{Section}
use Rattle.meaning.specs.declared.Move.{Move}
use Rattle.meaning.specs.declared.Element.{Element}
use Rattle.meaning.specs.declared.Letter.TheVariants as letter
use Rattle.meaning.specs.declared.Train.{Train}
use Rattle.meaning.specs.declared.Header.{Header}
use Rattle.meaning.specs.declared.Situation.{Situation}
use Rattle.meaning.specs.declared.Line.{Line}
use Rattle.meaning.specs.File.{Reading}
use Rattle.meaning.specs.Station.{section, plain_moves, elements_of, file_states, trains_of, sections_of_train, no_train, standing}
use Rattle.meaning.specs.Inside.{sections_of, sections_named, sections_of_trains, all_inside, in_station}
use Rattle.meaning.specs.Columns.{padded, record_kind_at, having, section_field, state_field}
use Rattle.basics.specs.Lists.{list_of, pad_to, In}
use Rattle.meaning.specs.File.{Limits, move_of, element_of, train_of, no_move, no_element, situation_of}
use Rattle.meaning.specs.File.{kind_at, file_line_in, file_line, most_under, reading}
use Rattle.meaning.specs.Accepted.{file_header, body_line, InBody, Accepted}
use Rattle.basics.proofs.Tests.{and_both}
use Rattle.meaning.specs.Inside.{Inside}
use Rattle.basics.proofs.Lists.{list_of-length, list_of_get, pad_length, pad_take}
use Rattle.meaning.proofs.Columns.{line_kind}
use Rattle.meaning.proofs.Places.{kind_plain, kind_element, kind_train, OfTrain}
use Rattle.meaning.proofs.Accepted.{accepted_exactly, accepted_situation}

-- ---- the lists of a situation
filled-take {ℓ} : {A : Type ℓ} (m n : ℕ) (z : A) (f : ℕ → A) → take n (pad_to m z (list_of n f)) ≡ list_of n f
filled-take m n z f = ap (λ (k : ℕ). take k (pad_to m z (list_of n f))) (sym (list_of-length n f)) ∙ pad_take m z (list_of n f)

filled-length {ℓ} : {A : Type ℓ} (m n : ℕ) (z : A) (f : ℕ → A) → n ≤ m → length (pad_to m z (list_of n f)) ≡ m
filled-length m n z f h = pad_length m z (list_of n f) (rw (list_of-length n f) h)

-- What the lines give is in the situation, in their order.
module _ (h : Header) (lines : ℕ → Line) where
  -- The moves of the P lines.
  pub plain_lines : plain_moves (situation_of h lines) ≡ list_of h.plain (λ i. move_of (lines (1 + i)))
  unfolding plain_moves situation_of
  plain_lines = filled-take 1024 h.plain no_move (λ i. move_of (lines (1 + i)))

  -- The elements of the L and D lines.
  pub element_lines_lem : elements_of (situation_of h lines) ≡ list_of h.elements (λ i. element_of (lines (1 + h.plain + i)))
  unfolding elements_of situation_of
  element_lines_lem = filled-take 256 h.elements no_element (λ i. element_of (lines (1 + h.plain + i)))

  -- The sections of the T lines.
  pub train_lines : trains_of (situation_of h lines) ≡ list_of h.trains (λ i. train_of (lines (1 + h.plain + h.elements + i)))
  unfolding trains_of situation_of
  train_lines = filled-take 64 h.trains no_train (λ i. train_of (lines (1 + h.plain + h.elements + i)))

-- ---- the fields of a line of a given kind
-- What holds of a line whose kind is written out holds of the line.
pub of_kind : (P : Line → Type 0) (l : Line) (k : ℕ) → l.kind ≡ k
    → P (record { kind = k; first = l.first; second = l.second; third = l.third; fourth = l.fourth }) → P l
of_kind P l k e p = grind arith

-- The sections of a move, an element and a train.
abbrev of_move : Move → List Section
of_move m = m.from ∷ m.to ∷ []

abbrev of_element : Element → List Section
of_element e = sections_of e.kind

-- The sections of a value are the section fields of its line.
abbrev Names : (Line → List Section) → Line → Type 0
Names sections l = sections l ≡ map section (having section_field l)

move_named : (l : Line) → l.kind ≡ 1 → Names (λ r. of_move (move_of r)) l
unfolding having record_kind_at
move_named l e = of_kind (Names (λ r. of_move (move_of r))) l 1 e refl

element_named : (l : Line) (signal : Bool) → l.kind ≡ cond signal 2 3 → Names (λ r. of_element (element_of r)) l
unfolding having record_kind_at
element_named l signal h = grind arith

train_named : (l : Line) → 4 ≤ l.kind → l.kind ≤ 7 → Names (λ r. sections_of_train (train_of r)) l
unfolding having record_kind_at sections_of_train
train_named l low high = grind arith

-- An element's state is the state field of its line.
state_had : (l : Line) (signal : Bool) → l.kind ≡ cond signal 2 3 → ((element_of l).state ∷ []) ≡ having state_field l
unfolding having record_kind_at
state_had l signal h = grind arith

-- ---- sections
-- Each entry of a list has P; d stands past its end.
abbrev EachOf : {A : Type 0} → (A → Type 0) → A → List A → Type 0
EachOf P d l = (i : ℕ) → i < length l → P (get_or l i d)

each_list_of : {A : Type 0} (P : A → Type 0) (d : A) (n : ℕ) (f : ℕ → A) → ((i : ℕ) → i < n → P (f i)) → EachOf P d (list_of n f)
each_list_of P d n f h i b = grind (arith, list_of-length, list_of_get)

module _ (n : ℕ) where
  numbers_inside : (xs : List ℕ) → ((a : ℕ) → In a xs → Inside n a) → all_inside n (map section xs) ≡ true
  unfolding all_inside
  numbers_inside [] f = refl
  numbers_inside (x ∷ xs) f =
      let i = f x (inl refl) in
      and_intro (and_intro (le-leb 1 x i.0) (le-leb x n i.1)) (numbers_inside xs (λ a h. f a (inr h)))

  joined_inside : (l m : List Section) → all_inside n l ≡ true → all_inside n m ≡ true → all_inside n (l ++ m) ≡ true
  unfolding all_inside
  joined_inside [] m h k = k
  joined_inside (a ∷ l) m h k =
      let w = and_both (leb 1 a.0 && leb a.0 n) (all_inside n l) h in
      and_intro w.0 (joined_inside l m w.1 k)

  -- A list of moves, elements or trains, each with its sections inside.
  abbrev AllOf : {A : Type 0} → (A → List Section) → A → List A → Type 0
  AllOf sections d = EachOf (λ x. all_inside n (sections x) ≡ true) d

  trains_named : (ts : List Train) → AllOf sections_of_train no_train ts → all_inside n (sections_of_trains ts) ≡ true
  unfolding all_inside sections_of_trains
  trains_named [] c = refl
  trains_named (t ∷ ts) c =
      joined_inside (sections_of_train t) (sections_of_trains ts) (c 0 (omega arith)) (trains_named ts (λ i b. c (suc i) (omega arith)))

  all_named : (ms : List Move) (es : List Element) (ts : List Section) → AllOf of_move no_move ms → AllOf of_element no_element es
      → all_inside n ts ≡ true → all_inside n (sections_named ms es ts) ≡ true
  unfolding sections_named
  all_named [] [] ts a b c = c
  all_named [] (e ∷ es) ts a b c =
      let rest = all_named [] es ts a (λ i l. b (suc i) (omega arith)) c in
      joined_inside (of_element e) (sections_named [] es ts) (b 0 (omega arith)) rest
  all_named (m ∷ ms) es ts a b c =
      let rest = all_named ms es ts (λ i l. a (suc i) (omega arith)) b c in
      joined_inside (of_move m) (sections_named ms es ts) (a 0 (omega arith)) rest

in_station_lem : (s : Situation) (ms : List Move) (es : List Element) (ts : List Train)
    → plain_moves s ≡ ms → elements_of s ≡ es → trains_of s ≡ ts
    → all_inside s.header.sections (sections_named ms es (sections_of_trains ts)) ≡ true → in_station s ≡ true
unfolding in_station
in_station_lem s ms es ts p q r h = grind arith

-- ---- states
states_within : (es : List Element) → EachOf (λ e. e.state ≤ 2) no_element es → (i : ℕ) → get_or (map (λ (e : Element). e.state) es) i 0 ≤ 2
states_within [] c i = omega arith
states_within (e ∷ es) c zero = c 0 (omega arith)
states_within (e ∷ es) c (suc i) = states_within es (λ j l. c (suc j) (omega arith)) i

-- ---- an accepted file
-- The counts of the header, and the lengths of the arrays.
pub record WithinLimits (s : Situation) : Type 0 where
  pub limits : Limits s.header
  pub plain_length : length s.plain ≡ 1024
  pub elements_length : length s.elements ≡ 256
  pub trains_length : length s.trains ≡ 64

module _ (file : List ℕ) (accepted : (reading file).refusal.number ≡ 0) where
  causes : Accepted file
  causes = (accepted_exactly file).0 accepted

  -- What holds of the situation of the lines holds of the situation read.
  of_read : (P : Situation → Type 0) → P (situation_of (file_header file) (file_line file (file_header file))) → P (reading file).situation
  of_read P = subst P (sym (ap (λ (r : Reading). r.situation) (accepted_situation file accepted)))

  -- The counts are within the limits.
  pub accepted_counts : WithinLimits (reading file).situation
  unfolding situation_of
  accepted_counts =
      let h = file_header file in
      of_read WithinLimits
      (record {
        limits = causes.limits;
        plain_length = filled-length 1024 h.plain no_move _ causes.limits.plain;
        elements_length = filled-length 256 h.elements no_element _ causes.limits.elements;
        trains_length = filled-length 64 h.trains no_train _ causes.limits.trains;
      })

  kind_of : (i : ℕ) → InBody file i → (body_line file i).kind ≡ kind_at file (file_header file) i
  unfolding body_line file_line_in
  kind_of i b = line_kind padded file i (kind_at file (file_header file) i) (causes.form i b)

  -- What k lines give, each named by its line, is inside.
  lines_inside : {A : Type 0} (sections : A → List Section) (value : Line → A) (d : A) (k : ℕ) (place : ℕ → ℕ)
      → ((i : ℕ) → i < k → InBody file (place i) × Names (λ r. sections (value r)) (body_line file (place i)))
      → AllOf (file_header file).sections sections d (list_of k (λ i. value (body_line file (place i))))
  lines_inside sections value d k place named =
      let n = (file_header file).sections in
      each_list_of (λ x. all_inside n (sections x) ≡ true) d k (λ i. value (body_line file (place i)))
      λ i l.
      let w = named i l in
      ap (all_inside n) w.1 ∙ numbers_inside n (having section_field (body_line file (place i))) (causes.inside (place i) w.0)

  -- An element's line, by its place, and whether it is a signal.
  abbrev row : ℕ → ℕ
  row i = 1 + (file_header file).plain + i

  abbrev signal : ℕ → Bool
  signal i = eqb (get_or file (row i * 22) 0) 76

  element_row : (i : ℕ) → i < (file_header file).elements → InBody file (row i) × ((body_line file (row i)).kind ≡ cond (signal i) 2 3)
  element_row i l = grind (arith, kind_element, kind_of)

  -- A train's line, by its place, and its kind.
  abbrev place : ℕ → ℕ
  place i = 1 + (file_header file).plain + (file_header file).elements + i

  train_row : (i : ℕ) → i < (file_header file).trains → InBody file (place i) × OfTrain (file_header file).letter (body_line file (place i)).kind
  train_row i l = grind (arith, kind_of, kind_train)

  -- A train's sections are the section fields of its line.
  pub train_of_line : (i : ℕ) → i < (file_header file).trains
      → let l : Line = body_line file (1 + (file_header file).plain + (file_header file).elements + i) in
      OfTrain (file_header file).letter l.kind × (sections_of_train (train_of l) ≡ map section (having section_field l))
  train_of_line i l = grind (arith, train_named, train_row)

  -- Every section that the lines name is one of the station.
  pub accepted_inside : in_station (reading file).situation ≡ true
  unfolding situation_of body_line
  accepted_inside =
      let h = file_header file in
      let lines = file_line file h in
      let plain = lines_inside of_move move_of no_move h.plain (λ i. 1 + i) λ i l.
      let b : InBody file (1 + i) = omega arith in
      (b, move_named (body_line file (1 + i)) (kind_of (1 + i) b ∙ kind_plain file h i l)) in
      let elements = lines_inside of_element element_of no_element h.elements row λ i l.
      let w = element_row i l in
      (w.0, element_named (body_line file (row i)) (signal i) w.1) in
      let trains = lines_inside sections_of_train train_of no_train h.trains place λ i l. ((train_row i l).0, (train_of_line i l).1) in
      of_read (λ s. in_station s ≡ true)
      (in_station_lem (situation_of h lines) _ _ _ (plain_lines h lines) (element_lines_lem h lines) (train_lines h lines)
      (all_named h.sections _ _ _ plain elements (trains_named h.sections _ trains)))

  -- There is one state for each element.
  pub accepted_lengths : length (file_states (reading file).situation) ≡ (reading file).situation.header.elements
  unfolding file_states situation_of
  accepted_lengths =
      let h = file_header file in
      let lines = file_line file h in
      of_read (λ s. length (file_states s) ≡ s.header.elements)
      (length-map (elements_of (situation_of h lines)) (λ (e : Element). e.state)
      ∙ ap length (element_lines_lem h lines)
      ∙ list_of-length h.elements _)

  -- Each state is 0, 1 or 2.
  pub accepted_states : (i : ℕ) → get_or (file_states (reading file).situation) i 0 ≤ 2
  unfolding file_states body_line
  accepted_states i =
      let h = file_header file in
      let lines = file_line file h in
      of_read (λ s. get_or (file_states s) i 0 ≤ 2)
      (states_within (elements_of (situation_of h lines))
      (rw (element_lines_lem h lines)
      (each_list_of (λ e. e.state ≤ 2) no_element h.elements _
      λ k l.
      let w = element_row k l in
      let x = (element_of (body_line file (row k))).state in
      causes.states (row k) w.0 x (rw (← state_had (body_line file (row k)) (signal k) w.1) (inl refl))))
      i)

  -- Each train has at least one section, and at most as many as the letter allows.
  pub accepted_trains : (i : ℕ) → i < (reading file).situation.header.trains
      → Inside (most_under (reading file).situation.header.letter) (get_or (trains_of (reading file).situation) i no_train).count
  unfolding situation_of body_line
  accepted_trains i =
      let h = file_header file in
      let lines = file_line file h in
      of_read (λ s. i < s.header.trains → Inside (most_under s.header.letter) (get_or (trains_of s) i no_train).count)
      λ l.
      let w = train_row i l in
      rw (train_lines h lines, list_of_get h.trains (λ i. train_of (lines (1 + h.plain + h.elements + i))) no_train i l)
      (omega arith, omega arith)

  -- In a file that begins with S each train stands in exactly one section.
  pub accepted_single : (reading file).situation.header.letter ≡ letter.S → (i : ℕ) → i < (reading file).situation.header.trains
      → length (standing (reading file).situation (suc i)) ≡ 1
  unfolding standing sections_of_train
  accepted_single e i l = grind (arith, accepted_trains)
