-- Item 2 holds of any operation with the contract that `judge_read` (`item_2_read`) or `judge_write` has (`item_2_write`), and of the statements of the verdict
-- (`item_2_verdict`) and of the settings question (`item_2_settings`).
use mathlib.Core.Path.{◌≡◌, refl, sym, ap, ◌∙◌}
use mathlib.Core.Logic.{◌⊎◌, inl, inr}
use mathlib.Core.Bool.{true, cond}
use mathlib.Core.List.{List, [], ◌∷◌, map}
use Prim.Native.Nat.{ℕ, zero, suc, ◌+◌, ◌*◌, ◌-◌, ◌≤◌, ◌<◌}
use native.Mathlib.Omega.{arith}
use lib.Dec.{eqb}
use lib.ListN.{length, get_or, take, drop, length-map, get_or-append}
use lib.Seq.{length-take-le}
use Rattle.meaning.specs.declared.Section.{Section}
use Rattle.meaning.specs.declared.Letter.{Letter}
use Rattle.meaning.specs.declared.Letter.TheVariants as letter
use Rattle.meaning.specs.declared.Kind.{Kind}
use Rattle.meaning.specs.declared.Element.{Element}
use Rattle.meaning.specs.declared.Train.{Train}
use Rattle.meaning.specs.declared.Header.{Header}
use Rattle.meaning.specs.declared.Line.{Line}
use Rattle.meaning.specs.declared.Situation.{Situation}
use Rattle.meaning.specs.Station.{section, file_states, standing, sections_of_train, no_train}
use Rattle.basics.specs.Lists.{Once}
use Rattle.meaning.specs.Columns.{old, padded, field_text, record_kind_at, having, line_at, line_text, no_kind, section_field}
use Rattle.meaning.specs.File.{line_count, train_of, no_element, situation_of, kind_at, file_line_in, file_line, most_under, line_of_kind}
use Rattle.meaning.specs.File.{line_of_train, written_line, writing_answer, after_writing, up_to_counts}
use Rattle.meaning.specs.Accepted.{Accepted, OldForm, file_header, body_line}
use Rattle.file_meaning.specs.Converter.{byte_of}
use Rattle.meaning.specs.Inside.{Inside}
use Rattle.basics.proofs.Lists.{list_of_get, pad_list_of_get}
use Rattle.meaning.proofs.Columns.{line_length, well_formed_holds, old_line}
use Rattle.basics.proofs.Holds.{holds_part}
use Rattle.meaning.proofs.Places.{by_place, written_plain, written_element, written_train, OfTrain, most_four}
use Rattle.meaning.proofs.Accepted.{accepted_exactly}
use Rattle.meaning.proofs.AcceptedSituation.{train_lines, train_of_line, accepted_counts}
use Rattle.file_meaning.proofs.Values.{train_line_kind}
use Rattle.file_meaning.proofs.Letters.{first_byte}
use Rattle.c_layout.specs.declared.FlatRefusal.{FlatRefusal}
use Rattle.c_layout.specs.declared.FlatSituation.{FlatSituation}
use Rattle.c_layout.specs.declared.FlatReading.{FlatReading}
use Rattle.c_layout.specs.declared.FlatVerdict.{FlatVerdict}
use Rattle.c_layout.specs.declared.FlatReply.{FlatReply}
use Rattle.c_layout.specs.declared.FlatOutput.{FlatOutput}
use Rattle.c_layout.specs.Flat as flat
use Rattle.c_layout.specs.Flat.{flat_refusal, flat_letter, flat_situation, flat_reading, train_at}
use Rattle.c_layout.proofs.Four.{four_part}
use Rattle.demands.specs.Words.{situation, Setting}
use Rattle.demands.specs.Reach.{SafeSetting}
use Rattle.demands.specs.Demand2.{Demand2Read}
use Rattle.demands.specs.OfVerdict.{VerdictStatement, Item2Verdict}
use Rattle.demands.specs.OfSettings.{SettingsStatement, Item2Settings}
use Rattle.demands.specs.Item02.{Item2Read, Item2Write}
use Rattle.demands.specs.Laws.{Numbered, line_of, size_at, HasNoLine, sections_at, train_bytes, LongTrains, TLines}
use Rattle.demands.proofs.Reach.{one_train}
use Rattle.demands.specs.Demand1.{requested, refused, LineCause, WriteCause, Written, Demand1Write, fails, holds}
use Rattle.demands.proofs.Words.{of_lines}
use Rattle.demands.proofs.Counting.{how_many_same}
use Rattle.demands.proofs.Lines.{cause_number}
use Rattle.demands.proofs.Demand1.{demand_1_write, none_refused}

-- ---- one train
pub item_2_verdict : (file first second first' second' : List ℕ) (r : FlatVerdict) → VerdictStatement file first second first' second' r → Item2Verdict file r
item_2_verdict file first second first' second' r d few = grind (arith, one_train (situation file) (file_states (situation file)) few)

pub item_2_settings : (file buffer buffer' : List ℕ) (r : FlatReply) → SettingsStatement file buffer buffer' r → Item2Settings file r
item_2_settings file buffer buffer' r (refused n c u) e few = absurd (omega (arith, n, ap (λ (q : FlatRefusal). q.number) e))
item_2_settings file buffer buffer' r (requested z w) e few =
    let s = situation file in
    how_many_same (SafeSetting s) (Setting s) r.safe (λ σ. (λ h. h.0, λ h. (h, one_train s σ few))) w.2.number

-- ---- the reader
-- The bytes of a T line are those of its sections.
train_text : (k a b c d : ℕ) → 4 ≤ k → k ≤ 7
    → let l : Line = record { kind = k; first = a; second = b; third = c; fourth = d } in
    line_text l ≡ train_bytes (having section_field l)
unfolding line_text having record_kind_at field_text
train_text k a b c d = grind arith

-- What holds of each train by its place holds of each by its number.
by_number : (m : ℕ) (P : ℕ → Type 0) → ((j : ℕ) → j < m → P (suc j)) → (t : ℕ) → (1 ≤ t) × (t ≤ m) → P t
by_number m P f zero n = absurd (omega arith)
by_number m P f (suc j) n = f j n.1

numbers : (l : List ℕ) → map (λ (a : Section). a.0) (map section l) ≡ l
numbers [] = refl
numbers (x ∷ l) = ap (λ (r : List ℕ). x ∷ r) (numbers l)

counted-length : (t : Train) → t.count ≤ 4 → length (map (λ (a : Section). a.0) (sections_of_train t)) ≡ t.count
unfolding sections_of_train
counted-length t few = simp length-map (length-take-le t.count (t.first ∷ t.second ∷ t.third ∷ t.fourth ∷ []) few)

size_of : (ts : List Train) (j : ℕ) → get_or (map (λ (t : Train). t.count) ts) j 0 ≡ (get_or ts j no_train).count
size_of [] j = refl
size_of (t ∷ ts) zero = refl
size_of (t ∷ ts) (suc j) = size_of ts j

module _ (file : List ℕ) (a : Accepted file) where
  abbrev h : Header
  h = file_header file

  -- Train j, from 0, its line, and where that stands.
  abbrev row : ℕ → ℕ
  row j = 1 + h.plain + h.elements + j

  train_read : (j : ℕ) → j < h.trains → get_or (situation file).trains j no_train ≡ train_of (body_line file (row j))
  unfolding situation situation_of body_line
  train_read j l = pad_list_of_get 64 h.trains no_train no_train (λ i. train_of (file_line file h (1 + h.plain + h.elements + i))) j l

  of_row : (j : ℕ) → j < h.trains
      → OfTrain h.letter (body_line file (row j)).kind × (sections_of_train (train_of (body_line file (row j))) ≡ map section (having section_field (body_line file (row j))))
  of_row = train_of_line file ((accepted_exactly file).1 a)

  few : (j : ℕ) → j < h.trains → (train_of (body_line file (row j))).count ≤ 4
  few j l = omega (arith, (of_row j l).0.1, most_four h.letter)

  trains_64 : length (situation file).trains ≡ 64
  trains_64 = of_lines file a (λ (s : Situation). length s.trains ≡ 64) (accepted_counts file ((accepted_exactly file).1 a)).trains_length

  -- The sections of the flat situation are those of the line.
  sections_had : (j : ℕ) → j < h.trains → sections_at (flat_situation (situation file)) (suc j) ≡ having section_field (body_line file (row j))
  unfolding flat_situation
  sections_had j l =
      let e : suc j - 1 ≡ j = omega arith in
      let t = train_read j l in
      rw e
      (four_part (situation file).trains j (omega (arith, trains_64, a.limits.trains)) (rw t (few j l))
      ∙ ap (λ (t : Train). map (λ (a : Section). a.0) (sections_of_train t)) t
      ∙ ap (map (λ (a : Section). a.0)) (of_row j l).1
      ∙ numbers (having section_field (body_line file (row j))))

  sections_length : (j : ℕ) → j < h.trains → length (sections_at (flat_situation (situation file)) (suc j)) ≡ (body_line file (row j)).kind - 3
  sections_length j l =
      let t : Train = train_of (body_line file (row j)) in
      ap length (sections_had j l ∙ sym (numbers (having section_field (body_line file (row j)))) ∙ ap (map (λ (a : Section). a.0)) (sym (of_row j l).1))
      ∙ counted-length t (few j l)

  stands_had : (j : ℕ) → j < h.trains → standing (situation file) (suc j) ≡ having section_field (body_line file (row j))
  unfolding standing situation body_line
  stands_had j l =
      let lines : ℕ → Line = file_line file h in
      rw (train_lines h lines, list_of_get h.trains (λ i. train_of (lines (1 + h.plain + h.elements + i))) no_train j l, (of_row j l).1)
      (numbers (having section_field (body_line file (row j))))

  line_had : OldForm file → (j : ℕ) → j < h.trains → take 22 (drop (row j * 22) file) ≡ train_bytes (having section_field (body_line file (row j)))
  unfolding body_line file_line_in
  line_had o j l =
      let i = row j in
      let k = kind_at file h i in
      let formed = o.form i (omega arith, omega arith) in
      let same : line_at padded file i k ≡ line_at old file i k = (old_line padded file i k formed).1 in
      let b : Line = line_at old file i k in
      let w = rw same at (of_row j l).0 in
      let held = well_formed_holds file i k formed in
      rw same
      (rw (line_length b) at (holds_part file (i * 22) (line_text b) held (omega (arith, line_length b, a.size.1, a.lines)))
      ∙ train_text b.kind b.first b.second b.third b.fourth w.0 (omega (arith, w.1, most_four h.letter)))

  abbrev v : FlatSituation
  v = flat_situation (situation file)

  size_had : (j : ℕ) → j < h.trains → size_at v (suc j) ≡ (body_line file (row j)).kind - 3
  unfolding flat_situation
  size_had j l =
      let e : suc j - 1 ≡ j = omega arith in
      rw e (size_of (situation file).trains j ∙ ap (λ (t : Train). t.count) (train_read j l))

  one : (x : Letter) → flat_letter x ≡ 0 → {k : ℕ} → OfTrain x k → k - 3 ≡ 1
  one letter.S e w = omega arith
  one letter.U e w = absurd (omega arith)

  long_trains : LongTrains file v
  unfolding situation situation_of flat_situation
  long_trains = record {
    one_to_four = by_number h.trains (λ t. (1 ≤ length (sections_at v t)) × (length (sections_at v t) ≤ 4))
        (λ j l.
        let w = (of_row j l).0 in
        rw (sections_length j l) (omega arith, omega (arith, w.1, most_four h.letter)));
    different = by_number h.trains (λ t. Once (sections_at v t))
        (λ j l. rw (sections_had j l) (a.different (row j) (omega arith, omega arith)));
    line = λ o. by_number h.trains (λ t. take 22 (drop ((line_of v t - 1) * 22) file) ≡ train_bytes (sections_at v t))
        (λ j l.
        let e : 1 + h.plain + h.elements + suc j - 1 ≡ row j = omega arith in
        rw (e, sections_had j l) (line_had o j l));
    stands = by_number h.trains (λ t. standing (situation file) t ≡ sections_at v t) (λ j l. stands_had j l ∙ sym (sections_had j l));
    one_under_s = λ z. by_number h.trains (λ t. size_at v t ≡ 1) (λ j l. size_had j l ∙ one h.letter z (of_row j l).0);
  }

  read_so : (r : FlatReading) → r.situation ≡ v → ((get_or file 0 0 ≡ 83) × (r.situation.is_long ≡ 0)) ⊎ ((get_or file 0 0 ≡ 85) × (r.situation.is_long ≡ 1))
  unfolding situation situation_of flat_situation
  read_so r e = rw e (letters h.letter (first_byte file a))
    where
      letters : (x : Letter) → get_or file 0 0 ≡ byte_of x → ((get_or file 0 0 ≡ 83) × (flat_letter x ≡ 0)) ⊎ ((get_or file 0 0 ≡ 85) × (flat_letter x ≡ 1))
      letters letter.S e = inl (e, refl)
      letters letter.U e = inr (e, refl)

pub t_lines : TLines
t_lines file a = long_trains file a

pub item_2_read : (file : List ℕ) (r : FlatReading) → Demand2Read file r → Item2Read file r
item_2_read file r d a = read_so file a r (d.values a)

-- ---- the writer
-- A train has no line exactly where its size is none that the letter has.
no_line : (x : Letter) (t : Train) → (Inside (most_under x) t.count → ⊥) → (line_of_train x t).kind ≡ no_kind
no_line x t out = grind arith

has_line : (x : Letter) (t : Train) → (line_of_train x t).kind ≡ no_kind → Inside (most_under x) t.count → ⊥
has_line x t e w = omega (arith, e, (train_line_kind x t w).1, most_four x)

module _ (values : FlatSituation) (buffer buffer' : List ℕ) (r : FlatOutput)
    (answer : r ≡ flat.flat_output (writing_answer (flat.situation_from_c values) (length buffer))) (left : buffer' ≡ after_writing (flat.situation_from_c values) buffer) where
  abbrev s : Situation
  s = flat.situation_from_c values

  abbrev x : Letter
  x = flat.letter_from_c values.is_long

  train : (j : ℕ) → j < 64 → get_or s.trains j no_train ≡ train_at values j
  unfolding flat.situation_from_c flat.trains_from_c
  train j l = list_of_get 64 (train_at values) no_train j l

  -- The sizes that the letter has.
  outside : (n : ℕ) → (Inside (most_under x) n → ⊥) → (n ≡ 0) ⊎ ((4 < n) ⊎ ((values.is_long ≡ 0) × (1 < n)))
  outside n out = grind arith

  inside : (n : ℕ) → (n ≡ 0) ⊎ ((4 < n) ⊎ ((values.is_long ≡ 0) × (1 < n))) → Inside (most_under x) n → ⊥
  inside n h h2 = grind arith

  -- The line of train j + 1.
  abbrev place : ℕ → ℕ
  place j = 1 + s.header.plain + s.header.elements + j

  bad_line : (j : ℕ) → j < 64 → j < values.trains → HasNoLine values (suc j) → (written_line s (place j)).kind ≡ no_kind
  unfolding flat.situation_from_c
  bad_line j l m bad =
      let e : suc j - 1 ≡ j = omega arith in
      let n : HasNoLine values (suc j) = bad in
      ap (λ (l : Line). l.kind) (written_train s j m) ∙ rw (train j l) (no_line x (train_at values j) (inside (train_at values j).count (rw e at n)))

  formed_kind : (k : Kind) (y : ℕ) → (line_of_kind k y).kind ≡ no_kind → ⊥
  formed_kind k y h = grind arith

  -- A line that is not of the form is that of such a train.
  abbrev Bad : ℕ → Type 0
  Bad i = (written_line s i).kind ≡ no_kind → (t : ℕ) × Numbered values t × (i + 1 ≡ line_of values t) × HasNoLine values t

  bad_train : values.trains ≤ 64 → (i : ℕ) → 1 ≤ i → i < line_count s.header → Bad i
  unfolding flat.situation_from_c
  bad_train few =
      by_place s.header Bad
      (λ j l e. absurd (omega (arith, sym (ap (λ (l : Line). l.kind) (written_plain s j l)) ∙ e)))
      (λ j l e.
      let y : Element = get_or s.elements j no_element in
      absurd (formed_kind y.kind y.state (sym (ap (λ (l : Line). l.kind) (written_element s j l)) ∙ e)))
      (λ j l e.
      let p : suc j - 1 ≡ j = omega arith in
      let k : (line_of_train x (train_at values j)).kind ≡ no_kind =
      rw (train j (omega arith)) at (sym (ap (λ (l : Line). l.kind) (written_train s j l)) ∙ e) in
      (suc j, (omega arith, omega arith), omega arith, rw p (outside (train_at values j).count (has_line x (train_at values j) k))))

  same_header : (w : Written s buffer buffer' r) → file_header w.text ≡ s.header
  unfolding situation situation_of up_to_counts
  same_header w = ap (λ (y : Situation). y.header) w.same

  letter_written : r.refusal.number ≡ 0 → Demand1Write values buffer buffer' r → get_or buffer' 0 0 ≡ cond (eqb values.is_long 0) 83 85
  unfolding flat.situation_from_c
  letter_written h h2 = grind (arith, first_byte, get_or-append, same_header)

  only_such : r.refusal.number ≡ 2 → Demand1Write values buffer buffer' r → (t : ℕ) × Numbered values t × (r.refusal.line ≡ line_of values t) × HasNoLine values t
  unfolding flat.situation_from_c
  only_such h h2 = grind (arith, bad_train)

  never : (j : ℕ) → suc j ≤ values.trains → HasNoLine values (suc j) → r.refusal.number ≡ 0 → Demand1Write values buffer buffer' r → ⊥
  unfolding flat.situation_from_c
  never j l bad z (requested e w) =
      let few : s.header.trains ≤ 64 = rw (same_header w) at w.accepted.limits.trains in
      let k : ℕ = values.plain + values.elements + j in
      let p : place j ≡ suc k = omega arith in
      none_refused values buffer buffer' r answer left z k 2 (omega arith) (fails (λ not. not (rw p at (bad_line j (omega arith) (omega arith) bad))) refl)
  never j l bad z (refused n c u) = omega arith

  two_first : (j : ℕ) → suc j ≤ values.trains → HasNoLine values (suc j) → r.refusal.line ≡ line_of values (suc j) → Demand1Write values buffer buffer' r
      → r.refusal.number ≡ 2
  unfolding flat.situation_from_c
  two_first j l bad e (requested z w) = absurd (omega (arith, sym (ap (λ (y : FlatRefusal). y.line) z) ∙ e))
  two_first j l bad e (refused n (fails y is) u) = absurd (omega (arith, is.1, e))
  two_first j l bad e (refused n (holds y (holds c (o, is))) u) = absurd (omega (arith, is.1, e))
  two_first j l bad e (refused n (holds y (fails c f)) u) =
      let i : ℕ = suc f.0 in
      let p : place j ≡ i = omega arith in
      (cause_number s.header.sections _ (written_line s i) r.refusal.number f.3).2.0 (rw p at (bad_line j (omega arith) (omega arith) bad))

  pub two_for_such : Demand1Write values buffer buffer' r
      → (r.refusal.number ≡ 2 → (t : ℕ) × Numbered values t × (r.refusal.line ≡ line_of values t) × HasNoLine values t)
      × ((t : ℕ) → Numbered values t → HasNoLine values t → (r.refusal.number ≡ 0 → ⊥) × (r.refusal.line ≡ line_of values t → r.refusal.number ≡ 2))
  two_for_such met = (
    λ z. only_such z met,
    by_number values.trains (λ t. HasNoLine values t → (r.refusal.number ≡ 0 → ⊥) × (r.refusal.line ≡ line_of values t → r.refusal.number ≡ 2))
        (λ j l bad. (λ z. never j l bad z met, λ e. two_first j l bad e met)),
  )

  pub item_2_write : Item2Write values buffer buffer' r.refusal
  item_2_write z = letter_written z (demand_1_write values buffer buffer' r answer left)
