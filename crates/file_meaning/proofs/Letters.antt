-- The letter of a file. Where the converter does not refuse an accepted file, the file with the wanted letter in front is accepted, and read as
-- the same situation under that letter (`converted_reading`): a T line of one section is of one kind under both letters (`single_kind`), and a
-- file that has the wanted letter stays as it is (`letter_stays`). An S file has no train of more than one section (`none_long`).
use mathlib.Core.Path.{◌≡◌, refl, sym, ap, subst, ◌∙◌}
use mathlib.Core.Bool.{Bool, true, false, ◌&&◌, cond}
use mathlib.Core.List.{List, [], ◌∷◌, map}
use Prim.Native.Nat.{ℕ, zero, suc, ◌+◌, ◌*◌, ◌-◌, ◌≤◌, ◌<◌}
use native.Mathlib.Omega.{arith}
use lib.Dec.{eqb, ltb}
use lib.ListN.{length, get_or, take, set, length-set}
use lib.Seq.{get_or-set_same, get_or-set_other}
use borrow.Author.Tests.{ltb-false, lt-ltb}
use Rattle.meaning.specs.declared.Letter.{Letter}
use Rattle.meaning.specs.declared.Letter.TheVariants as letter
use Rattle.meaning.specs.declared.Header.{Header}
use Rattle.meaning.specs.declared.Section.{Section}
use Rattle.meaning.specs.declared.Train.{Train}
use Rattle.meaning.specs.declared.Situation.{Situation}
use Rattle.meaning.specs.declared.Refusal.{Refusal}
use Rattle.meaning.specs.File.{Reading}
use Rattle.meaning.specs.Station.{no_train, trains_of, sections_of_train, standing}
use Rattle.meaning.specs.Columns.{padded, fits, field_in, record_kind_at, well_formed, line_at}
use Rattle.meaning.specs.File.{train_of, refusal, line_count, refusal_of, situation_of}
use Rattle.meaning.specs.File.{first_kind_of, letter_of, train_kind, kind_at, file_line_in, file_line, kind_of_letter, reading}
use Rattle.meaning.specs.Accepted.{file_header, InBody, Accepted}
use Rattle.file_meaning.specs.Converter.{byte_of, with_letter, first_long, long_refusal}
use Rattle.file_meaning.proofs.UnderLetter.{header_under, situation_under}
use Rattle.basics.proofs.Numbers.{lowest_none, none_lowest}
use Rattle.basics.proofs.Lists.{list_of_get}
use Rattle.meaning.proofs.Columns.{field_same, line_same, line_kind, line_formed}
use Rattle.meaning.proofs.FirstRefusal.{refusal_ext}
use Rattle.file_meaning.proofs.OldForm.{situation_ext}
use Rattle.meaning.proofs.Places.{by_place, kind_plain, kind_element, kind_train, first_known, train_kind_of, train_kind_within, train_kind_same}
use Rattle.meaning.proofs.Accepted.{Passed, passed_exactly, accepted_exactly, accepted_situation}
use Rattle.meaning.proofs.AcceptedSituation.{train_lines, accepted_single}

-- The form of the first line, but for its letter.
abbrev rest : List ℕ → Bool
rest h =
    eqb (get_or h 21 0) 10
    && (fits true (field_in padded h 0 0) && (fits true (field_in padded h 0 1) && (fits true (field_in padded h 0 2) && fits true (field_in padded h 0 3))))

-- ---- two files that agree past the first byte
module _ (f g : List ℕ) (same : (i : ℕ) → 1 ≤ i → get_or g i 0 ≡ get_or f i 0) where
  -- Field j of line i is the same in both files, after the first line.
  cell_same : (i j : ℕ) → field_in padded g i j ≡ field_in padded f i j
  cell_same i j = grind (arith, field_same)

  -- A line after the first is the same in both files.
  line_below : (i k : ℕ) → 1 ≤ i → line_at padded g i k ≡ line_at padded f i k
  line_below i k low = line_same padded g f i k (λ t l. same (i * 22 + t) (omega arith))

  kind_below : (x : Letter) (i : ℕ) → 1 ≤ i → train_kind x g i ≡ train_kind x f i
  kind_below x i low = train_kind_same x g f i (λ t l. same (i * 22 + t) (omega arith))

  -- ---- the first line
  rest_of : (u : Bool) → well_formed padded f 0 (cond u 8 0) ≡ true → rest f ≡ true
  unfolding well_formed record_kind_at
  rest_of u h = grind arith

  rest_same : rest g ≡ rest f
  rest_same = rw (same 21 (omega arith), cell_same 0 0, cell_same 0 1, cell_same 0 2, cell_same 0 3)

  module _ (x : Letter) (head : get_or g 0 0 ≡ byte_of x) (formed-f : well_formed padded f 0 (first_kind_of f) ≡ true) where
    first_kind : first_kind_of g ≡ kind_of_letter x
    first_kind = grind arith

    first_formed : well_formed padded g 0 (first_kind_of g) ≡ true
    unfolding well_formed record_kind_at
    first_formed = grind (arith, rest_of, rest_same)

    -- The first line has the same numbers in both files.
    header_same : file_header g ≡ header_under x (file_header f)
    unfolding file_header line_at
    header_same =
        let l : letter_of (first_kind_of g) ≡ x = ap letter_of first_kind ∙ go x in
        rw (first_formed, formed-f, l, cell_same 0 0, cell_same 0 1, cell_same 0 2, cell_same 0 3)
      where
        go : (x : Letter) → letter_of (kind_of_letter x) ≡ x
        go letter.S = refl
        go letter.U = refl

-- ---- the lines below the first
-- A T line of one section is of kind 4 under both letters.
single_kind : (x : Letter) (file : List ℕ) (i : ℕ) → well_formed padded file i 4 ≡ true → train_kind x file i ≡ 4
single_kind x file i h = grind (arith, train_kind_of)

-- Each T line of a file has one section.
abbrev Singles : List ℕ → Type 0
Singles file =
    (j : ℕ) → j < (file_header file).trains → well_formed padded file (1 + (file_header file).plain + (file_header file).elements + j) 4 ≡ true

module _ (f g : List ℕ) (same : (i : ℕ) → 1 ≤ i → get_or g i 0 ≡ get_or f i 0) (x : Letter) (singles : Singles f) where
  abbrev h : Header
  h = file_header f

  -- A line is read alike under both letters.
  body_same : (i : ℕ) → 1 ≤ i → i < line_count h → file_line g (header_under x h) i ≡ file_line f h i
  unfolding file_line_in
  body_same =
      by_place h (λ i. file_line g (header_under x h) i ≡ file_line f h i)
      (λ j l. of_kind (1 + j) (kind_plain g (header_under x h) j l ∙ sym (kind_plain f h j l)) (omega arith))
      (λ j l.
      let i = 1 + h.plain + j in
      of_kind i
      (kind_element g (header_under x h) j l
      ∙ ap (λ (b : ℕ). cond (eqb b 76) 2 3) (same (i * 22) (omega arith))
      ∙ sym (kind_element f h j l))
      (omega arith))
      (λ j l.
      let i = 1 + h.plain + h.elements + j in
      of_kind i
      (kind_train g (header_under x h) j
      ∙ kind_below f g same x i (omega arith)
      ∙ single_kind x f i (singles j l)
      ∙ sym (single_kind h.letter f i (singles j l))
      ∙ sym (kind_train f h j))
      (omega arith))
    where
      of_kind : (i : ℕ) → kind_at g (header_under x h) i ≡ kind_at f h i → 1 ≤ i → line_at padded g i (kind_at g (header_under x h) i) ≡ line_at padded f i (kind_at f h i)
      of_kind i e low = ap (line_at padded g i) e ∙ line_below f g same i (kind_at f h i) low

  -- The causes of refusal are the same under both letters, and so are the values.
  refusal_same : refusal_of (header_under x h) (file_line g (header_under x h)) ≡ refusal_of h (file_line f h)
  unfolding refusal_of
  refusal_same = refusal_ext h (file_line g (header_under x h)) (file_line f h) body_same

  values_same : situation_of (header_under x h) (file_line g (header_under x h)) ≡ situation_under x (situation_of h (file_line f h))
  unfolding situation_of
  values_same = situation_ext (header_under x h) (file_line g (header_under x h)) (file_line f h) body_same

  -- The file under the other letter is accepted.
  passed_same : length g ≡ length f → get_or g 0 0 ≡ byte_of x → well_formed padded f 0 (first_kind_of f) ≡ true → Passed f → Passed g
  passed_same n head formed-f p =
      let e = header_same f g same x head formed-f in
      record {
        size = rw n p.size;
        first = (line_formed padded g 0 (first_kind_of g) (first_known g)).1 (first_formed f g same x head formed-f);
        ranges = rw e p.ranges;
        count = rw (n, e) p.count;
        body = rw e (ap (λ (q : Refusal). q.number) refusal_same ∙ p.body);
      }

-- ---- an accepted file
-- An accepted file begins with the letter of its header.
pub first_byte : (file : List ℕ) → Accepted file → get_or file 0 0 ≡ byte_of (file_header file).letter
unfolding file_header well_formed record_kind_at
first_byte file a = grind (arith, line_kind)

-- A train stands over more than one section where its count says so.
pub long-count : (s : Situation) (j : ℕ) → ltb 1 (length (standing s (suc j))) ≡ ltb 1 (get_or (trains_of s) j no_train).count
unfolding standing sections_of_train
long-count s j = let t = get_or (trains_of s) j no_train in go t.count t.first t.second t.third t.fourth
  where
    go : (n : ℕ) (a b c d : Section) → ltb 1 (length (map (λ (e : Section). e.0) (take n (a ∷ b ∷ c ∷ d ∷ [])))) ≡ ltb 1 n
    go zero a b c d = refl
    go (suc zero) a b c d = refl
    go (suc (suc n)) a b c d =
        let more : length (map (λ (e : Section). e.0) (take (suc (suc n)) (a ∷ b ∷ c ∷ d ∷ [])))
        ≡ suc (suc (length (map (λ (e : Section). e.0) (take n (c ∷ d ∷ []))))) = refl in
        lt-ltb 1 (length (map (λ (e : Section). e.0) (take (suc (suc n)) (a ∷ b ∷ c ∷ d ∷ [])))) (omega arith)
        ∙ sym (lt-ltb 1 (suc (suc n)) (omega arith))

module _ (file : List ℕ) (accepted : (reading file).refusal.number ≡ 0) where
  abbrev s : Situation
  s = (reading file).situation

  causes : Accepted file
  causes = (accepted_exactly file).0 accepted

  -- What is read is what the lines give.
  is_read : s ≡ situation_of (file_header file) (file_line file (file_header file))
  is_read = ap (λ (r : Reading). r.situation) (accepted_situation file accepted)

  -- The first letter is the situation's.
  pub first_letter : get_or file 0 0 ≡ byte_of s.header.letter
  unfolding situation_of
  first_letter = first_byte file causes ∙ ap (λ (t : Situation). byte_of t.header.letter) (sym is_read)

  -- A train of an S file stands in one section.
  pub none_long : s.header.letter ≡ letter.S → first_long s ≡ 0
  unfolding first_long
  none_long e = none_lowest s.header.trains (λ t. ltb 1 (length (standing s t))) none
    where
      none : (t : ℕ) → 1 ≤ t → t ≤ s.header.trains → ltb 1 (length (standing s t)) ≡ false
      none zero low high = absurd (omega arith)
      none (suc j) low high = ap (ltb 1) (accepted_single file accepted e j (omega arith))

  -- Where no train stands over more than one section, each T line has one.
  singles : first_long s ≡ 0 → Singles file
  unfolding first_long file_line_in situation_of
  singles none j l =
      let h = file_header file in
      let i = 1 + h.plain + h.elements + j in
      let lines = file_line file h in
      let b : InBody file i = (omega arith, omega arith) in
      let k = kind_at file h i in
      let within = train_kind_within h.letter file i in
      let kind : k ≡ train_kind h.letter file i = kind_train file h j in
      let trains : h.trains ≡ s.header.trains = ap (λ (t : Situation). t.header.trains) (sym is_read) in
      let train : get_or (trains_of s) j no_train ≡ train_of (lines i) =
      ap (λ (t : Situation). get_or (trains_of t) j no_train) is_read
      ∙ ap (λ (ts : List Train). get_or ts j no_train) (train_lines h lines)
      ∙ list_of_get h.trains (λ i. train_of (lines (1 + h.plain + h.elements + i))) no_train j l in
      let count : (get_or (trains_of s) j no_train).count ≡ k - 3 =
      ap (λ (t : Train). t.count) train ∙ ap (λ (n : ℕ). n - 3) (line_kind padded file i k (causes.form i b)) in
      let few : ltb 1 (k - 3) ≡ false =
      ap (ltb 1) (sym count) ∙ sym (long-count s j)
      ∙ lowest_none s.header.trains (λ t. ltb 1 (length (standing s t))) none (suc j) (omega arith) (omega arith) in
      let four : k ≡ 4 = omega (arith, ltb-false 1 (k - 3) few, within, kind) in
      subst (λ (n : ℕ). well_formed padded file i n ≡ true) four (causes.form i b)

  -- With another letter in front the file is accepted, and read as the same situation under that letter.
  letter_reading : (x : Letter) → first_long s ≡ 0 → reading (with_letter x file) ≡ record { refusal = refusal 0 0; situation = situation_under x s }
  unfolding with_letter
  letter_reading x none =
      let g = set file 0 (byte_of x) in
      let same : (i : ℕ) → 1 ≤ i → get_or g i 0 ≡ get_or file i 0 = λ i low. get_or-set_other file 0 i (byte_of x) 0 (λ e. omega arith) in
      let head : get_or g 0 0 ≡ byte_of x = get_or-set_same file 0 (byte_of x) 0 (omega (arith, causes.size.0)) in
      let p = passed_same file g same x (singles none) (length-set file 0 (byte_of x)) head causes.first_form ((passed_exactly file).0 accepted) in
      let reads : Situation → Reading = λ t. record { refusal = refusal 0 0; situation = t } in
      accepted_situation g ((passed_exactly g).1 p)
      ∙ ap (λ (h : Header). reads (situation_of h (file_line g h))) (header_same file g same x head causes.first_form)
      ∙ ap reads (values_same file g same x (singles none) ∙ ap (situation_under x) (sym is_read))

-- ---- the bytes
-- A file that has the wanted letter stays as it is.
pub letter_stays : (x : Letter) (file : List ℕ) → get_or file 0 0 ≡ byte_of x → with_letter x file ≡ file
unfolding with_letter
letter_stays x [] e = refl
letter_stays x (b ∷ file) e = ap (λ (c : ℕ). c ∷ file) (sym e)

-- ---- the converted file
-- Where the converter does not refuse a file, the file with the wanted letter in front is accepted, and read as the same situation under that letter.
pub converted_reading : (x : Letter) (file : List ℕ) → (reading file).refusal.number ≡ 0 → (long_refusal x (reading file).situation).number ≡ 0
    → reading (with_letter x file) ≡ record { refusal = refusal 0 0; situation = situation_under x (reading file).situation }
converted_reading x file accepted none = grind (arith, accepted_situation, first_letter, letter_reading, letter_stays, none_long)
