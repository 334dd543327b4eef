-- Why a file or a call is refused: `refused_file`, `called`.
use mathlib.Core.Path.{◌≡◌, refl, sym, ap, ◌∙◌}
use mathlib.Core.Bool.{Bool, true, false, not, ◌||◌, cond, false≢true}
use mathlib.Core.List.{List, [], ◌∷◌}
use Prim.Native.Nat.{ℕ, zero, suc, ◌-◌, ◌/◌, ◌%◌, ◌≤◌, ◌<◌}
use native.Mathlib.Omega.{arith}
use lib.Dec.{eqb, ltb}
use lib.ListN.{length, get_or, take}
use lib.Seq.{take_all}
use borrow.Author.Tests.{eqb-true, eqb-false}
use Rattle.meaning.specs.declared.Header.{Header}
use Rattle.meaning.specs.declared.Situation.{Situation}
use Rattle.meaning.specs.declared.Refusal.{Refusal}
use Rattle.meaning.specs.File.{Reading}
use Rattle.meaning.specs.Station.{file_states}
use Rattle.meaning.specs.Columns.{padded, well_formed, no_kind, line_at}
use Rattle.meaning.specs.File.{out_of_range, refusal, line_count, refusal_of, situation_of, first_kind_of, header_of, file_line, refused, reading_under_in, reading_in, reading}
use Rattle.meaning.specs.Settings.{open_count}
use Rattle.meaning.specs.Accepted.{Accepted, file_header, body_line}
use Rattle.meaning.specs.Operations.{open_element, element_line, call_refusal, first_of}
use Rattle.meaning.proofs.Accepted.{size_exactly, ranges, ranges_in, accepted_exactly, accepted_situation}
use Rattle.meaning.proofs.AcceptedSituation.{accepted_lengths}
use Rattle.meaning.proofs.Opens as opens
use Rattle.c_layout.specs.declared.FlatRefusal.{FlatRefusal}
use Rattle.c_layout.specs.Flat.{flat_refusal}
use Rattle.demands.specs.Words.{AtMostOpen}
use Rattle.demands.specs.Demand1.{fails, holds, Short, FileCause, OpenAt, CallCause}
use Rattle.demands.proofs.Words.{of_lines}
use Rattle.demands.proofs.Lines.{first_cause}

-- ---- a file
abbrev bad_size : List ℕ → Bool
bad_size file = eqb (length file) 0 || not (eqb (length file % 22) 0) || ltb 29590 (length file)

abbrev pub bad_range : Header → Bool
bad_range h = out_of_range h.sections h.plain h.elements h.trains

formed_test : (file : List ℕ) → eqb (line_at padded file 0 (first_kind_of file)).kind no_kind ≡ not (well_formed padded file 0 (first_kind_of file))
unfolding line_at
formed_test file = grind arith

file_cause : (file : List ℕ) → ((reading file).refusal.number ≡ 0 → ⊥) → FileCause file (flat_refusal (reading file).refusal)
unfolding reading_in reading_under_in refused refusal_of file_header body_line
file_cause file = rw (formed_test file)
    (go (bad_size file) (well_formed padded file 0 (first_kind_of file)) (bad_range h) (eqb (length file / 22) (line_count h)) (eqb q.number 0) refl refl refl refl refl)
  where
    h : Header
    h = header_of (line_at padded file 0 (first_kind_of file))

    q : Refusal
    q = refusal_of h (file_line file h)

    tests : Bool → Bool → Bool → Bool → Bool → Reading
    tests a b c d e =
        cond a (refused (refusal 1 0))
        (cond (not b) (refused (refusal 2 1))
        (cond c (refused (refusal 3 1)) (cond (not d) (refused (refusal 4 1)) (cond e (record { refusal = q; situation = situation_of h (file_line file h) }) (refused q)))))

    go : (a b c d e : Bool) → bad_size file ≡ a → well_formed padded file 0 (first_kind_of file) ≡ b → bad_range h ≡ c → eqb (length file / 22) (line_count h) ≡ d
        → eqb q.number 0 ≡ e → ((tests a b c d e).refusal.number ≡ 0 → ⊥) → FileCause file (flat_refusal (tests a b c d e).refusal)
    go true b c d e e₁ e₂ e₃ e₄ e₅ z =
        fails (λ w. false≢true (sym ((size_exactly (length file)).1 w) ∙ e₁)) (refl, refl)
    go false false c d e e₁ e₂ e₃ e₄ e₅ z = holds ((size_exactly (length file)).0 e₁) (fails (λ w. false≢true (sym e₂ ∙ w)) (refl, refl))
    go false true true d e e₁ e₂ e₃ e₄ e₅ z =
        holds ((size_exactly (length file)).0 e₁) (holds e₂ (fails (λ w. false≢true (sym (ranges_in h w) ∙ e₃)) (refl, refl)))
    go false true false false e e₁ e₂ e₃ e₄ e₅ z =
        holds ((size_exactly (length file)).0 e₁) (holds e₂ (holds (ranges h e₃) (fails (eqb-false (length file / 22) (line_count h) e₄) (refl, refl))))
    go false true false true true e₁ e₂ e₃ e₄ e₅ z = absurd (z (eqb-true q.number 0 e₅))
    go false true false true false e₁ e₂ e₃ e₄ e₅ z =
        holds ((size_exactly (length file)).0 e₁) (holds e₂ (holds (ranges h e₃) (holds (eqb-true (length file / 22) (line_count h) e₄)
        (first_cause h.sections (file_line file h) (line_count h - 1) (eqb-false q.number 0 e₅)))))

-- A number from 1 to 11, and a line of the file or 0.
pub record Numbered (lines : ℕ) (q : Refusal) : Type 0 where
  pub number : (1 ≤ q.number) × (q.number ≤ 11)
  pub line : q.line ≤ lines

pub record RefusedFile (file : List ℕ) (q : Refusal) : Type 0 where
  pub not_accepted : Accepted file → ⊥
  pub cause : FileCause file (flat_refusal q)
  pub numbered : Numbered (length file / 22) q

pub refused_file : (file : List ℕ) → ((reading file).refusal.number ≡ 0 → ⊥) → RefusedFile file (reading file).refusal
refused_file file n = grind (arith, accepted_exactly, file_cause)

-- ---- a call
-- An open element counts.
pub opens_grow : (fs : List ℕ) (i j : ℕ) → i < j → i < length fs → get_or fs i 0 ≡ 0 → open_count (take i fs) < open_count (take j fs)
unfolding open_count
opens_grow [] i j l b h = omega arith
opens_grow (x ∷ fs) i zero l b h = omega arith
opens_grow (x ∷ fs) zero (suc j) l b h = grind arith
opens_grow (x ∷ fs) (suc i) (suc j) l b h = grind (arith, opens_grow fs i j)

-- What refuses a call, or nothing: with at most m open elements, and buffers that are too short where `short` is true.
pub data Called (file : List ℕ) (number m : ℕ) (TooShort : Type 0) (short : Bool) (q : Refusal) : Type 0 where
  passes : Accepted file → AtMostOpen m (reading file).situation → short ≡ false → q ≡ refusal 0 0 → Called file number m TooShort short q
  refuses : Numbered (length file / 22) q → CallCause file number m (Short TooShort) (flat_refusal q) → Called file number m TooShort short q

-- With another last cause.
pub call_with : (file : List ℕ) (number m : ℕ) (Last Other : FlatRefusal → Type 0) (q : FlatRefusal) → (Last q → Other q) → CallCause file number m Last q
    → CallCause file number m Other q
call_with file number m Last Other q f (fails n c) = fails n c
call_with file number m Last Other q f (holds a (fails n c)) = holds a (fails n c)
call_with file number m Last Other q f (holds a (holds l c)) = holds a (holds l (f c))

-- An accepted file has as many lines as its header says.
pub lines_read : (file : List ℕ) → Accepted file → line_count (reading file).situation.header ≡ length file / 22
unfolding situation_of
lines_read file a = ap (λ (r : Reading). line_count r.situation.header) (accepted_situation file ((accepted_exactly file).1 a)) ∙ sym a.lines

module _ (file : List ℕ) (number m : ℕ) (low : 1 ≤ number) (high : number ≤ 11) (TooShort : Type 0) (short : Bool) (is_short : Accepted file → short ≡ true → TooShort) where
  abbrev s : Situation
  s = (reading file).situation

  abbrev found_open : ℕ
  found_open = open_element (suc m) (file_states s)

  none_open : AtMostOpen m s → (found_open ≡ 0 → ⊥) → ⊥
  none_open f n =
      let w = opens.open_at (suc m) (file_states s) (omega arith) n in
      omega (
        arith,
        f,
        w.earlier,
        w.numbered,
        opens_grow (file_states s) (found_open - 1) (length (file_states s)) (omega (arith, w.numbered)) (omega (arith, w.numbered)) w.is_open,
        ap open_count (take_all (length (file_states s)) (file_states s) (omega arith)),
      )

  few : found_open ≡ 0 → AtMostOpen m s
  few e = omega (arith, opens.fewer_open (suc m) (file_states s) (omega arith) e)

  room : Accepted file → AtMostOpen m s → (b : Bool) → short ≡ b → Called file number m TooShort short (cond b (refusal 9 0) (refusal 0 0))
  room a f true h =
      refuses (record { number = omega arith; line = omega arith })
      (holds a (holds (of_lines file a (AtMostOpen m) f) (is_short a h, (refl, refl))))
  room a f false h = passes a f h refl

  at_open : Accepted file → (found_open ≡ 0 → ⊥) → Called file number m TooShort short (refusal number (element_line s found_open))
  at_open a n =
      let w = opens.open_at (suc m) (file_states s) (omega arith) n in
      let e : found_open ≤ s.header.elements = omega (arith, w.numbered, accepted_lengths file ((accepted_exactly file).1 a)) in
      let h = lines_read file a in
      let P : Situation → Type 0 = λ x. OpenAt x (suc m) found_open × (element_line s found_open ≡ element_line x found_open) in
      let p = of_lines file a P ((record { numbered = w.numbered; at_0 = w.is_open }, w.earlier), refl) in
      refuses (record { number = (low, high); line = omega arith })
      (holds a (fails (of_lines file a (λ (x : Situation). AtMostOpen m x → ⊥) (λ f. none_open f n)) (found_open, p.0, (refl, p.1))))

  open_first : Accepted file → (b : Bool) → eqb found_open 0 ≡ b
      → Called file number m TooShort short (cond b (cond short (refusal 9 0) (refusal 0 0)) (refusal number (element_line s found_open)))
  open_first a true z = room a (few (eqb-true found_open 0 z)) short refl
  open_first a false z = at_open a (eqb-false found_open 0 z)

  pub called : Called file number m TooShort short (first_of (reading file).refusal (call_refusal s number (suc m) short))
  unfolding call_refusal
  called = go (eqb (reading file).refusal.number 0) refl
    where
      go : (b : Bool) → eqb (reading file).refusal.number 0 ≡ b
          → Called file number m TooShort short (cond b (call_refusal s number (suc m) short) (reading file).refusal)
      go true z = open_first ((accepted_exactly file).0 (eqb-true (reading file).refusal.number 0 z)) (eqb found_open 0) refl
      go false z =
          let w = refused_file file (eqb-false (reading file).refusal.number 0 z) in
          refuses w.numbered (fails w.not_accepted w.cause)
