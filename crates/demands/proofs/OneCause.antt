-- A refusal's cause leaves no choice of its number and line: `first_of_one`, `file_cause_one`, `call_cause_one`, `write_cause_one`; and a call that
-- is answered has none: `no_call_cause`.
use mathlib.Core.Path.{◌≡◌, ◌∙◌, sym}
use mathlib.Core.List.{List, [], ◌∷◌}
use Prim.Native.Nat.{ℕ, zero, suc, ◌-◌, ◌<◌}
use native.Mathlib.Omega.{arith}
use lib.ListN.{length, get_or, take}
use lib.Seq.{take_all}
use Rattle.meaning.specs.declared.Line.{Line}
use Rattle.meaning.specs.declared.Situation.{Situation}
use Rattle.meaning.specs.Station.{file_states}
use Rattle.meaning.specs.File.{line_count, written_line, line_cause, cause_after}
use Rattle.meaning.specs.Settings.{open_count}
use Rattle.meaning.specs.Accepted.{Accepted, file_header, body_line}
use Rattle.meaning.proofs.Accepted.{accepted_exactly}
use Rattle.meaning.proofs.AcceptedSituation.{accepted_lengths}
use Rattle.c_layout.specs.declared.FlatRefusal.{FlatRefusal}
use Rattle.demands.specs.Words.{situation, AtMostOpen}
use Rattle.demands.specs.Demand1.{Answer, requested, refused, Unless, fails, holds, Is, Short, lines_to, NoneOf, FirstOf, HasCause, FileCause, OpenAt, CallCause, WriteCause}
use Rattle.demands.proofs.Words.{of_lines}
use Rattle.demands.proofs.Causes.{opens_grow}
use Rattle.demands.proofs.Lines.{NoCause, cause_is}

-- Of two orders of causes with the same conditions the same cause decides.
pub unless_one : {Holds Refused Refused' Later Later' P : Type 0} → (Refused → Refused' → P) → (Holds → Later → Later' → P) → Unless Holds Refused Later
    → Unless Holds Refused' Later' → P
unless_one r l (fails n a) (fails n' b) = r a b
unless_one r l (fails n a) (holds h b) = absurd (n h)
unless_one r l (holds h a) (fails n b) = absurd (n h)
unless_one r l (holds h a) (holds h' b) = l h a b

-- Where the condition holds, the later ones decide.
pub unless_none : {Holds Refused Later : Type 0} → Holds → (Later → ⊥) → Unless Holds Refused Later → ⊥
unless_none h l (fails n a) = n h
unless_none h l (holds h' a) = l a

pub is_one : {q q' : FlatRefusal} {number line : ℕ} → Is q number line → Is q' number line → q ≡ q'
is_one a b = grind arith

-- Of two answers both give what was requested, or both are refused.
pub answers_one : {q q' : FlatRefusal} {R R' C C' U U' P : Type 0} → (q ≡ q' → R → R' → P) → (R → C' → ⊥) → (R' → C → ⊥) → (C → C' → U → U' → P)
    → Answer q R C U → Answer q' R' C' U' → P
answers_one both l l' none (requested z r) (requested z' r') = both (z ∙ sym z') r r'
answers_one both l l' none (requested z r) (refused n c u) = absurd (l r c)
answers_one both l l' none (refused n c u) (requested z r) = absurd (l' r c)
answers_one both l l' none (refused n c u) (refused n' c' u') = none c c' u u'

-- ---- a line
-- Of two numbers neither of which is below the other.
pub neither_below : (m n : ℕ) → (m < n → ⊥) → (n < m → ⊥) → m ≡ n
neither_below m n a b = omega (arith, a, b)

-- Where each line has one cause, the first of them is one.
pub first_of_one : (Cause : ℕ → ℕ → Type 0) (m first : ℕ) (q q' : FlatRefusal) → ((i a b : ℕ) → Cause i a → Cause i b → a ≡ b)
    → FirstOf Cause m first q → FirstOf Cause m first q' → q ≡ q'
first_of_one Cause m first q q' one (i, l, before, here, line) (i', l', before', here', line') =
    let same : i ≡ i' = neither_below i i' (λ k. before' i q.number k here) (λ k. before i' q'.number k here') in
    let number : q.number ≡ q'.number = one i' q.number q'.number (rw same at here) here' in
    let place : q.line ≡ q'.line = omega (arith, same, line, line') in
    grind (arith, number, place)

-- No line has a cause, or there is a first one.
pub no_first : (Cause : ℕ → ℕ → Type 0) (m first : ℕ) (q : FlatRefusal) → NoneOf Cause m → FirstOf Cause m first q → ⊥
no_first Cause m first q none f = none f.0 q.number f.1 f.3

pub has_cause_one : (n : ℕ) (lines : ℕ → Line) (i a b : ℕ) → HasCause n lines i a → HasCause n lines i b → a ≡ b
has_cause_one n lines i a b c d =
    sym (cause_is n (lines_to lines i) (lines (suc i)) a c) ∙ cause_is n (lines_to lines i) (lines (suc i)) b d

-- ---- a file
pub file_cause_one : (file : List ℕ) (q q' : FlatRefusal) → FileCause file q → FileCause file q' → q ≡ q'
file_cause_one file q q' a b =
    grind (arith, first_of_one (HasCause (file_header file).sections (body_line file)) (line_count (file_header file) - 1) 2 q q' (has_cause_one (file_header file).sections (body_line file)))

-- ---- a call
module _ (file : List ℕ) (a : Accepted file) where
  abbrev s : Situation
  s = situation file

  abbrev fs : List ℕ
  fs = file_states s

  pub states_length : length fs ≡ s.header.elements
  states_length = of_lines file a (λ (x : Situation). length (file_states x) ≡ x.header.elements) (accepted_lengths file ((accepted_exactly file).1 a))

  -- The m-th open element is one.
  open_one : (m e d : ℕ) → OpenAt s m e → OpenAt s m d → e ≡ d
  open_one m e d o p = grind (arith, states_length, opens_grow fs (e - 1) (d - 1), opens_grow fs (d - 1) (e - 1))

  -- With at most m open elements there is no further one.
  none_more : (m e : ℕ) → AtMostOpen m s → OpenAt s (suc m) e → ⊥
  none_more m e few o = grind (arith, states_length, opens_grow fs (e - 1) (length fs), take_all (length fs) fs)

module _ (file : List ℕ) (number m : ℕ) (Last : FlatRefusal → Type 0) where
  pub call_cause_one : (q q' : FlatRefusal) → (Last q → Last q' → q ≡ q') → CallCause file number m Last q → CallCause file number m Last q' → q ≡ q'
  call_cause_one q q' last =
      unless_one (file_cause_one file q q')
      (λ a. unless_one (λ (e, o, is) (d, p, is'). is_one is (rw (open_one file a (suc m) e d o p) is')) (λ few. last))

  -- What is answered is not refused.
  pub no_call_cause : (q : FlatRefusal) → Accepted file → AtMostOpen m (situation file) → (Last q → ⊥) → CallCause file number m Last q → ⊥
  no_call_cause q a few none = unless_none a (unless_none few none)

-- A call whose last cause is 9 has one cause.
module _ (file : List ℕ) (number m : ℕ) (TooShort : Type 0) where
  pub short_cause_one : (q q' : FlatRefusal) → CallCause file number m (Short TooShort) q → CallCause file number m (Short TooShort) q' → q ≡ q'
  short_cause_one q q' = call_cause_one file number m (Short TooShort) q q' (λ a b. is_one a.1 b.1)

  pub no_short_cause : (q : FlatRefusal) → Accepted file → AtMostOpen m (situation file) → (TooShort → ⊥) → CallCause file number m (Short TooShort) q → ⊥
  no_short_cause q a few long = no_call_cause file number m (Short TooShort) q a few (λ w. long w.0)

-- ---- the writer
pub write_cause_one : (s : Situation) (room : ℕ) (q q' : FlatRefusal) → WriteCause s room q → WriteCause s room q' → q ≡ q'
write_cause_one s room q q' a b =
    let m : ℕ = line_count s.header - 1 in
    let Cause : ℕ → ℕ → Type 0 = HasCause s.header.sections (written_line s) in
    grind (arith, first_of_one Cause m 2 q q' (has_cause_one s.header.sections (written_line s)), no_first Cause m 2 q, no_first Cause m 2 q')
