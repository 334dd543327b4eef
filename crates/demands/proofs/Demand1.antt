-- Demand 1 holds of any operation with the contract that `judge_*` has: `demand_1_read`, `demand_1_verdict`, `demand_1_settings`,
-- `demand_1_write`.
use mathlib.Core.Path.{◌≡◌, refl, sym, ap, ◌∙◌}
use mathlib.Core.Logic.{◌⊎◌}
use mathlib.Core.Bool.{Bool, true, false, ◌||◌, false≢true}
use mathlib.Core.List.{List, ◌++◌}
use Prim.Native.Nat.{ℕ, ◌*◌, ◌-◌, ◌≤◌, ◌<◌}
use native.Mathlib.Omega.{arith}
use lib.Dec.{eqb, ltb}
use lib.ListN.{length, drop}
use borrow.Author.Tests.{eqb-true, eqb-false, ne_eqb, ltb-true, ltb-false}
use Rattle.std.specs.Prelude.{Result, Ok, Err}
use Rattle.meaning.specs.declared.Situation.{Situation}
use Rattle.meaning.specs.declared.Refusal.{Refusal}
use Rattle.meaning.specs.File.{Reading}
use Rattle.meaning.specs.declared.ShownVerdict.{ShownVerdict}
use Rattle.meaning.specs.Digits.{output_of}
use Rattle.meaning.specs.File.{refusal, line_count, refusal_of, reading, written_line, file_text, write_refusal, writing_answer, after_writing, up_to_counts}
use Rattle.meaning.specs.Accepted.{Accepted}
use Rattle.meaning.specs.Operations.{verdict_refusal, VerdictIs, settings_refusal, settings_answer, after_settings}
use Rattle.meaning.proofs.FirstRefusal.{no_refusal_none}
use Rattle.meaning.proofs.Accepted.{ranges, ranges_in, accepted_exactly, accepted_situation, refused-situation}
use Rattle.file_meaning.proofs.Text.{text_length}
use Rattle.file_meaning.proofs.RoundTrip.{write_then_read, written-old}
use Rattle.c_layout.specs.declared.FlatSituation.{FlatSituation}
use Rattle.c_layout.specs.declared.FlatReading.{FlatReading}
use Rattle.c_layout.specs.declared.FlatOutput.{FlatOutput}
use Rattle.c_layout.specs.declared.FlatVerdict.{FlatVerdict}
use Rattle.c_layout.specs.declared.FlatReply.{FlatReply}
use Rattle.c_layout.specs.Flat.{flat_refusal, flat_situation, flat_reading, situation_from_c, flat_verdict, flat_reply, flat_output}
use Rattle.c_layout.proofs.Back.{situation_whole}
use Rattle.demands.specs.Words.{situation, AtMostOpen}
use Rattle.demands.specs.Demand1.{requested, refused, fails, holds, Demand1Read, WriteCause, Demand1Write}
use Rattle.demands.specs.OfVerdict.{VerdictStatement}
use Rattle.demands.specs.OfSettings.{no_reply, SettingsStatement}
use Rattle.demands.proofs.Words.{of_lines, nothing}
use Rattle.demands.proofs.Causes.{Called, passes, refuses, called, refused_file, bad_range}
use Rattle.demands.proofs.Lines.{NoCause, cause_number, first_cause, no_causes}
use Rattle.demands.proofs.Demand2.{demand_2}
use Rattle.demands.proofs.Demand3.{demand_3}
use Rattle.demands.proofs.Verdicts.{no_verdict}

-- ---- the reader
pub demand_1_read : (file : List ℕ) (r : FlatReading) → r ≡ flat_reading (reading file) → Demand1Read file r
unfolding flat_reading
demand_1_read file r answer = go (eqb (reading file).refusal.number 0) refl
  where
    go : (b : Bool) → eqb (reading file).refusal.number 0 ≡ b → Demand1Read file r
    go true z =
        let e : (reading file).refusal.number ≡ 0 = eqb-true (reading file).refusal.number 0 z in
        let a = (accepted_exactly file).0 e in
        requested
        (rw answer (ap (λ (x : Reading). flat_refusal x.refusal) (accepted_situation file e)))
        (a, rw answer (of_lines file a (λ (s : Situation). flat_situation (reading file).situation ≡ flat_situation s) refl))
    go false z =
        let w = refused_file file (eqb-false (reading file).refusal.number 0 z) in
        refused (rw answer w.numbered.number.0) (rw answer (w.not_accepted, w.cause))
        (rw answer (ap flat_situation (refused-situation file (eqb-false (reading file).refusal.number 0 z))))

-- ---- the settings question
module _ (file buffer buffer' : List ℕ) (r : FlatReply) (answer : r ≡ flat_reply (settings_answer file (length buffer)))
    (left : buffer' ≡ after_settings file buffer) where
  abbrev room : ℕ
  room = (reading file).situation.header.elements

  abbrev Short : Situation → Type 0
  Short s = length buffer < s.header.elements

  pub demand_1_settings : SettingsStatement file buffer buffer' r
  unfolding settings_answer after_settings settings_refusal
  demand_1_settings =
      go
      (called file 11 12 (omega arith) (omega arith) (Short (situation file)) (ltb (length buffer) room)
      (λ a h. of_lines file a Short (ltb-true (length buffer) room h)))
    where
      go : Called file 11 12 (Short (situation file)) (ltb (length buffer) room) (settings_refusal file (length buffer))
          → SettingsStatement file buffer buffer' r
      go (passes a f h e) =
          let few = of_lines file a (AtMostOpen 12) f in
          let enough = of_lines file a (λ (s : Situation). s.header.elements ≤ length buffer) (ltb-false (length buffer) room h) in
          let reply = (demand_3 file buffer buffer' r answer left).met a few enough in
          requested reply.no_refusal_lem (a, few, reply, enough)
      go (refuses n c) =
          let no = ne_eqb (settings_refusal file (length buffer)).number 0 (λ z. omega arith) in
          let is : r ≡ no_reply (flat_refusal (settings_refusal file (length buffer))) = answer ∙ rw no in
          rw is (refused n.number.0 c (left ∙ rw no, refl))

-- ---- the verdict
module _ (first second : List ℕ) where
  abbrev pub TooShort : Situation → Type 0
  TooShort s = (length first < s.header.sections) ⊎ (length second < s.header.sections)

  abbrev pub LongEnough : Situation → Type 0
  LongEnough s = (s.header.sections ≤ length first) × (s.header.sections ≤ length second)

module _ (file first second : List ℕ) where
  abbrev sections : ℕ
  sections = (reading file).situation.header.sections

  pub short : Bool
  short = ltb (length first) sections || ltb (length second) sections

  is_short : short ≡ true → TooShort first second (reading file).situation
  unfolding short
  is_short h = grind arith

  -- What refuses the question, or nothing.
  pub verdict_called : Called file 10 0 (TooShort first second (situation file)) short (verdict_refusal file (length first) (length second))
  unfolding verdict_refusal short
  verdict_called = called file 10 0 (omega arith) (omega arith) (TooShort first second (situation file)) short (λ a h. of_lines file a (TooShort first second) (is_short h))

  pub long_enough : Accepted file → short ≡ false → LongEnough first second (situation file)
  unfolding short
  long_enough a h = of_lines file a (LongEnough first second) (grind arith)

module _ (file first second first' second' : List ℕ) (r : FlatVerdict) (v : Result ShownVerdict Refusal) (contract : VerdictIs file first second first' second' v)
    (answer : r ≡ flat_verdict v) where
  pub demand_1_verdict : VerdictStatement file first second first' second' r
  demand_1_verdict = go (verdict_called file first second)
    where
      q : Refusal
      q = verdict_refusal file (length first) (length second)

      go : Called file 10 0 (TooShort first second (situation file)) (short file first second) q → VerdictStatement file first second first' second' r
      go (passes a f h e) =
          let none = of_lines file a (AtMostOpen 0) f in
          let room = long_enough file first second a h in
          let verdict = (demand_2 file first second first' second' r v contract answer).met a none room.0 room.1 in
          requested verdict.no_refusal_lem (a, none, verdict, room.0, room.1)
      go (refuses n c) =
          let w = contract.refuses (ne_eqb q.number 0 (λ z. omega arith)) in
          let is : r ≡ no_verdict (flat_refusal q) = answer ∙ ap flat_verdict w.0 in
          rw is (refused n.number.0 c (w.1, w.2, (refl, (refl, refl, refl, refl, refl), refl, refl)))

-- ---- the writer
module _ (values : FlatSituation) (buffer buffer' : List ℕ) (r : FlatOutput)
    (answer : r ≡ flat_output (writing_answer (situation_from_c values) (length buffer))) (left : buffer' ≡ after_writing (situation_from_c values) buffer) where
  abbrev s : Situation
  s = situation_from_c values

  abbrev lines : ℕ
  lines = line_count s.header

  p : Refusal
  p = refusal_of s.header (written_line s)

  bytes : length (file_text s) ≡ lines * 22
  unfolding file_text
  bytes = text_length (written_line s) lines

  -- Where nothing is refused, no line has a cause.
  pub none_refused : r.refusal.number ≡ 0 → NoCause s.header.sections (written_line s) (lines - 1)
  unfolding write_refusal refusal_of p
  none_refused z = go (bad_range s.header) (eqb p.number 0) refl refl
    where
      go : (a b : Bool) → bad_range s.header ≡ a → eqb p.number 0 ≡ b → NoCause s.header.sections (written_line s) (lines - 1)
      go true b e₁ e₂ =
          let is : r ≡ flat_output (Err (refusal 3 1)) = answer ∙ rw e₁ in
          absurd (omega (arith, sym (ap (λ (x : FlatOutput). x.refusal.number) is) ∙ z))
      go false false e₁ e₂ =
          let is : r ≡ flat_output (Err p) = answer ∙ rw (e₁, e₂, e₂) in
          absurd (eqb-false p.number 0 e₂ (sym (ap (λ (x : FlatOutput). x.refusal.number) is) ∙ z))
      go false true e₁ e₂ = no_causes s.header.sections (written_line s) (lines - 1) (eqb-true p.number 0 e₂)

  pub demand_1_write : Demand1Write values buffer buffer' r
  unfolding write_refusal after_writing refusal_of p
  demand_1_write = go (bad_range s.header) (eqb p.number 0) (ltb (length buffer) (lines * 22)) refl refl refl
    where
      go : (a b c : Bool) → bad_range s.header ≡ a → eqb p.number 0 ≡ b → ltb (length buffer) (lines * 22) ≡ c
          → Demand1Write values buffer buffer' r
      go true b c e₁ e₂ e₃ =
          let is : r ≡ flat_output (Err (refusal 3 1)) = answer ∙ rw e₁ in
          rw is
          (refused (omega arith) (fails (λ l. false≢true (sym (ranges_in s.header l) ∙ e₁)) (refl, refl)) (left ∙ rw e₁, nothing (refusal 3 1)))
      go false false c e₁ e₂ e₃ =
          let is : r ≡ flat_output (Err p) = answer ∙ rw (e₁, e₂, e₂) in
          let f = first_cause s.header.sections (written_line s) (lines - 1) (eqb-false p.number 0 e₂) in
          let n = cause_number s.header.sections _ _ p.number f.3 in
          rw is
          (refused (omega arith)
          (holds (ranges s.header e₁) (fails (λ none. none f.0 p.number f.1 f.3) f)) (left ∙ rw (e₁, e₂, e₂), nothing p))
      go false true true e₁ e₂ e₃ =
          let is : r ≡ flat_output (Err (refusal 9 0)) = answer ∙ rw (e₁, e₂, e₃) in
          rw is
          (refused (omega arith)
          (holds (ranges s.header e₁)
          (holds (no_causes s.header.sections (written_line s) (lines - 1) (eqb-true p.number 0 e₂))
          (ltb-true (length buffer) (lines * 22) e₃, (refl, refl))))
          (left ∙ rw (e₁, e₂, e₃), nothing (refusal 9 0)))
      go false true false e₁ e₂ e₃ =
          let z : p ≡ refusal 0 0 = no_refusal_none s.header (written_line s) (eqb-true p.number 0 e₂) in
          let none : write_refusal s (length buffer) ≡ refusal 0 0 = rw (e₁, e₂, e₃) z in
          let w = situation_whole values in
          let back = write_then_read s (length buffer) w.plain w.elements w.trains (ap (λ (x : Refusal). x.number) none) in
          let a = (accepted_exactly (file_text s)).0 (ap (λ (x : Reading). x.refusal.number) back) in
          let is : r ≡ flat_output (Ok (output_of (file_text s))) = answer ∙ rw (e₁, e₂, e₃, e₂) in
          rw is
          (requested refl
          (record {
            text = file_text s;
            filled = record {
              fits = omega (arith, bytes, ltb-false (length buffer) (lines * 22) e₃);
              is = left ∙ rw (e₁, e₂, e₃, e₂) (ap (λ (n : ℕ). file_text s ++ drop n buffer) (sym bytes));
            };
            old_form = written-old s (length buffer) (ap (λ (x : Refusal). x.number) none);
            accepted = a;
            same = of_lines (file_text s) a (λ (x : Situation). x ≡ up_to_counts s) (ap (λ (x : Reading). x.situation) back);
            handed_back = (refl, omega arith);
          }))
