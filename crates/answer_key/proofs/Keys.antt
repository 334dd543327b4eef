-- The text that each answer of the verdict leads to is a key of the file, and a key stored at the start of a long enough buffer is
-- what `answer_key` is to leave.
use mathlib.Core.Path.{◌≡◌, refl, sym, ap, ◌∙◌, ap₂, subst}
use mathlib.Core.Bool.{Bool, true, false, false≢true}
use mathlib.Core.List.{List, ◌++◌}
use Prim.Native.Nat.{ℕ, zero, suc, ◌≤◌}
use native.Mathlib.Omega.{arith}
use native.Mathlib.Nat.{zero-add}
use lib.Dec.{eqb}
use lib.ListN.{length, take, drop, length-take}
use lib.Seq.{sets-eq}
use Rattle.std.proofs.lemmas.List.{append_assoc, drop-append-le, length-take-le, take-append-drop}
use Rattle.std.specs.Array.{IsFirstChunk}
use borrow.Author.Tests.{ne_eqb}
use Rattle.meaning.proofs.Refused.{refused_as, accepted_as}
use Rattle.meaning.specs.declared.Situation.{Situation}
use Rattle.meaning.specs.declared.Refusal.{Refusal}
use Rattle.meaning.specs.declared.Output.{Output}
use Rattle.meaning.specs.declared.Verdict.{Verdict}
use Rattle.meaning.specs.declared.Verdict.TheVariants as found
use Rattle.std.specs.Prelude.{Result, Ok, Err, ⊤}
use Rattle.meaning.specs.declared.ShownVerdict.{ShownVerdict}
use Rattle.meaning.specs.declared.ShownVerdict.TheVariants as shown
use Rattle.meaning.specs.Station.{file_states}
use Rattle.meaning.specs.Verdict.{verdict}
use Rattle.meaning.specs.Columns.{row_text}
use Rattle.meaning.specs.File.{Limits, reading, reading_answer}
use Rattle.meaning.specs.Operations.{open_element, verdict_refusal, Shows, Answers, VerdictIs}
use Rattle.meaning.specs.Key.{key_refusal, refusal_key, danger_key, IsVerdictKey, KeyText, KeyIs}
use Rattle.meaning.proofs.Bounds.{counts_of}
use Rattle.meaning.proofs.MoveCount.{counts_fit}
use Rattle.meaning.proofs.AcceptedSituation.{accepted_counts}
use Rattle.verdict.specs.Judged.{called, VerdictOf}
use Rattle.answer_key.specs.Lines.{Put, Keyed, CountsFit, question_text}
use Rattle.answer_key.proofs.Cases.{given, settings_refusal_lem, key_refused, open_refused, other_refused, not-refused}

-- A key at the start of a buffer, in as many bytes as the longest has.
pub key_stored : {file buffer key key' : List ℕ} {n : Output} → IsFirstChunk buffer key 22550 → Keyed file key key' n
    → KeyIs file buffer (key' ++ drop 22550 buffer) (Ok n)
key_stored {buffer = buffer} {key} {key'} chunk k =
    let room = chunk.enough in
    let size : length key ≡ 22550 = ap length chunk.same ∙ length-take-le 22550 buffer room in
    let stored : key' ≡ k.text ++ drop (length k.text) key = k.put.stored ∙ rw zero-add at (sets-eq k.text key 0 (omega (arith, k.put.fits))) in
    let whole : key ++ drop 22550 buffer ≡ buffer = ap (λ (xs : List ℕ). xs ++ drop 22550 buffer) chunk.same ∙ take-append-drop 22550 buffer in
    let rest : drop (length k.text) key ++ drop 22550 buffer ≡ drop (length k.text) buffer =
    sym (drop-append-le (length k.text) key (drop 22550 buffer) (omega (arith, k.put.fits))) ∙ ap (drop (length k.text)) whole in
    record {
      too_short = λ h. absurd (omega arith);
      written = λ h. (
        k.text,
        k.is_key,
        ap Ok k.put.counted,
        ap (λ (xs : List ℕ). xs ++ drop 22550 buffer) stored
            ∙ append_assoc k.text (drop (length k.text) key) (drop 22550 buffer)
            ∙ ap (λ (xs : List ℕ). k.text ++ xs) rest,
      );
    }

-- ---- the text is a key
module _ (file : List ℕ) where
  abbrev s : Situation
  s = (reading file).situation

  -- A refusal other than 10.
  refusal_is_key : (q : Refusal) → q ≡ given file → eqb (given file).number 0 ≡ false
      → (q.number ≡ 10 → ⊥) → KeyText file (refusal_key q)
  refusal_is_key q e h d =
      let same : q ≡ key_refusal file = e ∙ other_refused file h (λ z. d (ap (λ (x : Refusal). x.number) e ∙ z)) in
      let some : eqb (key_refusal file).number 0 ≡ false = ap (λ (x : Refusal). eqb x.number 0) (sym same ∙ e) ∙ h in
      record {
        refused = λ n. ap refusal_key same;
        asked = λ n o. absurd (false≢true (sym some ∙ n));
        judged = λ n o. absurd (false≢true (sym some ∙ n));
      }

  -- A refused file.
  pub file_refused : {q : Refusal} → reading_answer file ≡ Err q → KeyText file (refusal_key q)
  file_refused h =
      let f = refused_as file h in
      let same = sym f.1 ∙ sym (key_refused file (ne_eqb _ 0 f.0)) in
      let some : eqb (key_refusal file).number 0 ≡ false = ne_eqb _ 0 (λ z. f.0 (ap (λ (x : Refusal). x.number) (f.1 ∙ same) ∙ z)) in
      record {
        refused = λ n. ap refusal_key same;
        asked = λ n o. absurd (false≢true (sym some ∙ n));
        judged = λ n o. absurd (false≢true (sym some ∙ n));
      }

  -- The settings question, where an element is open.
  pub question_is_key : eqb (open_element 1 (file_states s)) 0 ≡ false → KeyText file (question_text file)
  unfolding question_text
  question_is_key some =
      let same = settings_refusal_lem file in
      record {
        refused = λ n. rw (same, n);
        asked = λ n o. rw (same, n);
        judged = λ n o. absurd (false≢true (sym some ∙ o));
      }

  -- The lines of a verdict, where none is.
  verdict_is_key : (text : List ℕ) → eqb (given file).number 0 ≡ true
      → IsVerdictKey s (file_states s) (verdict s (file_states s)) text → KeyText file text
  verdict_is_key text h k =
      let w = not-refused file h in
      record {
        refused = λ n. absurd (false≢true (sym n ∙ w.0));
        asked = λ n o. absurd (false≢true (sym o ∙ w.1));
        judged = λ n o. k;
      }

-- ---- by what the verdict answers, with two lists of 512 numbers
-- The text that an answer leads to, the lists being as the verdict leaves them.
abbrev pub text_for : Result ShownVerdict Refusal → List ℕ → List ℕ → List ℕ
text_for (Err q) first second = refusal_key q
text_for (Ok (shown.Safe c)) first second = row_text 86 3 0 c.entries c.looks 0
text_for (Ok (shown.Dangerous m c n)) first second = danger_key m c (take n.first first) (take n.second second)

-- The lists have room for the paths shown.
abbrev pub PathsWithin : Result ShownVerdict Refusal → Type 0
PathsWithin (Err q) = Unit {0}
PathsWithin (Ok (shown.Safe c)) = Unit {0}
PathsWithin (Ok (shown.Dangerous m c n)) = (n.first ≤ 512) × (n.second ≤ 512)

shown_within : (s : Situation) (σ : List ℕ) (t k n : ℕ) (list list' : List ℕ) → length list ≡ 512 → Shows s σ t k n list list' → n ≤ 512
shown_within s σ t k n list list' l h = omega (arith, h.counted, h.same_length, length-take n list')

module _ (file first second first' second' : List ℕ) (l₁ : length first ≡ 512) (l₂ : length second ≡ 512) (closed : eqb (open_element 1 (file_states (reading file).situation)) 0 ≡ true) where
  abbrev Fit : Result ShownVerdict Refusal → Type 0
  Fit r = KeyText file (text_for r first' second') × PathsWithin r

  -- A refused verdict.
  for_refused : eqb (given file).number 0 ≡ false → Fit (Err (given file))
  for_refused h = (refusal_is_key file (given file) refl h not_open, tt)
    where
      not_open : (given file).number ≡ 10 → ⊥
      not_open z = let w = open_refused file z in false≢true (sym w.1 ∙ closed)

  -- A verdict that is given.
  for_given : (v : Verdict) (r : Result ShownVerdict Refusal) → verdict (s file) (file_states (s file)) ≡ v → eqb (given file).number 0 ≡ true
      → Answers (s file) (file_states (s file)) v first second first' second' r → Fit r
  for_given (found.Safe c) r e h a =
      subst Fit (sym a.0) (
        verdict_is_key file (text_for (Ok (shown.Safe c)) first' second') h
            (subst (λ v. IsVerdictKey (s file) (file_states (s file)) v (text_for (Ok (shown.Safe c)) first' second')) (sym e) refl),
        tt,
      )
  for_given (found.Dangerous m c) r e h (n, a, p, q) =
      subst Fit (sym a) (
        verdict_is_key file (text_for (Ok (shown.Dangerous m c n)) first' second') h
            (subst (λ v. IsVerdictKey (s file) (file_states (s file)) v (text_for (Ok (shown.Dangerous m c n)) first' second')) (sym e)
            (take n.first first', take n.second second', p.path, q.path, refl)),
        (shown_within _ _ _ _ _ first first' l₁ p, shown_within _ _ _ _ _ second second' l₂ q),
      )

  -- The text for any answer is a key, and the lists have room for the paths.
  pub answer_is_key : (r : Result ShownVerdict Refusal) → VerdictIs file first second first' second' r → Fit r
  answer_is_key r v = go (eqb (given file).number 0) refl
    where
      same : verdict_refusal file (length first) (length second) ≡ given file
      same = ap₂ (verdict_refusal file) l₁ l₂

      number : eqb (verdict_refusal file (length first) (length second)).number 0 ≡ eqb (given file).number 0
      number = ap (λ (q : Refusal). eqb q.number 0) same

      go : (b : Bool) → eqb (given file).number 0 ≡ b → Fit r
      go false e = subst Fit (sym ((v.refuses (number ∙ e)).0 ∙ ap Err same)) (for_refused e)
      go true e = for_given _ r refl e (v.answers (number ∙ e))

  -- What is left is what is to be left, for each answer a.
  module _ (r a : Result ShownVerdict Refusal) (v : VerdictIs file first second first' second' r) (e : r ≡ a) where
    fit : Fit a
    fit = subst Fit e (answer_is_key r v)

    -- The lists have room for the paths that it shows.
    pub paths_within : PathsWithin a
    paths_within = fit.1

    -- The text for the answer, stored, is the key.
    pub keyed : {buffer buffer' : List ℕ} {n : Output} → Put (text_for a first' second') buffer buffer' n → Keyed file buffer buffer' n
    keyed p = record { text = text_for a first' second'; is_key = fit.0; put = p }

-- ---- a situation that is read
module _ (file first second first' second' : List ℕ) (l₁ : length first ≡ 512) (l₂ : length second ≡ 512) {s : Situation}
    (read : reading_answer file ≡ Ok s) (closed : open_element 1 (file_states s) ≡ 0)
    (r a : Result ShownVerdict Refusal) (v : VerdictIs file first second first' second' r) (e : r ≡ a) where
  none_open : eqb (open_element 1 (file_states (reading file).situation)) 0 ≡ true
  none_open = rw ((accepted_as file read).1, closed) refl

  pub read_within : PathsWithin a
  read_within = paths_within file first second first' second' l₁ l₂ none_open r a v e

  pub read_keyed : {buffer buffer' : List ℕ} {n : Output} → Put (text_for a first' second') buffer buffer' n → Keyed file buffer buffer' n
  read_keyed = keyed file first second first' second' l₁ l₂ none_open r a v e

-- The settings question of a situation in which an element is open.
pub question_read : (file : List ℕ) {s : Situation} → reading_answer file ≡ Ok s → (open_element 1 (file_states s) ≡ 0 → ⊥) → KeyText file (question_text file)
question_read file read some = question_is_key file (rw (accepted_as file read).1 (ne_eqb _ 0 some))

-- ---- the counts of a verdict
-- The counts of a verdict have at most five digits, where it carries some.
abbrev pub CountsWithin : Result ShownVerdict Refusal → Type 0
CountsWithin (Err q) = Unit {0}
CountsWithin (Ok (shown.Safe c)) = CountsFit c
CountsWithin (Ok (shown.Dangerous m c n)) = CountsFit c

counts_shown : (s : Situation) (σ first second first' second' : List ℕ) (v : Verdict) (r : Result ShownVerdict Refusal) → CountsFit (counts_of v)
    → Answers s σ v first second first' second' r → CountsWithin r
counts_shown s σ first second first' second' (found.Safe c) r fit a = subst CountsWithin (sym a.0) fit
counts_shown s σ first second first' second' (found.Dangerous m c) r fit (n, a, p, q) = subst CountsWithin (sym a) fit

pub counts_within : (file : List ℕ) {s : Situation} → reading_answer file ≡ Ok s → (first second first' second' : List ℕ)
    {r a : Result ShownVerdict Refusal} → VerdictOf s first second first' second' r → r ≡ a → CountsWithin a
counts_within file {s} read first second first' second' {r} v e = subst CountsWithin e (go (called s (length first) (length second)) refl)
  where
    limits : Limits s.header
    limits = let w = accepted_as file read in subst (λ (x : Situation). Limits x.header) w.1 (accepted_counts file w.0).limits

    go : (x : Result ⊤ Refusal) → called s (length first) (length second) ≡ x → CountsWithin r
    go (Err q) h = subst CountsWithin (sym (v.refuses q h).0) tt
    go (Ok tt) h =
        counts_shown s (file_states s) first second first' second' (verdict s (file_states s)) r (counts_fit s limits (file_states s)) (v.answers h)

-- A number that is 0 where a test of it fails.
pub none_by : (x : ℕ) → ((x ≡ 0 → ⊥) → false ≡ true) → x ≡ 0
none_by zero h = refl
none_by (suc x) h = absurd (false≢true (h (λ z. absurd (omega arith))))
