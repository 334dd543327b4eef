-- The statements of demands 1 to 3 leave no choice (specs/Complete): `read_pinned`, `write_pinned`, `shorter_pinned`, `settings_pinned`,
-- `reply_pinned`, `verdict_pinned`, `judged_pinned`.
use mathlib.Core.Path.{◌≡◌, refl, sym, ap, subst, ◌∙◌}
use mathlib.Core.List.{List, List-discrete}
use Prim.Native.Nat.{ℕ, ◌*◌, ◌-◌, ◌<◌}
use native.Mathlib.Omega.{arith}
use native.Mathlib.Decide.{ℕ_discrete}
use native.Mathlib.Nat.{div-add-mod'}
use lib.ListN.{length, take, drop, take-append-drop}
use Rattle.meaning.specs.declared.Situation.{Situation}
use Rattle.meaning.specs.declared.Refusal.{Refusal}
use Rattle.meaning.specs.File.{line_count, refusal_of, situation_of, reading, written_line, write_refusal, up_to_counts}
use Rattle.meaning.proofs.Settings.{before_asymmetric}
use Rattle.meaning.proofs.Accepted.{ranges, accepted_exactly}
use Rattle.file_meaning.proofs.RoundTrip.{up_to_counts_lem, read_then_write_accepted, write_checked}
use Rattle.file_meaning.proofs.PastCounts.{same_written}
use Rattle.c_layout.specs.declared.FlatRefusal.{FlatRefusal}
use Rattle.c_layout.specs.declared.FlatVerdict.{FlatVerdict}
use Rattle.c_layout.specs.declared.FlatReply.{FlatReply}
use Rattle.c_layout.specs.declared.FlatOutput.{FlatOutput}
use Rattle.c_layout.specs.Flat.{situation_from_c}
use Rattle.demands.specs.Words.{situation, SameVerdict}
use Rattle.demands.specs.Reach.{Meet, SafeSetting}
use Rattle.demands.specs.Demand1.{HasCause, requested, refused, WriteCause, Written}
use Rattle.demands.specs.OfVerdict.{Names, Shows, Counts, SafeVerdict, DangerousVerdict, Verdict}
use Rattle.demands.specs.OfSettings.{no_reply, Best, Reply}
use Rattle.demands.specs.Complete.{ReadPinned, WritePinned, ShorterPinned, SettingsPinned, ReplyPinned, PathsAside, VerdictPinned, JudgedPinned}
use Rattle.demands.proofs.Words.{of_lines}
use Rattle.demands.proofs.Reach.{shown_take, shown_length}
use Rattle.demands.proofs.Counting.{how_many_unique}
use Rattle.demands.proofs.OneCause.{answers_one, neither_below, no_first, file_cause_one, short_cause_one, no_short_cause, write_cause_one}
use Rattle.demands.proofs.Lines.{no_causes}
use Rattle.demands.proofs.OneText.{one_old_text}
use Rattle.demands.proofs.Verdicts.{no_verdict, no_verdict_of}
use mathlib.Core.Logic.{◌⊎◌}

-- A list is what it begins with and what it holds after that.
pub same_list : (m n : ℕ) (l k : List ℕ) → m ≡ n → take m l ≡ take n k → drop m l ≡ drop n k → l ≡ k
same_list m n l k e a b = grind (arith, take-append-drop m l, take-append-drop n k)

-- ---- the reader
pub read_pinned : ReadPinned
read_pinned file r r' a b = grind (arith, file_cause_one file r.refusal r'.refusal)

-- ---- the shorter path
pub shorter_pinned : ShorterPinned
shorter_pinned first n second m r r' a b = grind arith

-- ---- the writer
-- What is written has no cause.
module _ (s : Situation) (buffer left : List ℕ) (r : FlatOutput) (w : Written s buffer left r) where
  abbrev text : List ℕ
  text = w.text

  read_text : (reading text).refusal.number ≡ 0
  read_text = (accepted_exactly text).1 w.accepted

  -- The writer does not refuse the situation.
  not_refused : (write_refusal s (length buffer)).number ≡ 0
  not_refused =
      let x : Situation = (reading text).situation in
      let is : x ≡ up_to_counts s = of_lines text w.accepted (λ (y : Situation). x ≡ y) refl ∙ w.same in
      let same = same_written x s (up_to_counts_lem text read_text ∙ is) buffer in
      ap (λ (q : Refusal). q.number) (sym same.0 ∙ read_then_write_accepted text read_text (length buffer) w.filled.fits)

  -- "22 bytes a line"
  bytes : length text ≡ line_count s.header * 22
  unfolding situation situation_of up_to_counts
  bytes = grind (arith, w.accepted, w.same, div-add-mod' (length text) 22)

  no_write_cause : (q : FlatRefusal) → WriteCause s (length buffer) q → ⊥
  unfolding refusal_of
  no_write_cause q c =
      let k = write_checked s (length buffer) not_refused in
      let m : ℕ = line_count s.header - 1 in
      let none = no_causes s.header.sections (written_line s) m k.1 in
      grind (arith, ranges s.header k.0, no_first (HasCause s.header.sections (written_line s)) m 2 q none, bytes, w.filled.fits)

written_one : (s : Situation) (buffer left left' : List ℕ) (r r' : FlatOutput) → Written s buffer left r → Written s buffer left' r'
    → (left ≡ left') × (r.length ≡ r'.length) × (r.subtractions ≡ r'.subtractions)
written_one s buffer left left' r r' w v =
    grind (arith, one_old_text w.text v.text w.accepted v.accepted, w.filled.is, v.filled.is, w.handed_back, v.handed_back)

pub write_pinned : WritePinned
write_pinned values buffer (r, left) (r', left') =
    let s = situation_from_c values in
    answers_one
    (λ z w v. let e = written_one s buffer left left' r r' w v in grind (arith, z, e))
    (λ w. no_write_cause s buffer left r w r'.refusal) (λ w. no_write_cause s buffer left' r' w r.refusal)
    (λ c c' u u'. let e = write_cause_one s (length buffer) r.refusal r'.refusal c c' in grind (arith, e, u, u'))

-- ---- the settings question
best_one : (s : Situation) (σ τ : List ℕ) (n m : ℕ) → Best s σ n → Best s τ m → σ ≡ τ
best_one s σ τ n m a b = go (List-discrete ℕ_discrete σ τ)
  where
    go : Dec (σ ≡ τ) → σ ≡ τ
    go (yes e) = e
    go (no d) =
        grind (arith, before_asymmetric σ τ, a.others τ (b.keeps, b.safe) (λ e. d (sym e)), b.others σ (a.keeps, a.safe) d)

-- The buffers need not be the same before.
pub record SameReply (s : Situation) (left left' : List ℕ) (r r' : FlatReply) : Type 0 where
  pub answer : r ≡ r'
  pub setting : (r.safe ≡ 0 → ⊥) → take s.header.elements left ≡ take s.header.elements left'

pub reply_same : (s : Situation) (buffer buffer' left left' : List ℕ) (r r' : FlatReply) → Reply s buffer left r → Reply s buffer' left' r'
    → SameReply s left left' r r'
reply_same s buffer buffer' left left' r r' a b =
    let n : ℕ = s.header.elements in
    grind (arith, how_many_unique (SafeSetting s) r.safe r'.safe, best_one s (take n left) (take n left') r.proceed r'.proceed)

reply_one : (s : Situation) (buffer left left' : List ℕ) (r r' : FlatReply) → Reply s buffer left r → Reply s buffer left' r'
    → ◌≡◌ {A = FlatReply × List ℕ} (r, left) (r', left')
reply_one s buffer left left' r r' a b =
    let n : ℕ = s.header.elements in grind (arith, reply_same s buffer buffer left left' r r', same_list n n left left')

abbrev short : List ℕ → List ℕ → Type 0
short file buffer = length buffer < (situation file).header.elements

pub settings_pinned : SettingsPinned
settings_pinned file buffer (r, left) (r', left') (requested z w) (requested z' w') =
    reply_one _ buffer left left' r r' w.2 w'.2
settings_pinned file buffer (r, left) (r', left') (requested z w) (refused n c u) = absurd (no_short_cause file 11 12 (short file buffer) r'.refusal w.0 w.1 (λ h. omega (arith, w.3, h)) c)
settings_pinned file buffer (r, left) (r', left') (refused n c u) (requested z w) = absurd (no_short_cause file 11 12 (short file buffer) r.refusal w.0 w.1 (λ h. omega (arith, w.3, h)) c)
settings_pinned file buffer (r, left) (r', left') (refused n c u) (refused n' c' u') =
    λ i. ((u.1 ∙ ap no_reply (short_cause_one file 11 12 (short file buffer) r.refusal r'.refusal c c') ∙ sym u'.1) i, (u.0 ∙ sym u'.0) i)

pub reply_pinned : ReplyPinned
reply_pinned file buffer a few room (r, left) (r', left') w w' =
    reply_one _ buffer left left' r r' (w.met a few room) (w'.met a few room)

-- ---- the verdict
pub record SameNames (i j k i' j' k' : ℕ) : Type 0 where
  pub first : i ≡ i'
  pub second : j ≡ j'
  pub meeting : k ≡ k'

-- "Trains 1 to j are already dangerous", by train i and section k.
pub already : {s : Situation} {σ : List ℕ} {i j k : ℕ} → Names s σ i j k → Meet s σ j
already {s} {σ} {i} {j} {k} a = (i, j, k, λ e. omega (arith, a.below), omega (arith, a.below), omega arith, a.in_first, a.in_second)

pub names_one : (s : Situation) (σ : List ℕ) (i j k i' j' k' : ℕ) → Names s σ i j k → Names s σ i' j' k' → SameNames i j k i' j' k'
names_one s σ i j k i' j' k' a b =
    let second : j ≡ j' = neither_below j j' (λ l. b.not-before j l (already a)) (λ l. a.not-before j' l (already b)) in
    grind (arith, a.no_earlier i' k', b.no_earlier i k, a.no_lower k', b.no_lower k)

pub counts_one : (s : Situation) (σ : List ℕ) (m m' e l e' l' : ℕ) → m ≡ m' → Counts s σ m e l → Counts s σ m' e' l' → (e ≡ e') × (l ≡ l')
counts_one s σ m m' e l e' l' q a b =
    let c : Counts s σ m e' l' = subst (λ (x : ℕ). Counts s σ x e' l') (sym q) b in
    (how_many_unique _ e e' a.entries_of_lem c.entries_of_lem, how_many_unique _ l l' a.looks_of_lem c.looks_of_lem)

-- The lists need not be the same before.
safe_same : (s : Situation) (σ first second third fourth f g f' g' : List ℕ) (r r' : FlatVerdict) → r.refusal ≡ r'.refusal
    → SafeVerdict s σ first second f g r → SafeVerdict s σ third fourth f' g' r' → r ≡ r'
safe_same s σ first second third fourth f g f' g' r r' e v w = grind (arith, counts_one s σ _ _ r.entries r.looks r'.entries r'.looks refl v.counts w.counts)

dangerous_same : (s : Situation) (σ first second third fourth f g f' g' : List ℕ) (r r' : FlatVerdict) → r.refusal ≡ r'.refusal
    → DangerousVerdict s σ first second f g r → DangerousVerdict s σ third fourth f' g' r' → SameVerdict r r'
dangerous_same s σ first second third fourth f g f' g' r r' e v w =
    let n = names_one s σ r.first_train r.second_train r.meeting r'.first_train r'.second_train r'.meeting v.names w.names in
    grind (arith, counts_one s σ _ _ r.entries r.looks r'.entries r'.looks n.second v.counts w.counts)

pub data BothSame (s : Situation) (σ first second third fourth f g f' g' : List ℕ) (r r' : FlatVerdict) : Type 0 where
  both_safe : r ≡ r' → SafeVerdict s σ first second f g r → SafeVerdict s σ third fourth f' g' r'
      → BothSame s σ first second third fourth f g f' g' r r'
  both_dangerous : SameVerdict r r' → DangerousVerdict s σ first second f g r → DangerousVerdict s σ third fourth f' g' r'
      → BothSame s σ first second third fourth f g f' g' r r'

pub verdict_same : (s : Situation) (σ first second third fourth f g f' g' : List ℕ) (r r' : FlatVerdict) → Verdict s σ first second f g r
    → Verdict s σ third fourth f' g' r' → BothSame s σ first second third fourth f g f' g' r r'
verdict_same s σ first second third fourth f g f' g' r r' a b =
    grind (arith, safe_same s σ first second third fourth f g f' g' r r', dangerous_same s σ first second third fourth f g f' g' r r')

pub same_of : {r r' : FlatVerdict} → r ≡ r' → SameVerdict r r'
same_of e = grind arith

-- Two outcomes that are the same.
alike : (r : FlatVerdict) (f g : List ℕ) (r' : FlatVerdict) (f' g' : List ℕ) → r ≡ r' → f ≡ f' → g ≡ g' → PathsAside r f g r' f' g'
alike r f g r' f' g' e p q = grind (arith, same_of e)

-- Two lists that begin with a path, and were the same before.
shown_one : {s : Situation} {σ list l l' : List ℕ} {t k n t' k' n' : ℕ} → Shows s σ t k n list l → Shows s σ t' k' n' list l'
    → (length l ≡ length l') × (take n l ≡ take n' l' → (n ≡ n') × (l ≡ l'))
shown_one {s} {σ} {list} {l} {l'} {t} {k} {n} {t'} {k'} {n'} a b =
    grind (
      arith,
      shown_take s σ t k n list l a,
      shown_take s σ t' k' n' list l' b,
      shown_length s σ t k n list l a,
      shown_length s σ t' k' n' list l' b,
    )

verdict_one : (s : Situation) (σ first second : List ℕ) (r r' : FlatVerdict) (f g f' g' : List ℕ)
    → BothSame s σ first second first second f g f' g' r r' → PathsAside r f g r' f' g'
verdict_one s σ first second r r' f g f' g' (both_safe e v w) = grind (arith, alike r f g r' f' g' e)
verdict_one s σ first second r r' f g f' g' (both_dangerous e v w) =
    let p = shown_one v.first_path w.first_path in let q = shown_one v.second_path w.second_path in grind (arith, p, q)

abbrev either_short : List ℕ → List ℕ → List ℕ → Type 0
either_short file first second = (length first < (situation file).header.sections) ⊎ (length second < (situation file).header.sections)

pub verdict_pinned : VerdictPinned
verdict_pinned file first second r f g r' f' g' (requested z w) (requested z' w') =
    verdict_one _ _ first second r r' f g f' g' (verdict_same _ _ first second first second f g f' g' r r' w.2 w'.2)
verdict_pinned file first second r f g r' f' g' (requested z w) (refused n c u) =
    absurd (no_short_cause file 10 0 (either_short file first second) r'.refusal w.0 w.1 (λ h. grind (arith, w.3, w.4, h)) c)
verdict_pinned file first second r f g r' f' g' (refused n c u) (requested z w) =
    absurd (no_short_cause file 10 0 (either_short file first second) r.refusal w.0 w.1 (λ h. grind (arith, w.3, w.4, h)) c)
verdict_pinned file first second r f g r' f' g' (refused n c u) (refused n' c' u') =
    alike r f g r' f' g' (no_verdict_of u.2 ∙ ap no_verdict (short_cause_one file 10 0 (either_short file first second) r.refusal r'.refusal c c') ∙ sym (no_verdict_of u'.2)) (u.0 ∙ sym u'.0) (u.1 ∙ sym u'.1)

pub judged_pinned : JudgedPinned
judged_pinned file first second a none room₁ room₂ r f g r' f' g' w w' =
    verdict_one _ _ first second r r' f g f' g'
    (verdict_same _ _ first second first second f g f' g' r r' (w.met a none room₁ room₂) (w'.met a none room₁ room₂))
