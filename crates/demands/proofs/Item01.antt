-- Item 1 holds of any operation with the contract of `judge_drawing`: `item_1`.
use mathlib.Core.Path.{◌≡◌, refl, ap, ◌∙◌}
use mathlib.Core.Logic.{◌⊎◌, ◌↔◌}
use mathlib.Core.Bool.{Bool, true, false, ◌||◌, cond, false≢true}
use mathlib.Core.List.{List, [], ◌∷◌}
use Prim.Native.Nat.{ℕ, zero, suc, ◌-◌, ◌≤◌, ◌<◌}
use native.Mathlib.Omega.{arith}
use lib.Dec.{eqb}
use lib.ListN.{length, take, get_or}
use borrow.Author.Tests.{ne_eqb}
use Rattle.std.specs.Prelude.{Result, Ok, Err}
use Rattle.meaning.specs.declared.Situation.{Situation}
use Rattle.meaning.specs.declared.Refusal.{Refusal}
use Rattle.meaning.specs.Station.{file_states}
use Rattle.meaning.specs.Paths.{mem}
use Rattle.meaning.specs.Settings.{open_count}
use Rattle.meaning.specs.File.{refusal, reading, Limits}
use Rattle.meaning.specs.Accepted.{Accepted}
use Rattle.meaning.specs.Operations.{call_refusal, first_of}
use Rattle.meaning.specs.Drawing.{drawn, is_no_train, drawing_refusal, drawing_answer}
use Rattle.meaning.proofs.Reach.{mem_head, mem_tail}
use Rattle.meaning.specs.Inside.{in_station}
use Rattle.meaning.proofs.Inside.{path_inside}
use Rattle.meaning.proofs.Accepted.{accepted_exactly}
use Rattle.meaning.proofs.AcceptedSituation.{accepted_inside, accepted_counts, accepted_lengths}
use Rattle.meaning.proofs.Drawing.{drawn_exactly}
use Rattle.c_layout.specs.declared.FlatVerdict.{FlatVerdict}
use Rattle.c_layout.specs.declared.FlatYesNo.{FlatYesNo}
use Rattle.c_layout.specs.declared.FlatRefusal.{FlatRefusal}
use Rattle.c_layout.specs.Flat.{no_refusal, flat_refusal, flat_yes_no}
use Rattle.demands.specs.Words.{situation, AtMostOpen}
use Rattle.demands.specs.OfVerdict.{VerdictStatement, DangerousVerdict, Verdict}
use Rattle.demands.specs.Demand1.{requested, refused, fails, holds, Is, Short}
use Rattle.demands.specs.Reach.{Leads, TwoTrainsMeet}
use Rattle.demands.specs.Item01.{NoTrain, RightDrawing, Marked, Item1}
use Rattle.demands.specs.Laws.{OwnPathsYes, SomeRight, SomeYes}
use Rattle.demands.proofs.Words.{of_lines}
use Rattle.demands.proofs.Reach.{leads_same, train_from_1, shown_take}
use Rattle.demands.proofs.Causes.{Called, passes, refuses, called, call_with}

-- ---- the answer
module _ (s : Situation) where
  no_trains_test : (i j : ℕ) → ((is_no_train s i || is_no_train s j) ≡ true) ↔ (NoTrain s i ⊎ NoTrain s j)
  no_trains_test i j = grind arith

  right_exactly : (i j : ℕ) (first second : List ℕ) → (drawn s (file_states s) i j first second ≡ true) ↔ RightDrawing s i j first second
  right_exactly i j first second = grind (arith, drawn_exactly, leads_same)

  marks : (i j : ℕ) (first second : List ℕ) → AtMostOpen 0 s → (is_no_train s i || is_no_train s j) ≡ false
      → Marked s i j first second (flat_yes_no (Ok (drawn s (file_states s) i j first second)))
  marks i j first second none t = grind (arith, right_exactly)

-- The file's refusals and 10 come first, 12 after them.
refusal_parts : (file : List ℕ) (i j : ℕ) → let s : Situation = (reading file).situation in
    drawing_refusal file i j
    ≡ first_of (first_of (reading file).refusal (call_refusal s 10 1 false)) (cond (is_no_train s i || is_no_train s j) (refusal 12 0) (refusal 0 0))
unfolding drawing_refusal
refusal_parts file i j = grind arith

answered : (file : List ℕ) (i j : ℕ) (first second : List ℕ) (r : FlatYesNo) → r ≡ flat_yes_no (drawing_answer file i j first second)
    → Item1 file i j first second r
unfolding drawing_answer
answered file i j first second r e =
    go (called file 10 0 (omega arith) (omega arith) ⊥ false (λ a h. false≢true h)) (is_no_train s i || is_no_train s j) refl
  where
    s : Situation
    s = (reading file).situation

    right : Bool
    right = drawn s (file_states s) i j first second

    q : Refusal
    q = first_of (reading file).refusal (call_refusal s 10 1 false)

    -- What is answered with the refusal x.
    by : Refusal → Result Bool Refusal
    by x = cond (eqb x.number 0) (Ok right) (Err x)

    is : (x : Refusal) → drawing_refusal file i j ≡ x → r ≡ flat_yes_no (by x)
    is x h = e ∙ ap (λ (y : Refusal). flat_yes_no (by y)) h

    go : Called file 10 0 ⊥ false q → (t : Bool) → (is_no_train s i || is_no_train s j) ≡ t → Item1 file i j first second r
    go (passes a few h z) false t =
        let none : drawing_refusal file i j ≡ refusal 0 0 = refusal_parts file i j ∙ rw (z, t) in
        requested (ap (λ (y : FlatYesNo). y.refusal) (is (refusal 0 0) none))
        (a, of_lines file a (λ x. Marked x i j first second r) (rw (is (refusal 0 0) none) (marks s i j first second few t)))
    go (passes a few h z) true t =
        let twelve : drawing_refusal file i j ≡ refusal 12 0 = refusal_parts file i j ∙ rw (z, t) in
        let w = of_lines file a (λ x. AtMostOpen 0 x × (NoTrain x i ⊎ NoTrain x j)) (few, (no_trains_test s i j).0 t) in
        rw (is (refusal 12 0) twelve) (refused (omega arith) (holds a (holds w.0 (w.1, (refl, refl)))) refl)
    go (refuses n c) t h =
        let no : eqb q.number 0 ≡ false = ne_eqb q.number 0 (λ z. omega arith) in
        let first_cause : drawing_refusal file i j ≡ q = refusal_parts file i j ∙ rw no in
        let P : FlatRefusal → Type 0 = λ p. (NoTrain (situation file) i ⊎ NoTrain (situation file) j) × Is p 12 0 in
        rw (is q first_cause, no) (refused n.number.0 (call_with file 10 0 (Short ⊥) P (flat_refusal q) (λ k. absurd k.0) c) refl)

-- Without a cause, the drawing is marked.
is_marked : (file : List ℕ) (i j : ℕ) (first second : List ℕ) (r : FlatYesNo) → Item1 file i j first second r
    → Accepted file → AtMostOpen 0 (situation file) → (NoTrain (situation file) i ⊎ NoTrain (situation file) j → ⊥) → Marked (situation file) i j first second r
is_marked file i j first second r (requested z (a, m)) accepted none trains = m
is_marked file i j first second r (refused n (fails not c) y) accepted none trains = absurd (not accepted)
is_marked file i j first second r (refused n (holds a (fails more c)) y) accepted none trains = absurd (more none)
is_marked file i j first second r (refused n (holds a (holds few c)) y) accepted none trains = absurd (trains c.0)

-- ---- beside the verdict
-- What an answered verdict says.
said : (file lent₁ lent₂ left₁ left₂ : List ℕ) (v : FlatVerdict) → VerdictStatement file lent₁ lent₂ left₁ left₂ v → v.refusal ≡ no_refusal
    → Accepted file × AtMostOpen 0 (situation file) × Verdict (situation file) (file_states (situation file)) lent₁ lent₂ left₁ left₂ v
said file lent₁ lent₂ left₁ left₂ v h h2 = grind arith

fits-mem : (p : List ℕ) → ((a : ℕ) → mem a p ≡ true → a < 65536) → (k : ℕ) → get_or p k 0 < 65536
fits-mem [] h k = omega arith
fits-mem (a ∷ p) h zero = h a (mem_head a p)
fits-mem (a ∷ p) h (suc k) = fits-mem p (λ b i. h b (mem_tail b a p i)) k

-- Two trains meet exactly when some drawing is right.
module _ (s : Situation) where
  train_of : (t k : ℕ) (p : List ℕ) → Leads s (file_states s) t k p → 1 ≤ t
  train_of t k p h = train_from_1 s (file_states s) t k (p, h)

  path_fits : in_station s ≡ true → Limits s.header → (t k : ℕ) (p : List ℕ) → Leads s (file_states s) t k p → (n : ℕ) → get_or p n 0 < 65536
  path_fits inside limits t k p h =
      fits-mem p (λ a i. omega (arith, path_inside s inside (file_states s) t k p ((leads_same s (file_states s) t k p).1 h) a i, limits.sections))

  meet_drawn : in_station s ≡ true → Limits s.header → SomeRight s ↔ TwoTrainsMeet s (file_states s)
  meet_drawn inside limits = grind (arith, path_fits inside limits, train_of)

-- The paths of a dangerous verdict are a right drawing.
own_right : (s : Situation) (lent₁ lent₂ left₁ left₂ : List ℕ) (v : FlatVerdict) → DangerousVerdict s (file_states s) lent₁ lent₂ left₁ left₂ v
    → RightDrawing s v.first_train v.second_train (take v.first_length left₁) (take v.second_length left₂)
own_right s lent₁ lent₂ left₁ left₂ v d =
    let σ = file_states s in
    (λ e. omega (arith, e, d.names.below), v.meeting, rw (shown_take s σ _ _ _ _ _ d.first_path) d.first_path.leads, rw (shown_take s σ _ _ _ _ _ d.second_path) d.second_path.leads)

own_yes : (s : Situation) (lent₁ lent₂ left₁ left₂ : List ℕ) (v : FlatVerdict) → Verdict s (file_states s) lent₁ lent₂ left₁ left₂ v → v.dangerous ≡ 1
    → (r : FlatYesNo)
    → ((NoTrain s v.first_train ⊎ NoTrain s v.second_train → ⊥)
    → Marked s v.first_train v.second_train (take v.first_length left₁) (take v.second_length left₂) r) → r.yes ≡ 1
own_yes s lent₁ lent₂ left₁ left₂ v w dangerous r mark = grind (arith, train_of s, own_right s lent₁ lent₂ left₁ left₂ v)

pub own_paths : OwnPathsYes
own_paths file lent₁ lent₂ left₁ left₂ v d e dangerous r i =
    let w = said file lent₁ lent₂ left₁ left₂ v d e in
    own_yes (situation file) lent₁ lent₂ left₁ left₂ v w.2 dangerous r (is_marked file _ _ _ _ r i w.0 w.1)

pub some_yes : SomeYes
some_yes file lent₁ lent₂ left₁ left₂ v d e =
    let w = said file lent₁ lent₂ left₁ left₂ v d e in
    let z = (accepted_exactly file).1 w.0 in
    let m = of_lines file w.0 (λ (s : Situation). SomeRight s ↔ TwoTrainsMeet s (file_states s))
    (meet_drawn (reading file).situation (accepted_inside file z) (accepted_counts file z).limits) in
    let x = w.2.dangerous_exactly in
    (λ y. x.1 (m.0 y), λ h. m.1 (x.0 h))

-- `answer` is the contract of the operation.
pub item_1 : (file : List ℕ) (i j : ℕ) (first second : List ℕ) (r : FlatYesNo) → r ≡ flat_yes_no (drawing_answer file i j first second)
    → Item1 file i j first second r
item_1 file i j first second r answer = answered file i j first second r answer
