-- The answers that stand: a line is one of them exactly when it is in the log and stands (`in_standing`, `standing_in`), each candidate and
-- question comes at most once and in rising order (`standing_strict`), and the order of the log does not matter (`standing_same`).
use mathlib.Core.Path.{◌≡◌, refl, sym, ◌∙◌}
use mathlib.Core.Bool.{Bool, true, false, ◌&&◌, cond, false≢true}
use mathlib.Core.List.{List, [], ◌∷◌}
use mathlib.Core.Logic.{◌⊎◌, inl, inr, ⊎_elim}
use mathlib.Mathlib.Data.Bool.Basic.{or_inr, and_intro}
use Prim.Native.Nat.{◌≤◌, ◌<◌}
use native.Mathlib.Omega.{arith}
use lib.Dec.{ltb}
use borrow.Author.Tests.{ltb-true, lt-ltb, eq-eqb}
use Rattle.session_meaning.specs.declared.Sent.{Sent}
use Rattle.session_meaning.specs.Answers.{OneQuestion, Before, same_question, same_sequence, seen, superseded, stands, ahead, enter_answer, standing_of}
use Rattle.basics.proofs.Tests.{and_both, or_cases}
use Rattle.basics.specs.Lists.{In, Pairwise}
use Rattle.basics.proofs.Members.{Same, pairwise_one}

-- ---- the tests as facts
question_true : (a b : Sent) → same_question a b ≡ true → OneQuestion a b
question_true a b e = grind arith

true_question : (a b : Sent) → OneQuestion a b → same_question a b ≡ true
true_question a b h = and_intro (eq-eqb _ _ h.0) (eq-eqb _ _ h.1)

pub sequence_true : (a b : Sent) → same_sequence a b ≡ true → OneQuestion a b × (a.sequence ≡ b.sequence)
sequence_true a b e = grind arith

pub true_sequence : (a b : Sent) → OneQuestion a b → a.sequence ≡ b.sequence → same_sequence a b ≡ true
true_sequence a b h e = and_intro (true_question a b h) (eq-eqb _ _ e)

ahead_true : (a b : Sent) → ahead a b ≡ true → Before a b
ahead_true a b = grind arith

-- Two lines of different candidates or questions, of which one is not before the other.
ahead_other : (a b : Sent) → ahead a b ≡ false → (OneQuestion a b → ⊥) → Before b a
ahead_other a b e h = grind arith

ahead_trans : (a b c : Sent) → Before a b → Before b c → Before a c
ahead_trans a b c h h2 = grind arith

ahead_asym : (a b : Sent) → Before a b → Before b a → ⊥
ahead_asym a b h h2 = grind arith

-- ---- lists in order
-- Each line is ahead of those after it: each candidate and question once, in rising order.
abbrev pub Strict : List Sent → Type 0
Strict = Pairwise Before

-- Lists in order with the same members are the same.
pub strict_same : (l m : List Sent) → Strict l → Strict m → Same l m → l ≡ m
strict_same = pairwise_one Before ahead_asym

-- ---- entering a line
in_enter : (x a : Sent) (l : List Sent) → In x (enter_answer a l) → (x ≡ a) ⊎ In x l
unfolding enter_answer
in_enter x a [] h = h
in_enter x a (b ∷ l) h = go (ahead a b) (λ k. in_enter x a l k) h
  where
    go : (t : Bool) → (In x (enter_answer a l) → (x ≡ a) ⊎ In x l) → In x (cond t (a ∷ b ∷ l) (b ∷ enter_answer a l)) → (x ≡ a) ⊎ ((x ≡ b) ⊎ In x l)
    go true r h = h
    go false r (inl e) = inr (inl e)
    go false r (inr h) = ⊎_elim (λ e. inl e) (λ k. inr (inr k)) (r h)

enter_in : (x a : Sent) (l : List Sent) → (x ≡ a) ⊎ In x l → In x (enter_answer a l)
unfolding enter_answer
enter_in x a [] h = h
enter_in x a (b ∷ l) h = go (ahead a b) (λ k. enter_in x a l k) h
  where
    go : (t : Bool) → ((x ≡ a) ⊎ In x l → In x (enter_answer a l)) → (x ≡ a) ⊎ ((x ≡ b) ⊎ In x l) → In x (cond t (a ∷ b ∷ l) (b ∷ enter_answer a l))
    go true r h = h
    go false r (inl e) = inr (r (inl e))
    go false r (inr (inl e)) = inl e
    go false r (inr (inr h)) = inr (r (inr h))

-- Entering a line of a new candidate and question keeps the list in order.
enter_strict : (a : Sent) (l : List Sent) → Strict l → ((b : Sent) → In b l → OneQuestion a b → ⊥) → Strict (enter_answer a l)
unfolding enter_answer
enter_strict a [] r h = (λ b i. absurd i, tt)
enter_strict a (b ∷ l) r h = go (ahead a b) refl (enter_strict a l r.1 (λ c i. h c (inr i)))
  where
    go : (t : Bool) → ahead a b ≡ t → Strict (enter_answer a l) → Strict (cond t (a ∷ b ∷ l) (b ∷ enter_answer a l))
    go true e s =
        let f = ahead_true a b e in
        (λ c i. ⊎_elim (λ (g : c ≡ b). rw g f) (λ k. ahead_trans a b c f (r.0 c k)) i, r)
    go false e s =
        let f = ahead_other a b e (h b (inl refl)) in
        (λ c i. ⊎_elim (λ (g : c ≡ a). rw g f) (λ k. r.0 c k) (in_enter c a l i), s)

-- ---- superseded lines
pub superseded_true : (l : List Sent) (a : Sent) → superseded l a ≡ true → (b : Sent) × In b l × OneQuestion b a × (a.sequence < b.sequence)
unfolding superseded
superseded_true [] a e = absurd (false≢true e)
superseded_true (b ∷ l) a e =
    ⊎_elim
    (λ h. let p = and_both (same_question b a) (ltb a.sequence b.sequence) h in (b, inl refl, question_true b a p.0, ltb-true _ _ p.1))
    (λ h. let r = superseded_true l a h in (r.0, inr r.1, r.2, r.3))
    (or_cases (same_question b a && ltb a.sequence b.sequence) (superseded l a) e)

true_superseded : (l : List Sent) (a b : Sent) → In b l → OneQuestion b a → a.sequence < b.sequence → superseded l a ≡ true
unfolding superseded
true_superseded [] a b i q h = absurd i
true_superseded (c ∷ l) a b (inl e) q h = rw (← e, true_question b a q, lt-ltb _ _ h)
true_superseded (c ∷ l) a b (inr i) q h = or_inr (same_question c a && ltb a.sequence c.sequence) (superseded l a) (true_superseded l a b i q h)

-- A line stands: its answer is not 0, and no line of the log for its candidate and question has a higher sequence.
pub record Stands (log : List Sent) (a : Sent) : Type 0 where
  pub answered : a.answer ≡ 0 → ⊥
  pub highest : (b : Sent) → In b log → OneQuestion b a → b.sequence ≤ a.sequence

pub stands_true : (log : List Sent) (a : Sent) → stands log a ≡ true → Stands log a
unfolding stands
stands_true log a e = grind (arith, true_superseded)

pub true_stands : (log : List Sent) (a : Sent) → Stands log a → stands log a ≡ true
unfolding stands
true_stands log a h = grind (arith, superseded_true)

-- ---- the list of the standing answers
-- A line is a standing answer exactly when it is one of the list and stands in the log.
pub in_standing : (log l : List Sent) (x : Sent) → In x (standing_of log l) → In x l × (stands log x ≡ true)
unfolding standing_of
in_standing log [] x h = absurd h
in_standing log (a ∷ l) x h = go (stands log a) refl (λ k. in_standing log l x k) h
  where
    go : (t : Bool) → stands log a ≡ t → (In x (standing_of log l) → In x l × (stands log x ≡ true))
        → In x (cond t (enter_answer a (standing_of log l)) (standing_of log l)) → ((x ≡ a) ⊎ In x l) × (stands log x ≡ true)
    go true e r h =
        ⊎_elim (λ (f : x ≡ a). (inl f, rw f e)) (λ k. let p = r k in (inr p.0, p.1)) (in_enter x a (standing_of log l) h)
    go false e r h = let p = r h in (inr p.0, p.1)

pub standing_in : (log l : List Sent) (x : Sent) → In x l → stands log x ≡ true → In x (standing_of log l)
unfolding standing_of
standing_in log [] x h s = absurd h
standing_in log (a ∷ l) x h s = go (stands log a) refl h (λ i. standing_in log l x i s)
  where
    go : (t : Bool) → stands log a ≡ t → (x ≡ a) ⊎ In x l → (In x l → In x (standing_of log l))
        → In x (cond t (enter_answer a (standing_of log l)) (standing_of log l))
    go true e (inl f) r = enter_in x a (standing_of log l) (inl f)
    go true e (inr i) r = enter_in x a (standing_of log l) (inr (r i))
    go false e (inl f) r = absurd (false≢true (sym e ∙ (rw f at s)))
    go false e (inr i) r = r i

-- No two lines of a list have one candidate, question and sequence.
abbrev pub Apart : List Sent → Type 0
Apart = Pairwise (λ a b. same_sequence a b ≡ false)

-- Each candidate and question has at most one standing answer, in rising order.
pub standing_strict : (log l : List Sent) → Apart l → ((a : Sent) → In a l → In a log) → Strict (standing_of log l)
unfolding standing_of
standing_strict log [] d sub = tt
standing_strict log (a ∷ l) d sub = go (stands log a) refl (standing_strict log l d.1 (λ b i. sub b (inr i)))
  where
    go : (t : Bool) → stands log a ≡ t → Strict (standing_of log l) → Strict (cond t (enter_answer a (standing_of log l)) (standing_of log l))
    go false e r = r
    go true e r = enter_strict a (standing_of log l) r apart
      where
        apart : (b : Sent) → In b (standing_of log l) → OneQuestion a b → ⊥
        apart b i q =
            let p = in_standing log l b i in
            let x = (stands_true log a e).highest b (sub b (inr p.0)) (sym q.0, sym q.1) in
            let y = (stands_true log b p.1).highest a (sub a (inl refl)) q in
            false≢true (sym (d.0 b p.0) ∙ true_sequence a b q (omega arith))

-- The order of the log does not matter.
pub standing_same : (l m : List Sent) → Apart l → Apart m → Same l m → standing_of l l ≡ standing_of m m
standing_same l m d e h =
    strict_same (standing_of l l) (standing_of m m) (standing_strict l l d (λ a i. i)) (standing_strict m m e (λ a i. i))
    (record {
      to = λ x i. let p = in_standing l l x i in standing_in m m x (h.to x p.0) (true_stands m x (moved l m h x (stands_true l x p.1)));
      back = λ x i. let p = in_standing m m x i in standing_in l l x (h.back x p.0) (true_stands l x (moved m l (record { to = h.back; back = h.to }) x (stands_true m x p.1)));
    })
  where
    moved : (l m : List Sent) → Same l m → (x : Sent) → Stands l x → Stands m x
    moved l m h x s = record { answered = s.answered; highest = λ b i q. s.highest b (h.back b i) q }

-- ---- a sequence already seen
pub seen_true : (l : List Sent) (a : Sent) → seen l a ≡ true → (b : Sent) × In b l × (same_sequence b a ≡ true)
unfolding seen
seen_true [] a e = absurd (false≢true e)
seen_true (b ∷ l) a e =
    ⊎_elim (λ h. (b, inl refl, h)) (λ h. let r = seen_true l a h in (r.0, inr r.1, r.2)) (or_cases (same_sequence b a) (seen l a) e)

pub true_seen : (l : List Sent) (a b : Sent) → In b l → same_sequence b a ≡ true → seen l a ≡ true
unfolding seen
true_seen [] a b i h = absurd i
true_seen (c ∷ l) a b (inl e) h = rw (← e, h)
true_seen (c ∷ l) a b (inr i) h = or_inr (same_sequence c a) (seen l a) (true_seen l a b i h)
