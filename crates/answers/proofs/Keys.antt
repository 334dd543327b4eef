-- Keys: what they hold, their order, and what is read off them.
use mathlib.Core.Path.{◌≡◌, refl, ap, ◌∙◌}
use mathlib.Core.Bool.{Bool, true, false, not, ◌&&◌, cond}
use mathlib.Core.List.{List, [], ◌∷◌}
use mathlib.Core.Logic.{◌⊎◌, inl, inr, ⊎_elim}
use Prim.Native.Nat.{ℕ, ◌+◌, ◌*◌, ◌/◌, ◌%◌, ◌≤◌, ◌<◌, min}
use native.Mathlib.Decide.{dec_lt}
use native.Mathlib.Omega.{arith}
use lib.Dec.{eqb}
use borrow.Author.Tests.{eqb-true, eqb-false, eq-eqb, ne_eqb, not-true}
use Rattle.std.specs.Prelude.{Option, Some, None}
use Rattle.std.specs.Option.{IsSomeAnd}
use Rattle.session_meaning.specs.declared.Sent.{Sent}
use Rattle.session_meaning.specs.Answers.{Before, Ranges}
use Rattle.basics.proofs.Tests.{and_both}
use Rattle.basics.specs.Lists.{In, Pairwise}
use Rattle.sorting.specs.Sorted.{insert, sorted}
use Rattle.answers.specs.Keys.{sent, key_of, question_of, sequence_of, line_of, answer_of, sent_of, least, first_repeat, last_of_run, picks}
use Rattle.sorting.proofs.Sorting.{by_order}

-- ---- what a key holds
-- Lines with the same fields are the same.
pub same_sent : {c q s a c' q' s' a' : ℕ} → c ≡ c' → q ≡ q' → s ≡ s' → a ≡ a' → sent c q s a ≡ sent c' q' s' a'
same_sent e f g h = cc

module _ (n : ℕ) (a : Sent) (h : Ranges a) (low : n < 1024) where
  pub key_question : question_of (key_of n a) ≡ a.candidate * 128 + a.question
  key_question = omega arith

  pub key_sequence : sequence_of (key_of n a) ≡ (a.candidate * 128 + a.question) * 131072 + a.sequence
  key_sequence = omega arith

  pub key_line : line_of (key_of n a) ≡ n
  key_line = omega arith

  pub key_answer : answer_of (key_of n a) ≡ a.answer
  key_answer = omega arith

  pub key_sent : sent_of (key_of n a) ≡ a
  key_sent = same_sent (omega (arith, key_question)) (omega (arith, key_question)) (omega (arith, key_sequence)) key_answer

-- ---- putting in order keeps the members
pub in_insert : (z x : ℕ) (l : List ℕ) → In z (insert x l) → (z ≡ x) ⊎ In z l
unfolding insert
in_insert z x [] h = h
in_insert z x (y ∷ l) h =
    by_order (λ w. In z w → (z ≡ x) ⊎ ((z ≡ y) ⊎ In z l)) x y (x ∷ y ∷ l) (y ∷ insert x l)
    (λ e k. k)
    (λ e k. ⊎_elim (λ f. inr (inl f)) (λ i. ⊎_elim (λ f. inl f) (λ g. inr (inr g)) (in_insert z x l i)) k)
    h

pub insert_in : (z x : ℕ) (l : List ℕ) → (z ≡ x) ⊎ In z l → In z (insert x l)
unfolding insert
insert_in z x [] h = h
insert_in z x (y ∷ l) h =
    by_order (In z) x y (x ∷ y ∷ l) (y ∷ insert x l)
    (λ e. h)
    (λ e. ⊎_elim (λ f. inr (insert_in z x l (inl f))) (λ k. ⊎_elim (λ f. inl f) (λ i. inr (insert_in z x l (inr i))) k) h)

pub in_sorted : (z : ℕ) (l : List ℕ) → In z (sorted l) → In z l
unfolding sorted
in_sorted z [] h = h
in_sorted z (x ∷ l) h = ⊎_elim (λ f. inl f) (λ k. inr (in_sorted z l k)) (in_insert z x (sorted l) h)

pub sorted_in : (z : ℕ) (l : List ℕ) → In z l → In z (sorted l)
unfolding sorted
sorted_in z [] h = h
sorted_in z (x ∷ l) h = insert_in z x (sorted l) (⊎_elim (λ f. inl f) (λ k. inr (sorted_in z l k)) h)

-- Each key is lower than those after it.
abbrev pub Ascending : List ℕ → Type 0
Ascending = Pairwise (λ x y. x < y)

ascending_insert : (x : ℕ) (l : List ℕ) → Ascending l → ((y : ℕ) → In y l → x ≡ y → ⊥) → Ascending (insert x l)
unfolding insert
ascending_insert x [] r h = (λ b i. absurd i, tt)
ascending_insert x (y ∷ l) r h =
    by_order Ascending x y (x ∷ y ∷ l) (y ∷ insert x l)
    (λ e. let l' : x < y = omega (arith, h y (inl refl)) in
    (λ b i. ⊎_elim (λ (f : b ≡ y). rw f l') (λ k. omega (arith, r.0 b k)) i, r))
    (λ e. (λ b i. ⊎_elim (λ (f : b ≡ x). rw f e) (λ k. r.0 b k) (in_insert b x l i), ascending_insert x l r.1 (λ z i. h z (inr i))))

-- Keys that differ climb once they are in order.
pub ascending_sorted : (l : List ℕ) → Pairwise (λ x y. x ≡ y → ⊥) l → Ascending (sorted l)
unfolding sorted
ascending_sorted [] d = tt
ascending_sorted (x ∷ l) d = ascending_insert x (sorted l) (ascending_sorted l d.1) (λ y i. d.0 y (in_sorted y l i))

-- ---- the first repeated sequence
-- Of two keys with one sequence the higher has the later line.
same_line : (x y : ℕ) → x ≤ y → sequence_of x ≡ sequence_of y → line_of x ≤ line_of y
same_line x y h e = omega arith

-- The first key of a climbing list is at most each.
first_least : (x : ℕ) (l : List ℕ) (y : ℕ) → Ascending (x ∷ l) → In y (x ∷ l) → x ≤ y
first_least x l y r (inl e) = omega arith
first_least x l y r (inr i) = omega (arith, r.0 y i)

-- Of two lines the lower one is at most n where one of them is.
least_left : (x n : ℕ) (b : Option ℕ) → x ≤ n → IsSomeAnd (least (Some x) b) (λ r. r ≤ n)
least_left x n None h = h
least_left x n (Some y) h = omega arith

least_right : (a b : Option ℕ) (n : ℕ) → IsSomeAnd b (λ r. r ≤ n) → IsSomeAnd (least a b) (λ r. r ≤ n)
least_right None b n h = h
least_right (Some x) None n h = absurd h
least_right (Some x) (Some y) n h = omega arith

-- Where a key repeats a lower one's sequence there is a first repeat, at most at its line.
pub repeat_least : (l : List ℕ) → Ascending l → (x y : ℕ) → In x l → In y l → x < y → sequence_of x ≡ sequence_of y
    → IsSomeAnd (first_repeat l) (λ r. r ≤ line_of y)
unfolding first_repeat
repeat_least [] r x y i j h e = absurd i
repeat_least (z ∷ []) r x y (inl f) (inl g) h e = absurd (omega arith)
repeat_least (z ∷ []) r x y (inl f) (inr j) h e = absurd j
repeat_least (z ∷ []) r x y (inr i) j h e = absurd i
repeat_least (z ∷ w ∷ l) r x y (inl f) (inl g) h e = absurd (omega arith)
repeat_least (z ∷ w ∷ l) r x y (inl f) (inr j) h e =
    let a : z < w = r.0 w (inl refl) in
    let b : w ≤ y = first_least w l y r.1 j in
    let zw : sequence_of z ≡ sequence_of w = omega arith in
    let wy : sequence_of w ≡ sequence_of y = omega arith in
    rw (eq-eqb _ _ zw) (least_left (line_of w) (line_of y) (first_repeat (w ∷ l)) (same_line w y b wy))
repeat_least (z ∷ w ∷ l) r x y (inr i) (inl g) h e = absurd (omega (arith, r.0 x i))
repeat_least (z ∷ w ∷ l) r x y (inr i) (inr j) h e = least_right _ (first_repeat (w ∷ l)) (line_of y) (repeat_least (w ∷ l) r.1 x y i j h e)

-- It is the line of a key that repeats a lower one's sequence.
pub record Repeat (l : List ℕ) (n : ℕ) : Type 0 where
  pub lower : ℕ
  pub higher : ℕ
  pub lower_in : In lower l
  pub higher_in : In higher l
  pub below : lower < higher
  pub sequence : sequence_of lower ≡ sequence_of higher
  pub line : line_of higher ≡ n

pub repeat_is : (l : List ℕ) → Ascending l → (n : ℕ) → first_repeat l ≡ Some n → Repeat l n
unfolding first_repeat
repeat_is [] r n h = cc
repeat_is (z ∷ []) r n h = cc
repeat_is (z ∷ w ∷ l) r n h = go (eqb (sequence_of z) (sequence_of w)) refl (first_repeat (w ∷ l)) (λ m e. repeat_is (w ∷ l) r.1 m e) h
  where
    later : Repeat (w ∷ l) n → Repeat (z ∷ w ∷ l) n
    later q =
        record {
          lower = q.lower;
          higher = q.higher;
          lower_in = inr q.lower_in;
          higher_in = inr q.higher_in;
          below = q.below;
          sequence = q.sequence;
          line = q.line;
        }

    here : eqb (sequence_of z) (sequence_of w) ≡ true → line_of w ≡ n → Repeat (z ∷ w ∷ l) n
    here e f =
        record {
          lower = z;
          higher = w;
          lower_in = inl refl;
          higher_in = inr (inl refl);
          below = r.0 w (inl refl);
          sequence = eqb-true _ _ e;
          line = f;
        }

    go : (t : Bool) → eqb (sequence_of z) (sequence_of w) ≡ t → (o : Option ℕ) → ((m : ℕ) → o ≡ Some m → Repeat (w ∷ l) m)
        → least (cond t (Some (line_of w)) None) o ≡ Some n → Repeat (z ∷ w ∷ l) n
    go false e o q h = later (q n h)
    go true e None q h = here e cc
    go true e (Some m) q h = elim (dec_lt m (line_of w)) [
      | yes d ↦ let f : min (line_of w) m ≡ n = cc in later (q n (ap Some (omega arith)))
      | no d ↦ let f : min (line_of w) m ≡ n = cc in here e (omega arith)
    ]

-- ---- the picked keys
-- After the last key for its candidate and question come those of later ones.
last_above : (x : ℕ) (l : List ℕ) → Ascending (x ∷ l) → last_of_run x l ≡ true → (y : ℕ) → In y l → question_of x < question_of y
last_above x [] r e y i = absurd i
last_above x (w ∷ l) r e y i =
    omega (arith, eqb-false (question_of x) (question_of w) (not-true _ e), r.0 w (inl refl), first_least w l y r.1 i)

-- What holds of the picked keys whether the first one is picked or not.
by_pick : (P : List ℕ → Type 0) (z : ℕ) (l : List ℕ) → (last_of_run z l ≡ true → (answer_of z ≡ 0 → ⊥) → P (z ∷ picks l)) → P (picks l)
    → P (picks (z ∷ l))
unfolding picks
by_pick P z l f g = go (last_of_run z l && not (eqb (answer_of z) 0)) refl
  where
    go : (t : Bool) → (last_of_run z l && not (eqb (answer_of z) 0)) ≡ t → P (cond t (z ∷ picks l) (picks l))
    go true e = let p = and_both (last_of_run z l) (not (eqb (answer_of z) 0)) e in f p.0 (eqb-false _ _ (not-true _ p.1))
    go false e = g

pub record Picked (l : List ℕ) (x : ℕ) : Type 0 where
  pub one : In x l
  pub answered : answer_of x ≡ 0 → ⊥
  pub highest : (y : ℕ) → In y l → question_of x ≡ question_of y → y ≤ x

pub pick_in : (l : List ℕ) → Ascending l → (x : ℕ) → In x (picks l) → Picked l x
unfolding picks
pick_in [] r x h = absurd h
pick_in (z ∷ l) r x h =
    by_pick (λ w. In x w → Picked (z ∷ l) x) z l
    (λ last some i. ⊎_elim (λ f. first f last some) (λ k. later (pick_in l r.1 x k)) i)
    (λ i. later (pick_in l r.1 x i))
    h
  where
    later : Picked l x → Picked (z ∷ l) x
    later p =
        record {
          one = inr p.one;
          answered = p.answered;
          highest = λ y i e. ⊎_elim (λ (f : y ≡ z). omega (arith, r.0 x p.one)) (λ k. p.highest y k e) i;
        }

    first : x ≡ z → last_of_run z l ≡ true → (answer_of z ≡ 0 → ⊥) → Picked (z ∷ l) x
    first f last some =
        record {
          one = inl f;
          answered = rw f some;
          highest = λ y i g. ⊎_elim (λ (k : y ≡ z). omega arith) (λ k. absurd (omega (arith, last_above z l r last y k, ap question_of f))) i;
        }

pub in_pick : (l : List ℕ) → Ascending l → (x : ℕ) → Picked l x → In x (picks l)
unfolding picks
in_pick [] r x p = absurd p.one
in_pick (z ∷ l) r x p =
    ⊎_elim first
    (λ i. later (in_pick l r.1 x (record { one = i; answered = p.answered; highest = λ y k. p.highest y (inr k) })))
    p.one
  where
    last : (k : List ℕ) → Ascending (z ∷ k) → x ≡ z → ((y : ℕ) → In y (z ∷ k) → question_of x ≡ question_of y → y ≤ x) → last_of_run z k ≡ true
    last [] c f h = refl
    last (w ∷ k) c f h =
        ap not (ne_eqb _ _ (λ g. omega (arith, h w (inr (inl refl)) (ap question_of f ∙ g), c.0 w (inl refl))))

    first : x ≡ z → In x (picks (z ∷ l))
    first f = rw (last l r f p.highest, ne_eqb (answer_of z) 0 (λ e. p.answered (rw f e))) (inl f)

    later : In x (picks l) → In x (picks (z ∷ l))
    later i = by_pick (In x) z l (λ a b. inr i) i

pub picks_rise : (l : List ℕ) → Ascending l → Pairwise (λ x y. question_of x < question_of y) (picks l)
unfolding picks
picks_rise [] r = tt
picks_rise (z ∷ l) r =
    let q = picks_rise l r.1 in
    by_pick (Pairwise (λ x y. question_of x < question_of y)) z l (λ last some. (λ y i. last_above z l r last y (pick_in l r.1 y i).one, q)) q

-- Keys of a later candidate or question are of later lines.
pub question_ahead : (x y : ℕ) → question_of x < question_of y → Before (sent_of x) (sent_of y)
question_ahead x y = by_parts (question_of x) (question_of y)
  where
    by_parts : (p q : ℕ) → p < q → (p / 128 < q / 128) ⊎ ((p / 128 ≡ q / 128) × (p % 128 < q % 128))
    by_parts p q h = elim (dec_lt (p / 128) (q / 128)) [
      | yes l ↦ inl l
      | no l ↦ inr (omega arith, omega arith)
    ]
