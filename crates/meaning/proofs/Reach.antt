-- The computed reach is the reach of the paths: `reach_exact`. `starts_in`, `moves_in` and `least` say the same without paths:
-- the reach is the least set that has the starting sections and is closed under the moves. No bound on the sections is asked.
-- Rounds suffice because the moves that lead to a section not yet there get fewer with each round that changes anything.
use mathlib.Core.Path.{◌≡◌, refl, sym, ap, ◌∙◌}
use mathlib.Core.Logic.{◌⊎◌, inl, inr, ⊎_elim, ◌↔◌}
use mathlib.Core.Bool.{Bool, true, false, ◌&&◌, ◌||◌, cond, false≢true}
use mathlib.Core.List.{List, [], ◌∷◌, ◌++◌}
use mathlib.Mathlib.Data.Bool.Basic.{or_inl, or_inr, and_intro}
use Prim.Native.Nat.{ℕ, zero, suc, ◌≤◌, ◌<◌}
use native.Mathlib.Omega.{arith}
use lib.Dec.{eqb}
use lib.ListN.{length}
use borrow.Author.Tests.{eqb-true, eq-eqb}
use Rattle.meaning.specs.declared.Move.{Move}
use Rattle.meaning.specs.Station.{permitted}
use Rattle.basics.specs.Lists.{In, Once}
use Rattle.meaning.specs.Paths.{mem, once, steps, end_of, path_to, Reaches, add, follow, follow_all, rounds, reach}
use Rattle.basics.proofs.Tests.{or_cases, and_both, or_swap}

abbrev Member : ℕ → List ℕ → Type 0
Member k xs = mem k xs ≡ true

-- A set of sections that the moves do not leave.
abbrev pub Closed : List Move → (ℕ → Type 0) → Type 0
Closed ms P = (a b : ℕ) → permitted ms a b ≡ true → P a → P b

pub mem_head : (k : ℕ) (xs : List ℕ) → mem k (k ∷ xs) ≡ true
mem_head k xs = or_inl (eqb k k) (mem k xs) (eq-eqb k k refl)

pub mem_tail : (k a : ℕ) (xs : List ℕ) → mem k xs ≡ true → mem k (a ∷ xs) ≡ true
mem_tail k a xs h = or_inr (eqb k a) (mem k xs) h

pub mem_cases : (k a : ℕ) (xs : List ℕ) → mem k (a ∷ xs) ≡ true → (k ≡ a) ⊎ (mem k xs ≡ true)
mem_cases k a xs h = ⊎_elim (λ e. inl (eqb-true k a e)) (λ e. inr e) (or_cases (eqb k a) (mem k xs) h)

-- The tests of members and of repeats, in words.
pub member : (a : ℕ) (l : List ℕ) → (mem a l ≡ true) ↔ In a l
member a [] = grind arith
member a (b ∷ l) = grind (arith, mem_head, mem_tail, mem_cases a b l, member a l)

pub once_same : (p : List ℕ) → (once p ≡ true) ↔ Once p
once_same [] = grind arith
once_same (a ∷ p) = grind (arith, member a p, once_same p)

-- The members of a list with one more at its end.
pub mem_snoc : (k x : ℕ) (xs : List ℕ) → mem k (xs ++ (x ∷ [])) ≡ (eqb k x || mem k xs)
mem_snoc k x [] = refl
mem_snoc k x (y ∷ xs) = ap (λ (b : Bool). eqb k y || b) (mem_snoc k x xs) ∙ or_swap (eqb k y) (eqb k x) (mem k xs)

-- ---- the moves of a list
pub permitted_cases : (m : Move) (ms : List Move) (a b : ℕ) → permitted (m ∷ ms) a b ≡ true
    → ((a ≡ m.from.0) × (b ≡ m.to.0)) ⊎ (permitted ms a b ≡ true)
permitted_cases m ms a b h = grind arith

pub permitted_head : (m : Move) (ms : List Move) → permitted (m ∷ ms) m.from.0 m.to.0 ≡ true
permitted_head m ms = simp (eq-eqb m.from.0 m.from.0 refl, eq-eqb m.to.0 m.to.0 refl)

pub permitted_tail : (m : Move) (ms : List Move) (a b : ℕ) → permitted ms a b ≡ true → permitted (m ∷ ms) a b ≡ true
permitted_tail m ms a b h = or_inr (eqb a m.from.0 && eqb b m.to.0) (permitted ms a b) h

-- A list of two parts permits what either part permits.
pub permitted-append : (ms ns : List Move) (a b : ℕ) → permitted (ms ++ ns) a b ≡ (permitted ms a b || permitted ns a b)
permitted-append [] ns a b = refl
permitted-append (m ∷ ms) ns a b = grind (arith, permitted-append ms ns a b)

-- ---- one move
add_in : (k : ℕ) (xs : List ℕ) → Member k (add k xs)
add_in k xs = grind arith

-- "Adding a section already present changes nothing."
add_present : (k : ℕ) (xs : List ℕ) → mem k xs ≡ true → add k xs ≡ xs
add_present k xs h = rw h

follow_mono : (k : ℕ) (m : Move) (xs : List ℕ) → Member k xs → Member k (follow m xs)
follow_mono k m xs h = grind arith

follow_in : (m : Move) (xs : List ℕ) → Member m.from.0 xs → Member m.to.0 (follow m xs)
follow_in m xs h = rw h (add_in m.to.0 xs)

-- ---- one round
round_mono : (k : ℕ) (ms : List Move) (xs : List ℕ) → Member k xs → Member k (follow_all ms xs)
unfolding follow_all
round_mono k [] xs h = h
round_mono k (m ∷ ms) xs h = round_mono k ms (follow m xs) (follow_mono k m xs h)

round_in : (ms : List Move) (xs : List ℕ) (a b : ℕ) → permitted ms a b ≡ true → Member a xs → Member b (follow_all ms xs)
unfolding follow_all
round_in [] xs a b h i = absurd (false≢true h)
round_in (m ∷ ms) xs a b h i =
    ⊎_elim (λ e. round_mono b ms (follow m xs) (rw e.1 (follow_in m xs (rw e.0 at i))))
    (λ e. round_in ms (follow m xs) a b e (follow_mono a m xs i)) (permitted_cases m ms a b h)

round_closed : (ms : List Move) (xs : List ℕ) → Closed ms (λ k. Member k xs) → follow_all ms xs ≡ xs
unfolding follow_all
round_closed [] xs c = refl
round_closed (m ∷ ms) xs c =
    ap (follow_all ms) (same (mem m.from.0 xs) refl) ∙ round_closed ms xs (λ a b h. c a b (permitted_tail m ms a b h))
  where
    same : (t : Bool) → mem m.from.0 xs ≡ t → cond t (add m.to.0 xs) xs ≡ xs
    same true e = add_present m.to.0 xs (c m.from.0 m.to.0 (permitted_head m ms) e)
    same false e = refl

-- ---- how many of the moves lead to a section that is not there yet
pending : List Move → List ℕ → ℕ
pending [] xs = 0
pending (m ∷ ms) xs = cond (mem m.to.0 xs) (pending ms xs) (suc (pending ms xs))

pending_all : (ms : List Move) (xs : List ℕ) → pending ms xs ≤ length ms
unfolding pending
pending_all [] xs = omega arith
pending_all (m ∷ ms) xs = grind (arith, pending_all ms xs)

pending_mono : (ms : List Move) (xs ys : List ℕ) → ((k : ℕ) → Member k xs → Member k ys) → pending ms ys ≤ pending ms xs
unfolding pending
pending_mono [] xs ys f = omega arith
pending_mono (m ∷ ms) xs ys f = grind (arith, pending_mono ms xs ys f)

pending_less : (ms : List Move) (xs ys : List ℕ) → ((k : ℕ) → Member k xs → Member k ys)
    → (a b : ℕ) → permitted ms a b ≡ true → mem b xs ≡ false → Member b ys → pending ms ys < pending ms xs
unfolding pending
pending_less [] xs ys f a b h n i = absurd (false≢true h)
pending_less (m ∷ ms) xs ys f a b h n i =
    go (mem m.to.0 xs) refl (mem m.to.0 ys) refl (permitted_cases m ms a b h)
    (λ e. pending_less ms xs ys f a b e n i) (pending_mono ms xs ys f)
  where
    go : (s : Bool) → mem m.to.0 xs ≡ s → (t : Bool) → mem m.to.0 ys ≡ t
        → ((a ≡ m.from.0) × (b ≡ m.to.0)) ⊎ (permitted ms a b ≡ true)
        → (permitted ms a b ≡ true → pending ms ys < pending ms xs) → pending ms ys ≤ pending ms xs
        → cond t (pending ms ys) (suc (pending ms ys)) < cond s (pending ms xs) (suc (pending ms xs))
    go s es t et (inl e) r l =
        let s0 : s ≡ false = sym es ∙ rw e.1 at n in
        let t0 : t ≡ true = sym et ∙ rw e.1 at i in
        rw (s0, t0) (omega arith)
    go true es true et (inr e) r l = r e
    go true es false et (inr e) r l = absurd (false≢true (sym et ∙ f m.to.0 es))
    go false es true et (inr e) r l = omega arith
    go false es false et (inr e) r l = omega (arith, r e)

-- A move that leads out of the set.
record Leads (ms : List Move) (xs : List ℕ) : Type 0 where
  a : ℕ
  b : ℕ
  move : permitted ms a b ≡ true
  inside : mem a xs ≡ true
  outside : mem b xs ≡ false

closed_or_leads : (ms : List Move) (xs : List ℕ) → Closed ms (λ k. Member k xs) ⊎ Leads ms xs
closed_or_leads [] xs = inl (λ a b h i. absurd (false≢true h))
closed_or_leads (m ∷ ms) xs = go (mem m.from.0 xs) refl (mem m.to.0 xs) refl (closed_or_leads ms xs)
  where
    go : (s : Bool) → mem m.from.0 xs ≡ s → (t : Bool) → mem m.to.0 xs ≡ t → Closed ms (λ k. Member k xs) ⊎ Leads ms xs
        → Closed (m ∷ ms) (λ k. Member k xs) ⊎ Leads (m ∷ ms) xs
    go s es t et (inr l) =
        inr (record { a = l.a; b = l.b; move = permitted_tail m ms l.a l.b l.move; inside = l.inside; outside = l.outside })
    go true es false et (inl c) = inr (record { a = m.from.0; b = m.to.0; move = permitted_head m ms; inside = es; outside = et })
    go true es true et (inl c) = inl (λ a b h i. ⊎_elim (λ e. rw e.1 et) (λ e. c a b e i) (permitted_cases m ms a b h))
    go false es t et (inl c) =
        inl (λ a b h i. ⊎_elim (λ e. absurd (false≢true (sym es ∙ (rw e.0 at i)))) (λ e. c a b e i) (permitted_cases m ms a b h))

-- ---- all rounds
rounds_closed : (n : ℕ) (ms : List Move) (xs : List ℕ) → Closed ms (λ k. Member k xs) → rounds n ms xs ≡ xs
unfolding rounds
rounds_closed zero ms xs c = refl
rounds_closed (suc n) ms xs c = ap (rounds n ms) (round_closed ms xs c) ∙ rounds_closed n ms xs c

rounds_enough : (n : ℕ) (ms : List Move) (xs : List ℕ) → pending ms xs ≤ n → Closed ms (λ k. Member k (rounds n ms xs))
unfolding rounds
rounds_enough zero ms xs h =
    ⊎_elim (λ c. c)
    (λ l.
    let p : pending ms (l.b ∷ xs) < pending ms xs =
    pending_less ms xs (l.b ∷ xs) (λ k i. mem_tail k l.b xs i) l.a l.b l.move l.outside (mem_head l.b xs) in
    absurd (omega arith))
    (closed_or_leads ms xs)
rounds_enough (suc n) ms xs h =
    ⊎_elim (λ c. rw (round_closed ms xs c, rounds_closed n ms xs c) c)
    (λ l.
    let p : pending ms (follow_all ms xs) < pending ms xs =
    pending_less ms xs (follow_all ms xs) (λ k i. round_mono k ms xs i) l.a l.b l.move l.outside
    (round_in ms xs l.a l.b l.move l.inside) in
    rounds_enough n ms (follow_all ms xs) (omega arith))
    (closed_or_leads ms xs)

rounds_mono : (k n : ℕ) (ms : List Move) (xs : List ℕ) → Member k xs → Member k (rounds n ms xs)
unfolding rounds
rounds_mono k zero ms xs h = h
rounds_mono k (suc n) ms xs h = rounds_mono k n ms (follow_all ms xs) (round_mono k ms xs h)

-- ---- nothing more than needed: a closed set that has the sections xs has all of their reach
module _ (all : List Move) (P : ℕ → Type 0) (c : Closed all P) where
  follow_least : (m : Move) (xs : List ℕ) → permitted all m.from.0 m.to.0 ≡ true
      → ((j : ℕ) → Member j xs → P j) → (j : ℕ) → Member j (follow m xs) → P j
  follow_least m xs h f j = grind arith

  round_least : (ms : List Move) → ((a b : ℕ) → permitted ms a b ≡ true → permitted all a b ≡ true) → (xs : List ℕ) → ((j : ℕ) → Member j xs → P j)
      → (j : ℕ) → Member j (follow_all ms xs) → P j
  unfolding follow_all
  round_least [] s xs f j i = f j i
  round_least (m ∷ ms) s xs f j i =
      round_least ms (λ a b h. s a b (permitted_tail m ms a b h)) (follow m xs)
      (follow_least m xs (s m.from.0 m.to.0 (permitted_head m ms)) f) j i

  rounds_least : (n : ℕ) (xs : List ℕ) → ((j : ℕ) → Member j xs → P j) → (j : ℕ) → Member j (rounds n all xs) → P j
  unfolding rounds
  rounds_least zero xs f j i = f j i
  rounds_least (suc n) xs f j i = rounds_least n (follow_all all xs) (round_least all (λ a b h. h) xs f) j i

-- ---- the least closed set
-- The starting sections are in the reach.
pub starts_in : (ms : List Move) (S : List ℕ) (k : ℕ) → mem k S ≡ true → mem k (reach ms S) ≡ true
unfolding reach
starts_in ms S k h = rounds_mono k (length ms) ms S h

-- No move leaves the reach.
pub moves_in : (ms : List Move) (S : List ℕ) → Closed ms (λ k. mem k (reach ms S) ≡ true)
unfolding reach
moves_in ms S = rounds_enough (length ms) ms S (pending_all ms S)

-- Whatever has the starting sections and is closed has the reach.
pub least : (ms : List Move) (S : List ℕ) (P : ℕ → Type 0) → ((k : ℕ) → mem k S ≡ true → P k) → Closed ms P
    → (k : ℕ) → mem k (reach ms S) ≡ true → P k
unfolding reach
least ms S P f c k i = rounds_least ms P c (length ms) S f k i

-- ---- paths
abbrev Walks : List Move → List ℕ → ℕ → List ℕ → ℕ → Type 0
Walks ms S a p k = (mem a S ≡ true) × (steps ms a p ≡ true) × (end_of a p ≡ k)

-- A list is a path exactly where its first section is a start, its steps are moves and its last section is k.
pub path_parts : (ms : List Move) (S : List ℕ) (k a : ℕ) (p : List ℕ) → path_to ms S k (a ∷ p) ≡ true → Walks ms S a p k
unfolding path_to
path_parts ms S k a p h = grind arith

pub path_of : (ms : List Move) (S : List ℕ) (k a : ℕ) (p : List ℕ) → Walks ms S a p k → path_to ms S k (a ∷ p) ≡ true
unfolding path_to
path_of ms S k a p w = and_intro w.0 (and_intro w.1 (eq-eqb (end_of a p) k w.2))

-- A path's steps with one section more at the end.
pub steps_more : (ms : List Move) (a : ℕ) (p : List ℕ) (b : ℕ) → steps ms a p ≡ true → permitted ms (end_of a p) b ≡ true
    → steps ms a (p ++ (b ∷ [])) ≡ true
steps_more ms a [] b h s = and_intro s refl
steps_more ms a (x ∷ p) b h s = let w = and_both (permitted ms a x) (steps ms x p) h in and_intro w.0 (steps_more ms x p b w.1 s)

pub end_more : (a : ℕ) (p : List ℕ) (b : ℕ) → end_of a (p ++ (b ∷ [])) ≡ b
end_more a [] b = refl
end_more a (x ∷ p) b = end_more x p b

steps_stay : (ms : List Move) (P : ℕ → Type 0) → Closed ms P → (a : ℕ) (p : List ℕ) → steps ms a p ≡ true → P a → P (end_of a p)
steps_stay ms P c a [] h i = i
steps_stay ms P c a (x ∷ p) h i = let w = and_both (permitted ms a x) (steps ms x p) h in steps_stay ms P c x p w.1 (c a x w.0 i)

-- Where a path ends is in the reach.
pub path_reach : (ms : List Move) (S : List ℕ) (k : ℕ) (p : List ℕ) → path_to ms S k p ≡ true → mem k (reach ms S) ≡ true
unfolding path_to
path_reach ms S k [] h = absurd (false≢true h)
path_reach ms S k (a ∷ p) h =
    let w = path_parts ms S k a p h in
    rw w.2 at (steps_stay ms (λ j. mem j (reach ms S) ≡ true) (moves_in ms S) a p w.1 (starts_in ms S a w.0))

-- A path that goes one move further.
pub path_more : (ms : List Move) (S : List ℕ) (a b : ℕ) (p : List ℕ) → permitted ms a b ≡ true → path_to ms S a p ≡ true
    → path_to ms S b (p ++ (b ∷ [])) ≡ true
unfolding path_to
path_more ms S a b p h h2 = grind (arith, end_more, steps_more)

-- Each section of the reach is where a path ends.
pub reach_path : (ms : List Move) (S : List ℕ) (k : ℕ) → mem k (reach ms S) ≡ true → Reaches ms S k
reach_path ms S =
    least ms S (λ k. Reaches ms S k) (λ k h. (k ∷ [], path_of ms S k k [] (h, refl, refl)))
    (λ a b h r. (r.0 ++ (b ∷ []), path_more ms S a b r.0 h r.1))

-- The computed reach is exactly the set of sections where a path ends.
pub reach_exact : (ms : List Move) (S : List ℕ) (k : ℕ) → (mem k (reach ms S) ≡ true) ↔ Reaches ms S k
reach_exact ms S k = (reach_path ms S k, λ r. path_reach ms S k r.0 r.1)
