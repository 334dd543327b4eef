-- The open moves of one element, and those of all open elements, one after another.
use Rattle.std.proofs.Common.{◌≡◌, refl, sym, ap, ◌∙◌, Bool, true, List, [], ◌∷◌, Option, Some, None, ℕ, zero, suc, ◌+◌, ◌*◌, ◌/◌, ◌%◌, ◌≤◌, ◌<◌, length, get_or, take, map, arith}
use Rattle.std.specs.List.{filter, enumerate_from, slice_get}
use Rattle.std.specs.Option.{option_and_then}
use Rattle.std.proofs.lemmas.Option.{slice_get-get_or, slice_get_past, slice_get_within, get_or_from_slice_get}
use Rattle.std.proofs.lemmas.List.{get_or-map}
use Rattle.std.proofs.lemmas.List.FromFn.{length-enumerate_from, get_or-enumerate_from}
use native.Mathlib.Nat.{eq-or-lt_of_le}
use native.Mathlib.Decide.{dec_lt}
use mathlib.Core.Logic.{⊎_elim}
use lib.Dec.{eqb}
use lib.ListN.{set, length-map, length-set}
use lib.Seq.{get_or-take, length-take-le, get_or-set_same, get_or-set_other}
use borrow.Author.Tests.{ne_eqb, lt-ltb, le-ltb}
use Rattle.meaning.specs.declared.Section.{Section}
use Rattle.meaning.specs.declared.Move.{Move}
use Rattle.meaning.specs.declared.Turnout.{Turnout}
use Rattle.meaning.specs.declared.Kind.{Kind}
use Rattle.meaning.specs.declared.Kind.TheVariants.{Signal, Turnout as Points}
use Rattle.meaning.specs.declared.Element.{Element}
use Rattle.meaning.specs.declared.Situation.{Situation}
use Rattle.meaning.specs.Station.{elements_of, file_states, moves_of}
use Rattle.meaning.specs.Settings.{open_count}
use Rattle.meaning.specs.Sections.{IsSection}
use Rattle.meaning.specs.File.{no_element}
use Rattle.meaning.specs.Inside.{sections_of, all_inside}
use Rattle.element_states.specs.Collected.{states_of, Collected}
use Rattle.element_states.specs.Sound.{Sound}
use Rattle.element_states.proofs.States.{all_elements}
use Rattle.moves.proofs.Station.{element_inside}
use Rattle.moves.proofs.Element.{signal_inside, turnout_inside}
use Rattle.setting_tables.specs.OpenMoves.{AreOpenKinds, IsOpenMoves, MovesOf, open_kinds, default_kind, open_move, open_move_of}

-- ---- one element
-- A row of the first four values of a function.
four : (f : ℕ → Option Move) (i : ℕ) → i < 4 → get_or (f 0 ∷ f 1 ∷ f 2 ∷ f 3 ∷ []) i None ≡ f i
four f zero l = refl
four f (suc zero) l = refl
four f (suc (suc zero)) l = refl
four f (suc (suc (suc zero))) l = refl
four f (suc (suc (suc (suc i)))) l = absurd (omega arith)

-- A signal has its move at 1, and no other.
pub signal_moves : {kind : Option Kind} {k : Kind} {m : Move} → kind ≡ Some k → k ≡ Signal m → MovesOf kind (Some m ∷ None ∷ None ∷ None ∷ [])
unfolding open_move moves_of
signal_moves {m = m} e f = rw (e, f) (four (open_move (Signal m)))

-- A turnout has stem and straight leg both ways at 1, and stem and diverted leg at 2.
pub turnout_moves : {kind : Option Kind} {k : Kind} {t : Turnout} → kind ≡ Some k → k ≡ Points t
    → MovesOf kind (
    Some (record { from = t.stem; to = t.straight })
    ∷ Some (record { from = t.straight; to = t.stem })
    ∷ Some (record { from = t.stem; to = t.diverted })
    ∷ Some (record { from = t.diverted; to = t.stem })
    ∷ []
    )
unfolding open_move moves_of
turnout_moves {t = t} e f = rw (e, f) (four (open_move (Points t)))

-- ---- the open elements of a list
-- There are as many open elements as the states say.
pub open_kinds-length : (es : List Element) → length (open_kinds es) ≡ open_count (states_of es)
unfolding open_kinds open_count
open_kinds-length [] = refl
open_kinds-length (e ∷ es) = go e.state (open_kinds-length es)
  where
    go : (f : ℕ) → length (open_kinds es) ≡ open_count (states_of es)
        → length (open_kinds (record { kind = e.kind; state = f } ∷ es)) ≡ open_count (f ∷ states_of es)
    go zero h = ap suc h
    go (suc f) h = h

pub opens : (s : Situation) → length (open_kinds (elements_of s)) ≡ open_count (file_states s)
unfolding file_states
opens s = open_kinds-length (elements_of s)

-- An open move is one of the open elements'.
pub move_below : (s : Situation) (e : ℕ) (m : Move) → open_move_of s e ≡ Some m → e < length (open_kinds (elements_of s)) * 4
unfolding open_move_of
move_below s e m h = go (dec_lt e (length (open_kinds (elements_of s)) * 4))
  where
    go : Dec (e < length (open_kinds (elements_of s)) * 4) → e < length (open_kinds (elements_of s)) * 4
    go (yes l) = l
    go (no l) = let z : None ≡ Some m = rw (le-ltb e (length (open_kinds (elements_of s)) * 4) (omega arith)) at h in cc

-- ---- the loop over the open elements
abbrev kind_of : Element → Kind
kind_of e = e.kind

abbrev pub is_open : Element → Bool
is_open e = eqb e.state 0

-- The open elements, each with its place among them.
abbrev pub numbered : List Element → List (ℕ × Element)
numbered es = enumerate_from 0 (filter is_open es)

open_kinds-filter : (es : List Element) → open_kinds es ≡ map kind_of (filter is_open es)
unfolding open_kinds
open_kinds-filter [] = refl
open_kinds-filter (e ∷ es) = go e.state (open_kinds-filter es)
  where
    go : (f : ℕ) → open_kinds es ≡ map kind_of (filter is_open es)
        → open_kinds (record { kind = e.kind; state = f } ∷ es) ≡ map kind_of (filter is_open (record { kind = e.kind; state = f } ∷ es))
    go zero h = ap (λ (ks : List Kind). e.kind ∷ ks) h
    go (suc f) h = rw (ne_eqb (suc f) 0 (λ e. omega arith)) h

pub numbered-length : (es : List Element) → length (numbered es) ≡ length (open_kinds es)
numbered-length es =
    length-enumerate_from 0 (filter is_open es) ∙ sym (ap length (open_kinds-filter es) ∙ length-map (filter is_open es) kind_of)

-- Element e, which comes with place n, is the q-th open one.
pub record Next (es : List Element) (q n : ℕ) (e : Element) : Type 0 where
  pub place : n ≡ q
  pub room : q < length (open_kinds es)
  pub kind : get_or (open_kinds es) q default_kind ≡ e.kind

pub next_open : {es : List Element} {q : ℕ} {x : ℕ × Element} → (q < length (numbered es)) × (x ≡ get_or (numbered es) q x) → Next es q x.0 x.1
next_open {es} {q} {x} (l, is) =
    let low : q < length (filter is_open es) = omega (arith, l, length-enumerate_from 0 (filter is_open es)) in
    let here = is ∙ get_or-enumerate_from 0 (filter is_open es) q x low in
    record {
      place = omega (arith, ap (λ (y : ℕ × Element). y.0) here);
      room = omega (arith, l, numbered-length es);
      kind =
          ap (λ (ks : List Kind). get_or ks q default_kind) (open_kinds-filter es)
          ∙ get_or-map kind_of (filter is_open es) q x.1 default_kind low
          ∙ ap (λ (y : ℕ × Element). y.1.kind) (sym here);
    }

-- The kinds of the first q open elements are collected, and the other places are empty.
pub record Making (es : List Element) (kinds : List (Option Kind)) (q : ℕ) : Type 0 where
  pub size : length kinds ≡ 12
  pub put : (p : ℕ) (d : Option Kind) → p < q → get_or kinds p d ≡ slice_get (open_kinds es) p
  pub rest : (p : ℕ) (d : Option Kind) → q ≤ p → p < 12 → get_or kinds p d ≡ None

pub making_next : {es : List Element} {kinds : List (Option Kind)} {q n : ℕ} {e : Element} → Making es kinds q → Next es q n e → length (open_kinds es) ≤ 12
    → Making es (set kinds n (Some e.kind)) (q + 1)
making_next {es} {kinds} {q} {n} {e} o next few = rw next.place (record {
  size = length-set kinds q (Some e.kind) ∙ o.size;
  put = λ p d a.
      ⊎_elim
      (λ (z : p ≡ q).
      rw (z, get_or-set_same kinds q (Some e.kind) d (omega (arith, o.size, next.room)), slice_get-get_or (open_kinds es) q default_kind next.room, next.kind) refl)
      (λ (z : p < q). rw (get_or-set_other kinds q p (Some e.kind) d (λ e. omega arith)) (o.put p d z))
      (eq-or-lt_of_le (omega arith));
  rest = λ p d a b. rw (get_or-set_other kinds q p (Some e.kind) d (λ e. omega arith)) (o.rest p d (omega arith) b);
})

pub making_end : (s : Situation) {kinds : List (Option Kind)} {q : ℕ} → Making (elements_of s) kinds q → q ≡ length (numbered (elements_of s)) → AreOpenKinds s kinds
making_end s {kinds} {q} o all p d l = go (dec_lt p q)
  where
    ks : List Kind
    ks = open_kinds (elements_of s)

    go : Dec (p < q) → get_or kinds p d ≡ slice_get ks p
    go (yes h) = o.put p d h
    go (no h) = o.rest p d (omega arith) l ∙ sym (slice_get_past ks p (omega (arith, all, numbered-length (elements_of s))))

-- ---- the open moves of the open elements
pub open_moves_are : (s : Situation) (kinds : List (Option Kind)) (rows : List (List (Option Move))) → AreOpenKinds s kinds
    → ((p : ℕ) → p < 12 → MovesOf (get_or kinds p None) (get_or rows p []))
    → IsOpenMoves s rows
unfolding open_move_of
open_moves_are s kinds rows are each e l =
    each (e / 4) (omega arith) (e % 4) (omega arith)
    ∙ rw (are (e / 4) None (omega arith)) (go (dec_lt e (length ks * 4)))
  where
    ks : List Kind
    ks = open_kinds (elements_of s)

    go : Dec (e < length ks * 4) → option_and_then (λ k. open_move k (e % 4)) (slice_get ks (e / 4)) ≡ open_move_of s e
    go (yes h) = rw (lt-ltb e (length ks * 4) h, slice_get-get_or ks (e / 4) default_kind (omega arith)) refl
    go (no h) = rw (le-ltb e (length ks * 4) (omega arith), slice_get_past ks (e / 4) (omega arith)) refl

-- ---- the sections that they name
-- The elements that there are name sections from 1 to 512.
pub element_named : {s : Situation} → Sound s → {states : List ℕ} → Collected s states → (i : ℕ) → i < length (elements_of s)
    → all_inside 512 (sections_of (get_or (elements_of s) i no_element).kind) ≡ true
unfolding elements_of
element_named {s} sound collected i l =
    let room = all_elements collected sound.limits in
    let size : length (take s.header.elements s.elements) ≡ s.header.elements = length-take-le s.header.elements s.elements room in
    rw (get_or-take s.header.elements s.elements i no_element (omega arith)) (element_inside s sound no_element i (omega arith) room)

-- What holds of each element's kind holds of each open one's.
open_kinds_are : (P : Kind → Type 0) (d : Element) (es : List Element) → ((i : ℕ) → i < length es → P (get_or es i d).kind)
    → (q : ℕ) → q < length (open_kinds es) → P (get_or (open_kinds es) q default_kind)
unfolding open_kinds
open_kinds_are P d [] each q l = absurd (omega arith)
open_kinds_are P d (e ∷ es) each q l = go e.state q l (open_kinds_are P d es (λ i h. each (suc i) (omega arith)))
  where
    go : (f : ℕ) (q : ℕ) → q < length (open_kinds (record { kind = e.kind; state = f } ∷ es))
        → ((q : ℕ) → q < length (open_kinds es) → P (get_or (open_kinds es) q default_kind))
        → P (get_or (open_kinds (record { kind = e.kind; state = f } ∷ es)) q default_kind)
    go zero zero l rest = each zero (omega arith)
    go zero (suc q) l rest = rest q (omega arith)
    go (suc f) q l rest = rest q l

pub open_named : {s : Situation} → Sound s → {states : List ℕ} → Collected s states → (q : ℕ) → q < length (open_kinds (elements_of s))
    → all_inside 512 (sections_of (get_or (open_kinds (elements_of s)) q default_kind)) ≡ true
open_named {s} sound collected = open_kinds_are (λ k. all_inside 512 (sections_of k) ≡ true) no_element (elements_of s) (element_named sound collected)

-- So does each kind that is collected.
pub kind_named : {s : Situation} → Sound s → {states : List ℕ} → Collected s states → (kinds : List (Option Kind)) → AreOpenKinds s kinds
    → {i : ℕ} → i < 12 → {k : Kind} → get_or kinds i None ≡ Some k → all_inside 512 (sections_of k) ≡ true
kind_named {s} sound collected kinds are {i} l {k} is =
    let e = sym (are i None l) ∙ is in
    rw (get_or_from_slice_get (open_kinds (elements_of s)) i k default_kind e) at
    (open_named sound collected i (slice_get_within (open_kinds (elements_of s)) i k e))

-- An open move of an element names sections that it names.
open_move-inside : (k : Kind) (i : ℕ) (m : Move) → i < 4 → all_inside 512 (sections_of k) ≡ true → open_move k i ≡ Some m → IsSection m.from × IsSection m.to
unfolding open_move moves_of
open_move-inside (Signal n) i m l named e = go i l e
  where
    go : (i : ℕ) → i < 4 → open_move (Signal n) i ≡ Some m → IsSection m.from × IsSection m.to
    go zero l e = let f : Some n ≡ Some m = e in let h : n ≡ m = cc in rw (← h) (signal_inside 512 refl named)
    go (suc zero) l e = let f : None ≡ Some m = e in cc
    go (suc (suc zero)) l e = let f : None ≡ Some m = e in cc
    go (suc (suc (suc zero))) l e = let f : None ≡ Some m = e in cc
    go (suc (suc (suc (suc i)))) l e = absurd (omega arith)
open_move-inside (Points t) i m l named e = go i l e
  where
    w : IsSection t.stem × IsSection t.straight × IsSection t.diverted
    w = turnout_inside 512 refl named

    one : (a b : Section) → IsSection a → IsSection b → Some (record { from = a; to = b }) ≡ Some m → IsSection m.from × IsSection m.to
    one a b p q f = let h : record { from = a; to = b } ≡ m = cc in rw (← h) (p, q)

    go : (i : ℕ) → i < 4 → open_move (Points t) i ≡ Some m → IsSection m.from × IsSection m.to
    go zero l e = one t.stem t.straight w.0 w.1 e
    go (suc zero) l e = one t.straight t.stem w.1 w.0 e
    go (suc (suc zero)) l e = one t.stem t.diverted w.0 w.2 e
    go (suc (suc (suc zero))) l e = one t.diverted t.stem w.2 w.0 e
    go (suc (suc (suc (suc i)))) l e = absurd (omega arith)

pub open_move_of-inside : (s : Situation) → Sound s → {states : List ℕ} → Collected s states → (e : ℕ) (m : Move) → open_move_of s e ≡ Some m
    → IsSection m.from × IsSection m.to
unfolding open_move_of
open_move_of-inside s sound collected e m h = go (dec_lt e (length (open_kinds (elements_of s)) * 4))
  where
    kinds : List Kind
    kinds = open_kinds (elements_of s)

    go : Dec (e < length kinds * 4) → IsSection m.from × IsSection m.to
    go (yes l) =
        open_move-inside (get_or kinds (e / 4) default_kind) (e % 4) m (omega arith) (open_named sound collected (e / 4) (omega arith)) (rw (lt-ltb e (length kinds * 4) l) at h)
    go (no l) = let z : None ≡ Some m = rw (le-ltb e (length kinds * 4) (omega arith)) at h in cc

-- What is no move is none.
pub no_move_none : (o : Option Move) → ((m : Move) → o ≡ Some m → ⊥) → o ≡ None
no_move_none None not = refl
no_move_none (Some m) not = absurd (not m refl)
