-- The table of the counts of all places. `counted_none` fills it for no element, and `counted_more` for one more in front. `counts_all` is the table
-- for the elements of a situation.
use mathlib.Core.Path.{◌≡◌, refl, sym, ap, ◌∙◌}
use mathlib.Core.List.{List, [], ◌∷◌}
use Prim.Native.Nat.{ℕ, zero, suc, ◌+◌, ◌-◌, ◌*◌, ◌^◌, ◌≤◌, ◌<◌}
use native.Mathlib.Nat.{pow-suc}
use native.Mathlib.Omega.{arith}
use native.Mathlib.Decide.{dec_lt, ℕ_discrete}
use lib.Pow.{pow_mono}
use lib.ListN.{length, get_or, set, take, drop, length-drop}
use lib.Seq.{get_or-set_same, get_or-set_other, drop-cons, take_all}
use Rattle.meaning.specs.declared.Kind.{Kind}
use Rattle.meaning.specs.declared.Kind.TheVariants.{Signal, Turnout}
use Rattle.meaning.specs.declared.Element.{Element}
use Rattle.meaning.specs.declared.Situation.{Situation}
use Rattle.meaning.specs.Station.{elements_of, file_states}
use Rattle.meaning.specs.Settings.{open_count, proceeds, proceeds_in, proceed_count}
use Rattle.element_states.specs.Collected.{states_of}
use Rattle.setting_order.specs.Order.{setting_at}
use Rattle.setting_order.proofs.Order.{at_fixed, at_one, at_two}
use Rattle.setting_order.proofs.Put.{count-fixed, count_open}
use Rattle.proceed_counts.specs.Proceed.{Raised, Roomy, Opened, Counted, Counts}

-- ---- what an element adds
-- What an element of this kind adds when it is open and at 1.
abbrev pub adds : Kind → ℕ
adds k = proceeds k 0 1

few_adds : (k : Kind) → adds k ≤ 1
few_adds (Signal m) = omega arith
few_adds (Turnout t) = omega arith

open_at_two : (k : Kind) → proceeds k 0 2 ≡ 0
open_at_two (Signal m) = refl
open_at_two (Turnout t) = refl

fixed-adds : (k : Kind) (f x : ℕ) → (f ≡ 0 → ⊥) → proceeds k f x ≡ 0
fixed-adds (Signal m) zero x n = absurd (n refl)
fixed-adds (Signal m) (suc f) x n = refl
fixed-adds (Turnout t) f x n = refl

-- ---- no element
-- Without elements there is one place, with the count 0.
pub counted_none : (counts : List ℕ) → 1 ≤ length counts → Counted [] counts (set counts 0 0) 1
unfolding open_count proceeds_in setting_at
counted_none counts l = record {
  all_places = refl;
  count = λ x a. let z : x ≡ 0 = omega arith in rw z (get_or-set_same counts 0 0 0 l);
  few = λ x a. let z : x ≡ 0 = omega arith in rw z (omega (arith, get_or-set_same counts 0 0 0 l));
  rest = λ x a. get_or-set_other counts 0 x 0 0 (λ e. omega arith);
}

-- ---- one element more in front
fewer_after : (f : ℕ) (fs : List ℕ) → open_count fs ≤ open_count (f ∷ fs)
unfolding open_count
fewer_after zero fs = omega arith
fewer_after (suc f) fs = omega arith

module _ (es : List Element) (counts₀ counts : List ℕ) (places : ℕ) (c : Counted es counts₀ counts places) where
  -- An open element has room to double the table, where at most 12 are open.
  pub step_room : (f : ℕ) → open_count (f ∷ states_of es) ≤ 12 → f ≡ 0 → Roomy counts places
  step_room f few z = record {
    few = let l : open_count (states_of es) ≤ 11 = omega (arith, count_open f (states_of es) z) in omega (arith, c.all_places, pow_mono {j = 11} l);
    low = λ x l. omega (arith, c.few x l, fewer_after f (states_of es));
  }

module _ (e : Element) (es : List Element) (counts₀ counts : List ℕ) (places : ℕ) (c : Counted es counts₀ counts places) where
  abbrev f : ℕ
  f = e.state

  abbrev fs : List ℕ
  fs = states_of es

  -- A fixed one adds nothing.
  more_fixed : (f ≡ 0 → ⊥) → Counted (e ∷ es) counts₀ counts places
  unfolding proceeds_in
  more_fixed n = record {
    all_places = c.all_places ∙ ap (λ (m : ℕ). 2 ^ m) (sym (count-fixed f fs n));
    count = λ x a. rw (at_fixed f fs x n) (c.count x a ∙ sym (omega (arith, fixed-adds e.kind f f n)));
    few = λ x a. rw (count-fixed f fs n) (c.few x a);
    rest = c.rest;
  }

  -- An open one doubles the table, and adds when it is at 1.
  module _ (z : f ≡ 0) (counts' : List ℕ) (d : Raised places (adds e.kind) counts counts') where
    -- The place x is one of the first half, or y in the second.
    halves : (P : ℕ → Type 0) → ((x : ℕ) → x < places → P x) → ((y : ℕ) → y < places → P (places + y)) → (x : ℕ) → x < places * 2 → P x
    halves P one two x a = go (dec_lt x places)
      where
        go : Dec (x < places) → P x
        go (yes l) = one x l
        go (no m) = let i : places + (x - places) ≡ x = omega arith in rw i at (two (x - places) (omega arith))

    more_at : (x : ℕ) → x < places * 2 → get_or counts' x 0 ≡ proceeds_in (e ∷ es) (setting_at (f ∷ fs) x)
    unfolding proceeds_in
    more_at =
        halves
        (λ x. get_or counts' x 0 ≡ proceeds_in (e ∷ es) (setting_at (f ∷ fs) x))
        (λ x l. rw (at_one f fs x z (rw (← c.all_places) l), z) (omega (arith, d.first x 0 l, c.count x l)))
        (λ y l. rw (at_two f fs (places + y) z (omega (arith, c.all_places)), ← c.all_places, z)
        (let i : places + y - places ≡ y = omega arith in rw i (omega (arith, d.second y 0 l, c.count y l, open_at_two e.kind))))

    more_open : Counted (e ∷ es) counts₀ counts' (places * 2)
    more_open = record {
      all_places = ap (λ (m : ℕ). m * 2) c.all_places ∙ sym (pow-suc 2 (open_count fs)) ∙ ap (λ (m : ℕ). 2 ^ m) (sym (count_open f fs z));
      count = more_at;
      few = λ x a. rw (count_open f fs z)
          (halves (λ x. get_or counts' x 0 ≤ suc (open_count fs))
          (λ x l. omega (arith, d.first x 0 l, c.few x l, few_adds e.kind))
          (λ y l. omega (arith, d.second y 0 l, c.few y l))
          x a);
      rest = λ x a. d.rest x 0 (omega arith) ∙ c.rest x (omega arith);
    }

  -- With the element in front it is the table for all.
  pub counted_more : (more : ℕ) → more ≡ adds e.kind → (places' : ℕ) (counts' : List ℕ)
      → Opened f more places counts places' counts' → Counted (e ∷ es) counts₀ counts' places'
  counted_more more a places' counts' o = go (ℕ_discrete f 0)
    where
      go : Dec (f ≡ 0) → Counted (e ∷ es) counts₀ counts' places'
      go (yes z) = let r = o.raised z in rw r.0 (more_open z counts' (rw a at r.1))
      go (no n) = let r = o.fixed n in rw (r.0, r.1) (more_fixed n)

-- ---- the first of some elements, and those after it
abbrev pub after : List Element → List Element
after es = take (length es - 1) (drop 1 es)

module _ (es : List Element) (d : Element) (some : 1 ≤ length es) where
  front : es ≡ get_or es 0 d ∷ after es
  front = drop-cons es 0 d some ∙ ap (λ (y : List Element). get_or es 0 d ∷ y) (sym (take_all (length es - 1) (drop 1 es) (omega (arith, length-drop 1 es))))

  -- At most 12 of them are open, with one in front or without.
  pub few_front : open_count (states_of es) ≤ 12 → open_count ((get_or es 0 d).state ∷ states_of (after es)) ≤ 12
  few_front few = omega (arith, ap (λ (y : List Element). open_count (states_of y)) front)

  pub few_after : (g : ℕ) → open_count (g ∷ states_of es) ≤ 12 → open_count ((get_or es 0 d).state ∷ states_of (after es)) ≤ 12
  few_after g few = few_front (omega (arith, fewer_after g (states_of es)))

  -- The table for the first, of kind k, and those after it is the table for them.
  pub counted_front : (k : Kind) → (get_or es 0 d).kind ≡ k → (counts counts' : List ℕ) (places : ℕ)
      → Counted (record { kind = k; state = (get_or es 0 d).state } ∷ after es) counts counts' places → Counted es counts counts' places
  counted_front k e counts counts' places c = rw front (rw (← e) at c)

-- Where there are none.
pub counted_empty : (es : List Element) → length es < 1 → (counts : List ℕ) → 1 ≤ length counts → Counted es counts (set counts 0 0) 1
counted_empty [] e counts l = counted_none counts l
counted_empty (a ∷ es) e counts l = absurd (omega arith)

-- ---- all elements of a situation
module _ (s : Situation) {es : List Element} (are : es ≡ elements_of s) where
  pub few_all : open_count (file_states s) ≤ 12 → open_count (states_of es) ≤ 12
  unfolding file_states
  few_all few = rw are few

  pub counts_all : open_count (states_of es) ≤ 12 → (counts counts' : List ℕ) (places : ℕ) → Counted es counts counts' places → Counts s counts'
  unfolding proceed_count file_states
  counts_all few counts counts' places c =
      let w = rw are at c in
      let fit = rw are at few in
      record { count = λ x l. w.count x (omega (arith, w.all_places)); few = λ x l. omega (arith, w.few x (omega (arith, w.all_places)), fit) }
