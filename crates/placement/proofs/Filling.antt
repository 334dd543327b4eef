-- The loop of `fill`: after i trains the state, the list and the set of taken sections are those of i trains.
use Rattle.std.proofs.Common.{◌≡◌, ℕ, suc, ◌+◌, ◌<◌, ◌≤◌, Bool, false, ◌||◌, eqb, List, [], ◌∷◌, ◌++◌, length, get_or, drop, set, sym, refl, ap, ◌∙◌, ap₂, append_assoc, add-one, arith, drop-cons}
use lib.Seq.{set-append_seam}
use Rattle.meaning.specs.Paths.{mem}
use Rattle.session_meaning.specs.Placement.{grown, draw, state_after, gives_way, placement}
use Rattle.session_meaning.proofs.FreeSections.{gives_way_ext}
use Rattle.meaning.proofs.Reach.{mem_snoc}
use Rattle.session_meaning.proofs.Placement.{next_of, placement-length, placement_more, next_free}
use Rattle.reach.specs.Reach.{memb}

pub record Filled (p n : ℕ) (list₀ list taken : List ℕ) (state i : ℕ) : Type 0 where
  pub state_is : state ≡ state_after p i
  pub list_is : list ≡ placement p n i ++ drop i list₀
  pub taken_is : (t : ℕ) → memb taken t ≡ mem t (placement p n i)

pub filled_start : (p n : ℕ) (list taken : List ℕ) → ((t : ℕ) → memb taken t ≡ false) → Filled p n list list taken p 0
unfolding state_after placement
filled_start p n list taken none = record { state_is = refl; list_is = refl; taken_is = none }

module _ {p n : ℕ} {list₀ list taken : List ℕ} {state i : ℕ} (h : Filled p n list₀ list taken state i) (few : n ≤ 512) (more : i < n) (here : i < length list₀) where
  module _ {state' k v : ℕ} (grows : state' ≡ grown state) (draws : k ≡ draw state' n) (gives : v ≡ gives_way n (memb taken) k) where
    -- The section is that of train i + 1.
    section_is : v ≡ next_of p n i
    unfolding state_after
    section_is =
        gives ∙ gives_way_ext n (memb taken) (λ t. mem t (placement p n i)) k (λ t low high. h.taken_is t)
        ∙ ap (gives_way n (λ t. mem t (placement p n i))) (draws ∙ ap (λ (s : ℕ). draw s n) (grows ∙ ap grown h.state_is))

    pub section_within : (1 ≤ v) × (v ≤ 512)
    section_within = let f = next_free p n i more in omega (arith, section_is, f.0, f.1)

    pub filled_more : (taken' : List ℕ) → ((t : ℕ) → memb taken' t ≡ (eqb t v || memb taken t))
        → Filled p n list₀ (set list i v) taken' state' (i + 1)
    unfolding state_after
    filled_more taken' takes =
        rw add-one
        (record {
          state_is = grows ∙ ap grown h.state_is;
          list_is = stored;
          taken_is =
              λ t. takes t ∙ ap₂ (λ (a : ℕ) (b : Bool). eqb t a || b) section_is (h.taken_is t)
              ∙ sym (mem_snoc t (next_of p n i) (placement p n i)) ∙ ap (mem t) (sym (placement_more p n i));
        })
      where
        place : drop i list₀ ≡ get_or list₀ i 0 ∷ drop (suc i) list₀
        place = drop-cons list₀ i 0 here

        stored : set list i v ≡ placement p n (suc i) ++ drop (suc i) list₀
        stored =
            ap (λ (l : List ℕ). set l i v) (h.list_is ∙ ap (λ (l : List ℕ). placement p n i ++ l) place)
            ∙ ap (λ (j : ℕ). set (placement p n i ++ (get_or list₀ i 0 ∷ drop (suc i) list₀)) j v) (sym (placement-length p n i))
            ∙ set-append_seam (placement p n i) (get_or list₀ i 0) (drop (suc i) list₀) v
            ∙ ap (λ (x : ℕ). placement p n i ++ (x ∷ drop (suc i) list₀)) section_is
            ∙ sym (append_assoc (placement p n i) (next_of p n i ∷ []) (drop (suc i) list₀))
            ∙ ap (λ (l : List ℕ). l ++ drop (suc i) list₀) (sym (placement_more p n i))
