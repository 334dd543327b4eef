-- Item 12 holds of any operation that meets demand 3: `item_12`. The safe settings of the whole are those of the two parts (`safe-part`,
-- `in_either`), so their numbers add up; and the best of the whole is the best of a part.
use mathlib.Core.Path.{◌≡◌, refl, sym, ap, subst, ◌∙◌}
use mathlib.Core.Logic.{◌⊎◌, inl, inr, ⊎_elim, ◌↔◌}
use mathlib.Core.Bool.{true, false≢true}
use mathlib.Core.List.{List, List-discrete}
use Prim.Native.Nat.{ℕ, zero, suc, ◌+◌, ◌-◌, ◌≤◌}
use native.Mathlib.Nat.{eq-or-lt_of_le}
use native.Mathlib.Decide.{ℕ_discrete}
use native.Mathlib.Omega.{arith}
use lib.ListN.{length, get_or, take}
use Rattle.meaning.specs.declared.Situation.{Situation}
use Rattle.meaning.specs.File.{Reading}
use Rattle.meaning.specs.Station.{file_states}
use Rattle.meaning.specs.Settings.{open_count, keeps, before, proceed_count}
use Rattle.meaning.specs.File.{reading}
use Rattle.meaning.specs.Accepted.{Accepted}
use Rattle.meaning.specs.Parts.{IsOpen, part, gain}
use Rattle.file_meaning.specs.PartFile.{part_file}
use Rattle.meaning.proofs.Accepted.{accepted_exactly}
use Rattle.meaning.proofs.Settings.{before_asymmetric}
use Rattle.meaning.proofs.SameKinds.{same_danger}
use Rattle.meaning.proofs.Parts.{part_same, same_part, part_open, part_setting, one_or_two, first_proceeds, second_proceeds}
use Rattle.file_meaning.proofs.PartFile.{part-reading}
use Rattle.c_layout.specs.declared.FlatReply.{FlatReply}
use Rattle.demands.specs.Words.{situation, AtMostOpen}
use Rattle.demands.specs.Reach.{TwoTrainsMeet, SafeSetting}
use Rattle.demands.specs.OfSettings.{Best, Reply, Demand3}
use Rattle.demands.specs.Item12.{IsPart, Higher, AddUp, room, Item12}
use Rattle.demands.proofs.Words.{of_lines}
use Rattle.demands.proofs.Reach.{meet}
use Rattle.demands.proofs.Counting.{how_many_unique, how_many_either}

-- ---- the best of a set of settings
-- σ is in the set A, and ranks above every other one by the count, and among equal counts by 01's order.
record Top (A : List ℕ → Type 0) (count : List ℕ → ℕ) (σ : List ℕ) : Type 0 where
  member : A σ
  above : (τ : List ℕ) → A τ → (τ ≡ σ → ⊥) → (count τ ≤ count σ) × (count τ ≡ count σ → before σ τ ≡ true)

-- The best of A is the best of B where it is in B, and all of B is in A.
top_within : (A B : List ℕ → Type 0) (count : List ℕ → ℕ) → ((τ : List ℕ) → B τ → A τ) → (σ σ₁ : List ℕ) → Top A count σ → B σ → Top B count σ₁ → σ ≡ σ₁
top_within A B count within σ σ₁ h b k = go (List-discrete ℕ_discrete σ σ₁)
  where
    go : Dec (σ ≡ σ₁) → σ ≡ σ₁
    go (yes e) = e
    go (no d) =
        let u = h.above σ₁ (within σ₁ k.member) (λ e. d (sym e)) in
        let v = k.above σ b d in
        let same : count σ ≡ count σ₁ = omega arith in
        absurd (false≢true (sym (before_asymmetric σ σ₁ (u.1 (sym same))) ∙ v.1 same))

-- Of two sets without a common setting, the best of both is the best of one; among equal counts, the one that comes first.
module _ (A B C : List ℕ → Type 0) (count : List ℕ → ℕ) (either : (τ : List ℕ) → A τ ↔ (B τ ⊎ C τ)) (apart : (τ : List ℕ) → B τ → C τ → ⊥)
    (σ σ₁ σ₂ : List ℕ) (h : Top A count σ) (h₁ : Top B count σ₁) (h₂ : Top C count σ₂) where
  best_of_two : Higher (count σ₁) (count σ₂) (count σ) σ₁ σ₂ σ
  best_of_two = go ((either σ).0 h.member)
    where
      go : B σ ⊎ C σ → Higher (count σ₁) (count σ₂) (count σ) σ₁ σ₂ σ
      go (inl b) =
          let e = top_within A B count (λ τ i. (either τ).1 (inl i)) σ σ₁ h b h₁ in
          let w = h.above σ₂ ((either σ₂).1 (inr h₂.member)) (λ q. apart σ₂ (subst B (sym q) b) h₂.member) in
          let p = ap count e in
          ⊎_elim
          (λ (q : count σ₂ ≡ count σ). Higher.equal_first (sym (q ∙ p)) p (subst (λ (τ : List ℕ). before τ σ₂ ≡ true) e (w.1 q)) e)
          (λ l. Higher.first (omega arith) p e)
          (eq-or-lt_of_le w.0)
      go (inr c) =
          let e = top_within A C count (λ τ i. (either τ).1 (inr i)) σ σ₂ h c h₂ in
          let w = h.above σ₁ ((either σ₁).1 (inl h₁.member)) (λ q. apart σ₁ h₁.member (subst C (sym q) c)) in
          let p = ap count e in
          ⊎_elim
          (λ (q : count σ₁ ≡ count σ). Higher.equal_second (q ∙ p) p (subst (λ (τ : List ℕ). before τ σ₁ ≡ true) e (w.1 q)) e)
          (λ l. Higher.second (omega arith) p e)
          (eq-or-lt_of_le w.0)

-- ---- the parts of a situation
module _ (s : Situation) (e : ℕ) (is_open : IsOpen s e) where
  abbrev Has : ℕ → List ℕ → Type 0
  Has x σ = get_or σ (e - 1) 0 ≡ x

  -- Two trains meet in a part where they meet in the whole.
  same_meet : (x : ℕ) (σ : List ℕ) → TwoTrainsMeet (part s e x) σ ↔ TwoTrainsMeet s σ
  same_meet x σ =
      let p = part s e x in (
        λ m. (meet s σ s.header.trains).0 (same_danger p s (part_same s e x) σ ((meet p σ p.header.trains).1 m)),
        λ m. (meet p σ p.header.trains).0 (same_danger s p (same_part s e x) σ ((meet s σ s.header.trains).1 m)),
      )

  -- The safe settings of a part are the whole's that have the element at its state.
  safe-part : (y : ℕ) → keeps 0 (suc y) ≡ true → (σ : List ℕ) → SafeSetting (part s e (suc y)) σ ↔ (SafeSetting s σ × Has (suc y) σ)
  safe-part y k σ = grind (arith, part_setting s e is_open y σ k, same_meet (suc y) σ)

  abbrev First : List ℕ → Type 0
  First = SafeSetting (part s e 1)

  abbrev Second : List ℕ → Type 0
  Second = SafeSetting (part s e 2)

  in_either : (σ : List ℕ) → SafeSetting s σ ↔ (First σ ⊎ Second σ)
  in_either σ = grind (arith, one_or_two, safe-part)

  not-both : (σ : List ℕ) → First σ → Second σ → ⊥
  not-both σ h k = omega (arith, ((safe-part 0 refl σ).0 h).1, ((safe-part 1 refl σ).0 k).1)

  -- The best settings, by the whole's count.
  top_whole : (σ : List ℕ) (p : ℕ) → Best s σ p → Top (SafeSetting s) (proceed_count s) σ
  top_whole σ p b = record { member = (b.keeps, b.safe); above = b.others }

  top_first : (σ : List ℕ) (p : ℕ) → Best (part s e 1) σ p → Top First (proceed_count s) σ
  top_first σ p b = grind (arith, first_proceeds)

  top_second : (σ : List ℕ) (p : ℕ) → Best (part s e 2) σ p → Top Second (proceed_count s) σ
  top_second σ p b = grind (arith, second_proceeds)

  -- ---- three replies
  module _ (b b' b₁ b₁' b₂ b₂' : List ℕ) (r r₁ r₂ : FlatReply) (h : Reply s b b' r) (h₁ : Reply (part s e 1) b₁ b₁' r₁) (h₂ : Reply (part s e 2) b₂ b₂' r₂) where
    sum : r.safe ≡ r₁.safe + r₂.safe
    sum =
        how_many_unique (SafeSetting s) r.safe (r₁.safe + r₂.safe) h.number
        (how_many_either First Second (SafeSetting s) r₁.safe r₂.safe in_either not-both h₁.number h₂.number)

    abbrev n : ℕ
    n = s.header.elements

    add_up : AddUp (gain s e) r r₁ r₂ (take n b') (take n b₁') (take n b₂')
    unfolding part
    add_up = record {
      replies = (h.no_refusal_lem, h₁.no_refusal_lem, h₂.no_refusal_lem);
      number = sum;
      none = (λ z. (omega (arith, sum), omega (arith, sum)), λ w. omega (arith, sum, w.0, w.1));
      only_first = λ some none.
          let σ = take n b' in
          let k = h.shown (λ z. some (omega (arith, sum))) in
          let k₁ = h₁.shown some in
          let in_first = ⊎_elim (λ q. q) (λ q. absurd (q.1 (h₂.none_exactly.0 none σ q.0))) ((in_either σ).0 (k.keeps, k.safe)) in
          let e = top_within (SafeSetting s) First (proceed_count s) (λ τ i. (in_either τ).1 (inl i)) σ (take n b₁') (top_whole σ _ k) in_first (top_first (take n b₁') _ k₁) in
          (k.counted ∙ ap (proceed_count s) e ∙ omega (arith, first_count k₁), e);
      only_second = λ none some.
          let σ = take n b' in
          let k = h.shown (λ z. some (omega (arith, sum))) in
          let k₂ = h₂.shown some in
          let in_second = ⊎_elim (λ q. absurd (q.1 (h₁.none_exactly.0 none σ q.0))) (λ q. q) ((in_either σ).0 (k.keeps, k.safe)) in
          let e = top_within (SafeSetting s) Second (proceed_count s) (λ τ i. (in_either τ).1 (inr i)) σ (take n b₂') (top_whole σ _ k) in_second (top_second (take n b₂') _ k₂) in
          (k.counted ∙ ap (proceed_count s) e ∙ omega (arith, second_count k₂), e);
      both = λ some₁ some₂.
          let k = h.shown (λ z. some₁ (omega (arith, sum))) in
          let k₁ = h₁.shown some₁ in
          let k₂ = h₂.shown some₂ in
          rw (k.counted, ← first_count k₁, ← second_count k₂)
          (best_of_two (SafeSetting s) First Second (proceed_count s) in_either not-both (take n b') (take n b₁') (take n b₂')
          (top_whole (take n b') _ k) (top_first (take n b₁') _ k₁) (top_second (take n b₂') _ k₂));
    }
      where
        first_count : Best (part s e 1) (take n b₁') r₁.proceed → proceed_count s (take n b₁') ≡ r₁.proceed + gain s e
        first_count k = omega (arith, k.counted, first_proceeds s e is_open (take n b₁') k.keeps)

        second_count : Best (part s e 2) (take n b₂') r₂.proceed → proceed_count s (take n b₂') ≡ r₂.proceed
        second_count k = omega (arith, k.counted, second_proceeds s e is_open (take n b₂') k.keeps)

-- ---- the parts of a file
is_part : (file : List ℕ) → Accepted file → (e : ℕ) → IsOpen (situation file) e → (x : ℕ) → (x ≡ 1) ⊎ (x ≡ 2) → IsPart file e x
is_part file a e o x fixes =
    let s = situation file in
    let same : s ≡ (reading file).situation = of_lines file a (λ (t : Situation). t ≡ (reading file).situation) refl in
    let r = part-reading file ((accepted_exactly file).1 a) e x (subst (λ (t : Situation). IsOpen t e) same o) fixes in
    let accepted = (accepted_exactly (part_file file e x)).0 (ap (λ (q : Reading). q.refusal.number) r) in
    let is : situation (part_file file e x) ≡ part s e x =
    of_lines (part_file file e x) accepted (λ (t : Situation). t ≡ part s e x)
    (ap (λ (q : Reading). q.situation) r ∙ ap (λ (t : Situation). part t e x) (sym same)) in
    record { accepted = accepted; same = is; fewer = ap (λ (t : Situation). suc (open_count (file_states t))) is ∙ fewer x fixes }
  where
    fewer : (x : ℕ) → (x ≡ 1) ⊎ (x ≡ 2) → suc (open_count (file_states (part (situation file) e x))) ≡ open_count (file_states (situation file))
    fewer zero (inl q) = absurd (omega arith)
    fewer zero (inr q) = absurd (omega arith)
    fewer (suc y) q = part_open (situation file) e o y

-- The reply to a part.
part-reply : (file : List ℕ) → Accepted file → AtMostOpen 12 (situation file) → (e : ℕ) → IsOpen (situation file) e → (x : ℕ) → (x ≡ 1) ⊎ (x ≡ 2)
    → (buffer buffer' : List ℕ) (r : FlatReply) → room file ≤ length buffer → Demand3 (part_file file e x) buffer buffer' r
    → Reply (part (situation file) e x) buffer buffer' r
unfolding part
part-reply file a few e o x fixes buffer buffer' r enough d =
    let p = is_part file a e o x fixes in
    let elements = ap (λ (t : Situation). t.header.elements) p.same in
    subst (λ (t : Situation). Reply t buffer buffer' r) p.same (d.met p.accepted (omega arith) (omega arith))

-- ---- the operation
pub item_12 : (file buffer buffer' : List ℕ) (r : FlatReply) → Demand3 file buffer buffer' r → Item12 file buffer buffer' r
item_12 file buffer buffer' r d = record {
  parts = is_part file;
  met = λ a few e o first first' second second' r₁ r₂ enough enough₁ enough₂ d₁ d₂.
      add_up (situation file) e o buffer buffer' first first' second second' r r₁ r₂ (d.met a few enough)
      (part-reply file a few e o 1 (inl refl) first first' r₁ enough₁ d₁) (part-reply file a few e o 2 (inr refl) second second' r₂ enough₂ d₂);
}
