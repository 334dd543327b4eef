-- What is known before train j + 1 is looked at: `Decided`, with laws for the start, the step to the next train, a meeting, and the end.
use mathlib.Core.Path.{◌≡◌, refl, sym, ap, ap₂, ◌∙◌}
use mathlib.Core.Bool.{Bool, true, false, cond}
use mathlib.Core.List.{List}
use mathlib.Core.Logic.{⊎_elim}
use Prim.Native.Nat.{ℕ, zero, suc, ◌+◌, ◌-◌, ◌*◌, ◌≤◌, ◌<◌}
use native.Mathlib.Nat.{eq-or-lt_of_le, le_of_suc-le-suc}
use native.Mathlib.Numerals.{add-one}
use native.Mathlib.Omega.{arith}
use lib.ListN.{length}
use Rattle.meaning.specs.declared.Situation.{Situation}
use Rattle.meaning.specs.declared.Counts.{Counts}
use Rattle.meaning.specs.declared.Meeting.{Meeting}
use Rattle.meaning.specs.declared.Verdict.TheVariants.{Safe, Dangerous}
use Rattle.meaning.specs.Station.{moves, permitted}
use Rattle.basics.specs.Numbers.{found, lowest, total}
use Rattle.meaning.specs.Verdict.{in_reach, shared_section, earlier_train, entries_of, outdegree, looks_of, later_train, counts_to}
use Rattle.meaning.specs.Verdict.{meeting_of, verdict_for, verdict}
use Rattle.basics.proofs.Numbers.{None, each_more, lowest_ext, lowest_unique, lowest_within, none_lowest, total_mono, total_const, total-part-le, count-le}
use Rattle.meaning.proofs.Danger.{later_train_lem}
use Rattle.reach.specs.Reach.{memb, words_at}
use Rattle.reach.specs.declared.Reach.{Reach}
use Rattle.reach.proofs.Sets.{StoredAt}
use Rattle.pairs.specs.Pairs.{Rows, Represents}
use Rattle.meeting.specs.Meeting.{shared, reach_of, Meets}
use Rattle.element_states.specs.Sound.{Sound}
use Rattle.moves.proofs.Where.{standing_at_lem}
use Rattle.verdict.proofs.Trains.{ReachedFrom, standing_at, ReachIs, entries_is, shared_is, looks_in, reach_is, looks_is}

-- The rows below j are the reaches of trains 1 to j, the counts are those of these trains, and none of them meets an earlier one.
pub record Decided (s : Situation) (σ : List ℕ) (reaches : List Reach) (entries looks j : ℕ) : Type 0 where
  pub room : length reaches ≡ 64
  pub rows : (i : ℕ) → i < j → (k : ℕ) → memb (words_at reaches i) k ≡ in_reach s σ (suc i) k
  pub entries_are : entries ≡ total j (entries_of s σ)
  pub looks_are : looks ≡ total j (looks_of s σ)
  pub none : None j (λ t. found (earlier_train s σ t))

-- A meeting and two counts, by their numbers.
abbrev pub meeting : ℕ → ℕ → ℕ → Meeting
meeting i j k = record { first = record { 0 = i }; second = record { 0 = j }; section = record { 0 = k } }

abbrev pub counts : ℕ → ℕ → Counts
counts entries looks = record { entries = entries; looks = looks }

module _ (s : Situation) (sound : Sound s) (σ : List ℕ) where
  -- Before the first train.
  pub decided_start : {reaches : List Reach} → length reaches ≡ 64 → Decided s σ reaches 0 0 0
  unfolding total
  decided_start l =
      record { room = l; rows = λ i h. absurd (omega arith); entries_are = refl; looks_are = refl; none = λ t low high. absurd (omega arith) }

  -- The entries of j trains are few.
  pub entries_small : (j : ℕ) → total j (entries_of s σ) ≤ j * 512
  unfolding entries_of
  entries_small j =
      omega (
        arith,
        total_mono j (entries_of s σ) (λ t. 512) (λ t low high. omega (arith, count-le s.header.sections (in_reach s σ t), sound.limits.sections)),
        total_const j 512,
      )

  -- The looks of j trains are few.
  looks_small : (j : ℕ) → total j (looks_of s σ) ≤ j * 262144
  unfolding looks_of outdegree
  looks_small j =
      omega (
        arith,
        total_mono j (looks_of s σ) (λ t. 262144) (λ t low high. each t),
        total_const j 262144,
      )
    where
      n : ℕ
      n = s.header.sections

      each : (t : ℕ) → looks_of s σ t ≤ 262144
      each t =
          omega (
            arith,
            sound.limits.sections,
            total-part-le n (in_reach s σ t) (outdegree s σ),
            total_mono n (outdegree s σ) (λ a. 512) (λ a low high. omega (arith, count-le n (permitted (moves s σ) a), sound.limits.sections)),
            total_const n 512,
          )

  -- ---- the next train
  -- With a table of the moves, and what is found from where it stands.
  module _ {rows : Rows} (represents : Represents rows (moves s σ)) {reaches : List Reach} {entries looks j : ℕ} (d : Decided s σ reaches entries looks j)
      (l : j < s.header.trains) {starts : List ℕ} (at : starts ≡ standing_at s j) {ws : List ℕ} {size : ℕ}
      (r : ReachedFrom rows starts ws size) where
    its_reach : ReachIs s sound σ (suc j) ws
    its_reach = reach_is s sound σ rows represents (suc j) starts ws size (at ∙ standing_at_lem s j l) r

    entries_more : entries + size ≡ total (suc j) (entries_of s σ)
    unfolding total
    entries_more = ap₂ ◌+◌ d.entries_are (r.size ∙ entries_is s sound σ (suc j) ws its_reach)

    looks_more : looks + looks_in rows ws ≡ total (suc j) (looks_of s σ)
    unfolding total
    looks_more = ap₂ ◌+◌ d.looks_are (looks_is s sound σ rows represents (suc j) ws its_reach)

    -- The looks stay few.
    pub looks_fit : looks + looks_in rows ws ≤ 16777216
    looks_fit = omega (arith, looks_more, looks_small (suc j), sound.limits.trains)

    earlier_shares : (i : ℕ) → 1 ≤ i → i ≤ j → shared (reach_of reaches i) ws ≡ shared_section s σ i (suc j)
    earlier_shares zero low high = absurd (omega arith)
    earlier_shares (suc i) low high =
        let e : suc i - 1 ≡ i = omega arith in
        shared_is s sound σ (suc i) (suc j) (reach_of reaches (suc i)) ws (rw e (d.rows i (omega arith))) its_reach

    module _ {train section : ℕ} (m : Meets reaches j ws train section) where
      -- The train found is the first earlier one whose reach shares a section.
      earlier_is : train ≡ earlier_train s σ (suc j)
      unfolding earlier_train
      earlier_is =
          let e : j ≡ suc j - 1 = omega arith in
          m.first
          ∙ lowest_ext j (λ i. found (shared (reach_of reaches i) ws)) (λ i. found (shared_section s σ i (suc j)))
          (λ i low high. ap found (earlier_shares i low high))
          ∙ ap (λ (n : ℕ). lowest n (λ i. found (shared_section s σ i (suc j)))) e

      -- No train is found: the reach is kept, and train j + 1 meets no earlier one.
      pub decided_step : train ≡ 0 → {reaches' : List Reach} → StoredAt reaches j ws reaches'
          → Decided s σ reaches' (entries + size) (looks + looks_in rows ws) (j + 1)
      decided_step none {reaches'} kept = rw add-one (record {
        room = kept.same_length ∙ d.room;
        rows = λ i h. ⊎_elim (λ q. rw q (λ k. ap (λ (us : List ℕ). memb us k) kept.stored ∙ its_reach k)) (old i) (eq-or-lt_of_le (le_of_suc-le-suc h));
        entries_are = entries_more;
        looks_are = looks_more;
        none = each_more j (λ t. found (earlier_train s σ t) ≡ false) d.none (ap found (sym earlier_is ∙ none));
      })
        where
          old : (i : ℕ) → i < j → (k : ℕ) → memb (words_at reaches' i) k ≡ in_reach s σ (suc i) k
          old i h k = ap (λ (us : List ℕ). memb us k) (kept.kept i (λ q. omega arith)) ∙ d.rows i h k

      -- A train is found: trains 1 to j + 1 are dangerous, and the verdict names these trains and the section.
      pub decided_danger : (train ≡ 0 → ⊥) → verdict s σ ≡ Dangerous (meeting train (j + 1) section) (counts (entries + size) (looks + looks_in rows ws))
      unfolding verdict verdict_for meeting_of counts_to
      decided_danger some =
          ap (verdict_for s σ) later
          ∙ ap₂ Dangerous
          (ap (λ (i : ℕ). meeting i (suc j) (shared_section s σ i (suc j))) (sym earlier_is) ∙ ap₂ (meeting train) (sym (add-one j)) (sym here))
          (ap₂ counts (sym entries_more) (sym looks_more))
        where
          within : train ≤ j
          within = rw m.first (lowest_within j (λ i. found (shared (reach_of reaches i) ws)))

          is_found : (n : ℕ) → (n ≡ 0 → ⊥) → found n ≡ true
          is_found zero z = absurd (z refl)
          is_found (suc n) z = refl

          here : section ≡ shared_section s σ train (suc j)
          here =
              m.meets ∙ ap (λ (b : Bool). cond b (shared (reach_of reaches train) ws) 0) (is_found train some)
              ∙ earlier_shares train (omega (arith, some)) within

          later : later_train s σ ≡ suc j
          later =
              later_train_lem s σ
              ∙ lowest_unique s.header.trains (λ t. found (earlier_train s σ t)) (suc j)
              (l, ap found (sym earlier_is) ∙ is_found train some, d.none)

  -- No train is left.
  pub decided_safe : {reaches : List Reach} {entries looks j : ℕ} → Decided s σ reaches entries looks j → j ≡ s.header.trains
      → verdict s σ ≡ Safe (counts entries looks)
  unfolding verdict verdict_for counts_to
  decided_safe {j = j} d e =
      ap (verdict_for s σ)
      (later_train_lem s σ ∙ none_lowest s.header.trains (λ t. found (earlier_train s σ t)) (λ t low high. d.none t low (omega arith)))
      ∙ ap (λ (n : ℕ). Safe (counts (total n (entries_of s σ)) (total n (looks_of s σ)))) (sym e)
      ∙ ap Safe (ap₂ counts (sym d.entries_are) (sym d.looks_are))
