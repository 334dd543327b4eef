-- One turn of the verdict, over plain variables: what is known before train j + 1, `Known`, with laws for the start, a turn in which it meets
-- no earlier train, one in which it does, and the end.
use mathlib.Core.Path.{◌≡◌, refl, subst}
use mathlib.Core.Bool.{true, false, ◌&&◌, ◌||◌}
use mathlib.Core.List.{List, ◌++◌}
use Prim.Native.Nat.{ℕ, ◌+◌, ◌-◌, ◌≤◌, ◌<◌}
use native.Mathlib.Omega.{arith}
use lib.ListN.{length, take, drop}
use Rattle.meaning.specs.declared.Situation.{Situation}
use Rattle.meaning.specs.declared.Counts.{Counts}
use Rattle.meaning.specs.declared.Verdict.TheVariants.{Dangerous}
use Rattle.meaning.specs.declared.ShownVerdict.{ShownVerdict}
use Rattle.meaning.specs.declared.ShownVerdict.TheVariants as answer
use Rattle.meaning.specs.Station.{moves}
use Rattle.basics.specs.Numbers.{found, lowest}
use Rattle.meaning.specs.Verdict.{verdict}
use Rattle.meaning.specs.Operations.{Answers}
use Rattle.basics.proofs.Numbers.{lowest_within}
use Rattle.reach.specs.Reach.{memb}
use Rattle.reach.specs.declared.Reach.{Reach}
use Rattle.reach.proofs.Sets.{StoredAt}
use Rattle.pairs.specs.Pairs.{Rows, Represents}
use Rattle.search.specs.Read.{path_back, Back}
use Rattle.search.specs.Search.{Traced, Searched}
use Rattle.search.specs.Steps.{KeptPaths}
use Rattle.std.specs.Prelude.{Ok, Option, Some, None, IsSome}
use Rattle.meeting.specs.declared.EarlierMeeting.{EarlierMeeting}
use Rattle.meeting.specs.Meeting.{shared, reach_of, Meets, FirstMeeting}
use Rattle.meeting.proofs.Shared.{meets_part}
use Rattle.element_states.specs.Sound.{Sound}
use Rattle.verdict.proofs.Trains.{ReachedFrom, standing_at, looks_in, looks_none, looks_union}
use Rattle.verdict.proofs.Decided.{meeting, counts, Decided, decided_start, decided_step, decided_danger, decided_safe, entries_small, looks_fit}
use Rattle.verdict.proofs.Kept.{Kept, kept_start, kept_step, meets_none, meets_apart, meets_some}
use Rattle.verdict.proofs.Shown.{readable, shown}
use Rattle.verdict.proofs.Answered.{Named, first_named, second_named, answers_safe, answers_danger}

-- The trains up to j are decided, their looks are those of the union of their reaches, and their searches are kept.
pub record Known (s : Situation) (σ : List ℕ) (rows : Rows) (reaches : List Reach) (before earlier : List ℕ) (entries j : ℕ) : Type 0 where
  pub decided : Decided s σ reaches entries (looks_in rows earlier) j
  pub kept : Kept s rows reaches before earlier j

-- Before the first train.
pub known_start : {s : Situation} → Sound s → {σ : List ℕ} {rows : Rows} {reaches : List Reach} {before earlier : List ℕ} → length reaches ≡ 64 → length before ≡ 513
    → ((k : ℕ) → memb earlier k ≡ false) → Known s σ rows reaches before earlier 0 0
known_start {s} sound {σ} {rows} {earlier = earlier} lr lb none =
    record {
      decided = rw (looks_none rows earlier none) (decided_start s sound σ lr);
      kept = kept_start lb none;
    }

module _ {s : Situation} (sound : Sound s) {σ : List ℕ} {rows : Rows} (represents : Represents rows (moves s σ)) {reaches : List Reach} {before earlier : List ℕ}
    {entries j : ℕ} (d : Known s σ rows reaches before earlier entries j) where
  -- The entries are few.
  pub known_entries : j ≤ s.header.trains → entries ≤ 32768
  known_entries l = omega (arith, d.decided.entries_are, entries_small s sound σ j, sound.limits.trains)

  -- No train is left.
  pub known_safe : j ≡ s.header.trains → {looks : ℕ} → looks ≡ looks_in rows earlier → {first second first' second' : List ℕ} → first' ≡ first
      → second' ≡ second → Answers s σ (verdict s σ) first second first' second' (Ok (answer.Safe (counts entries looks)))
  known_safe e sum {first} {second} same₁ same₂ =
      rw (same₁, same₂, sum)
      (answers_safe s σ first second (counts entries (looks_in rows earlier))
      (decided_safe s sound σ d.decided e))

  -- The search of train j + 1, and the size of its reach.
  module _ (l : j < s.header.trains) {starts : List ℕ} (stand : starts ≡ standing_at s j) {queue own ws : List ℕ} {n : ℕ}
      (r : Searched rows starts ws queue own n) {size : ℕ} (from : ReachedFrom rows starts ws size) where
    -- The looks stay small.
    pub turn_fits : looks_in rows earlier + looks_in rows ws ≤ 16777216
    turn_fits = looks_fit s sound σ represents d.decided l stand from

    -- Train j + 1 meets no earlier train.
    pub turn_step : found (lowest 512 (λ t. memb ws t && memb earlier t)) ≡ false → {reaches' : List Reach} → StoredAt reaches j ws reaches'
        → {before' : List ℕ} → KeptPaths queue own before n before' → {earlier' : List ℕ} → ((k : ℕ) → memb earlier' k ≡ (memb earlier k || memb ws k))
        → Known s σ rows reaches' before' earlier' (entries + size) (j + 1)
    turn_step h {reaches'} kept paths {earlier'} union =
        record {
          decided =
              subst (λ (looks : ℕ). Decided s σ reaches' (entries + size) looks (j + 1))
              (looks_union rows earlier ws earlier' union
              (meets_apart d.kept stand r h))
              (decided_step s sound σ represents d.decided l stand from
              (meets_none d.kept stand r h)
              refl kept);
          kept = kept_step d.kept stand r h kept paths union;
        }

    -- Train j + 1 meets an earlier train: a meeting is found.
    pub turn_some : found (lowest 512 (λ t. memb ws t && memb earlier t)) ≡ true → j ≤ length reaches → (o : Option EarlierMeeting)
        → FirstMeeting (take j reaches) ws o → IsSome o
    turn_some h few (Some m) f = refl
    turn_some h few None f = absurd (meets_some d.kept stand r h (meets_part reaches ws j 0 0 few f) refl)

    -- Train j + 1 meets the earlier train `train`, in `section`.
    module _ (h : found (lowest 512 (λ t. memb ws t && memb earlier t)) ≡ true) {train section : ℕ}
        (m : Meets reaches j ws train section) where
      -- The counts: the looks are those of the earlier trains, and its own.
      abbrev both : Counts
      both = counts (entries + size) (looks_in rows earlier + looks_in rows ws)

      danger : verdict s σ ≡ Dangerous (meeting train (j + 1) section) both
      danger =
          decided_danger s sound σ represents d.decided l stand from m
          (meets_some d.kept stand r h m)

      first_train : Named s σ train section
      first_train = first_named s sound σ (meeting train (j + 1) section) both danger

      second_train : Named s σ (j + 1) section
      second_train = second_named s sound σ (meeting train (j + 1) section) both danger

      first_traced : Traced rows (standing_at s (train - 1)) (reach_of reaches train) before
      first_traced = d.kept.traced train first_train.low (rw m.first (lowest_within j (λ i. found (shared (reach_of reaches i) ws))))

      its_place : starts ≡ standing_at s (j + 1 - 1)
      its_place = let e : j + 1 - 1 ≡ j = omega arith in rw e stand

      -- The lists are as they were lent.
      module _ {lent₁ lent₂ first second : List ℕ} (same₁ : first ≡ lent₁) (same₂ : second ≡ lent₂) (room₁ : s.header.sections ≤ length lent₁)
          (room₂ : s.header.sections ≤ length lent₂) where
        first_room : s.header.sections ≤ length first
        first_room = rw same₁ room₁

        second_room : s.header.sections ≤ length second
        second_room = rw same₂ room₂

        -- Both paths can be read back.
        pub turn_first : (m : ℕ) × (m < 512) × (m < length first) × Back before m section
        turn_first = readable sound represents first_train refl first_traced first first_room

        pub turn_second : (m : ℕ) × (m < 512) × (m < length second) × Back own m section
        turn_second = readable sound represents second_train its_place r.traced second second_room

        -- Both paths are shown.
        pub turn_danger : {looks more : ℕ} → looks ≡ looks_in rows earlier → more ≡ looks_in rows ws → {p q : ℕ} {first' second' : List ℕ}
            → ((m : ℕ) → Back before m section → (p ≡ m + 1) × (first' ≡ path_back before m section ++ drop (m + 1) first))
            → ((m : ℕ) → Back own m section → (q ≡ m + 1) × (second' ≡ path_back own m section ++ drop (m + 1) second))
            → Answers s σ (verdict s σ) lent₁ lent₂ first' second'
            (Ok (answer.Dangerous (meeting train (j + 1) section) (counts (entries + size) (looks + more)) (record { first = p; second = q })))
        turn_danger el em {p} {q} {first'} {second'} written₁ written₂ =
            rw (el, em)
            (subst (λ (xs : List ℕ). Answers s σ (verdict s σ) xs lent₂ first' second' (Ok r')) same₁
            (subst (λ (ys : List ℕ). Answers s σ (verdict s σ) first ys first' second' (Ok r')) same₂
            (answers_danger s σ first second (meeting train (j + 1) section) both (record { first = p; second = q })
            first' second' danger
            (shown sound represents first_train refl first_traced first first_room p first' written₁)
            (shown sound represents second_train its_place r.traced second second_room q second' written₂))))
          where
            r' : ShownVerdict
            r' = answer.Dangerous (meeting train (j + 1) section) both (record { first = p; second = q })
