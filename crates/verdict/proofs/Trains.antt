-- The sets, counts and meetings of the code are those of the definitions: in a sound situation, with a table of its moves, what one search
-- finds is a train's reach, and counting to 512 is counting to the number of sections.
use mathlib.Core.Path.{◌≡◌, sym, ap, ap₂, ◌∙◌}
use mathlib.Core.Bool.{Bool, true, false, ◌&&◌, ◌||◌, cond}
use mathlib.Core.List.{List}
use mathlib.Mathlib.Data.Bool.Basic.{eq-false_of_not-eq-true}
use Prim.Native.Nat.{ℕ, ◌+◌, ◌-◌, ◌≤◌, ◌<◌}
use native.Mathlib.Omega.{arith}
use lib.ListN.{length, get_or}
use Rattle.meaning.specs.declared.Situation.{Situation}
use Rattle.meaning.specs.Station.{no_train, standing, moves, permitted}
use Rattle.meaning.specs.Paths.{mem}
use Rattle.basics.specs.Numbers.{total, count}
use Rattle.meaning.specs.Verdict.{in_reach, shared_section, entries_of, outdegree, looks_of}
use Rattle.basics.proofs.Numbers.{lowest_ext, total_ext, total_const, total_or, count-le, count_ext}
use Rattle.basics.proofs.UpTo.{total_up_to, count_up_to, lowest_up_to}
use Rattle.meaning.proofs.Inside.{moves_inside, reach_inside}
use Rattle.reach.specs.Reach.{memb}
use Rattle.pairs.specs.Pairs.{Rows, edge, Represents, Outdegrees}
use Rattle.search.specs.Search.{Sections, IsReach}
use Rattle.search.proofs.Reached.{is_reach}
use Rattle.meeting.specs.Meeting.{shared}
use Rattle.element_states.specs.Sound.{Sound}
use Rattle.moves.specs.Standing.{places_of}
use Rattle.moves.proofs.Where.{places_inside}

-- ---- where a train stands
-- The sections of the train at place i of the array.
abbrev pub standing_at : Situation → ℕ → List ℕ
standing_at s i = places_of (get_or s.trains i no_train)

-- The sections where a train stands are section numbers.
pub standing_sections : (s : Situation) → Sound s → (i : ℕ) → i < s.header.trains → (starts : List ℕ) → starts ≡ standing_at s i
    → Sections (length starts) starts
standing_sections = places_inside

-- The set ws is what the moves of the table reach from the starts, with the number of its sections.
pub record ReachedFrom (rows : Rows) (starts ws : List ℕ) (entries : ℕ) : Type 0 where
  pub members : IsReach (edge rows) (λ k. mem k starts) (memb ws)
  pub size : entries ≡ count 512 (memb ws)

-- ---- the looks of a set
-- How many moves of the table leave a section of the set ws.
unfoldable pub looks_in : Rows → List ℕ → ℕ
looks_in rows ws = total 512 (λ a. cond (memb ws a) (count 512 (edge rows a)) 0)

-- The looks of a set are added up where the moves that leave each section are known.
pub looks_in_lem : (rows : Rows) (lv : List ℕ) → Outdegrees rows lv → (ws : List ℕ) → total 512 (λ a. cond (memb ws a) (get_or lv (a - 1) 0) 0) ≡ looks_in rows ws
unfolding looks_in
looks_in_lem rows lv each ws =
    total_ext 512 (λ a. cond (memb ws a) (get_or lv (a - 1) 0) 0) (λ a. cond (memb ws a) (count 512 (edge rows a)) 0)
    (λ a low high. ap (λ (n : ℕ). cond (memb ws a) n 0) (each.each a low high))

-- No move leaves a section of the empty set.
pub looks_none : (rows : Rows) (ws : List ℕ) → ((k : ℕ) → memb ws k ≡ false) → looks_in rows ws ≡ 0
unfolding looks_in
looks_none rows ws none =
    total_ext 512 (λ a. cond (memb ws a) (count 512 (edge rows a)) 0) (λ a. 0)
    (λ a low high. ap (λ (b : Bool). cond b (count 512 (edge rows a)) 0) (none a))
    ∙ total_const 512 0

-- The looks of two sets that share no section are those of their union.
pub looks_union : (rows : Rows) (us vs ws : List ℕ) → ((k : ℕ) → memb ws k ≡ (memb us k || memb vs k)) → ((k : ℕ) → memb us k ≡ true → memb vs k ≡ false)
    → looks_in rows us + looks_in rows vs ≡ looks_in rows ws
unfolding looks_in
looks_union rows us vs ws union apart =
    let w : ℕ → ℕ = λ a. count 512 (edge rows a) in
    sym (total_or 512 (memb us) (memb vs) w apart)
    ∙ total_ext 512 (λ a. cond (memb us a || memb vs a) (w a) 0) (λ a. cond (memb ws a) (w a) 0)
    (λ a low high. ap (λ (b : Bool). cond b (w a) 0) (sym (union a)))

module _ (s : Situation) (sound : Sound s) (σ : List ℕ) where
  -- The words are the reach of train t.
  abbrev pub ReachIs : ℕ → List ℕ → Type 0
  ReachIs t ws = (k : ℕ) → memb ws k ≡ in_reach s σ t k

  -- No number above the sections is in a reach.
  outside-reach : (t k : ℕ) → s.header.sections < k → in_reach s σ t k ≡ false
  outside-reach t k l = eq-false_of_not-eq-true (λ h. let w = reach_inside s sound.inside σ t k h in omega (arith, w.1))

  outside-moves : (a b : ℕ) → s.header.sections < b → permitted (moves s σ) a b ≡ false
  outside-moves a b l = eq-false_of_not-eq-true (λ h. let w = moves_inside s sound.inside σ a b h in omega (arith, w.1.1))

  -- "The number of sections in those reaches."
  pub entries_is : (t : ℕ) (ws : List ℕ) → ReachIs t ws → count 512 (memb ws) ≡ entries_of s σ t
  unfolding entries_of
  entries_is t ws r =
      count_ext 512 (memb ws) (in_reach s σ t) (λ k low high. r k)
      ∙ count_up_to 512 s.header.sections (in_reach s σ t) sound.limits.sections (λ k low high. outside-reach t k low)

  -- A reach has at most as many sections as the station.
  pub entries_within : (t : ℕ) (ws : List ℕ) → ReachIs t ws → count 512 (memb ws) ≤ s.header.sections
  unfolding entries_of
  entries_within t ws r = rw (entries_is t ws r) (count-le s.header.sections (in_reach s σ t))

  -- "The lowest number in both reaches."
  pub shared_is : (i j : ℕ) (us vs : List ℕ) → ReachIs i us → ReachIs j vs → shared us vs ≡ shared_section s σ i j
  unfolding shared shared_section
  shared_is i j us vs p q =
      lowest_ext 512 (λ t. memb us t && memb vs t) (λ k. in_reach s σ i k && in_reach s σ j k) (λ k low high. ap₂ ◌&&◌ (p k) (q k))
      ∙ lowest_up_to 512 s.header.sections (λ k. in_reach s σ i k && in_reach s σ j k) sound.limits.sections
      (λ k low high. ap (λ (b : Bool). b && in_reach s σ j k) (outside-reach i k low))

  module _ (rows : Rows) (represents : Represents rows (moves s σ)) where
    outdegree_is : (a : ℕ) → count 512 (edge rows a) ≡ outdegree s σ a
    unfolding outdegree
    outdegree_is a =
        count_ext 512 (edge rows a) (permitted (moves s σ) a) (λ b low high. represents a b)
        ∙ count_up_to 512 s.header.sections (permitted (moves s σ) a) sound.limits.sections (λ b low high. outside-moves a b low)

    -- What is found from where train t stands is its reach.
    pub reach_is : (t : ℕ) (starts ws : List ℕ) (entries : ℕ) → starts ≡ standing s t → ReachedFrom rows starts ws entries → ReachIs t ws
    unfolding in_reach
    reach_is t starts ws entries at r =
        is_reach (moves s σ) (standing s t) (edge rows) (λ k. mem k starts) (memb ws) represents (λ k. ap (mem k) at) r.members

    -- "The number of permitted moves leaving a section of the reach."
    pub looks_is : (t : ℕ) (ws : List ℕ) → ReachIs t ws → looks_in rows ws ≡ looks_of s σ t
    unfolding looks_in looks_of
    looks_is t ws r =
        total_ext 512 (λ a. cond (memb ws a) (count 512 (edge rows a)) 0) (λ a. cond (in_reach s σ t a) (outdegree s σ a) 0)
        (λ a low high. ap₂ (λ (b : Bool) (n : ℕ). cond b n 0) (r a) (outdegree_is a))
        ∙ total_up_to 512 s.header.sections (λ a. cond (in_reach s σ t a) (outdegree s σ a) 0) sound.limits.sections
        (λ a low high. ap (λ (b : Bool). cond b (outdegree s σ a) 0) (outside-reach t a low))
