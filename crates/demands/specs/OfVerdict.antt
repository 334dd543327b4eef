-- The verdict: `file` is handed over with the path lists `first` and `second`; judge_verdict answers r and leaves first' and second'. What it answers and
-- leaves is `VerdictStatement`, which leaves nothing free but the paths (`VerdictPinned`, Complete); what follows are short laws, each of a demand or a
-- request. σ are the states of the file. Sections and trains are numbered from 1, and elements from 0, as in Reach.
use Rattle.std.specs.Prelude.{◌≡◌, ◌⊎◌, ◌↔◌, List, ℕ, ◌*◌, ◌/◌, ◌≤◌, ◌<◌, length}
use Rattle.meaning.specs.declared.Move.{Move}
use Rattle.meaning.specs.declared.Turnout.{Turnout}
use Rattle.meaning.specs.declared.Kind.TheVariants as kind
use Rattle.meaning.specs.declared.Situation.{Situation}
use Rattle.meaning.specs.Station.{file_states}
use Rattle.meaning.specs.Accepted.{Accepted}
use Rattle.c_layout.specs.declared.FlatRefusal.{FlatRefusal}
use Rattle.c_layout.specs.declared.FlatVerdict.{FlatVerdict}
use Rattle.c_layout.specs.Flat.{no_refusal}
use Rattle.basics.specs.Lists.{Once}
use Rattle.demands.specs.Words.{situation, AtMostOpen, HowMany, SameStation, Filled}
use Rattle.demands.specs.Reach.{Agreed, Leads, Ends, Meet, TwoTrainsMeet}
use Rattle.demands.specs.Demand1.{Answer, Short, CallCause}

-- ---- what is answered
-- The trains i and j and the section k that a dangerous verdict names.
pub record Names (s : Situation) (σ : List ℕ) (i j k : ℕ) : Type 0 where
  -- "A dangerous verdict names trains i and j, i below j."
  pub below : i < j
  pub numbered : j ≤ s.header.trains
  -- "Train j is the lowest for which trains 1 to j are already dangerous": they are by train i and section k.
  pub not-before : (m : ℕ) → m < j → Meet s σ m → ⊥
  -- "Train i is the first earlier train whose reach shares a section with its own."
  pub no_earlier : (t a : ℕ) → t < i → Ends s σ t a → Ends s σ j a → ⊥
  -- "The meeting section is the lowest number in both reaches."
  pub in_first : Ends s σ i k
  pub in_second : Ends s σ j k
  pub no_lower : (a : ℕ) → a < k → Ends s σ i a → Ends s σ j a → ⊥

-- A lent list "begins with a path of train" t "to the meeting section" k, which has no "section twice", and n is its length: "the result holds both
-- lengths". The list keeps what it "held after" its path.
pub record Shows (s : Situation) (σ : List ℕ) (t k n : ℕ) (list list' : List ℕ) : Type 0 where
  pub path : List ℕ
  pub leads : Leads s σ t k path
  pub once : Once path
  pub counted : length path ≡ n
  pub filled : Filled path list list'

-- "Each verdict carries two counts over trains 1 to" m.
pub record Counts (s : Situation) (σ : List ℕ) (m entries looks : ℕ) : Type 0 where
  -- "entries is the number of sections in those reaches, added up": each train t with each section k of its reach counts one.
  pub entries_of_lem : HowMany {A = ℕ × ℕ} (λ (t, k). ((1 ≤ t) × (t ≤ m)) × Ends s σ t k) entries
  -- "looks is, added up likewise, the number of permitted moves leaving a section of the reach": each train t with each permitted move from
  -- a section a of its reach to a section b counts one, however many lines stand over the pair.
  pub looks_of_lem : HowMany {A = ℕ × (ℕ × ℕ)} (λ (t, (a, b)). ((1 ≤ t) × (t ≤ m)) × (Ends s σ t a × Agreed s σ a b)) looks

-- The verdict "names no train, section or length".
abbrev pub NamesNone : FlatVerdict → Type 0
NamesNone r = (r.first_train ≡ 0) × (r.second_train ≡ 0) × (r.meeting ≡ 0) × (r.first_length ≡ 0) × (r.second_length ≡ 0)

pub record SafeVerdict (s : Situation) (σ first second first' second' : List ℕ) (r : FlatVerdict) : Type 0 where
  pub called_safe : r.dangerous ≡ 0
  -- "A safe verdict names no train, section or length"
  pub names_none : NamesNone r
  -- "and leaves all of both unchanged."
  pub unchanged : (first' ≡ first) × (second' ≡ second)
  -- "Over all trains when safe."
  pub counts : Counts s σ s.header.trains r.entries r.looks

pub record DangerousVerdict (s : Situation) (σ first second first' second' : List ℕ) (r : FlatVerdict) : Type 0 where
  pub called_dangerous : r.dangerous ≡ 1
  pub names : Names s σ r.first_train r.second_train r.meeting
  -- "Then both paths are shown." "The first lent list then begins with a path of train i .., the second with one of train j."
  pub first_path : Shows s σ r.first_train r.meeting r.first_length first first'
  pub second_path : Shows s σ r.second_train r.meeting r.second_length second second'
  pub counts : Counts s σ r.second_train r.entries r.looks

pub record Verdict (s : Situation) (σ first second first' second' : List ℕ) (r : FlatVerdict) : Type 0 where
  pub no_refusal_lem : r.refusal ≡ no_refusal
  -- "Is called dangerous exactly when two different trains have permitted paths ending in one section."
  pub dangerous_exactly : (r.dangerous ≡ 1) ↔ TwoTrainsMeet s σ
  pub answer : SafeVerdict s σ first second first' second' r ⊎ DangerousVerdict s σ first second first' second' r
  -- "Entries never exceed 2 × sections, looks never 2 × permitted moves."
  pub entries_bound : r.entries ≤ 2 * s.header.sections
  pub looks_bound : (n : ℕ) × HowMany {A = ℕ × ℕ} (λ (a, b). Agreed s σ a b) n × (r.looks ≤ 2 * n)

-- A refusal answers no verdict: all other fields are 0.
abbrev pub NoVerdict : FlatVerdict → Type 0
NoVerdict r = (r.dangerous ≡ 0) × NamesNone r × (r.entries ≡ 0) × (r.looks ≡ 0)

-- ---- the statement
-- "An accepted file without open elements, given long enough path lists", gets a verdict: "each path list needs one 16-bit number for each section".
abbrev pub VerdictStatement : List ℕ → List ℕ → List ℕ → List ℕ → List ℕ → FlatVerdict → Type 0
VerdictStatement file first second first' second' r =
    let s : Situation = situation file in
    Answer r.refusal
    (Accepted file × AtMostOpen 0 s × Verdict s (file_states s) first second first' second' r
    × (s.header.sections ≤ length first) × (s.header.sections ≤ length second))
    (CallCause file 10 0 (Short ((length first < s.header.sections) ⊎ (length second < s.header.sections))) r.refusal)
    ((first' ≡ first) × (second' ≡ second) × NoVerdict r)

-- ---- laws
-- Demand 2: such a file gets its verdict, and no refusal.
pub record Demand2 (file first second first' second' : List ℕ) (r : FlatVerdict) : Type 0 where
  pub met : Accepted file → AtMostOpen 0 (situation file)
      → (situation file).header.sections ≤ length first → (situation file).header.sections ≤ length second
      → Verdict (situation file) (file_states (situation file)) first second first' second' r

-- Item 2, of which `Leads` has the paths and the reach: "Two sections of one train never make a danger between themselves."
abbrev pub Item2Verdict : List ℕ → FlatVerdict → Type 0
Item2Verdict file r = (situation file).header.trains ≤ 1 → r.dangerous ≡ 0

-- Item 13: a padded file gets a verdict that its old form gets with the same path lists.
abbrev pub Item13Verdict : List ℕ → List ℕ → List ℕ → List ℕ → List ℕ → FlatVerdict → Type 0
Item13Verdict file first second first' second' r = (text : List ℕ) → SameStation file text → VerdictStatement text first second first' second' r
