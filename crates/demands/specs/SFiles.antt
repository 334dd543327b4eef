-- "S files keep their answers" (02, Item 2): in a file that begins with S, trains are what 01 says of them, each in one section. Byte 83 is S. Each is a
-- theorem of proofs/SFiles.
use Rattle.std.specs.Prelude.{◌≡◌, ◌↔◌, List, [], ◌∷◌, ℕ, ◌+◌, ◌≤◌, get_or}
use Rattle.meaning.specs.Station.{file_states, standing}
use Rattle.meaning.specs.Columns.{s_line, t_line}
use Rattle.meaning.specs.File.{first_kind_of, kind_at}
use Rattle.meaning.specs.Accepted.{Accepted, file_header, body_line}
use Rattle.c_layout.specs.declared.FlatVerdict.{FlatVerdict}
use Rattle.c_layout.specs.declared.FlatReply.{FlatReply}
use Rattle.c_layout.specs.Flat.{no_refusal}
use Rattle.demands.specs.Words.{situation, Setting, HowMany}
use Rattle.demands.specs.Reach.{Agreed, Steps, Leads, Ends, Meet}
use Rattle.demands.specs.OfVerdict.{Counts, VerdictStatement}
use Rattle.demands.specs.OfSettings.{SettingsStatement}

-- ---- the reader
-- Train t's T line stands below the first line, which is line 0, the P lines and the elements.
abbrev pub row : List ℕ → ℕ → ℕ
row file t = (file_header file).plain + (file_header file).elements + t

-- Line for line the table of 01 decides what is accepted and what is refused: the first line is an S line, and a T line fills one field.
abbrev pub LinesOf01 : Type 0
LinesOf01 =
    (file : List ℕ) → get_or file 0 0 ≡ 83
    → (first_kind_of file ≡ s_line) × ((t : ℕ) → 1 ≤ t → kind_at file (file_header file) (row file t) ≡ t_line)

-- ---- a train
-- "Its own section", which its T line has in field 1.
abbrev pub own : List ℕ → ℕ → ℕ
own file t = (body_line file (row file t)).first

-- "A train's permitted paths are the paths from its own section; its reach is every section where one of them ends."
abbrev pub OwnReach : List ℕ → List ℕ → ℕ → ℕ → Type 0
OwnReach file σ t k = (p : List ℕ) × Steps (situation file) σ (own file t) p k

pub record TrainOf01 (file : List ℕ) (t : ℕ) : Type 0 where
  pub stands : standing (situation file) t ≡ own file t ∷ []
  pub paths : (σ : List ℕ) (k a : ℕ) (p : List ℕ)
      → Leads (situation file) σ t k (a ∷ p) ↔ ((a ≡ own file t) × Steps (situation file) σ (own file t) p k)
  pub reach : (σ : List ℕ) (k : ℕ) → Ends (situation file) σ t k ↔ OwnReach file σ t k

abbrev pub OneOf : ℕ → ℕ → Type 0
OneOf m t = (1 ≤ t) × (t ≤ m)

abbrev pub TrainsOf01 : Type 0
TrainsOf01 = (file : List ℕ) → Accepted file → get_or file 0 0 ≡ 83 → (t : ℕ) → OneOf (situation file).header.trains t → TrainOf01 file t

-- ---- the answers
-- Of trains 1 to m, "two trains with different numbers have reaches that share a section".
pub record OwnMeet (file σ : List ℕ) (m : ℕ) : Type 0 where
  pub first : ℕ
  pub second : ℕ
  pub different : first ≡ second → ⊥
  pub numbered : OneOf m first × OneOf m second
  pub section : ℕ
  pub in_first : OwnReach file σ first section
  pub in_second : OwnReach file σ second section

abbrev pub DangerOf01 : Type 0
DangerOf01 =
    (file : List ℕ) → Accepted file → get_or file 0 0 ≡ 83 → (σ : List ℕ) (m : ℕ) → m ≤ (situation file).header.trains
    → Meet (situation file) σ m ↔ OwnMeet file σ m

-- "Each verdict carries two counts over trains 1 to" m: they are those of these reaches.
abbrev pub CountsOf01 : Type 0
CountsOf01 =
    (file : List ℕ) → Accepted file → get_or file 0 0 ≡ 83 → (σ : List ℕ) (m entries looks : ℕ) → m ≤ (situation file).header.trains
    → Counts (situation file) σ m entries looks
    ↔ (HowMany {A = ℕ × ℕ} (λ (t, k). OneOf m t × OwnReach file σ t k) entries
    × HowMany {A = ℕ × (ℕ × ℕ)} (λ (t, (a, b)). OneOf m t × (OwnReach file σ t a × Agreed (situation file) σ a b)) looks)

-- So the verdict is dangerous exactly where 01 says it.
abbrev pub VerdictOf01 : Type 0
VerdictOf01 =
    (file first second first' second' : List ℕ) (r : FlatVerdict) → VerdictStatement file first second first' second' r → r.refusal ≡ no_refusal
    → get_or file 0 0 ≡ 83 → (r.dangerous ≡ 1) ↔ OwnMeet file (file_states (situation file)) (situation file).header.trains

-- So a setting is safe exactly where 01 says it.
abbrev pub SettingsOf01 : Type 0
SettingsOf01 =
    (file buffer buffer' : List ℕ) (r : FlatReply) → SettingsStatement file buffer buffer' r → r.refusal ≡ no_refusal → get_or file 0 0 ≡ 83
    → HowMany (λ (σ : List ℕ). Setting (situation file) σ × (OwnMeet file σ (situation file).header.trains → ⊥)) r.safe
