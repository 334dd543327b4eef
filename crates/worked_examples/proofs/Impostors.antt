-- The impostors of 01 do not meet the demands, whatever an operation's contract says: each is excluded on a file where it is wrong. So the
-- demands are not empty: these files are accepted, with long enough buffers.
use mathlib.Core.Path.{◌≡◌, refl, ap}
use mathlib.Core.List.{List, [], ◌∷◌}
use Prim.Native.Nat.{ℕ, ◌≤◌}
use native.Mathlib.Omega.{arith}
use lib.ListN.{length}
use Rattle.meaning.specs.Station.{plain_moves, elements_of, file_states, trains_of, standing, moves_of, element_moves, forbidden, passing, agreed_moves, moves}
use Rattle.meaning.specs.Paths.{path_to}
use Rattle.meaning.specs.Verdict.{leads}
use Rattle.meaning.specs.Settings.{open_count, is_setting}
use Rattle.meaning.specs.Columns.{field_at, record_kind_at, well_formed, line_at, having}
use Rattle.basics.specs.Lists.{list_of, pad_to}
use Rattle.meaning.specs.File.{pairs_of, closed_to, clashes, line_cause, cause_after, first_refusal, refusal_of, situation_of, kind_at, file_line_in}
use Rattle.meaning.specs.File.{reading_under_in, reading_in}
use Rattle.meaning.specs.Accepted.{file_header, Accepted}
use Rattle.meaning.proofs.Accepted.{accepted_exactly}
use Rattle.c_layout.specs.declared.FlatReply.{FlatReply}
use Rattle.c_layout.specs.declared.FlatVerdict.{FlatVerdict}
use Rattle.demands.specs.Words.{situation, HowMany}
use Rattle.demands.specs.Reach.{SafeSetting}
use Rattle.demands.specs.OfVerdict.{Verdict, Demand2}
use Rattle.demands.specs.OfSettings.{Reply, Demand3}
use Rattle.demands.proofs.Counting.{how_many_unique}
use Rattle.demands.proofs.Reach.{meet}

-- ---- one section, and no line more
unfoldable pub smallest : List ℕ
smallest = 83 ∷ 32 ∷ 32 ∷ 32 ∷ 32 ∷ 49 ∷ 32 ∷ 32 ∷ 32 ∷ 32 ∷ 48 ∷ 32 ∷ 32 ∷ 32 ∷ 32 ∷ 48 ∷ 32 ∷ 32 ∷ 32 ∷ 32 ∷ 48 ∷ 10 ∷ []

smallest_accepted : Accepted smallest
unfolding smallest reading_in reading_under_in refusal_of first_refusal line_at well_formed record_kind_at field_at
smallest_accepted = (accepted_exactly smallest).0 refl

-- The smallest station has one setting, and that is safe.
one : HowMany (SafeSetting (situation smallest)) 1
unfolding smallest situation situation_of file_header line_at well_formed record_kind_at field_at elements_of file_states is_setting
one = record { all = [] ∷ []; once = (λ i. i, tt); exactly = λ σ. grind arith; number = refl }

module _ (buffer buffer' : List ℕ) (r : FlatReply) (demand : Demand3 smallest buffer buffer' r) where
  smallest-reply : Reply (situation smallest) buffer buffer' r
  unfolding smallest situation situation_of file_header line_at well_formed record_kind_at field_at elements_of file_states open_count
  smallest-reply = demand.met smallest_accepted (omega arith) (omega arith)

  -- "Refusing everything."
  pub not-refused : (r.refusal.number ≡ 0 → ⊥) → ⊥
  not-refused n = n (ap (λ q. q.number) smallest-reply.no_refusal_lem)

  -- "'None' before trying."
  pub not_none : r.safe ≡ 0 → ⊥
  unfolding smallest situation situation_of file_header line_at well_formed record_kind_at field_at elements_of file_states is_setting
  not_none e = grind (arith, smallest-reply.none_exactly.0 e [] refl)

  -- "A made-up number of safe settings": there is one setting, and it is safe.
  pub number_is_1 : r.safe ≡ 1
  number_is_1 = how_many_unique _ r.safe 1 smallest-reply.number one

module _ (first second first' second' : List ℕ) (r : FlatVerdict) (demand : Demand2 smallest first second first' second' r)
    (some₁ : 1 ≤ length first) (some₂ : 1 ≤ length second) where
  smallest-verdict : Verdict (situation smallest) (file_states (situation smallest)) first second first' second' r
  unfolding smallest situation situation_of file_header line_at well_formed record_kind_at field_at elements_of file_states open_count
  smallest-verdict = demand.met smallest_accepted (omega arith) some₁ some₂

  -- "Always dangerous."
  pub not-dangerous : r.dangerous ≡ 1 → ⊥
  unfolding smallest situation situation_of file_header line_at well_formed record_kind_at field_at
  not-dangerous e = grind (arith, smallest-verdict)

-- ---- station K of 01
unfoldable pub station_k : List ℕ
station_k =
    83 ∷ 32 ∷ 32 ∷ 32 ∷ 32 ∷ 53 ∷ 32 ∷ 32 ∷ 32 ∷ 32 ∷ 49 ∷ 32 ∷ 32 ∷ 32 ∷ 32 ∷ 52 ∷ 32 ∷ 32 ∷ 32 ∷ 32 ∷ 50 ∷ 10
    ∷ 80 ∷ 32 ∷ 32 ∷ 32 ∷ 32 ∷ 50 ∷ 32 ∷ 32 ∷ 32 ∷ 32 ∷ 49 ∷ 32 ∷ 32 ∷ 32 ∷ 32 ∷ 32 ∷ 32 ∷ 32 ∷ 32 ∷ 32 ∷ 32 ∷ 10
    ∷ 76 ∷ 32 ∷ 32 ∷ 32 ∷ 32 ∷ 49 ∷ 32 ∷ 32 ∷ 32 ∷ 32 ∷ 50 ∷ 32 ∷ 32 ∷ 32 ∷ 32 ∷ 49 ∷ 32 ∷ 32 ∷ 32 ∷ 32 ∷ 32 ∷ 10
    ∷ 68 ∷ 32 ∷ 32 ∷ 32 ∷ 32 ∷ 50 ∷ 32 ∷ 32 ∷ 32 ∷ 32 ∷ 51 ∷ 32 ∷ 32 ∷ 32 ∷ 32 ∷ 52 ∷ 32 ∷ 32 ∷ 32 ∷ 32 ∷ 49 ∷ 10
    ∷ 76 ∷ 32 ∷ 32 ∷ 32 ∷ 32 ∷ 51 ∷ 32 ∷ 32 ∷ 32 ∷ 32 ∷ 53 ∷ 32 ∷ 32 ∷ 32 ∷ 32 ∷ 49 ∷ 32 ∷ 32 ∷ 32 ∷ 32 ∷ 32 ∷ 10
    ∷ 76 ∷ 32 ∷ 32 ∷ 32 ∷ 32 ∷ 52 ∷ 32 ∷ 32 ∷ 32 ∷ 32 ∷ 53 ∷ 32 ∷ 32 ∷ 32 ∷ 32 ∷ 49 ∷ 32 ∷ 32 ∷ 32 ∷ 32 ∷ 32 ∷ 10
    ∷ 84 ∷ 32 ∷ 32 ∷ 32 ∷ 32 ∷ 49 ∷ 32 ∷ 32 ∷ 32 ∷ 32 ∷ 32 ∷ 32 ∷ 32 ∷ 32 ∷ 32 ∷ 32 ∷ 32 ∷ 32 ∷ 32 ∷ 32 ∷ 32 ∷ 10
    ∷ 84 ∷ 32 ∷ 32 ∷ 32 ∷ 32 ∷ 52 ∷ 32 ∷ 32 ∷ 32 ∷ 32 ∷ 32 ∷ 32 ∷ 32 ∷ 32 ∷ 32 ∷ 32 ∷ 32 ∷ 32 ∷ 32 ∷ 32 ∷ 32 ∷ 10
    ∷ []

station_k_accepted : Accepted station_k
unfolding station_k reading_in reading_under_in refusal_of first_refusal cause_after line_cause pairs_of closed_to clashes file_line_in kind_at line_at well_formed record_kind_at field_at having
station_k_accepted = (accepted_exactly station_k).0 refl

module _ (first second first' second' : List ℕ) (r : FlatVerdict) (demand : Demand2 station_k first second first' second' r)
    (some₁ : 5 ≤ length first) (some₂ : 5 ≤ length second) where
  -- "Always safe."
  pub is_dangerous : r.dangerous ≡ 1
  unfolding station_k situation situation_of file_header file_line_in kind_at line_at well_formed record_kind_at field_at file_states open_count list_of pad_to leads path_to plain_moves elements_of moves_of element_moves forbidden passing agreed_moves moves trains_of standing
  is_dangerous =
      (demand.met station_k_accepted (omega arith) some₁ some₂).dangerous_exactly.1
      ((meet (situation station_k) (file_states (situation station_k)) 2).0
      (record {
        first = 1;
        second = 2;
        first_numbered = omega arith;
        second_numbered = omega arith;
        section = 5;
        first_path = 1 ∷ 2 ∷ 3 ∷ 5 ∷ [];
        second_path = 4 ∷ 5 ∷ [];
        first_leads = refl;
        second_leads = refl;
        different = λ e. omega arith;
      }))
